use Rattle.std.proofs.Common.{◌∷◌, [], ◌++◌, take, sym, ◌∙◌, ap, arith}
use Rattle.std.proofs.lemmas.List.{take_more}
use Rattle.fr_log.specs.Headers.{headers_in, numbers_in}
use Rattle.fr_log.proofs.Numbers.{runs_none, runs_so}
use Rattle.fr_log.proofs.pushes.chain.put_runs.Goals as goal

pub loop-run-init : goal.loop-run-init
loop-run-init c = runs_none c.args.list.now.items

pub loop-run-preserved : goal.loop-run-preserved
loop-run-preserved c =
    let list = c.args.list.now.items in
    let rs = c.args.runs.now in
    let i = c.loop-run.run-index in
    let r = c.run-item.result in
    let within = c.loop-run-test.true in
    c.in_ok-put.ensures ∙ ap (λ xs. xs ++ numbers_in r) c.loop-run.invariant ∙ sym (runs_so list (take i rs) r)
    ∙ ap (λ qs. list ++ numbers_in (headers_in qs)) (ap (λ x. take i rs ++ x ∷ []) c.run-item.is ∙ sym (take_more rs i r (omega (arith, within))))
