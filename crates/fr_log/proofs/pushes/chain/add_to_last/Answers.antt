use Rattle.std.proofs.Common.{rules, ◌≡◌, ◌-◌, ◌++◌, [], ◌∷◌, length, take, sym, ◌∙◌, ap, arith, append_assoc}
use Rattle.fr_log.specs.Headers.{headers_in}
use Rattle.fr_log.proofs.Chaining.{has_last, headers_set}
use Rattle.fr_log.proofs.pushes.chain.add_to_last.Goals as goal

pub returns-clause-yes : goal.returns-clause-yes
returns-clause-yes c = λ yes.
    let rs = c.args.runs.now.items in
    let n = c.len-count.result - 1 in
    let count : c.len-count.result ≡ length rs = search rules in
    let last = has_last rs n c.index_mut.result.now c.requires (omega (arith, count, c.if-count-eq0.false)) c.index_mut.ensures.value in
    headers_set rs n c.add.new.self (omega (arith, count, c.if-count-eq0.false))
    ∙ ap (λ hs. headers_in (take n rs) ++ hs) (c.add.ensures.yes yes)
    ∙ sym (append_assoc (headers_in (take n rs)) c.index_mut.result.now (c.args.header.now ∷ []))
    ∙ ap (λ hs. hs ++ c.args.header.now ∷ []) (sym last.all)
