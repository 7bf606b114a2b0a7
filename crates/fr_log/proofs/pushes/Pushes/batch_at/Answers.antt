use Rattle.std.proofs.Common.{[], length, get_or, sym, ◌∙◌, ap, arith}
use Rattle.std.proofs.lemmas.List.{get_or_default}
use Rattle.fr_log.specs.Pushes.{batch_at, pushed_batches, shelf_of}
use Rattle.fr_log.proofs.Shelves.{past_all}
use Rattle.fr_log.proofs.pushes.Pushes.batch_at.Goals as goal

pub returns-in-Some : goal.returns-in-Some
returns-in-Some c =
    let ss = c.self.inside.shelves.items in
    let number = c.from.ensures ∙ c.get.ensures.value in
    let is = c.in-Some.ensures.lookup in
    let within = is.3.0 in
    let shelf = is.1 ∙ ap (λ xs. get_or xs c.from.result c.in-Some.shelf.now) c.deref.ensures.value
    ∙ get_or_default ss c.from.result c.in-Some.shelf.now [] (omega (arith, within, ap length c.deref.ensures.value)) ∙ ap (shelf_of ss) number
    in
    c.at.ensures ∙ ap (batch_at c.args.version) (shelf ∙ c.self.invariant.agrees c.args.tag) ∙ ap (λ ps. batch_at c.args.version (pushed_batches c.args.tag ps)) c.self.view_is

pub returns-in-None : goal.returns-in-None
returns-in-None c =
    let ss = c.self.inside.shelves.items in
    let number = c.from.ensures ∙ c.get.ensures.value in
    let past = c.in-None.ensures.lookup.3 in
    let shelf = ap (shelf_of ss) (sym number) ∙ past_all ss c.from.result (omega (arith, past, ap length c.deref.ensures.value)) in
    ap (batch_at c.args.version) (sym shelf ∙ c.self.invariant.agrees c.args.tag) ∙ ap (λ ps. batch_at c.args.version (pushed_batches c.args.tag ps)) c.self.view_is
