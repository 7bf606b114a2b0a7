use Rattle.std.proofs.Common.{Some, ap, sym, ◌∙◌}
use Rattle.std.specs.VecDeque.Iter.{deque_iter_rest}
use Rattle.fr_undo.specs.State.{Place}
use Rattle.fr_undo.proofs.PlanLemmas.{if_ok}
use Rattle.fr_undo.proofs.ListRows.{none_left}
use Rattle.fr_undo.proofs.IndexLemmas.{to_end, first_is, some_from}
use Rattle.fr_undo.proofs.rows.held_before.Goals as goal

pub unreachable-requires : goal.unreachable-requires
unreachable-requires c =
    let rows = c.args.rows.now.items in
    let first = c.count_before-first.result in
    let whole = c.range.ensures.rest ∙ to_end rows first _ c.args.rows.now.ok.0 in
    some_from rows (c.args.version, c.args.key.now) first c.count_before-first.ensures.back (sym whole ∙ none_left (deque_iter_rest c.range.result) c.in-None.ensures.steps.0) c.requires.row

pub returns : goal.returns
returns c =
    let rows = c.args.rows.now.items in
    let first = c.count_before-first.result in
    let whole = c.range.ensures.rest ∙ to_end rows first _ c.args.rows.now.ok.0 in
    let is = first_is rows (deque_iter_rest c.next.new.self) (c.args.version, c.args.key.now) first c.in-Some.row.now c.requires.order c.count_before-first.ensures.back (sym whole ∙ c.in-Some.ensures.steps) c.requires.row in
    if_ok c.copy_of.result _ _ (λ x e. is ∙ ap (λ v. Some v) (sym e)) c.copy_of.ensures
