use Rattle.std.proofs.Common.{◌&&◌, true, ap, sym, ◌∙◌}
use Rattle.std.specs.List.{filter}
use Rattle.std.specs.Ordering.{is_le}
use Rattle.std.specs.Option.{option_or}
use Rattle.std.specs.Map.{lookup}
use Rattle.std.specs.BTreeMap as tree
use Rattle.std.specs.BTreeMap.{is_at}
use Rattle.fr_base.specs.Bytes.{bytes_cmp}
use Rattle.fr_undo.specs.State.{place_cmp}
use Rattle.fr_undo.specs.Changes.{after_of, first_row}
use Rattle.fr_undo.specs.Plan.{planned}
use Rattle.fr_undo.proofs.RowLemmas.{first_rows, option_or_none}
use Rattle.fr_undo.proofs.PlanLemmas.{after_by, if_ok}
use Rattle.fr_undo.proofs.rows.changes_above.Goals as goal

pub returns-clause-value : goal.returns-clause-value
returns-clause-value c = if_ok c.changes_by.result _ _ (λ changes by n upto q.
    let now = planned c.loop-key.plan q in
    ap after_of (by q)
    ∙ after_by (tree.get bytes_cmp c.args.contents.now q) (lookup (is_at (bytes_cmp q)) c.in_ok-entries.entries.items)
    ∙ ap (lookup (is_at (bytes_cmp q))) c.in_ok-entries.ensures.entries
    ∙ sym (option_or_none now)
    ∙ sym (ap (λ es. option_or now (first_row q es)) c.in-None.ensures.steps.0)
    ∙ c.loop-key.invariant.first q
    ∙ ap (first_row q) (c.into_iter-key-iterator.ensures.into_iter_gives ∙ c.range-key-items.ensures.between tt)
    ∙ (λ i. first_row q (filter (λ e. is_le (place_cmp (c.next.ensures i, c.empty.ensures i) e.0) && true) c.args.rows.now.entries))
    ∙ first_rows c.args.rows.now c.args.version n q c.range-key-items.ensures.ordered upto) c.changes_by.ensures
