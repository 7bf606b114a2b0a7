use Rattle.std.proofs.Common.{◌≡◌, ◌++◌}
use Rattle.std.specs.Vec.Iter.{into_iter_items}
use Rattle.fr_audit_journal.specs.Replays.{after_act, steps}
use Rattle.fr_node.specs.Groups.{AreGrouped, stood}
use Rattle.fr_node.proofs.drafts.with_lasts.Given as goal

-- the states so far, and those of what is left behind the last one, are those of all
abbrev pub invariant-loop-entry : goal.invariant-loop-entry
invariant-loop-entry g l =
    let M = g.M.Machine in
    let N = g.M.Named in
    let m = steps N.wrapped N.unwrapped N.wrapped_tell M.told M.after in
    record {
      can : (goal.iterator-loop-entry g).can_next l.entry-iterator;
      ends : (goal.iterator-loop-entry g).is_finite l.entry-iterator;
      made : (s : _) → l.fn.first ≡ N.last_of s → AreGrouped m g.G.Grouping.owned s l.fn.entries.items
          → (t : _) × ((l.last ≡ N.last_of t) × (AreGrouped m g.G.Grouping.owned t (into_iter_items l.entry-iterator)
          × (l.all.items ++ stood N.last_of (after_act m) t (into_iter_items l.entry-iterator) ≡ stood N.last_of (after_act m) s l.fn.entries.items)));
    }
