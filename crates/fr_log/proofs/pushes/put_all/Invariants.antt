use Rattle.std.proofs.Common.{◌≡◌, ℕ, ◌++◌, true}
use Rattle.std.specs.Vec.Iter.{into_iter_items}
use Rattle.fr_tags.specs.Bodies.{batch_of, is_rising_from}
use Rattle.fr_log.specs.Pushes.{shelf_of, at_version}
use Rattle.fr_log.proofs.pushes.put_all.Given as goal

-- with the bodies that are left, each shelf has what it is to have
abbrev pub invariant-loop-body : goal.invariant-loop-body
invariant-loop-body l = record {
  can : (goal.iterator-loop-body).can_next l.body-iterator;
  ends : (goal.iterator-loop-body).is_finite l.body-iterator;
  rising : is_rising_from 0 (into_iter_items l.body-iterator) ≡ true;
  so_far : (t : ℕ) → shelf_of l.shelves.items t ++ at_version l.version (batch_of t (into_iter_items l.body-iterator))
      ≡ shelf_of l.fn.shelves.items t ++ at_version l.version (batch_of t l.fn.bodies.items);
}
