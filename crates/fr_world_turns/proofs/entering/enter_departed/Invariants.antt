use Rattle.std.proofs.Common.{◌≡◌}
use Rattle.fr_world_turns.specs.Finding.{AreGoneFound}
use Rattle.fr_world_turns.specs.Places.{Grows}
use Rattle.fr_world_turns.proofs.entering.enter_departed.Given as goal

-- the nodes that went so far are entered
abbrev pub invariant-loop-place : goal.invariant-loop-place
invariant-loop-place l =
    record {
      grows : Grows l.fn.places l.places;
      found : AreGoneFound l.turns l.departed l.places;
      next : l.departed ≡ l.place;
    }
