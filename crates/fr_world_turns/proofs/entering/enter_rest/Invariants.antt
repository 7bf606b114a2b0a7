use Rattle.std.proofs.Common.{◌≡◌}
use Rattle.fr_world_turns.specs.Finding.{AreFound}
use Rattle.fr_world_turns.specs.Places.{Grows}
use Rattle.fr_world_turns.proofs.entering.enter_rest.Given as goal

-- the turns so far are entered
abbrev pub invariant-loop-place : goal.invariant-loop-place
invariant-loop-place l =
    record {
      grows : Grows l.fn.places l.places;
      found : AreFound l.turns l.indexed l.places;
      next : l.indexed ≡ l.place;
    }
