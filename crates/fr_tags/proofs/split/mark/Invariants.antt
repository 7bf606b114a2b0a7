use Rattle.std.proofs.Common.{◌≡◌, ◌||◌, false, ℕ, get_or}
use Rattle.fr_tags.specs.Shards.{is_from_to}
use Rattle.fr_tags.proofs.split.mark.Given as goal

-- the places up to here are marked
abbrev pub invariant-loop-place : goal.invariant-loop-place
invariant-loop-place l = (t : ℕ) → get_or l.marks t false ≡ (get_or l.initial.marks t false || is_from_to l.from l.place t)
