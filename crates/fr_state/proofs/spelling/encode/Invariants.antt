use Rattle.std.proofs.Common.{◌≡◌, ◌∷◌, ◌++◌, length, take}
use Rattle.std.specs.List.{flat_map}
use Rattle.fr_state.specs.Spelling.{row, spelled_start}
use Rattle.fr_state.proofs.spelling.encode.Given as goal

abbrev pub invariant-loop-generation : goal.invariant-loop-generation
invariant-loop-generation l = l.bytes.items ≡ spelled_start l.state.dropped ++ length l.gens ∷ flat_map row (take l.generation-index l.gens)
