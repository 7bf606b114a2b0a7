use Rattle.std.proofs.Common.{◌≡◌, length}
use Rattle.fr_log.specs.Pushes.{cut}
use Rattle.fr_log.proofs.pushes.shelf.Shelf.cut_from.Given as goal

-- what is taken out stands at the version or above it
abbrev pub invariant-loop-version : goal.invariant-loop-version
invariant-loop-version l = cut l.version l.self ≡ cut l.version l.initial.self

abbrev pub decreases-loop-version : goal.decreases-loop-version
decreases-loop-version l = length l.self
