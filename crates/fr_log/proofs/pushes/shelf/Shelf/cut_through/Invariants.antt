use Rattle.std.proofs.Common.{◌≡◌, length}
use Rattle.fr_log.specs.Pushes.{above}
use Rattle.fr_log.proofs.pushes.shelf.Shelf.cut_through.Given as goal

-- what is taken out stands at the version or below it
abbrev pub invariant-loop-version : goal.invariant-loop-version
invariant-loop-version l = above l.version l.self ≡ above l.version l.initial.self

abbrev pub decreases-loop-version : goal.decreases-loop-version
decreases-loop-version l = length l.self
