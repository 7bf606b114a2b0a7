use Rattle.std.proofs.Common.{◌≡◌, ◌<◌, ℕ, true}
use Rattle.fr_base.specs.declared.place.NodeId.TheVariants.{Storage}
use Rattle.fr_runtime.specs.Handed.{has_journal}
use Rattle.fr_runtime.proofs.handed.storage_without.Given as goal

-- each so far has its journal
abbrev pub invariant-loop-number : goal.invariant-loop-number
invariant-loop-number l = (t : ℕ) → t < l.number → has_journal (Storage t) l.journals ≡ true
