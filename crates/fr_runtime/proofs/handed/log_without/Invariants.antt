use Rattle.std.proofs.Common.{◌≡◌, ◌<◌, ℕ, true}
use Rattle.fr_base.specs.declared.place.NodeId.TheVariants.{Log}
use Rattle.fr_runtime.specs.Handed.{has_journal}
use Rattle.fr_runtime.proofs.handed.log_without.Given as goal

-- each so far has its journal
abbrev pub invariant-loop-index : goal.invariant-loop-index
invariant-loop-index l = (i : ℕ) → i < l.index → has_journal (Log 257 i) l.journals ≡ true
