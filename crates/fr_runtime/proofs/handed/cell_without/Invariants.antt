use Rattle.std.proofs.Common.{◌≡◌, ◌<◌, ℕ, true}
use Rattle.fr_base.specs.declared.place.NodeId.TheVariants.{Cell}
use Rattle.fr_runtime.specs.Handed.{has_journal}
use Rattle.fr_runtime.proofs.handed.cell_without.Given as goal

-- each so far has its journal
abbrev pub invariant-loop-index : goal.invariant-loop-index
invariant-loop-index l = (i : ℕ) → i < l.index → has_journal (Cell i) l.journals ≡ true
