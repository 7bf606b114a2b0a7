use Rattle.std.proofs.Common.{◌≡◌, ◌<◌, ℕ, true}
use Rattle.fr_base.specs.declared.place.NodeId.TheVariants.{Proxy}
use Rattle.fr_runtime.specs.Handed.{has_journal}
use Rattle.fr_runtime.proofs.handed.proxy_without.Given as goal

-- each so far has its journal
abbrev pub invariant-loop-number : goal.invariant-loop-number
invariant-loop-number l = (p : ℕ) → p < l.number → has_journal (Proxy 257 p) l.journals ≡ true
