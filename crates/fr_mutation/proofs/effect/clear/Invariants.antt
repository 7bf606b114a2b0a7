use Rattle.std.proofs.Common.{◌≡◌, List, ℕ, take}
use Rattle.std.specs.BTreeMap as tree
use Rattle.fr_base.specs.Bytes.{bytes_cmp}
use Rattle.fr_mutation.proofs.ClearLemmas.{left_at}
use Rattle.fr_mutation.proofs.effect.clear.Given as goal

-- a front of the keys is removed
abbrev pub invariant-loop-key : goal.invariant-loop-key
invariant-loop-key l = (q : List ℕ) → tree.get bytes_cmp l.rows q ≡ left_at (take l.key-index l.key-items) q (tree.get bytes_cmp l.fn.rows q)
