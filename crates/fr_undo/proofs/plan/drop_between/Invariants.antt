use Rattle.std.proofs.Common.{◌≡◌, List, [], ℕ, None, cond, take}
use Rattle.std.specs.List.{list_any}
use Rattle.std.specs.BTreeMap as tree
use Rattle.fr_base.specs.Bytes.{bytes_cmp, is_same}
use Rattle.fr_undo.specs.Plan.{planned as planned_of}
use Rattle.fr_undo.proofs.plan.drop_between.Given as goal

-- what is planned of a front of the keys is dropped
abbrev pub invariant-loop-key : goal.invariant-loop-key
invariant-loop-key l = record {
  list : l.plan.rising.items ≡ [];
  planned : (q : List ℕ) → tree.get bytes_cmp l.plan.tree q ≡ cond (list_any (λ k. is_same k q) (take l.key-index l.key-items)) None (planned_of l.fn.plan q);
}
