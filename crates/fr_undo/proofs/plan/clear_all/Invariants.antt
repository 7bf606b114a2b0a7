use Rattle.std.proofs.Common.{◌≡◌, ℕ, List, drop}
use Rattle.std.specs.BTreeMap as tree
use Rattle.fr_base.specs.Bytes.{bytes_cmp}
use Rattle.fr_undo.specs.Changes.{held_outside}
use Rattle.fr_undo.specs.Plan.{IsPlan, value_planned}
use Rattle.fr_undo.proofs.plan.clear_all.Given as goal

-- with the ranges that are left the plan so far gives what all gave
abbrev pub invariant-loop-range : goal.invariant-loop-range
invariant-loop-range l = record {
  plan : IsPlan l.plan;
  values : (q : List ℕ) → value_planned l.plan (held_outside (drop l.range-index l.cleared) (tree.get bytes_cmp l.contents)) q ≡ value_planned l.initial.plan (held_outside l.cleared (tree.get bytes_cmp l.contents)) q;
}
