use Rattle.std.proofs.Common.{◌≡◌, ℕ, List, drop}
use Rattle.std.specs.BTreeMap as tree
use Rattle.fr_base.specs.Bytes.{bytes_cmp}
use Rattle.fr_mutation.specs.Mutation.{value_after_all}
use Rattle.fr_undo.specs.Changes.{held_outside}
use Rattle.fr_undo.specs.Plan.{IsPlan, value_planned}
use Rattle.fr_undo.proofs.plan.plan_of.Given as goal

-- what is left makes of the values by the plan so far what the whole batch makes of the contents
abbrev pub invariant-loop-mutation : goal.invariant-loop-mutation
invariant-loop-mutation l = record {
  plan : IsPlan l.plan;
  values : (q : List ℕ) → value_after_all (drop l.mutation-index l.batch) q (value_planned l.plan (held_outside l.cleared.items (tree.get bytes_cmp l.contents)) q) ≡ value_after_all l.batch q (tree.get bytes_cmp l.contents q);
}
