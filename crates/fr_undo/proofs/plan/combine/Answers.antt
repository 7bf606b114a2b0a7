use Rattle.std.proofs.Common.{◌≡◌, ℕ, List, Option, None, Some, ap, sym, ◌∙◌}
use Rattle.std.specs.Prelude.{unwrap_or}
use Rattle.std.specs.BTreeMap as tree
use Rattle.fr_base.specs.Bytes.{bytes_cmp}
use Rattle.fr_mutation.specs.Mutation.{new_value}
use Rattle.fr_undo.specs.declared.plan.Plan.{Plan}
use Rattle.fr_undo.specs.Plan.{planned}
use Rattle.fr_undo.specs.Trees.{Contents}
use Rattle.fr_undo.specs.Changes.{held_outside}
use Rattle.fr_undo.proofs.PlanLemmas.{planned_put, tree_plan, tree_put, on_ok}
use Rattle.fr_undo.proofs.plan.combine.Goals as goal

-- what keys hold once the ranges are cleared
abbrev held_in : Contents → List (List ℕ × List ℕ) → List ℕ → Option (List ℕ)
held_in contents cleared = held_outside cleared (tree.get bytes_cmp contents)

pub returns-in_ok-after-in-Occupied-clause-values : goal.returns-in_ok-after-in-Occupied-clause-values
returns-in_ok-after-in-Occupied-clause-values c =
    let key = c.args.key.now in
    let mutation = c.args.mutation.now in
    let held = held_in c.args.contents.now c.args.cleared.now in
    let after = c.in_ok-after-in-Occupied.field-0 in
    let t = c.to_tree.new.self in
    let before = c.in_ok-to_tree.ensures.planned in
    let plan' : Plan = record { rising = t.rising; tree = c.plan-in-Occupied-1.given.0 } in
    let value = rw c.in-Occupied.is at c.in_ok-entry.ensures.value in
    let made = (rw c.in-Occupied.is at c.in_ok-entry.ensures.update).0 after in
    let is = c.plan-in-Occupied-1.given.1 (sym (rw c.in-Occupied.is at c.in_ok-entry.ensures.same_map)) in
    let k = c.in_ok-copy-2.ensures in
    let was : planned c.args.plan.now key ≡ Some c.get_mut-after.result.now = sym (before key) ∙ cc (value, c.get_mut-after.ensures.value, k) in
    planned_put held c.args.plan.now plan' key after mutation c.requires.named
    (c.in_ok-after-in-Occupied.ensures ∙ ap (new_value mutation) (c.as_ref.ensures.value ∙ ap (λ o. unwrap_or o (held key)) (sym was)))
    (tree_put c.args.plan.now plan' t.tree key after c.in_ok-to_tree.ensures.list before (λ q. cc (made.0 q, is, k)))

pub returns-in_ok-new_value-in-Vacant-clause-values : goal.returns-in_ok-new_value-in-Vacant-clause-values
returns-in_ok-new_value-in-Vacant-clause-values c =
    let key = c.args.key.now in
    let mutation = c.args.mutation.now in
    let held = held_in c.args.contents.now c.args.cleared.now in
    let after = c.in_ok-new_value-in-Vacant.field-0 in
    let t = c.to_tree.new.self in
    let before = c.in_ok-to_tree.ensures.planned in
    let plan' : Plan = record { rising = t.rising; tree = c.plan-in-Vacant-2-1.given.0 } in
    let made = (rw c.in-Vacant.is at c.in_ok-entry.ensures.update).0 c.insert.result.now in
    let is = c.plan-in-Vacant-2-1.given.1 (sym (rw c.in-Vacant.is at c.in_ok-entry.ensures.same_map)) in
    let k = c.in_ok-copy-2.ensures in
    let v = c.insert.ensures.value in
    let absent = rw (c.in-Vacant.is, k) at c.in_ok-entry.ensures.found in
    let none : planned c.args.plan.now key ≡ None = sym (before key) ∙ absent in
    planned_put held c.args.plan.now plan' key after mutation c.requires.named
    (c.in_ok-new_value-in-Vacant.ensures ∙ ap (new_value mutation) (c.held_outside-held-in-Vacant.ensures ∙ ap (λ o. unwrap_or o (held key)) (sym none)))
    (tree_put c.args.plan.now plan' t.tree key after c.in_ok-to_tree.ensures.list before (λ q. cc (made.0 q, is, k, v)))

pub returns-then-is_gt-clause-values : goal.returns-then-is_gt-clause-values
returns-then-is_gt-clause-values c =
    let key = c.args.key.now in
    let mutation = c.args.mutation.now in
    let held = held_in c.args.contents.now c.args.cleared.now in
    let k = c.in_ok-copy.ensures in
    let none : planned c.args.plan.now key ≡ None = cc (c.push.ensures.absent, k) in
    let made = c.in_ok-new_value.ensures ∙ ap (new_value mutation) (c.held_outside-held.ensures ∙ ap (λ o. unwrap_or o (held key)) (sym none)) in
    on_ok c.push.result _ _ (λ put. planned_put held c.args.plan.now c.push.new.self key c.in_ok-new_value.field-0 mutation c.requires.named made (λ q. cc (put q, k))) c.push.ensures.planned

pub returns-in_ok-after-in-Occupied-clause-plan : goal.returns-in_ok-after-in-Occupied-clause-plan
returns-in_ok-after-in-Occupied-clause-plan c = tree_plan _ c.in_ok-to_tree.ensures.list

pub returns-in_ok-new_value-in-Vacant-clause-plan : goal.returns-in_ok-new_value-in-Vacant-clause-plan
returns-in_ok-new_value-in-Vacant-clause-plan c = tree_plan _ c.in_ok-to_tree.ensures.list
