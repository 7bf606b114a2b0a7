-- A script and its operations as they are run.
use Rattle.std.proofs.Common.{◌≡◌, ℕ, ◌++◌, List, [], ◌∷◌, map, codes, Option, Some, None, option_map, option_and_then, is_some, unwrap_or, true≢false, refl, sym, ap, ◌∙◌, subst}
use Rattle.std.specs.Io.KnownBytes.{Appends}
use Rattle.json.specs.Token.{Token}
use Rattle.serde_json.specs.Data.{Data, Items, no_items, item}
use Rattle.serde_json.specs.Find.{as_array}
use Rattle.fr_mutation.specs.declared.mutation.Mutation.{Mutation}
use Rattle.fr_mutation.specs.declared.fault.BatchFault.{BatchFault}
use Rattle.fr_mutation.specs.Limits.{batch_fault}
use Rattle.fr_undo.specs.State.{StoreState}
use Rattle.fr_cli_apply.specs.declared.script.Operation.{Operation}
use Rattle.fr_cli_apply.specs.declared.script.Operation.TheVariants.{Apply, Undo, Forget, Advance}
use Rattle.fr_cli_apply.specs.declared.plan.Planned.{Planned}
use Rattle.fr_cli_json.specs.Json.{data_of, only, each_of}
use Rattle.fr_cli_apply.specs.Script.{operation_of, script_from, script_of}
use Rattle.fr_cli_apply.specs.Lines.{apply_outcome, outcome_of, line_of, lines_from, left_by, state_after}
use Rattle.fr_cli_json.specs.Text.{IsInput, HasRead, GainsFront}
use Rattle.fr_cli_json.specs.Tokens.{Gives}
use Rattle.fr_cli_apply.specs.Plan.{plan_batch, plan, planned_of, plan_from, plan_of, plan_outcome, plan_left, plan_lines}

-- ---- read

join_planned : (o : Option Operation) (os : Option (List Operation))
    → option_and_then (λ a. option_map (λ rest. a ∷ rest) (option_map (map plan) os)) (option_map plan o) ≡ option_map (map plan) (option_and_then (λ a. option_map (λ rest. a ∷ rest) os) o)
join_planned None os = refl
join_planned (Some o) None = refl
join_planned (Some o) (Some os) = refl

each_planned : (ds : Items) → each_of planned_of ds ≡ option_map (map plan) (each_of operation_of ds)
each_planned no_items = refl
each_planned (item d ds) = ap (λ rest. option_and_then (λ a. option_map (λ more. a ∷ more) rest) (option_map plan (operation_of d))) (each_planned ds) ∙ join_planned (operation_of d) (each_of operation_of ds)

list_planned : (o : Option Items) → option_and_then (each_of planned_of) o ≡ option_map (map plan) (option_and_then (each_of operation_of) o)
list_planned None = refl
list_planned (Some ds) = each_planned ds

data_planned : (o : Option Data) → option_and_then plan_from o ≡ option_map (map plan) (option_and_then script_from o)
data_planned None = refl
data_planned (Some d) = list_planned (option_and_then as_array (only 1 (codes "ops") d))

found_in : (o : Option (List Operation)) (ps : List Planned) → option_map (map plan) o ≡ Some ps → (script : List Operation) × (o ≡ Some script) × (map plan script ≡ ps)
found_in None ps e = absurd (true≢false (sym (ap is_some e)))
found_in (Some os) ps e = (os, refl, ap (λ o. unwrap_or o []) e)

pub plan_given : (depth : ℕ) (ts r : List Token) (o : Operation) (p : Planned) → Gives operation_of depth ts o r → p ≡ plan o → Gives planned_of depth ts p r
plan_given depth ts r o p h e = (h.0, h.1, ap (option_map plan) h.2 ∙ ap Some (sym e))

-- what is run is the plan of the script
pub script_found : (input : List ℕ) (ps : List Planned) → plan_of input ≡ Some ps → (script : List Operation) × (script_of input ≡ Some script) × (map plan script ≡ ps)
script_found input ps e = found_in (script_of input) ps (sym (data_planned (data_of input)) ∙ e)

none_in : (o : Option (List Operation)) → option_map (map plan) o ≡ None → o ≡ None
none_in None e = refl
none_in (Some os) e = absurd (true≢false (ap is_some e))

pub no_script : (input : List ℕ) → plan_of input ≡ None → script_of input ≡ None
no_script input e = none_in (script_of input) (sym (data_planned (data_of input)) ∙ e)

-- ---- run

apply_planned : (s : StoreState) (version : ℕ) (batch : List Mutation) (fault : Option BatchFault) → plan_outcome s (plan_batch version batch fault) ≡ apply_outcome s version batch fault
apply_planned s version batch None = refl
apply_planned s version batch (Some fault) = refl

same_outcome : (s : StoreState) (o : Operation) → plan_outcome s (plan o) ≡ outcome_of s o
same_outcome s (Apply version batch) = apply_planned s version batch (batch_fault batch)
same_outcome s (Undo to) = refl
same_outcome s (Forget through) = refl
same_outcome s (Advance version) = refl

pub same_lines : (s : StoreState) (os : List Operation) → plan_lines s (map plan os) ≡ lines_from s os
same_lines s [] = refl
same_lines s (o ∷ os) = rw (same_outcome s o) (ap (λ rest. line_of (outcome_of s o) ++ rest) (same_lines (state_after s (outcome_of s o)) os))

same_left : (s : StoreState) (os : List Operation) → plan_left s (map plan os) ≡ left_by s os
same_left s [] = refl
same_left s (o ∷ os) = ap (λ x. plan_left (state_after s x) (map plan os)) (same_outcome s o) ∙ same_left (state_after s (outcome_of s o)) os

-- ---- a whole run

pub bad_found : (old new : Option (List ℕ)) (input : List ℕ) → IsInput old new input → plan_of input ≡ None → HasRead script_of old new None
bad_found old new input whole none = record { input = input; whole = whole; meant = no_script input none }

module _ (old new : Option (List ℕ)) (input : List ℕ) (ps : List Planned) (whole : IsInput old new input) (meant : plan_of input ≡ Some ps) where
  pub read_found : (script : List Operation) × HasRead script_of old new (Some script)
  read_found =
      let found = script_found input ps meant in
      (found.0, record { input = input; whole = whole; meant = found.1 })

  lines_found : (s : StoreState) (script : List Operation) → map plan script ≡ ps → plan_lines s ps ≡ lines_from s script
  lines_found s script e = ap (plan_lines s) (sym e) ∙ same_lines s script

  pub front_found : (s : StoreState) (was now : Option (List ℕ)) → GainsFront was now (plan_lines s ps) → (script : List Operation) × HasRead script_of old new (Some script) × GainsFront was now (lines_from s script)
  front_found s was now gains =
      let found = script_found input ps meant in
      (found.0, record { input = input; whole = whole; meant = found.1 }, subst (GainsFront was now) (lines_found s found.0 found.2) gains)

  pub all_found : (s : StoreState) (was now : Option (List ℕ)) → Appends was now (plan_lines s ps) → (script : List Operation) × HasRead script_of old new (Some script) × Appends was now (lines_from s script)
  all_found s was now gains =
      let found = script_found input ps meant in
      (found.0, record { input = input; whole = whole; meant = found.1 }, subst (Appends was now) (lines_found s found.0 found.2) gains)

  pub left_found : (s left : StoreState) → left ≡ plan_left s ps → (script : List Operation) × HasRead script_of old new (Some script) × (left ≡ left_by s script)
  left_found s left is =
      let found = script_found input ps meant in
      (found.0, record { input = input; whole = whole; meant = found.1 }, is ∙ ap (plan_left s) (sym found.2) ∙ same_left s found.0)
