-- The script of `apply`, read token by token.
use Rattle.std.proofs.Common.{◌≡◌, ℕ, List, [], codes, Option, Some, None, option_and_then, refl, ap, ◌∙◌, subst}
use Rattle.std.specs.Str.{IsUtf8}
use Rattle.json.specs.Token.{Token}
use Rattle.json.specs.Lex.{tokens}
use Rattle.serde_json.specs.Data.{Data}
use Rattle.serde_json.specs.Find.{as_array}
use Rattle.fr_mutation.specs.declared.mutation.Mutation.{Mutation}
use Rattle.fr_cli_json.specs.Json.{only, each_of, version_of}
use Rattle.fr_cli_json.specs.Mutations.{batch_of}
use Rattle.fr_cli_json.specs.Tokens.{BeginsWith, Gives, GivesTwo}
use Rattle.fr_cli_json.proofs.JsonLemmas.{data_here}
use Rattle.fr_cli_json.proofs.TokenLemmas.{whole_text}
use Rattle.fr_cli_apply.specs.declared.script.Operation.TheVariants.{Apply}
use Rattle.fr_cli_apply.specs.declared.plan.Planned.{Planned}
use Rattle.fr_cli_apply.specs.Script.{apply_of}
use Rattle.fr_cli_apply.specs.Plan.{planned_of, each_planned_of, plan_from, plan_of}

pub apply_read : (depth : ℕ) (ts r : List Token) (version : ℕ) (batch : List Mutation) → GivesTwo version_of batch_of (codes "version") (codes "batch") depth ts version batch r → Gives apply_of depth ts (Apply version batch) r
apply_read depth ts r version batch h = (h.0, h.1, rw (h.2, h.3) refl)

operations_found : (o : Option Data) → option_and_then (each_of planned_of) (option_and_then as_array o) ≡ option_and_then each_planned_of o
operations_found None = refl
operations_found (Some d) = refl

pub whole_read : (depth : ℕ) (ts r : List Token) (script : List Planned) → Gives (λ d. option_and_then each_planned_of (only 1 (codes "ops") d)) depth ts script r → Gives plan_from depth ts script r
whole_read depth ts r script h = (h.0, h.1, operations_found (only 1 (codes "ops") h.0) ∙ h.2)

pub script_read : (text : List ℕ) (rest : List Token) (script : List Planned) → IsUtf8 text → Gives plan_from 127 (tokens text) script rest → rest ≡ [] → plan_of text ≡ Some script
script_read text rest script is h over =
    let all : BeginsWith 127 (tokens text) h.0 [] = subst (λ xs. BeginsWith 127 (tokens text) h.0 xs) over h.1 in
    ap (option_and_then plan_from) (data_here text h.0 is (whole_text text h.0 all)) ∙ h.2
