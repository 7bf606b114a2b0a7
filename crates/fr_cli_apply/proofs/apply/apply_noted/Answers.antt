use Rattle.std.proofs.Common.{rules, ◌≡◌, None}
use Rattle.fr_undo.specs.State.{fresh}
use Rattle.fr_cli_apply.specs.Plan.{plan_of}
use Rattle.fr_cli_apply.proofs.PlanLemmas.{bad_found, front_found, all_found}
use Rattle.fr_cli_json.proofs.TextLemmas.{gains_kept, appends_kept}
use Rattle.fr_cli_json.proofs.CommandLemmas.{unread, misread, cut_off, printed}
use Rattle.fr_cli_apply.proofs.apply.apply_noted.Goals as goal

pub returns-in_err-input-clause-prints : goal.returns-in_err-input-clause-prints
returns-in_err-input-clause-prints g c = unread _ _ _ _ _ _ _ c.from_residual.ensures.0 (search rules)

pub returns-in_err-script-clause-prints : goal.returns-in_err-script-clause-prints
returns-in_err-script-clause-prints g c = misread _ _ _ _ _ _ _ c.from_residual-in_err-script.ensures.0 (search rules) (λ e.
    let none : plan_of c.in_ok-input.input.items ≡ None = search rules in
    bad_found _ _ c.in_ok-input.input.items c.in_ok-input.ensures.all none)

pub returns-in_err-run_in_memory-clause-prints : goal.returns-in_err-run_in_memory-clause-prints
returns-in_err-run_in_memory-clause-prints g c = cut_off _ _ _ _ _ _ _ _ c.from_residual-in_err-run_in_memory.ensures.0 (search rules)
    (front_found _ _ c.in_ok-input.input.items c.in_ok-script.script.items c.in_ok-input.ensures.all c.in_ok-script.ensures.ok fresh _ _ c.run_in_memory.ensures.front)

pub returns-in_err-flush-clause-prints : goal.returns-in_err-flush-clause-prints
returns-in_err-flush-clause-prints g c = cut_off _ _ _ _ _ _ _ _ c.from_residual-in_err-flush.ensures.0 (search rules)
    (front_found _ _ c.in_ok-input.input.items c.in_ok-script.script.items c.in_ok-input.ensures.all c.in_ok-script.ensures.ok fresh _ _ (gains_kept _ _ _ _ c.run_in_memory.ensures.front c.flush.ensures.kept))

pub returns-clause-prints : goal.returns-clause-prints
returns-clause-prints g c = printed _ _ _ _ _ _ _
    (all_found _ _ c.in_ok-input.input.items c.in_ok-script.script.items c.in_ok-input.ensures.all c.in_ok-script.ensures.ok fresh _ _ (appends_kept _ _ _ _ c.in_ok-run_in_memory.ensures.ok c.flush.ensures.kept))
