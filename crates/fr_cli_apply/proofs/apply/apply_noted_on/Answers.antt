use Rattle.std.proofs.Common.{rules, ◌≡◌, None}
use Rattle.fr_cli_apply.specs.Plan.{plan_of}
use Rattle.fr_cli_apply.proofs.PlanLemmas.{bad_found, front_found, all_found, left_found}
use Rattle.fr_cli_json.proofs.TextLemmas.{gains_kept, appends_kept}
use Rattle.fr_cli_json.proofs.CommandLemmas.{unread, misread, cut_off, printed}
use Rattle.fr_cli_apply.proofs.apply.apply_noted_on.Goals as goal

pub returns-in_err-bytes-clause-prints : goal.returns-in_err-bytes-clause-prints
returns-in_err-bytes-clause-prints g c = unread _ _ _ _ _ _ _ c.from_residual.ensures.0 (search rules)

pub returns-in_err-operations-clause-prints : goal.returns-in_err-operations-clause-prints
returns-in_err-operations-clause-prints g c = misread _ _ _ _ _ _ _ c.from_residual-in_err-operations.ensures.0 (search rules) (λ e.
    let none : plan_of c.in_ok-bytes.bytes.items ≡ None = search rules in
    bad_found _ _ c.in_ok-bytes.bytes.items c.in_ok-bytes.ensures.all none)

pub returns-in_err-run_on-clause-prints : goal.returns-in_err-run_on-clause-prints
returns-in_err-run_on-clause-prints g c = cut_off _ _ _ _ _ _ _ _ c.from_residual-in_err-run_on.ensures.0 (search rules)
    (front_found _ _ c.in_ok-bytes.bytes.items c.in_ok-operations.operations.items c.in_ok-bytes.ensures.all c.in_ok-operations.ensures.ok (g.S.ShardStore.state c.args.store.now) _ _ c.run_on.ensures.front)

pub returns-in_err-flush-clause-prints : goal.returns-in_err-flush-clause-prints
returns-in_err-flush-clause-prints g c = cut_off _ _ _ _ _ _ _ _ c.from_residual-in_err-flush.ensures.0 (search rules)
    (front_found _ _ c.in_ok-bytes.bytes.items c.in_ok-operations.operations.items c.in_ok-bytes.ensures.all c.in_ok-operations.ensures.ok (g.S.ShardStore.state c.args.store.now) _ _ (gains_kept _ _ _ _ c.run_on.ensures.front c.flush.ensures.kept))

pub returns-clause-prints : goal.returns-clause-prints
returns-clause-prints g c = printed _ _ _ _ _ _ _
    (all_found _ _ c.in_ok-bytes.bytes.items c.in_ok-operations.operations.items c.in_ok-bytes.ensures.all c.in_ok-operations.ensures.ok (g.S.ShardStore.state c.args.store.now) _ _ (appends_kept _ _ _ _ c.in_ok-run_on.ensures.ok c.flush.ensures.kept))

pub returns-clause-left : goal.returns-clause-left
returns-clause-left g c =
    left_found _ _ c.in_ok-bytes.bytes.items c.in_ok-operations.operations.items c.in_ok-bytes.ensures.all c.in_ok-operations.ensures.ok (g.S.ShardStore.state c.args.store.now) _ c.in_ok-run_on.ensures.left
