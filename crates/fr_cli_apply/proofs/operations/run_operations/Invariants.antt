use Rattle.std.proofs.Common.{◌≡◌}
use Rattle.fr_cli_apply.specs.Plan.{plan_lines, plan_left}
use Rattle.fr_cli_json.specs.Text.{Owes}
use Rattle.fr_cli_apply.proofs.operations.run_operations.Given as goal

abbrev pub invariant-loop-operation : goal.invariant-loop-operation
invariant-loop-operation g l = record {
  owed : Owes (g.W.Write.contents l.fn.writer) (g.W.Write.contents l.writer) (plan_lines (g.S.ShardStore.state l.store) l.operation-iterator.rest.items) (plan_lines (g.S.ShardStore.state l.fn.store) l.fn.operations.items);
  left : plan_left (g.S.ShardStore.state l.store) l.operation-iterator.rest.items ≡ plan_left (g.S.ShardStore.state l.fn.store) l.fn.operations.items;
  calls : l.calls ≡ l.fn.calls;
}
