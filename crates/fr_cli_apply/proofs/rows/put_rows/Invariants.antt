use Rattle.std.proofs.Common.{◌≡◌}
use Rattle.fr_cli_apply.specs.Lines.{row_lines}
use Rattle.fr_cli_json.specs.Text.{Owes}
use Rattle.fr_cli_apply.proofs.rows.put_rows.Given as goal

abbrev pub invariant-loop-key : goal.invariant-loop-key
invariant-loop-key g l = record {
  owed : Owes (g.W.Write.contents l.fn.writer) (g.W.Write.contents l.writer) (row_lines l.key-iterator.rest.items) (row_lines l.fn.rows.items);
  calls : l.calls ≡ l.fn.calls;
}
