use Rattle.std.proofs.Common.{◌≡◌}
use Rattle.fr_cli_apply.specs.Lines.{row_lines}
use Rattle.fr_cli_json.specs.Text.{Owes}
use Rattle.fr_cli_apply.proofs.rows.put_tree.Given as goal

abbrev pub invariant-loop-key : goal.invariant-loop-key
invariant-loop-key g l = record {
  can : (goal.iterator-loop-key g).can_next l.key-iterator;
  ends : (goal.iterator-loop-key g).is_finite l.key-iterator;
  owed : Owes (g.W.Write.contents l.fn.writer) (g.W.Write.contents l.writer) (row_lines l.key-iterator) (row_lines l.initial.key-iterator);
  calls : l.calls ≡ l.fn.calls;
}
