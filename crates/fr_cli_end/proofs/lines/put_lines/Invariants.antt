use Rattle.std.proofs.Common.{◌≡◌}
use Rattle.fr_cli_json.specs.Text.{Owes}
use Rattle.fr_cli_end.specs.Lines.{lines_from}
use Rattle.fr_cli_end.proofs.lines.put_lines.Given as goal

abbrev pub invariant-loop-reply : goal.invariant-loop-reply
invariant-loop-reply g l = record {
  owed : Owes (g.W.Write.contents l.fn.writer) (g.W.Write.contents l.writer) (lines_from l.tally l.reply-iterator.rest.items) (lines_from l.fn.tally l.fn.replies.items);
  calls : l.calls ≡ l.fn.calls;
}
