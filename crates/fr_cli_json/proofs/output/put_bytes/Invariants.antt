use Rattle.std.proofs.Common.{◌≡◌, length}
use Rattle.fr_cli_json.specs.Text.{Owes}
use Rattle.fr_cli_json.proofs.output.put_bytes.Given as goal

abbrev pub invariant-loop-rest : goal.invariant-loop-rest
invariant-loop-rest g l = record {
  owed : Owes (g.W.Write.contents l.fn.writer) (g.W.Write.contents l.writer) l.rest l.bytes;
  calls : l.calls ≡ l.fn.calls;
}

abbrev pub decreases-loop-rest : goal.decreases-loop-rest
decreases-loop-rest g l = length l.rest
