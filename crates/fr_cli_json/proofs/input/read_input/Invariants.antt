use Rattle.std.proofs.Common.{◌≡◌, ◌*◌, ◌≤◌, vec_len}
use Rattle.std.specs.Io.KnownBytes.{Consumes}
use Rattle.fr_cli_json.specs.declared.input.TheConstants.{READ_SIZE}
use Rattle.fr_cli_json.specs.Calls.{HasNotFailed}
use Rattle.fr_cli_json.proofs.input.read_input.Given as goal

abbrev pub invariant-loop-turn : goal.invariant-loop-turn
invariant-loop-turn g l = record {
  known : Consumes (g.R.Read.remaining l.fn.reader) (g.R.Read.remaining l.reader) l.bytes.items;
  few : vec_len l.bytes ≤ l.turn * READ_SIZE;
  reads : l.calls.reads ≡ l.turn;
  done : HasNotFailed l.calls;
}
