use Rattle.std.proofs.Common.{◌≡◌}
use Rattle.std.specs.Io.KnownBytes.{Keeps}
use Rattle.fr_cli_json.proofs.calls.CallCounts.write.Given as goal

abbrev pub invariant-loop-turn : goal.invariant-loop-turn
invariant-loop-turn g l = record {
  kept : Keeps (g.W.Write.contents l.fn.writer) (g.W.Write.contents l.writer);
  calls : l.self ≡ l.fn.self;
}
