use Rattle.std.proofs.Common.{◌≡◌, true}
use Rattle.fr_cli_node.proofs.serving.answer_waiting.Given as goal

abbrev pub invariant-loop-sender : goal.invariant-loop-sender
invariant-loop-sender g l = record {
  node : g.T.Acting.node l.node ≡ g.T.Acting.node l.fn.node;
  works : g.T.Acting.works l.node ≡ true;
  calls : l.calls ≡ l.fn.calls;
}
