use Rattle.std.proofs.Common.{◌≡◌, true}
use Rattle.fr_cli_node.proofs.serving.serve_counted.Given as goal

abbrev pub invariant-loop-line : goal.invariant-loop-line
invariant-loop-line g l = record {
  node : g.T.Acting.node l.node ≡ g.T.Acting.node l.fn.node;
  works : g.T.Acting.works l.node ≡ true;
  calls : l.calls ≡ l.fn.calls;
}
