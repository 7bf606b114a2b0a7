-- The names of nodes.
use Rattle.std.specs.Prelude.{ℕ, List, ◌++◌, codes, decimal}
use Rattle.fr_base.specs.declared.place.NodeId.{NodeId}
use Rattle.fr_base.specs.declared.place.NodeId.TheVariants.{Cell, Log, Sequencer, Proxy, Recoverer, Storage}

-- a node: its kind, and its numbers
abbrev pub node_text : NodeId → List ℕ
node_text (Cell i) = codes "cell " ++ decimal i
node_text (Log e i) = codes "log " ++ (decimal e ++ (codes " " ++ decimal i))
node_text (Sequencer e) = codes "sequencer " ++ decimal e
node_text (Proxy e p) = codes "proxy " ++ (decimal e ++ (codes " " ++ decimal p))
node_text (Recoverer b) = codes "recoverer " ++ decimal b
node_text (Storage t) = codes "storage " ++ decimal t
