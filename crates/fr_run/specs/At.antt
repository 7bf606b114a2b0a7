-- What others see of each node's last state after some turns: of one that is gone, the last that it had.
use Rattle.std.specs.Prelude.{List, length, nat_lt, Option, None, Some, if◌then◌else◌, ℕ}
use Rattle.std.specs.Option.{option_map}
use Rattle.fr_base.specs.declared.place.NodeId.{NodeId}
use Rattle.fr_base.specs.declared.place.NodeId.TheVariants as node
use Rattle.fr_ask.specs.Named.{last_of_cell, last_of_log}
use Rattle.fr_ask.specs.declared.last.Last.{Last}
use Rattle.fr_proxy.specs.Proxy.{ProxyState}
use Rattle.fr_proxy.specs.Sequencer.{last_of_sequencer}
use Rattle.fr_run.specs.Config.{Config}
use Rattle.fr_run.specs.Turn.{Turn}
use Rattle.fr_run.specs.Nodes.{cell_at, rec_at, logs_at, log_at, is_there, is_open, seq_at, proxy_at, storage_at}
use Rattle.fr_run.specs.Last.{last_of_proxy, last_of_recoverer, last_of_storage}

-- a proxy, if it is there
abbrev pub proxy_if_there : Config → List Turn → ℕ → ℕ → Option ProxyState
proxy_if_there c h e p = if is_there c h (node.Proxy e p) then Some (proxy_at c h e p) else None

-- the last state of a node, if it is there
abbrev pub last_at : Config → List Turn → NodeId → Option Last
last_at c h (node.Cell i) = if nat_lt i c.cells then Some (last_of_cell (cell_at c h i)) else None
last_at c h (node.Log e i) = if nat_lt i (logs_at c h e) then Some (last_of_log (log_at c h e i)) else None
last_at c h (node.Sequencer e) = if is_open c h e then Some (last_of_sequencer (seq_at c h e)) else None
last_at c h (node.Proxy e p) = option_map last_of_proxy (proxy_if_there c h e p)
last_at c h (node.Recoverer b) = option_map last_of_recoverer (rec_at c h b)
last_at c h (node.Storage tag) = if nat_lt tag (length c.begins) then Some (last_of_storage (storage_at c h tag)) else None
