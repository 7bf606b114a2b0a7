-- That the present state of its sender accounts for each ask that was ever sent.
use Rattle.std.specs.Prelude.{◌≡◌, ℕ, true, List, Some}
use Rattle.fr_base.specs.declared.place.NodeId.{NodeId}
use Rattle.fr_base.specs.declared.place.NodeId.TheVariants as node
use Rattle.fr_register.specs.declared.ask.CellAsk.TheVariants.{Read}
use Rattle.fr_ask.specs.declared.ask.Ask.{Ask}
use Rattle.fr_ask.specs.declared.ask.Ask.TheVariants as ask
use Rattle.fr_proxy.specs.Law as proxy
use Rattle.fr_epoch.specs.Recoverer.{RecState}
use Rattle.fr_epoch.specs.Law as rec
use Rattle.fr_run.specs.Config.{Config}
use Rattle.fr_run.specs.Turn.{Turn, Sent}
use Rattle.fr_run.specs.Nodes.{rec_at, is_open, proxy_at}
use Rattle.fr_run.specs.Run.{IsRun}

-- the present state of the sender accounts for an ask
abbrev pub SenderAccounts : Config → List Turn → NodeId → NodeId → Ask → Type 0
SenderAccounts c h (node.Cell i) to a = ⊥
SenderAccounts c h (node.Log e i) to a = ⊥
SenderAccounts c h (node.Sequencer e) to a = ⊥
SenderAccounts c h (node.Proxy e p) to a = (is_open c h e ≡ true) × proxy.AccountsFor (proxy_at c h e p) to a
SenderAccounts c h (node.Recoverer b) to a = (r : RecState) × (rec_at c h b ≡ Some r) × rec.AccountsFor r to a
SenderAccounts c h (node.Storage t) to a = ⊥

-- so it is for each ask that was ever sent
abbrev pub SentIsAccounted : Type 0
SentIsAccounted = (c : Config) (h : List Turn) → IsRun c h → (from to : NodeId) (a : Ask) → Sent h from to a → SenderAccounts c h from to a

-- each read that was sent is of the recoverer that sent it
abbrev pub ReadsAreOwn : Type 0
ReadsAreOwn = (c : Config) (h : List Turn) → IsRun c h → (from to : NodeId) (b : ℕ) → Sent h from to (ask.Cell (Read b)) → from ≡ node.Recoverer b
