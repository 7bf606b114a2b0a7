-- Which tells a proxy hears without memory.
use Rattle.std.specs.Prelude.{Bool, true, false}
use Rattle.fr_base.specs.declared.place.NodeId.{NodeId}
use Rattle.fr_ask.specs.declared.tell.Tell.{Tell}
use Rattle.fr_proxy.specs.Proxy.{ProxyState, Heeded, Ignored, Placed, HeldBy, HeldByAll, Cut, heeded}

abbrev pub asks_nothing : Heeded → Bool
asks_nothing Ignored = true
asks_nothing (Placed at) = false
asks_nothing (HeldBy log) = true
asks_nothing (HeldByAll version) = true
asks_nothing Cut = true

-- all but the number of the batch under way, at which the pushes are made
abbrev pub is_heard_in_place : ProxyState → NodeId → Tell → Bool
is_heard_in_place p from t = asks_nothing (heeded p from t)
