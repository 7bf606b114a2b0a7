-- What a storage server asks in a turn.
use Rattle.std.specs.Prelude.{ℕ, ◌%◌, ◌==◌, ◌++◌, nat_lt, List, [], ◌∷◌, Option, None, Some, find, if◌then◌else◌}
use Rattle.fr_base.specs.declared.place.NodeId.{NodeId}
use Rattle.fr_base.specs.declared.place.NodeId.TheVariants as node
use Rattle.fr_ask.specs.declared.ask.Ask.{Ask}
use Rattle.fr_ask.specs.declared.ask.Ask.TheVariants as ask
use Rattle.fr_log.specs.declared.ask.LogAsk.{LogAsk}
use Rattle.fr_state.specs.Generations.{LogGeneration, last_of}
use Rattle.fr_storage.specs.Server.{Server}
use Rattle.fr_storage.specs.Storage.{ask_after, mark_ask, pop_ask}
use Rattle.fr_run.specs.Pulls.{holder}
use Rattle.fr_node.specs.declared.turn.Newest.{Newest}

-- the ask for records, of a generation that is known
abbrev pub peek_asks : Option LogGeneration → ℕ → ℕ → LogAsk → List (NodeId × Ask)
peek_asks None tag turn asked = []
peek_asks (Some g) tag turn asked = (holder g tag turn, ask.Log asked) ∷ []

-- the ask for the mark of the newest epoch, if that is known and has logs, of the next one in each turn
abbrev pub mark_asks : Option Newest → ℕ → List (NodeId × Ask)
mark_asks None turn = []
mark_asks (Some n) turn = if nat_lt 0 n.logs then (node.Log n.epoch (turn % n.logs), ask.Log (mark_ask n.epoch)) ∷ [] else []

-- the ask to let go of what is there for good, of its own generation
abbrev pub pop_asks : Option LogGeneration → ℕ → ℕ → ℕ → List (NodeId × Ask)
pop_asks None tag turn floor = []
pop_asks (Some g) tag turn floor = (holder g tag turn, ask.Log (pop_ask g.epoch tag floor)) ∷ []

-- all of them, of a storage server
abbrev pub asks_of : {S : Type 0} → Server S → ℕ → Option Newest → List (NodeId × Ask)
asks_of s turn newest =
    let next = ask_after s.state.gens s.tag s.applied in
    (peek_asks (find (λ g. g.epoch == next.0) s.state.gens) s.tag turn next.1 ++ mark_asks newest turn) ++ pop_asks (last_of s.state.gens) s.tag turn s.floor
