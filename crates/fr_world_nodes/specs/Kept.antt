-- A world as contracts see it: what it started from, and what happened.
use Rattle.std.specs.Prelude.{List, ◌∷◌}
use Rattle.fr_run.specs.Config.{Config}
use Rattle.fr_run.specs.Turn.{Turn}
use Rattle.fr_world_nodes.specs.declared.nodes.Nodes.{Nodes}
use Rattle.fr_world_nodes.specs.Parts.{IsWorld}

-- what it started from, and its turns, the newest first: by them each of its nodes is known
pub record WorldState : Type 0 where
  pub config : Config
  pub turns : List Turn

abbrev pub state_of : Nodes → WorldState
state_of a = record { config = a.config; turns = a.turns.turns }

-- the nodes that it keeps are those of what happened, which is a run
abbrev pub IsKept : Nodes → Type 0
IsKept a = IsWorld a.config a.turns.turns a.cells.items a.logs a.sequencers a.proxies a.recoverers a.storages.items

-- a turn more
abbrev pub with_turn : WorldState → Turn → WorldState
with_turn w t = record { config = w.config; turns = t ∷ w.turns }
