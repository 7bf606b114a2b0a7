-- Which log of a generation a storage server asks in a turn.
use Rattle.std.specs.Prelude.{ℕ, ◌+◌, ◌%◌}
use Rattle.fr_base.specs.declared.place.NodeId.{NodeId}
use Rattle.fr_base.specs.declared.place.NodeId.TheVariants as node
use Rattle.fr_state.specs.Generations.{LogGeneration}

-- a log that holds a tag, the next one in each turn
abbrev pub holder : LogGeneration → ℕ → ℕ → NodeId
holder g tag turn = node.Log g.epoch ((tag + turn % g.k) % g.m)
