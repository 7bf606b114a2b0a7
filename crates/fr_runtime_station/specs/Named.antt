-- Which nodes are in a row of stations.
use Rattle.std.specs.Prelude.{ℕ, zero, suc, List, [], ◌∷◌, ◌++◌}
use Rattle.fr_base.specs.declared.place.NodeId.{NodeId}
use Rattle.fr_base.specs.declared.place.NodeId.TheVariants.{Cell, Log}

-- the nodes of the first so many numbers, in their order
abbrev pub named : (ℕ → NodeId) → ℕ → List NodeId
named node zero = []
named node (suc n) = named node n ++ (node n ∷ [])

-- the first so many cells
abbrev pub cells_named : ℕ → List NodeId
cells_named n = named (λ index. Cell index) n

-- the first so many logs of an epoch
abbrev pub logs_named : ℕ → ℕ → List NodeId
logs_named epoch n = named (λ index. Log epoch index) n
