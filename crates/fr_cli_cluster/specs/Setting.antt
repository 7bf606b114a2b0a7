-- What a cluster starts from.
use Rattle.std.specs.Prelude.{ℕ, ◌+◌, ◌-◌, ◌*◌, ◌%◌, ◌^◌, List, [], ◌∷◌, ◌++◌, Option, slice_get, zero, suc}
use Rattle.fr_base.specs.Shape.{ShapeContent}
use Rattle.fr_run.specs.Config.{Config}
use Rattle.fr_runtime_storm.specs.declared.draws.Draws.{Draws}
use Rattle.fr_cli_cluster.specs.declared.options.ClusterWords.{ClusterWords}

-- the shard after the first ones begins at the byte 8 above the last
abbrev pub begins_after : ℕ → List (List ℕ)
begins_after zero = []
begins_after (suc n) = begins_after n ++ (((n + 1) * 8 ∷ []) ∷ [])

-- where the shards of so many storage servers begin: the first one at the empty key, shard i at the byte 8 i
abbrev pub begins_of : ℕ → List (List ℕ)
begins_of n = [] ∷ begins_after (n - 1)

-- the config of a cluster's words
abbrev pub config_of : ClusterWords → Config
config_of w = record { cells = w.coordinators; m = w.logs; k = w.degree; begins = begins_of w.storages; proxies = w.proxies }

-- the ballots of so many recoveries: that of recovery i, counted from 1, has the round i + 1, the recoverer number 1, and shape i of these, or none
abbrev pub ballots_of : List ShapeContent → ℕ → List (ℕ × Option ShapeContent)
ballots_of shapes zero = []
ballots_of shapes (suc n) = ballots_of shapes n ++ (((n + 2) * 256 + 1, slice_get shapes n) ∷ [])

-- what the faults of a cluster are drawn from
abbrev pub draws_of : ClusterWords → Draws
draws_of w = record { seed = w.seed; strength = w.storm; late = w.late; crashes = w.crash; losses = w.lose; coordinators = w.coordinators; logs = w.logs }

-- what seeds the generators of so many workloads in a storm of this seed, and over how many shards each of them draws
abbrev pub drawn_by : ℕ → ℕ → ℕ → List (ℕ × ℕ)
drawn_by seed shards zero = []
drawn_by seed shards (suc n) = drawn_by seed shards n ++ (((seed + n) % 2 ^ 64, shards) ∷ [])
