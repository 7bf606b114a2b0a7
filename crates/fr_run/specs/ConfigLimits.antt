-- The limits of a config, and which of them is the first that numbers break.
use Rattle.std.specs.Prelude.{◌≡◌, ◌≤◌, ℕ, ◌==◌, ◌||◌, nat_lt, ◌%◌, List, Option, None, Some, is_some, if◌then◌else◌}
use Rattle.fr_tags.specs.Shards.{shard_fault}
use Rattle.fr_run.specs.Config.{Config}
use Rattle.fr_run.specs.declared.config_fault.ConfigFault.{ConfigFault}
use Rattle.fr_run.specs.declared.config_fault.ConfigFault.TheVariants.{Coordinators, Logs, Shards, Proxies}

abbrev pub config_of : ℕ → ℕ → ℕ → List (List ℕ) → ℕ → Config
config_of coordinators logs degree begins proxies = record { cells = coordinators; m = logs; k = degree; begins = begins; proxies = proxies }

-- an odd number of coordinators up to 9; 1 <= k <= m <= 16; begins that cut the keys into shards; 1 to 16 proxies
abbrev pub config_fault : Config → Option ConfigFault
config_fault c =
    if (c.cells % 2 == 0) || nat_lt 9 c.cells then Some Coordinators
    else if ((c.k == 0) || nat_lt c.m c.k) || nat_lt 16 c.m then Some Logs
    else if is_some (shard_fault c.begins) then Some Shards
    else if (c.proxies == 0) || nat_lt 16 c.proxies then Some Proxies
    else None

-- the limits as sentences
pub record IsWithin (c : Config) : Type 0 where
  pub none : config_fault c ≡ None
  pub shards : shard_fault c.begins ≡ None
  pub k_low : 1 ≤ c.k
  pub k_high : c.k ≤ c.m
  pub m_high : c.m ≤ 16
  pub cells_some : 1 ≤ c.cells
  pub cells_few : c.cells ≤ 9
  pub proxies_some : 1 ≤ c.proxies
  pub proxies_few : c.proxies ≤ 16
