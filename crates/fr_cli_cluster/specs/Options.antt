-- Which numbers a cluster can have.
use Rattle.std.specs.Prelude.{◌≡◌, ◌⊎◌, ◌≤◌, ◌%◌}
use Rattle.fr_cli_cluster.specs.declared.options.ClusterWords.{ClusterWords}

-- an odd number of coordinators up to 9, and 1 <= degree <= logs <= 16
pub record HasNodes (w : ClusterWords) : Type 0 where
  pub odd : w.coordinators % 2 ≡ 1
  pub cells : w.coordinators ≤ 9
  pub k_low : 1 ≤ w.degree
  pub k_high : w.degree ≤ w.logs
  pub m_high : w.logs ≤ 16

-- 1 to 32 storage servers, and 1 to 16 proxies
pub record HasClients (w : ClusterWords) : Type 0 where
  pub storages_some : 1 ≤ w.storages
  pub storages_few : w.storages ≤ 32
  pub proxies_some : 1 ≤ w.proxies
  pub proxies_few : w.proxies ≤ 16

-- at most 1,000,000 batches of a workload, 100 recoveries, and 1 to 1,000,000 turns
pub record HasTime (w : ClusterWords) : Type 0 where
  pub batches : w.batches ≤ 1000000
  pub recoveries : w.recoveries ≤ 100
  pub turns_some : 1 ≤ w.turns
  pub turns_few : w.turns ≤ 1000000

-- at most 256 of 256 draws are a fault, and no call is refused, or one of 16 or more
pub record HasStorm (w : ClusterWords) : Type 0 where
  pub storm : w.storm ≤ 256
  pub late : w.late ≤ 256
  pub crash : w.crash ≤ 256
  pub lose : w.lose ≤ 256
  pub refuse : (w.refuse ≡ 0) ⊎ (16 ≤ w.refuse)

-- each seed is one
pub record IsWithin (w : ClusterWords) : Type 0 where
  pub nodes : HasNodes w
  pub clients : HasClients w
  pub time : HasTime w
  pub storm : HasStorm w
