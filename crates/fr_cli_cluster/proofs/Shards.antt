-- The shards of a cluster are a shard map, so its words are a config.
use Rattle.std.proofs.Common.{◌≡◌, ◌≤◌, ◌<◌, ℕ, ◌+◌, ◌-◌, ◌*◌, zero, suc, Bool, true, false, not, ◌&&◌, List, [], ◌∷◌, is_some, None, Some, Option, inl, inr, refl, rules, arith}
use Rattle.std.proofs.lemmas.Bool.{and_parts, cases_lt}
use Rattle.fr_tags.specs.Shards.{shard_fault}
use Rattle.fr_tags.specs.declared.fault.ShardFault.{ShardFault}
use Rattle.fr_run.specs.ConfigLimits.{config_fault}
use Rattle.fr_run.specs.ConfigLimits as limits
use Rattle.fr_run.specs.declared.config_fault.ConfigFault.{ConfigFault}
use Rattle.fr_cli_cluster.specs.declared.options.ClusterWords.{ClusterWords}
use Rattle.fr_cli_cluster.specs.Options.{HasClients, HasNodes}
use Rattle.fr_cli_cluster.specs.Setting.{begins_after, begins_of, config_of}

abbrev fits : ℕ → Bool
fits n = not (is_some (shard_fault ([] ∷ begins_after n)))

abbrev all_fit : ℕ → Bool
all_fit zero = true
all_fit (suc n) = fits n && all_fit n

one_fits : (k n : ℕ) → n < k → all_fit k ≡ true → fits n ≡ true
one_fits zero n less e = absurd (omega (arith, less))
one_fits (suc k) n less e = elim (cases_lt n k) [
  | inl lower ↦ one_fits k n lower (and_parts (fits k) (all_fit k) e).1
  | inr upper ↦ let same : n ≡ k = omega (arith, less, upper) in rw same (and_parts (fits k) (all_fit k) e).0
]

none_of : (o : Option ShardFault) → not (is_some o) ≡ true → o ≡ None
none_of None e = refl
none_of (Some fault) e = cc

pub no_fault : (n : ℕ) → 1 ≤ n → n ≤ 32 → shard_fault (begins_of n) ≡ None
no_fault n some few = none_of (shard_fault (begins_of n)) (one_fits 32 (n - 1) (omega (arith, some, few)) refl)

pub fits_config : (w : ClusterWords) → HasNodes w → HasClients w → config_fault (config_of w) ≡ None
fits_config w nodes clients = search (rules, no_fault w.storages, arith)

pub no_config_fault : (w : ClusterWords) (begins : List (List ℕ)) (fault : ConfigFault) → HasNodes w → HasClients w → begins ≡ begins_of w.storages
    → config_fault (limits.config_of w.coordinators w.logs w.degree begins w.proxies) ≡ Some fault → ⊥
no_config_fault w begins fault nodes clients e f = let none = fits_config w nodes clients in cc
