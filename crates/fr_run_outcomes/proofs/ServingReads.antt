-- What a storage server answers to a read at a version that is settled.
use Rattle.std.proofs.Common.{◌≡◌, ℕ, ◌≤◌, Bool, true, false, cond, nat_lt, not, List, ◌++◌, Option, None, Some, refl, sym, ◌∙◌, ap}
use Rattle.std.specs.FinMap.{get, get-retain_keys}
use Rattle.std.proofs.lemmas.Bool.{le-ltb}
use Rattle.fr_base.specs.Bytes.{bytes_exact}
use Rattle.fr_base.specs.Map.{Map}
use Rattle.fr_mutation.specs.declared.shard.Shard.{Shard}
use Rattle.fr_mutation.specs.Shard.{in_shard}
use Rattle.fr_tags.specs.Shards.{shard_at}
use Rattle.fr_undo.proofs.UndoLemmas.{get-contents_undone}
use Rattle.fr_storage.specs.declared.fault.ReadFault.{ReadFault}
use Rattle.fr_storage.specs.declared.fault.ReadFault.TheVariants.{NotMine, TooOld, FutureVersion}
use Rattle.fr_storage.specs.Reads.{read_fault}
use Rattle.fr_run.specs.Config.{Config}
use Rattle.fr_run.specs.Nodes.{storage_at}
use Rattle.fr_run_headline.specs.Issued.{committed}
use Rattle.fr_run_headline.specs.IssuedLaws.{through}
use Rattle.fr_run_headline.specs.Committed.{map_after, shard_of, LatestIsThere}
use Rattle.fr_run_outcomes.specs.Snapshots.{SettledIsSnapshot, SettledStays, SnapshotStays}
use Rattle.fr_run_outcomes.specs.Reads.{ReadIsCommitted, ReadStays}

-- a shard of a map has at its keys what the map has
at_shard : (c : Config) (tag : ℕ) (m : Map) (key : List ℕ) → in_shard (shard_at c.begins tag) key ≡ true → get (shard_of c tag m) key ≡ get m key
at_shard c tag m key inside =
    let own = in_shard (shard_at c.begins tag) in
    get-retain_keys m own key (λ x tie. ap own (sym (bytes_exact key x tie))) ∙ ap (λ b. cond b (get m key) None) inside

-- a read of a key of the shard, from the floor through the version applied, is not refused
not_refused : (shard : Shard) (floor applied version : ℕ) (key : List ℕ) → in_shard shard key ≡ true → floor ≤ version → version ≤ applied → read_fault shard floor applied key version ≡ None
not_refused shard floor applied version key inside low high =
    ap (λ b. cond (not b) (Some NotMine) (cond (nat_lt version floor) (Some TooOld) (cond (nat_lt applied version) (Some FutureVersion) None))) inside
    ∙ ap (λ b. cond b (Some TooOld) (cond (nat_lt applied version) (Some FutureVersion) None)) (le-ltb version floor low)
    ∙ ap (λ b. cond {A = Option ReadFault} b (Some FutureVersion) None) (le-ltb applied version high)

-- and one that is not refused is of a key of the shard
not_refused_inside : (shard : Shard) (floor applied version : ℕ) (key : List ℕ) → read_fault shard floor applied key version ≡ None → in_shard shard key ≡ true
not_refused_inside shard floor applied version key taken = go (in_shard shard key) taken
  where
    go : (b : Bool) → cond (not b) (Some NotMine) (cond (nat_lt version floor) (Some TooOld) (cond (nat_lt applied version) (Some FutureVersion) None)) ≡ None → b ≡ true
    go true e = refl
    go false e = absurd (cc)

pub read_is_committed : SettledIsSnapshot → ReadIsCommitted
read_is_committed snapshot c h config run latest is tag version settled key inside = record {
  taken = not_refused (shard_at c.begins tag) (storage_at c h tag).store.floor (storage_at c h tag).store.applied version key inside settled.floor settled.applied;
  has = (snapshot c h config run latest is tag version settled).values key ∙ at_shard c tag (map_after (through version (committed c h latest))) key inside;
}

pub read_stays : SettledStays → SnapshotStays → LatestIsThere → ReadStays
read_stays stays same there c h more config run tag version latest is settled floor key value answers =
    let was = (storage_at c h tag).store in
    let now = (storage_at c (more ++ h) tag).store in
    let later = there c (more ++ h) run in
    let still = stays c h more config run latest later.0 is later.1 tag version settled floor in
    let inside = not_refused_inside (shard_at c.begins tag) was.floor was.applied version key answers.taken in
    record {
      taken = not_refused (shard_at c.begins tag) now.floor now.applied version key inside still.floor still.applied;
      has =
          sym (get-contents_undone now version key)
          ∙ ap (λ m. get m key) (same c h more config run tag version latest is settled floor)
          ∙ get-contents_undone was version key
          ∙ answers.has;
    }
