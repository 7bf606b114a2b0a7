-- Reads at a version: by the definitions of `Storage::read` the answer at a version that is settled is what is committed there, then and later.
use Rattle.std.specs.Prelude.{◌≡◌, ◌≤◌, ℕ, true, List, ◌++◌, Option, None}
use Rattle.std.specs.FinMap.{get}
use Rattle.fr_mutation.specs.Shard.{in_shard}
use Rattle.fr_tags.specs.Shards.{shard_at}
use Rattle.fr_undo.specs.Undo.{value_undone}
use Rattle.fr_storage.specs.Reads.{read_fault}
use Rattle.fr_run.specs.Config.{Config}
use Rattle.fr_run.specs.Turn.{Turn}
use Rattle.fr_run.specs.Nodes.{storage_at}
use Rattle.fr_run.specs.Run.{IsRun}
use Rattle.fr_run.specs.States.{IsLatest}
use Rattle.fr_run.specs.StateLaws.{IsConfig}
use Rattle.fr_run_headline.specs.Issued.{least_durable, committed}
use Rattle.fr_run_headline.specs.IssuedLaws.{through}
use Rattle.fr_run_headline.specs.Committed.{map_after}
use Rattle.fr_run_outcomes.specs.Snapshots.{IsSettledAt}

-- what the storage server of a tag answers, after a run, to a read of a key at a version: it does not refuse it, and once all that is above is undone the key has this value, or none
pub record Answers (c : Config) (h : List Turn) (tag version : ℕ) (key : List ℕ) (value : Option (List ℕ)) : Type 0 where
  pub taken : read_fault (shard_at c.begins tag) (storage_at c h tag).store.floor (storage_at c h tag).store.applied key version ≡ None
  pub has : value_undone (storage_at c h tag).store version key ≡ value

-- at a version that is settled the answer, for a key of the tag's shard, is what the committed map at that version has
abbrev pub ReadIsCommitted : Type 0
ReadIsCommitted =
    (c : Config) (h : List Turn) → IsConfig c → IsRun c h → (latest : ℕ) → IsLatest c h latest → (tag version : ℕ) → IsSettledAt c h latest tag version
    → (key : List ℕ) → in_shard (shard_at c.begins tag) key ≡ true → Answers c h tag version key (get (map_after (through version (committed c h latest))) key)

-- an answer at such a version is the answer at each later moment too, until the floor passes the version
abbrev pub ReadStays : Type 0
ReadStays =
    (c : Config) (h more : List Turn) → IsConfig c → IsRun c (more ++ h) → (tag version latest : ℕ) → IsLatest c h latest
    → IsSettledAt c h latest tag version → (storage_at c (more ++ h) tag).store.floor ≤ version
    → (key : List ℕ) (value : Option (List ℕ)) → Answers c h tag version key value → Answers c (more ++ h) tag version key value

-- and what is committed through a version is the same at each later moment
abbrev pub CommittedStays : Type 0
CommittedStays =
    (c : Config) (h more : List Turn) → IsConfig c → IsRun c (more ++ h) → (latest later version : ℕ) → IsLatest c h latest → IsLatest c (more ++ h) later
    → version ≤ least_durable c h latest → through version (committed c (more ++ h) later) ≡ through version (committed c h latest)
