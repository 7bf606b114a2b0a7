-- What is lost with lost logs: of a tag, at a version, nothing while one of the k logs that hold it at the version's source is up.
use Rattle.std.specs.Prelude.{◌≡◌, ◌<◌, ◌≤◌, ◌↔◌, ℕ, ◌-◌, true, List, length, Some, IsSome, Contains}
use Rattle.fr_base.specs.declared.place.NodeId.TheVariants as node
use Rattle.fr_state.specs.Generations.{LogGeneration}
use Rattle.fr_state.specs.LookUp.{source_of}
use Rattle.fr_tags.specs.Placement.{is_held}
use Rattle.fr_log.specs.Left.{popped_at}
use Rattle.fr_log.specs.LogState.{durable_of, records_of, swept}
use Rattle.fr_run.specs.Config.{Config}
use Rattle.fr_run.specs.Turn.{Turn, Gone}
use Rattle.fr_run.specs.Nodes.{logs_at, log_at, storage_at}
use Rattle.fr_run.specs.Run.{IsRun}
use Rattle.fr_run.specs.States.{state_of, IsLatest}
use Rattle.fr_run.specs.StateLaws.{IsConfig}
use Rattle.fr_run_headline.specs.Issued.{least_durable}
use Rattle.fr_run_headline.specs.Contents.{part_records}
use Rattle.fr_run_headline.specs.Retrievable.{records_at, IsRetrievable}

-- a log of a generation, lost or not, has a tag's part of a version: it is there and seeded, has come through the
-- version and has not let it go. What it has left of the tag at the version is exactly what the epoch issued
pub record HasVersion (c : Config) (h : List Turn) (e tag version : ℕ) (source : LogGeneration) (log : ℕ) : Type 0 where
  pub there : log < logs_at c h source.epoch
  pub seeded : IsSome (log_at c h source.epoch log).seed
  pub durable : version ≤ durable_of (log_at c h source.epoch log)
  pub left : popped_at (log_at c h source.epoch log).popped tag < version
  pub records : records_at version (records_of (swept (log_at c h source.epoch log)) tag) ≡ part_records c h e tag (version - 1) version

-- the source of a version, and each of the k logs that hold the tag there has the version, also one that is lost
pub record EachHolderHas (c : Config) (h : List Turn) (e tag version : ℕ) : Type 0 where
  pub source : LogGeneration
  pub is_source : source_of (state_of c h e).gens version ≡ Some source
  pub first : source.first ≤ version
  pub few : source.k ≤ source.m
  pub each : (log : ℕ) → log < source.m → is_held tag source.m source.k log ≡ true → HasVersion c h e tag version source log

-- so it is of each version of the committed list that is above the floor of the tag's storage server, however many logs are lost
abbrev pub HoldersHaveCommitted : Type 0
HoldersHaveCommitted =
    (c : Config) (h : List Turn) → IsConfig c → IsRun c h → (latest : ℕ) → IsLatest c h latest → (tag : ℕ) → tag < length c.begins
    → (version : ℕ) → (storage_at c h tag).store.floor < version → version ≤ least_durable c h latest → EachHolderHas c h latest tag version

-- one of the logs that hold a tag at the source of a version is not lost
pub record OneIsUp (c : Config) (h : List Turn) (e tag version : ℕ) : Type 0 where
  pub source : LogGeneration
  pub is_source : source_of (state_of c h e).gens version ≡ Some source
  pub log : ℕ
  pub below : log < source.m
  pub held : is_held tag source.m source.k log ≡ true
  pub up : Contains h (Gone (node.Log source.epoch log)) → ⊥

-- exactly then such a version can be retrieved
abbrev pub RetrievableIsExact : Type 0
RetrievableIsExact =
    (c : Config) (h : List Turn) → IsConfig c → IsRun c h → (latest : ℕ) → IsLatest c h latest → (tag : ℕ) → tag < length c.begins
    → (version : ℕ) → (storage_at c h tag).store.floor < version → version ≤ least_durable c h latest
    → IsRetrievable c h latest tag version ↔ OneIsUp c h latest tag version
