-- What a log of a run holds: the mark, and numbers of its epoch, in their order.
use Rattle.std.specs.Prelude.{◌≡◌, ◌≤◌, ℕ, ◌+◌, true, List, [], Option, None, Some, IfSome, All, Contains}
use Rattle.fr_state.specs.Generations.{CoordinatedState}
use Rattle.fr_log.specs.Seed.{SeedContent}
use Rattle.fr_log.specs.Push.{PushContent}
use Rattle.fr_log.specs.LogState.{LogState, durable_of}
use Rattle.fr_run.specs.Config.{Config}
use Rattle.fr_run.specs.Turn.{Turn}
use Rattle.fr_run.specs.Nodes.{generation_at, mark_version, is_open}
use Rattle.fr_run_headline.specs.Numbers.{Numbering, numbers}

-- a push at a number
pub record IsAt (q : PushContent) (n : Numbering) : Type 0 where
  pub prev : q.prev ≡ n.prev
  pub version : q.version ≡ n.version

-- a push without a mark is at a number of its epoch, and one with a mark at the epoch's mark
abbrev pub IsPlaced : Config → List Turn → ℕ → Option CoordinatedState → PushContent → Type 0
IsPlaced c h e None q = (n : Numbering) × Contains (numbers h e) n × IsAt q n
IsPlaced c h e (Some state) q = (q.version ≡ mark_version (generation_at c h e)) × (q.prev + 1 ≡ q.version)

-- a push of an epoch that is open
pub record IsOfEpoch (c : Config) (h : List Turn) (e : ℕ) (q : PushContent) : Type 0 where
  pub opened : is_open c h e ≡ true
  pub placed : IsPlaced c h e q.mark q

-- a seed of an epoch goes through the version before its mark
abbrev pub IsSeedOf : Config → List Turn → ℕ → SeedContent → Type 0
IsSeedOf c h e s = s.seeded_to + 1 ≡ mark_version (generation_at c h e)

-- a log has a push at a number
pub record HoldsAt (l : LogState) (n : Numbering) : Type 0 where
  pub push : PushContent
  pub held : Contains l.pushes push
  pub at : IsAt push n

-- a log of an epoch: empty before its seed, it holds pushes of the epoch alone, and each number through its durable version
pub record IsLogOf (c : Config) (h : List Turn) (e : ℕ) (l : LogState) : Type 0 where
  pub unseeded : l.seed ≡ None → l.pushes ≡ []
  pub seeded : IfSome l.seed (IsSeedOf c h e)
  pub each : All (IsOfEpoch c h e) l.pushes
  pub whole : (n : Numbering) → Contains (numbers h e) n → n.version ≤ durable_of l → HoldsAt l n
