-- How far the logs of an epoch have come.
use Rattle.std.specs.Prelude.{◌≡◌, ◌<◌, ◌≤◌, ◌⊎◌, ℕ, true, ◌-◌, List, [], ◌∷◌, Some, IsSome, All, Contains}
use Rattle.fr_state.specs.Generations.{LogGeneration, CoordinatedState}
use Rattle.fr_log.specs.Push.{PushContent}
use Rattle.fr_log.specs.LogState.{durable_of}
use Rattle.fr_log.specs.Seed.{SeedContent}
use Rattle.fr_run.specs.Config.{Config}
use Rattle.fr_run.specs.Turn.{Turn}
use Rattle.fr_run.specs.Nodes.{generation_at, is_open, logs_at, log_at}
use Rattle.fr_run.specs.States.{state_of}
use Rattle.fr_run_headline.specs.Numbers.{Numbering, numbers}

-- a log that holds a push of this version
pub record HasPushAt (c : Config) (h : List Turn) (e i version : ℕ) : Type 0 where
  pub there : i < logs_at c h e
  pub push : PushContent
  pub held : Contains (log_at c h e i).pushes push
  pub at : push.version ≡ version

-- a log that is seeded and holds all through this version
pub record HasReached (c : Config) (h : List Turn) (e i version : ℕ) : Type 0 where
  pub there : i < logs_at c h e
  pub seeded : IsSome (log_at c h e i).seed
  pub durable : version ≤ durable_of (log_at c h e i)

-- each log of an epoch of this generation has reached a version
abbrev pub AllReach : Config → List Turn → ℕ → LogGeneration → ℕ → Type 0
AllReach c h e g version = (i : ℕ) → i < g.m → HasReached c h e i version

-- a version that each log of an epoch has reached, or that is below the epoch's first one
pub record IsBelow (c : Config) (h : List Turn) (e version : ℕ) : Type 0 where
  pub generation : LogGeneration
  pub at : generation_at c h e ≡ Some generation
  pub below : (version ≤ generation.first - 1) ⊎ AllReach c h e generation version

-- a version that was acknowledged is a number of an open epoch, and each log of the epoch has reached it
pub record IsSafe (c : Config) (h : List Turn) (e v : ℕ) : Type 0 where
  pub opened : is_open c h e ≡ true
  pub number : Numbering
  pub given : Contains (numbers h e) number
  pub at : number.version ≡ v
  pub generation : LogGeneration
  pub of : generation_at c h e ≡ Some generation
  pub reached : AllReach c h e generation v

-- a seed is at the ends of its epoch's generation
pub record IsSeedAt (c : Config) (h : List Turn) (e : ℕ) (s : SeedContent) : Type 0 where
  pub generation : LogGeneration
  pub of : generation_at c h e ≡ Some generation
  pub first : s.first ≡ generation.first
  pub seeded_to : s.seeded_to ≡ generation.seeded_to

-- what is below in a generation is not above what another one is seeded to
abbrev pub TakesOver : Config → List Turn → LogGeneration → LogGeneration → Type 0
TakesOver c h g next = (version : ℕ) → IsBelow c h g.epoch version → version ≤ next.seeded_to

-- each generation takes over what is below in those before it
abbrev pub AreTakenOver : Config → List Turn → List LogGeneration → Type 0
AreTakenOver c h [] = Unit {0}
AreTakenOver c h (g ∷ gens) = All (TakesOver c h g) gens × AreTakenOver c h gens

-- generations each of which is its ballot's, and takes over what is below in those before it
pub record IsLine (c : Config) (h : List Turn) (gens : List LogGeneration) : Type 0 where
  pub each : All (λ g. generation_at c h g.epoch ≡ Some g) gens
  pub over : AreTakenOver c h gens

-- a log that is there and seeded
pub record IsSeededLog (c : Config) (h : List Turn) (e i : ℕ) : Type 0 where
  pub there : i < logs_at c h e
  pub seeded : IsSome (log_at c h e i).seed

-- the state of an epoch that is open
pub record IsMarkOf (c : Config) (h : List Turn) (e : ℕ) (x : CoordinatedState) : Type 0 where
  pub opened : is_open c h e ≡ true
  pub state : x ≡ state_of c h e
