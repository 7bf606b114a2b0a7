-- The epochs that the state of an epoch goes back to, and what it takes over from them.
use Rattle.std.specs.Prelude.{◌≡◌, ◌<◌, ◌≤◌, ℕ, true, List, [], ◌∷◌, ◌++◌, Some, All, Contains}
use Rattle.fr_state.specs.Generations.{LogGeneration, AreOrdered, last_of}
use Rattle.fr_epoch.specs.EndTally.{is_covered, rv_of}
use Rattle.fr_epoch.specs.Recoverer.{RecState, Plan}
use Rattle.fr_run.specs.Config.{Config}
use Rattle.fr_run.specs.Turn.{Turn}
use Rattle.fr_run.specs.Nodes.{rec_at, generation_at}
use Rattle.fr_run.specs.Run.{IsRun}
use Rattle.fr_run.specs.Batches.{IsAcknowledged}
use Rattle.fr_run.specs.States.{line_of, IsChosenEpoch}
use Rattle.fr_run.specs.StateLaws.{IsConfig}
use Rattle.fr_run_headline.specs.Bounds.{IsBelow}
use Rattle.fr_run_headline.specs.LogLaws.{tally}
use Rattle.fr_run_headline.specs.BoundLaws.{IsHeldIn}
use Rattle.fr_run_headline.specs.SeededLaws.{IsSeededEpoch}

-- ---- generations

-- the line of an epoch: in order, each generation its own epoch's, the last one the epoch's
pub record HasGenerations (c : Config) (h : List Turn) (e : ℕ) (g : LogGeneration) : Type 0 where
  pub own : g.epoch ≡ e
  pub last : last_of (line_of c h e) ≡ Some g
  pub ordered : AreOrdered (line_of c h e)
  pub each : All (λ x. generation_at c h x.epoch ≡ Some x) (line_of c h e)

abbrev pub GenerationsAreOwn : Type 0
GenerationsAreOwn = (c : Config) (h : List Turn) → IsConfig c → IsRun c h → (e : ℕ) (g : LogGeneration) → generation_at c h e ≡ Some g → HasGenerations c h e g

-- the front of a line through any generation is the line of that one's epoch
abbrev pub FrontIsState : Type 0
FrontIsState =
    (c : Config) (h : List Turn) → IsConfig c → IsRun c h → (e : ℕ) (own : LogGeneration) → generation_at c h e ≡ Some own
    → (front : List LogGeneration) (g : LogGeneration) (rest : List LogGeneration) → line_of c h e ≡ front ++ g ∷ rest → line_of c h g.epoch ≡ front ++ g ∷ []

-- and the epoch of each but the last is seeded, chosen or not
abbrev pub BehindIsSeeded : Type 0
BehindIsSeeded =
    (c : Config) (h : List Turn) → IsConfig c → IsRun c h → (e : ℕ) (own : LogGeneration) → generation_at c h e ≡ Some own
    → (front : List LogGeneration) (g next : LogGeneration) (rest : List LogGeneration) → line_of c h e ≡ front ++ g ∷ next ∷ rest → IsSeededEpoch c h g.epoch

-- ---- what is taken over

-- what is below in one of them is held in each later one
abbrev pub BelowIsHeldBehind : Type 0
BelowIsHeldBehind =
    (c : Config) (h : List Turn) → IsConfig c → IsRun c h → (e : ℕ) (own : LogGeneration) → generation_at c h e ≡ Some own
    → (front : List LogGeneration) (g n : LogGeneration) (rest : List LogGeneration) → line_of c h e ≡ front ++ g ∷ rest → Contains rest n → (v : ℕ) → IsBelow c h g.epoch v → IsHeldIn c h n v

-- and is below in the epoch, if that is seeded
abbrev pub BelowStaysBelow : Type 0
BelowStaysBelow =
    (c : Config) (h : List Turn) → IsConfig c → IsRun c h → (e : ℕ) → IsSeededEpoch c h e
    → (g : LogGeneration) → Contains (line_of c h e) g → (v : ℕ) → IsBelow c h g.epoch v → IsBelow c h e v

-- so is what is below in a chosen epoch in each later one that is chosen
abbrev pub ChosenStaysBelow : Type 0
ChosenStaysBelow =
    (c : Config) (h : List Turn) → IsConfig c → IsRun c h → (a b : ℕ) → IsChosenEpoch c h a → IsChosenEpoch c h b → a ≤ b → (v : ℕ) → IsBelow c h a v → IsBelow c h b v

-- what was acknowledged in any epoch is taken over by each plan of a greater ballot
abbrev pub AcknowledgedIsKept : Type 0
AcknowledgedIsKept =
    (c : Config) (h : List Turn) → IsConfig c → IsRun c h → (b : ℕ) (r : RecState) (q : Plan) → rec_at c h b ≡ Some r → r.plan ≡ Some q → (e v : ℕ) → IsAcknowledged h e v → e < b → v ≤ q.generation.seeded_to

-- ---- what replies tell

-- each log that replied to a recoverer of a later ballot holds all through a version of an epoch
abbrev pub IsReplied : Config → List Turn → ℕ → ℕ → Type 0
IsReplied c h e v = (b : ℕ) (r : RecState) → rec_at c h b ≡ Some r → e < b → All (λ x. v ≤ x.durable) (tally r).replies

-- a version of an epoch is not above what each later epoch was seeded to, nor above the recovery version of each later recoverer whose replies cover: also of one
-- that they leave lost, which plans nothing
pub record IsTakenOver (c : Config) (h : List Turn) (e v : ℕ) : Type 0 where
  pub epochs : (x : ℕ) (g : LogGeneration) → generation_at c h x ≡ Some g → e < x → v ≤ g.seeded_to
  pub recoverers : (b : ℕ) (r : RecState) → rec_at c h b ≡ Some r → e < b → is_covered (tally r) ≡ true → v ≤ rv_of (tally r)

-- what is below in a generation of a chosen epoch each log that replies to a later recoverer holds, so it is taken over
abbrev pub BelowIsReplied : Type 0
BelowIsReplied =
    (c : Config) (h : List Turn) → IsConfig c → IsRun c h → (e : ℕ) → IsChosenEpoch c h e → (g : LogGeneration) → Contains (line_of c h e) g → (v : ℕ) → IsBelow c h g.epoch v → IsReplied c h e v

abbrev pub BelowIsRecovered : Type 0
BelowIsRecovered =
    (c : Config) (h : List Turn) → IsConfig c → IsRun c h → (e : ℕ) → IsChosenEpoch c h e → (g : LogGeneration) → Contains (line_of c h e) g → (v : ℕ) → IsBelow c h g.epoch v → IsTakenOver c h e v

-- so is what was acknowledged in any epoch
abbrev pub AcknowledgedIsReplied : Type 0
AcknowledgedIsReplied = (c : Config) (h : List Turn) → IsConfig c → IsRun c h → (e v : ℕ) → IsAcknowledged h e v → IsReplied c h e v

abbrev pub AcknowledgedIsRecovered : Type 0
AcknowledgedIsRecovered = (c : Config) (h : List Turn) → IsConfig c → IsRun c h → (e v : ℕ) → IsAcknowledged h e v → IsTakenOver c h e v
