-- What a recoverer goes on from, and the line of its plan: that of the epoch that it ends, with one generation more.
use Rattle.std.specs.Prelude.{◌≡◌, ◌<◌, ◌≤◌, ◌⊎◌, ℕ, true, length, drop, All, List, [], ◌∷◌, ◌++◌, Some}
use Rattle.fr_state.specs.Generations.{LogGeneration, CoordinatedState, IsGeneration, AreOrdered, last_of}
use Rattle.fr_epoch.specs.Recoverer.{RecState, Parent, Plan, is_written}
use Rattle.fr_run.specs.Config.{Config, first_epoch, first_generation}
use Rattle.fr_run.specs.Turn.{Turn}
use Rattle.fr_run.specs.Nodes.{rec_at, generation_at}
use Rattle.fr_run.specs.Run.{IsRun}
use Rattle.fr_run.specs.States.{state_of, line_of, IsInLine}
use Rattle.fr_run.specs.StateLaws.{IsConfig}

-- what a recoverer took over is the state of the epoch that it ends, whose generation is the last
pub record IsOfParent (c : Config) (h : List Turn) (p : Parent) : Type 0 where
  pub state : state_of c h p.last.epoch ≡ p.state
  pub generation : generation_at c h p.last.epoch ≡ Some p.last
  pub last : last_of (line_of c h p.last.epoch) ≡ Some p.last

abbrev pub ParentIsOfEpoch : Type 0
ParentIsOfEpoch = (c : Config) (h : List Turn) → IsConfig c → IsRun c h → (b : ℕ) (r : RecState) (p : Parent) → rec_at c h b ≡ Some r → r.parent ≡ Some p → IsOfParent c h p

-- an epoch below a ballot was planned by its own, which might write it
pub record IsPlannedBelow (c : Config) (h : List Turn) (b e : ℕ) : Type 0 where
  pub below : e < b
  pub recoverer : RecState
  pub at : rec_at c h e ≡ Some recoverer
  pub plan : Plan
  pub planned : recoverer.plan ≡ Some plan
  pub written : is_written recoverer ≡ true

-- the epoch that a recoverer ends is the first, or such a one
abbrev pub ParentIsPlanned : Type 0
ParentIsPlanned =
    (c : Config) (h : List Turn) → IsConfig c → IsRun c h → (b : ℕ) (r : RecState) (p : Parent) → rec_at c h b ≡ Some r → r.parent ≡ Some p
    → (p.last.epoch ≡ first_epoch) ⊎ IsPlannedBelow c h b p.last.epoch

-- the line of a ballot that has a plan is that of the epoch that it ends, and then the plan's generation
abbrev pub LineOfPlan : Type 0
LineOfPlan =
    (c : Config) (h : List Turn) → IsConfig c → IsRun c h → (b : ℕ) (r : RecState) (p : Parent) (q : Plan) → rec_at c h b ≡ Some r → r.parent ≡ Some p → r.plan ≡ Some q
    → line_of c h b ≡ line_of c h p.last.epoch ++ q.generation ∷ []

-- the line of the first epoch is its generation alone
abbrev pub LineOfFirst : Type 0
LineOfFirst = (c : Config) (h : List Turn) → line_of c h first_epoch ≡ first_generation c ∷ []

-- a line stays, whatever comes after its epoch has a plan
abbrev pub LineLasts : Type 0
LineLasts =
    (c : Config) (t : Turn) (h : List Turn) → IsConfig c → IsRun c (t ∷ h) → (e : ℕ) (g : LogGeneration) → generation_at c h e ≡ Some g
    → line_of c (t ∷ h) e ≡ line_of c h e

-- a state is what is left of its epoch's line, without as many of the first generations as it dropped
pub record IsView (line : List LogGeneration) (s : CoordinatedState) : Type 0 where
  pub short : s.dropped < length line
  pub is : s.gens ≡ drop s.dropped line

abbrev pub StateIsView : Type 0
StateIsView =
    (c : Config) (h : List Turn) → IsConfig c → IsRun c h → (e : ℕ) (g : LogGeneration) → generation_at c h e ≡ Some g
    → IsView (line_of c h e) (state_of c h e)

-- the generations of a line are within their limits, and in order
abbrev pub LinesAreWithin : Type 0
LinesAreWithin =
    (c : Config) (h : List Turn) → IsConfig c → IsRun c h → (e : ℕ) (g : LogGeneration) → generation_at c h e ≡ Some g
    → All IsGeneration (line_of c h e) × AreOrdered (line_of c h e)

-- of two epochs of a line the later one's state dropped no fewer generations
abbrev pub DropsRise : Type 0
DropsRise =
    (c : Config) (h : List Turn) → IsConfig c → IsRun c h → (e d : ℕ) (g : LogGeneration) → generation_at c h e ≡ Some g → IsInLine c h e d
    → (state_of c h d).dropped ≤ (state_of c h e).dropped
