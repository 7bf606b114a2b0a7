-- That the states of a run are within their limits, and those that are chosen one chain.
use Rattle.std.specs.Prelude.{◌≡◌, ◌+◌, ◌<◌, ◌≤◌, ℕ, length, drop, List, [], ◌∷◌, ◌++◌, Some}
use Rattle.fr_state.specs.Generations.{LogGeneration, IsCoordinatedState}
use Rattle.fr_state.specs.Spelling.{spelling}
use Rattle.fr_epoch.specs.Recoverer.{RecState, Parent, Plan}
use Rattle.fr_run.specs.Config.{Config}
use Rattle.fr_run.specs.Turn.{Turn}
use Rattle.fr_run.specs.Nodes.{rec_at}
use Rattle.fr_run.specs.Run.{IsRun}
use Rattle.fr_run.specs.States.{line_of, IsChosenEpoch}

-- the limits of a config: k and m of a generation
pub record IsConfig (c : Config) : Type 0 where
  pub k_low : 1 ≤ c.k
  pub k_high : c.k ≤ c.m
  pub m_high : c.m ≤ 16

-- one list of generations is the front of another
abbrev pub IsFrontOf : List LogGeneration → List LogGeneration → Type 0
IsFrontOf front gens = (rest : List LogGeneration) × (front ++ rest ≡ gens)

-- what a plan writes is what is left of its parent without some of the first generations, not all, and one generation more
pub record IsLeftAndMore (p : Parent) (q : Plan) : Type 0 where
  pub number : ℕ
  pub fewer : number < length p.state.gens
  pub is : q.state ≡ record { dropped = p.state.dropped + number; gens = drop number p.state.gens ++ q.generation ∷ [] }

-- a recoverer's states: its parent is spelled by the greatest pair that it was promised, and its plan has one generation more, perhaps
-- without some of the first ones
pub record HasStates (r : RecState) : Type 0 where
  pub parent : (p : Parent) → r.parent ≡ Some p → IsCoordinatedState p.state × (r.reads.greatest.value ≡ spelling p.state)
  pub plan : (q : Plan) → r.plan ≡ Some q → IsCoordinatedState q.state × ((p : Parent) × (r.parent ≡ Some p) × IsLeftAndMore p q)

abbrev pub RecoverersHaveStates : Type 0
RecoverersHaveStates = (c : Config) (h : List Turn) → IsConfig c → IsRun c h → (b : ℕ) (r : RecState) → rec_at c h b ≡ Some r → HasStates r

-- the line of a chosen epoch is the front of the line that each recoverer of a greater ballot goes on from
abbrev pub ChosenIsFront : Type 0
ChosenIsFront =
    (c : Config) (h : List Turn) → IsConfig c → IsRun c h → (a b : ℕ) (r : RecState) (p : Parent) → IsChosenEpoch c h a → rec_at c h b ≡ Some r → r.parent ≡ Some p → a < b
    → IsFrontOf (line_of c h a) (line_of c h p.last.epoch)
