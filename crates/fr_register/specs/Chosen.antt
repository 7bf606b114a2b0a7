-- What a majority of the cells holds, what a majority promised, and which pair descends from which.
use Rattle.std.specs.Prelude.{◌≡◌, ◌≢◌, ℕ, ◌*◌, ◌<◌, ◌≤◌, nat_eq, List, length, All, Contains, ◌⊎◌}
use Rattle.std.specs.List.{IsDistinct}
use Rattle.fr_register.specs.CellState.{CellState}
use Rattle.fr_register.specs.Cell.{IsWithinPromise}
use Rattle.fr_register.specs.Poll.{Stamped}
use Rattle.fr_register.specs.History.{Turn, IsHistory, IsWritten, promise_turn, written_turn, start_of}

-- a cell can have this pair: it began with it, or took it
abbrev pub IsHeldBy : CellState → List Turn → ℕ → Stamped → Type 0
IsHeldBy first turns i p = (p ≡ start_of first) ⊎ Contains turns (written_turn i p)

-- a cell's state against the turns: it has the greatest pair that it took, and never promised above its promise
pub record IsCellOf (first : CellState) (turns : List Turn) (i : ℕ) (c : CellState) : Type 0 where
  pub within : IsWithinPromise c
  pub rises : first.written ≤ c.written
  pub holds : IsHeldBy first turns i (record { ballot = c.written; value = c.value })
  pub took : (p : Stamped) → Contains turns (written_turn i p) → p.ballot ≤ c.written
  pub promised : (b : ℕ) (p : Stamped) → Contains turns (promise_turn i b p) → b ≤ c.promised

-- what a promise of ballot b with the pair p is worth: the cell had p, and never takes a pair between p and b
pub record IsKept (first : CellState) (turns : List Turn) (i b : ℕ) (p : Stamped) : Type 0 where
  pub below : p.ballot ≤ b
  pub rises : first.written ≤ p.ballot
  pub holds : IsHeldBy first turns i p
  pub closed : (q : Stamped) → Contains turns (written_turn i q) → q.ballot < b → q.ballot ≤ p.ballot

-- more than half of n cells
pub record IsMajority (n : ℕ) (who : List ℕ) : Type 0 where
  pub distinct : IsDistinct nat_eq who
  pub below : All (λ i. i < n) who
  pub more : n < 2 * length who

-- a majority of the cells has answered Written to the write of this pair, at any moments
pub record IsWrittenByMajority (n : ℕ) (turns : List Turn) (p : Stamped) : Type 0 where
  pub who : List ℕ
  pub majority : IsMajority n who
  pub each : All (λ i. Contains turns (written_turn i p)) who

-- the start is chosen, and what a majority holds
abbrev pub IsChosen : ℕ → CellState → List Turn → Stamped → Type 0
IsChosen n first turns p = (p ≡ start_of first) ⊎ IsWrittenByMajority n turns p

-- a majority promised ballot b, none of it with a pair above this one, and some cell promised it with this one
pub record IsReadByMajority (n : ℕ) (turns : List Turn) (b : ℕ) (p : Stamped) : Type 0 where
  pub who : List ℕ
  pub majority : IsMajority n who
  pub each : All (λ i. (q : Stamped) × Contains turns (promise_turn i b q) × (q.ballot ≤ p.ballot)) who
  pub found : (i : ℕ) × Contains turns (promise_turn i b p)

-- a pair descends from itself, and a written pair from what its ballot's parent descends from
pub data Descends (turns : List Turn) (parent : ℕ → Stamped) : Stamped → Stamped → Type 0 where
  itself : {p : Stamped} → Descends turns parent p p
  by_parent : {p q : Stamped} → IsWritten turns p → Descends turns parent (parent p.ballot) q → Descends turns parent p q

-- ballot b may write over its parent: it is not the start's ballot, and the parent is the greatest pair of its read
-- majority, of a lower ballot
pub record IsReady (n : ℕ) (first : CellState) (turns : List Turn) (b : ℕ) (parent : Stamped) : Type 0 where
  pub unused : b ≢ first.written
  pub below : parent.ballot < b
  pub read : IsReadByMajority n turns b parent

-- each ballot that wrote has its parent: the turns are a history of cells, each ballot that wrote was ready with its parent,
-- and wrote one value
pub record HasParents (n : ℕ) (first : CellState) (parent : ℕ → Stamped) (turns : List Turn) : Type 0 where
  pub within : IsWithinPromise first
  pub history : IsHistory first turns
  pub ready : (p : Stamped) → IsWritten turns p → IsReady n first turns p.ballot (parent p.ballot)
  pub one_value : (p q : Stamped) → IsWritten turns p → IsWritten turns q → p.ballot ≡ q.ballot → p ≡ q
