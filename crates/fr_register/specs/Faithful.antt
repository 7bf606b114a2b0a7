-- What a tally keeps with each tell that it hears, if those of its own ask were told to it.
use Rattle.std.specs.Prelude.{◌≡◌, ℕ, ◌<◌, ◌≤◌, ◌⊎◌, nat_eq, List, length, All, Contains}
use Rattle.std.specs.List.{IsDistinct}
use Rattle.fr_register.specs.Poll.{Stamped, Poll, ReadState, WriteState}
use Rattle.fr_register.specs.History.{Turn, promise_turn, written_turn}

-- the cells that a poll over n cells heard are cells, and are heard once
pub record IsPollOf (n : ℕ) (p : Poll) : Type 0 where
  pub size : p.cells ≡ n
  pub distinct : IsDistinct nat_eq p.heard
  pub below : All (λ i. i < n) p.heard

-- a read tally of ballot b over n cells: each cell that it heard promised the ballot with a pair that is not above the
-- greatest one, and some cell promised it with that one
pub record IsFaithfulRead (n : ℕ) (turns : List Turn) (b : ℕ) (t : ReadState) : Type 0 where
  pub own : t.ballot ≡ b
  pub poll : IsPollOf n t.poll
  pub each : All (λ i. (q : Stamped) × Contains turns (promise_turn i b q) × (q.ballot ≤ t.greatest.ballot)) t.poll.heard
  pub top : (length t.poll.heard ≡ 0) ⊎ ((i : ℕ) × Contains turns (promise_turn i b t.greatest))
  pub low : length t.poll.heard ≡ 0 → t.greatest.ballot ≡ 0

-- a write tally of a pair over n cells: each cell that it heard took the pair
pub record IsFaithfulWrite (n : ℕ) (turns : List Turn) (p : Stamped) (t : WriteState) : Type 0 where
  pub own : t.ballot ≡ p.ballot
  pub poll : IsPollOf n t.poll
  pub each : All (λ i. Contains turns (written_turn i p)) t.poll.heard
