-- What a crash leaves while bytes are put behind a gate, which is then opened.
use Rattle.std.specs.Prelude.{◌≡◌, ◌⊎◌, ℕ, ◌+◌, ◌<◌, List, ◌++◌, length, take, drop}
use Rattle.fr_segment.specs.File.{IsClosedAt}

-- the same bytes before the place and in the gate's two bytes
abbrev pub IsBehindGate : List ℕ → ℕ → List ℕ → Type 0
IsBehindGate old gate left = take (gate + 2) left ≡ take (gate + 2) old

-- the same bytes before the place, some two bytes at it, and the new bytes behind
pub record IsAtGate (old : List ℕ) (gate : ℕ) (two new left : List ℕ) : Type 0 where
  pub front : take gate left ≡ take gate old
  pub two_long : length two ≡ 2
  pub at : take (2 + length new) (drop gate left) ≡ two ++ new

-- the one or the other
abbrev pub IsPut : List ℕ → ℕ → List ℕ → List ℕ → Type 0
IsPut old gate new left = IsBehindGate old gate left ⊎ ((two : List ℕ) × IsAtGate old gate two new left)

-- the same bytes before a gate and behind it
pub record IsElsewhere (old : List ℕ) (gate : ℕ) (left : List ℕ) : Type 0 where
  pub front : take gate left ≡ take gate old
  pub end : drop (gate + 2) left ≡ drop (gate + 2) old

-- While a first gate is closed: some two bytes at it, and the same bytes behind. A gate that was closed stays as it is.
pub record IsClosing (old left : List ℕ) : Type 0 where
  pub long : 1 < length left
  pub end : drop 2 left ≡ drop 2 old
  pub closed : IsClosedAt old 0 → left ≡ old

-- while a file is begun anew: its first gate is being closed, or is closed, or the new bytes are behind it
abbrev pub IsRenewed : List ℕ → List ℕ → List ℕ → Type 0
IsRenewed old new left = IsClosing old left ⊎ ((1 < length left) × IsClosedAt left 0) ⊎ ((1 < length left) × (take (length new) (drop 2 left) ≡ new))
