-- What the bytes of a record file stand for.
use Rattle.std.specs.Prelude.{◌≡◌, ◌⊎◌, ℕ, ◌+◌, ◌<◌, ◌^◌, false, ◌==◌, List, [], ◌∷◌, ◌++◌, length, get_or, take, drop, All}
use Rattle.std.specs.Int.{w32, to_be_bytes}

-- frames: for each record an open gate, its length and its bytes
abbrev pub frames : List (List ℕ) → List ℕ
frames [] = []
frames (r ∷ rs) = 1 ∷ (to_be_bytes w32 (length r) ++ (r ++ frames rs))

-- each record has a length that four bytes spell
abbrev pub AreShort : List (List ℕ) → Type 0
AreShort rs = All (λ r. length r < 2 ^ 32) rs

-- a file stands for records: their frames, a gate that is not open, and anything
pub record StandsFor (file : List ℕ) (records : List (List ℕ)) : Type 0 where
  pub gate : ℕ
  pub rest : List ℕ
  pub closed : (gate == 1) ≡ false
  pub split : file ≡ frames records ++ gate ∷ rest
  pub short : AreShort records

-- what is written behind the closed gate: the group's frames without their first gate, and a closed gate
abbrev pub behind : List (List ℕ) → List ℕ
behind [] = []
behind (r ∷ rs) = to_be_bytes w32 (length r) ++ (r ++ (frames rs ++ 0 ∷ []))

-- What a crash leaves while a group is in flight: the frames before it, and then a closed gate and anything, or
-- some byte and the whole group behind it. A gate that is torn while it is opened or closed stands before the whole group.
pub record IsLeft (before group : List (List ℕ)) (file : List ℕ) : Type 0 where
  pub long : length (frames before) < length file
  pub front : take (length (frames before)) file ≡ frames before
  pub gate : (get_or file (length (frames before)) 1 ≡ 0) ⊎ (take (length (behind group)) (drop (length (frames before) + 1) file) ≡ behind group)

-- a file that begins with the frames of records and goes on behind them
pub record IsFront (records : List (List ℕ)) (file : List ℕ) : Type 0 where
  pub short : AreShort records
  pub long : length (frames records) < length file
  pub front : take (length (frames records)) file ≡ frames records

-- a file at rest, with no group in flight: the frames of the records, the gate 00, and anything
pub record IsAtRest (records : List (List ℕ)) (file : List ℕ) : Type 0 where
  pub rest : List ℕ
  pub split : file ≡ frames records ++ 0 ∷ rest
  pub short : AreShort records
