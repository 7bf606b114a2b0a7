-- What bytes are read as: a state, or the first fault.
use Rattle.std.specs.Prelude.{ℕ, zero, suc, ◌+◌, ◌*◌, ◌^◌, Bool, ◌&&◌, nat_lt, nat_le, ◌==◌, List, [], ◌∷◌, length, drop, slice_index, Result, Ok, Err, if◌then◌else◌}
use Rattle.std.specs.List.{list_all}
use Rattle.std.specs.Int.{w64}
use Rattle.fr_state.specs.declared.fault.StateDecodeFault.{StateDecodeFault}
use Rattle.fr_state.specs.declared.fault.StateDecodeFault.TheVariants.{Short, BadForm, Trailing}
use Rattle.fr_state.specs.BigEndian.{number_at}
use Rattle.fr_state.specs.Generations.{LogGeneration, CoordinatedState, first_epoch_of}
use Rattle.fr_state.specs.Order.{is_ordered}

-- one step of reading after another: the first fault is the answer
infixl 10 ◌>>=◌
abbrev pub ◌>>=◌ : {A B : Type 0} → Result A StateDecodeFault → (A → Result B StateDecodeFault) → Result B StateDecodeFault
(Ok x) >>= f = f x
(Err fault) >>= f = Err fault

-- how many generations were dropped, which is some in format 2, and the bytes after that number
abbrev pub dropped_at : List ℕ → Result (ℕ × List ℕ) StateDecodeFault
dropped_at bytes =
    if nat_lt (length bytes) 8 then Err Short
    else (if number_at w64 0 bytes == 0 then Err BadForm else Ok (number_at w64 0 bytes, drop 8 bytes))

-- how many generations were dropped, by the format, and the bytes after that
abbrev pub start_at : List ℕ → Result (ℕ × List ℕ) StateDecodeFault
start_at [] = Err Short
start_at (format ∷ bytes) = if format == 1 then Ok (0, bytes) else (if format == 2 then dropped_at bytes else Err BadForm)

-- how many generations there are, and the bytes after that number
abbrev pub count_at : List ℕ → Result (ℕ × List ℕ) StateDecodeFault
count_at [] = Err Short
count_at (n ∷ bytes) = if nat_le 1 n && nat_le n 64 then Ok (n, bytes) else Err BadForm

-- the generation that the first 26 bytes spell, whether or not it is within its limits
unfoldable pub generation_at : List ℕ → LogGeneration
generation_at bytes = record {
  epoch = number_at w64 0 bytes;
  m = slice_index bytes 8;
  k = slice_index bytes 9;
  first = number_at w64 10 bytes;
  seeded_to = number_at w64 18 bytes;
}

-- the generations that the first n times 26 bytes spell
abbrev pub generations_at : ℕ → List ℕ → List LogGeneration
generations_at zero bytes = []
generations_at (suc n) bytes = generation_at bytes ∷ generations_at n (drop 26 bytes)

-- whether a generation is within its limits
unfoldable pub is_within : LogGeneration → Bool
is_within g =
    nat_le 256 g.epoch && nat_lt g.epoch (2 ^ 48) && (nat_le 1 g.k && nat_le g.k g.m && nat_le g.m 16)
    && (nat_le 1 g.first && nat_lt g.first (2 ^ 62) && nat_le g.first (g.seeded_to + 1) && nat_lt g.seeded_to (2 ^ 62))

-- whether generations are within their limits and in order
abbrev pub is_list : List LogGeneration → Bool
is_list gens = list_all is_within gens && is_ordered gens

-- whether they are, and fewer were dropped before them than the epoch of the first one says
abbrev pub are_left : ℕ → List LogGeneration → Bool
are_left dropped gens = is_list gens && nat_lt dropped (first_epoch_of gens)

-- the state of n generations that all of the bytes spell, after so many that were dropped
abbrev pub state_at : ℕ → ℕ → List ℕ → Result CoordinatedState StateDecodeFault
state_at dropped n bytes =
    if nat_lt (length bytes) (26 * n) then Err Short
    else (if are_left dropped (generations_at n bytes)
    then (if nat_lt (26 * n) (length bytes) then Err Trailing else Ok (record { dropped = dropped; gens = generations_at n bytes }))
    else Err BadForm)

-- all of the bytes
abbrev pub reading : List ℕ → Result CoordinatedState StateDecodeFault
reading bytes = do
  start ← start_at bytes
  count ← count_at start.1
  state_at start.0 count.0 count.1
