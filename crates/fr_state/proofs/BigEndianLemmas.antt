-- A number that is written is read again, and bytes that are read are written again.
use Rattle.std.proofs.Common.{◌≡◌, ℕ, ◌+◌, ◌<◌, ◌≤◌, ◌^◌, List, ◌++◌, length, take, drop, get_or, refl, ap, ◌∙◌, inl, inr, arith}
use Rattle.std.specs.Int.{Width, w16, w32, w64, byte_len, from_be_bytes, to_be_bytes}
use Rattle.std.proofs.lemmas.Bool.{cases_lt}
use Rattle.std.proofs.lemmas.List.{take_at, length-take, length-drop, get_or_past}
use Rattle.std.proofs.lemmas.List.Elements.{All-take, All-drop}
use Rattle.std.proofs.lemmas.Nat.{be_bytes_2, be_bytes_4, be_bytes_8, from_be_bytes-to_be_bytes_2, from_be_bytes-to_be_bytes_4, from_be_bytes-to_be_bytes_8}
use Rattle.fr_state.specs.BigEndian.{AreBytes, number_at}

-- a byte at any place, or the 0 past the end
byte_of : (bytes : List ℕ) → AreBytes bytes → (i : ℕ) → get_or bytes i 0 < 256
byte_of bytes h i =
    elim (cases_lt i (length bytes)) [
      | inl within ↦ h i 0 within
      | inr past ↦ rw (get_or_past bytes i 0 past) (omega arith)
    ]

-- what each width has: how many bytes, and that both ways lead back
pub record IsWide (w : Width) (limit : ℕ) : Type 0 where
  pub back : (bytes : List ℕ) → length bytes ≡ byte_len w → ((i : ℕ) → get_or bytes i 0 < 256) → to_be_bytes w (from_be_bytes w bytes) ≡ bytes
  pub again : (n : ℕ) → n < limit → from_be_bytes w (to_be_bytes w n) ≡ n
  pub len : (n : ℕ) → length (to_be_bytes w n) ≡ byte_len w

pub wide16 : IsWide w16 (2 ^ 16)
wide16 = record { back = λ bytes len h. be_bytes_2 bytes _ len h refl; again = from_be_bytes-to_be_bytes_2; len = λ n. refl }

pub wide32 : IsWide w32 (2 ^ 32)
wide32 = record { back = λ bytes len h. be_bytes_4 bytes _ len h refl; again = from_be_bytes-to_be_bytes_4; len = λ n. refl }

pub wide64 : IsWide w64 (2 ^ 64)
wide64 = record { back = λ bytes len h. be_bytes_8 bytes _ len h refl; again = from_be_bytes-to_be_bytes_8; len = λ n. refl }

-- the bytes that were read as a number are those that it is written in
pub number_at-back : (w : Width) (limit : ℕ) → IsWide w limit → (at : ℕ) (bytes : List ℕ) → AreBytes bytes → at + byte_len w ≤ length bytes
    → to_be_bytes w (number_at w at bytes) ≡ take (byte_len w) (drop at bytes)
number_at-back w limit wide at bytes h within =
    wide.back (take (byte_len w) (drop at bytes)) (omega (arith, length-take (byte_len w) (drop at bytes), length-drop at bytes))
    (byte_of (take (byte_len w) (drop at bytes)) (All-take (λ b. b < 256) (byte_len w) (drop at bytes) (All-drop (λ b. b < 256) at bytes h)))

-- a number that was written is read again, whatever follows
pub number_at-again : (w : Width) (limit : ℕ) → IsWide w limit → (n : ℕ) (rest : List ℕ) → n < limit → number_at w 0 (to_be_bytes w n ++ rest) ≡ n
number_at-again w limit wide n rest lt = ap (from_be_bytes w) (take_at (to_be_bytes w n) rest (byte_len w) (wide.len n)) ∙ wide.again n lt
