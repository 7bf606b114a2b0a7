-- Hex text read digit by digit from a table.
use Rattle.std.proofs.Common.{◌≡◌, ℕ, zero, suc, ◌+◌, ◌-◌, ◌*◌, ◌%◌, ◌<◌, ◌≤◌, ◌==◌, ◌⊎◌, ◌&&◌, ◌||◌, nat_lt, not, Bool, true, false, if◌then◌else◌, inl, inr, List, [], ◌∷◌, ◌++◌, length, take, drop, slice_index, Option, Some, None, option_map, Result, Ok, Err, refl, sym, ap, ◌∙◌, arith}
use Rattle.std.specs.List.{list_all}
use Rattle.std.proofs.lemmas.Bool.{and_parts, cases_lt, eqb-true}
use Rattle.std.proofs.lemmas.Bool.Decides.{nat_tests}
use Rattle.std.proofs.lemmas.List.{take_all}
use Rattle.hex.specs.Hex.{decode_pairs, hex_digit_value, ◌>>=◌}
use Rattle.hex.specs.declared.error.FromHexError.{FromHexError}
use Rattle.hex.specs.declared.error.FromHexError.TheVariants.{OddLength}
use Rattle.fr_cli_json.specs.Json.{is_lower_digit, ok_of, unhex}
use Rattle.fr_cli_json.specs.Hex.{digit_value}
use Rattle.fr_cli_json.proofs.JsonLemmas.{joined, joined-item}

-- ---- the table

abbrev pub all_agree : List ℕ → ℕ → Bool
all_agree t zero = true
all_agree t (suc n) = (slice_index t n == digit_value n) && all_agree t n

agree_at : (t : List ℕ) (n k : ℕ) → all_agree t n ≡ true → k < n → slice_index t k ≡ digit_value k
agree_at t zero k h lt = absurd (omega arith)
agree_at t (suc n) k h lt =
    let parts = and_parts (slice_index t n == digit_value n) (all_agree t n) h in
    elim (cases_lt k n) [
      | inl below ↦ agree_at t n k parts.1 below
      | inr top ↦
          let e : k ≡ n = omega arith in
          rw e (eqb-true (slice_index t n) (digit_value n) parts.0)
    ]

-- a table that agrees at each byte
pub table_agrees : (t : List ℕ) → all_agree t 256 ≡ true → (c : ℕ) → c < 256 → slice_index t c ≡ digit_value c
table_agrees t h c lt = agree_at t 256 c h lt

-- ---- the pairs

-- no digit
abbrev pub is_no_digit : ℕ → Bool
is_no_digit c = nat_lt 15 (digit_value c)

-- the bytes of pairs of digits
abbrev pub in_pairs : List ℕ → Option (List ℕ)
in_pairs [] = Some []
in_pairs (digit ∷ []) = None
in_pairs (high ∷ (low ∷ rest)) = if is_no_digit high || is_no_digit low then None else option_map (λ bytes. (digit_value high * 16 + digit_value low) ∷ bytes) (in_pairs rest)

is_digit : (c : ℕ) → is_no_digit c ≡ false → hex_digit_value c ≡ Some (digit_value c)
is_digit c h = grind (arith, nat_tests)

is_lower : (c : ℕ) (b : Bool) → is_no_digit c ≡ b → is_lower_digit c ≡ not b
is_lower c true h = grind (arith, nat_tests)
is_lower c false h = grind (arith, nat_tests)

none_either_way : (b : Bool) → (if b then ok_of {A = List ℕ} (Err OddLength) else None) ≡ None
none_either_way true = refl
none_either_way false = refl

one_byte_more : (b : Bool) (x : Result (List ℕ) FromHexError) (byte : ℕ) → (if b then ok_of (x >>= (λ bytes. Ok (byte ∷ bytes))) else None) ≡ option_map (λ bytes. byte ∷ bytes) (if b then ok_of x else None)
one_byte_more true (Ok bytes) byte = refl
one_byte_more true (Err e) byte = refl
one_byte_more false x byte = refl

abbrev from : ℕ → List ℕ → Option (List ℕ)
from i text = if list_all is_lower_digit text then ok_of (decode_pairs i text) else None

one_pair : (i high low : ℕ) (rest : List ℕ) (b d : Bool) → is_no_digit high ≡ b → is_no_digit low ≡ d → from (i + 2) rest ≡ in_pairs rest → from i (high ∷ (low ∷ rest)) ≡ in_pairs (high ∷ (low ∷ rest))
unfolding decode_pairs
one_pair i high low rest true d e f more = rw (is_lower high true e, e) refl
one_pair i high low rest false true e f more = rw (is_lower high false e, is_lower low true f, e, f) refl
one_pair i high low rest false false e f more =
    rw (is_lower high false e, is_lower low false f, is_digit high e, is_digit low f, e, f)
    (one_byte_more (list_all is_lower_digit rest) (decode_pairs (i + 2) rest) (digit_value high * 16 + digit_value low) ∙ ap (option_map (λ bytes. (digit_value high * 16 + digit_value low) ∷ bytes)) more)

pairs_from : (i : ℕ) (text : List ℕ) → from i text ≡ in_pairs text
unfolding decode_pairs
pairs_from i [] = refl
pairs_from i (digit ∷ []) = none_either_way (list_all is_lower_digit (digit ∷ []))
pairs_from i (high ∷ (low ∷ rest)) = one_pair i high low rest (is_no_digit high) (is_no_digit low) refl refl (pairs_from (i + 2) rest)

odd_step : (b : Bool) (byte : ℕ) (o : Option (List ℕ)) → o ≡ None → (if b then None else option_map (λ bytes. byte ∷ bytes) o) ≡ None
odd_step true byte o e = refl
odd_step false byte o e = rw e refl

odd_none : (text : List ℕ) → length text % 2 ≡ 1 → in_pairs text ≡ None
odd_none [] h = absurd (omega arith)
odd_none (digit ∷ []) h = refl
odd_none (high ∷ (low ∷ rest)) h =
    let less : length rest % 2 ≡ 1 = omega (arith, h) in
    odd_step (is_no_digit high || is_no_digit low) (digit_value high * 16 + digit_value low) (in_pairs rest) (odd_none rest less)

by_length : (text : List ℕ) (b : Bool) → (length text % 2 == 1) ≡ b → unhex text ≡ in_pairs text
by_length text true e = rw e (none_either_way (list_all is_lower_digit text) ∙ sym (odd_none text (eqb-true (length text % 2) 1 e)))
by_length text false e = rw e (pairs_from 0 text)

-- the table's reading is hex's, of lower case digits
pub unhex_pairs : (text : List ℕ) → in_pairs text ≡ unhex text
unhex_pairs text = sym (by_length text (length text % 2 == 1) refl)

-- ---- the loop

two_more : (xs : List ℕ) → 2 ≤ length xs → xs ≡ slice_index xs 0 ∷ (slice_index xs 1 ∷ take (length xs - 2) (drop 2 xs))
two_more [] h = absurd (omega arith)
two_more (a ∷ []) h = absurd (omega arith)
two_more (a ∷ (b ∷ rest)) h =
    let left : length (a ∷ (b ∷ rest)) - 2 ≡ length rest = omega arith in
    ap (λ xs. a ∷ (b ∷ xs)) (sym (take_all (length (a ∷ (b ∷ rest)) - 2) rest (omega arith)))

abbrev pair_step : ℕ → ℕ → Option (List ℕ) → Option (List ℕ)
pair_step high low o = if nat_lt 15 high || nat_lt 15 low then None else option_map (λ bytes. (high * 16 + low) ∷ bytes) o

-- what follows the first two
abbrev pub after_two : List ℕ → List ℕ
after_two xs = take (length xs - 2) (drop 2 xs)

module _ (front now : List ℕ) (high low : ℕ) (enough : 2 ≤ length now) (first : high ≡ digit_value (slice_index now 0)) (second : low ≡ digit_value (slice_index now 1)) where
  opened : joined front (in_pairs now) ≡ joined front (pair_step high low (in_pairs (after_two now)))
  opened = ap (λ xs. joined front (in_pairs xs)) (two_more now enough) ∙ ap (λ x. joined front (pair_step x (digit_value (slice_index now 1)) (in_pairs (after_two now)))) (sym first) ∙ ap (λ x. joined front (pair_step high x (in_pairs (after_two now)))) (sym second)

  pub one_pair_more : (all : Option (List ℕ)) (new : List ℕ) → high ≤ 15 → low ≤ 15 → new ≡ front ++ (high * 16 + low) ∷ [] → all ≡ joined front (in_pairs now) → all ≡ joined new (in_pairs (after_two now))
  one_pair_more all new h l e before =
      let a : nat_lt 15 high ≡ false = grind (arith, nat_tests) in
      let b : nat_lt 15 low ≡ false = grind (arith, nat_tests) in
      before ∙ opened ∙ rw (a, b, e) (joined-item front (high * 16 + low) (in_pairs (after_two now)))

  pub no_pair : (15 < high) ⊎ ((high ≤ 15) × (15 < low)) → joined front (in_pairs now) ≡ None
  no_pair (inl h) =
      let a : nat_lt 15 high ≡ true = grind (arith, nat_tests) in
      opened ∙ rw a refl
  no_pair (inr h) =
      let a : nat_lt 15 high ≡ false = grind (arith, nat_tests) in
      let b : nat_lt 15 low ≡ true = grind (arith, nat_tests) in
      opened ∙ rw (a, b) refl

pub one_left : (front rest : List ℕ) → length rest ≡ 1 → joined front (in_pairs rest) ≡ None
one_left front [] h = absurd (omega arith)
one_left front (digit ∷ []) h = refl
one_left front (high ∷ (low ∷ rest)) h = absurd (omega arith)
