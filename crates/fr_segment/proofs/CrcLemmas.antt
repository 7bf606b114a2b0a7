-- Bits, bytes and sums.
use Rattle.std.proofs.Common.{◌≡◌, ◌≢◌, ◌⊎◌, inl, inr, ℕ, zero, suc, ◌+◌, ◌*◌, ◌/◌, ◌%◌, ◌^◌, ◌<◌, ◌≤◌, List, [], ◌∷◌, ◌++◌, length, get_or, refl, sym, ap, ◌∙◌, subst, arith, mul_assoc}
use Rattle.std.specs.Prelude.{fold}
use Rattle.std.specs.Int.Bits.{bit_and, bit_xor, xor_assoc, xor_self, xor_zero_l, xor_zero_r, xor_shifted}
use Rattle.std.proofs.lemmas.Nat.{xor_comm, xor_shr, xor_mod, xor_lt, xor_block, shr_split, and_mask, pow-add}
use Rattle.std.proofs.lemmas.List.Sums.{fold-append}
use Rattle.std.specs.Int.{w64, to_be_bytes}
use Rattle.fr_segment.specs.Laws.{AreBytes, IsOneOff}
use Rattle.fr_segment.proofs.AllLemmas.{all_first, all_head, all_rest, all_none}
use Rattle.fr_segment.specs.Crc.{bit_step, bit_steps, byte_step, crc_from, crc, sum_of}

-- two of a pair of pairs change places
xor_pairs : (a b c d : ℕ) → bit_xor (bit_xor a b) (bit_xor c d) ≡ bit_xor (bit_xor a c) (bit_xor b d)
xor_pairs a b c d =
    xor_assoc a b (bit_xor c d) ∙ ap (λ x. bit_xor a x) (sym (xor_assoc b c d) ∙ ap (λ x. bit_xor x d) (xor_comm b c) ∙ xor_assoc c b d) ∙ sym (xor_assoc a c (bit_xor b d))

-- what is added twice is gone
pub xor_twice : (x c : ℕ) → bit_xor (bit_xor x c) c ≡ x
xor_twice x c = xor_assoc x c c ∙ ap (λ y. bit_xor x y) (xor_self c) ∙ xor_zero_r x

pub xor_cancel : (x y c : ℕ) → bit_xor x c ≡ bit_xor y c → x ≡ y
xor_cancel x y c same = sym (xor_twice x c) ∙ ap (λ z. bit_xor z c) same ∙ xor_twice y c

below_two : (r : ℕ) → r < 2 → (r ≡ 0) ⊎ (r ≡ 1)
below_two zero h = inl refl
below_two (suc zero) h = inr refl
below_two (suc (suc r)) h = absurd (omega (arith, h))

parity : (n : ℕ) → (n % 2 ≡ 0) ⊎ (n % 2 ≡ 1)
parity n = below_two (n % 2) (omega arith)

-- the polynomial, if the bit is 1
abbrev part : ℕ → ℕ
part r = r * 2197175160

part_xor : (a b : ℕ) → (a ≡ 0) ⊎ (a ≡ 1) → (b ≡ 0) ⊎ (b ≡ 1) → part (bit_xor a b) ≡ bit_xor (part a) (part b)
part_xor a b (inl p) (inl q) = ap (λ x. part (bit_xor x b)) p ∙ ap (λ x. part (bit_xor 0 x)) q ∙ sym (ap (λ x. bit_xor (part x) (part b)) p ∙ ap (λ x. bit_xor (part 0) (part x)) q)
part_xor a b (inl p) (inr q) = ap (λ x. part (bit_xor x b)) p ∙ ap (λ x. part (bit_xor 0 x)) q ∙ sym (ap (λ x. bit_xor (part x) (part b)) p ∙ ap (λ x. bit_xor (part 0) (part x)) q)
part_xor a b (inr p) (inl q) = ap (λ x. part (bit_xor x b)) p ∙ ap (λ x. part (bit_xor 1 x)) q ∙ sym (ap (λ x. bit_xor (part x) (part b)) p ∙ ap (λ x. bit_xor (part 1) (part x)) q)
part_xor a b (inr p) (inr q) = ap (λ x. part (bit_xor x b)) p ∙ ap (λ x. part (bit_xor 1 x)) q ∙ sym (ap (λ x. bit_xor (part x) (part b)) p ∙ ap (λ x. bit_xor (part 1) (part x)) q)

-- a step goes over sums
step_xor : (x y : ℕ) → bit_step (bit_xor x y) ≡ bit_xor (bit_step x) (bit_step y)
unfolding bit_step
step_xor x y =
    ap (λ h. bit_xor h (part (bit_xor x y % 2))) (xor_shr x y 1)
    ∙ ap (λ r. bit_xor (bit_xor (x / 2) (y / 2)) (part r)) (xor_mod x y 1)
    ∙ ap (λ p. bit_xor (bit_xor (x / 2) (y / 2)) p) (part_xor (x % 2) (y % 2) (parity x) (parity y))
    ∙ xor_pairs (x / 2) (y / 2) (part (x % 2)) (part (y % 2))

steps_xor : (n x y : ℕ) → bit_steps n (bit_xor x y) ≡ bit_xor (bit_steps n x) (bit_steps n y)
unfolding bit_steps
steps_xor zero x y = refl
steps_xor (suc n) x y = ap (λ s. bit_steps n s) (step_xor x y) ∙ steps_xor n (bit_step x) (bit_step y)

-- a step of an even number halves it
step_even : (m : ℕ) → bit_step (m * 2) ≡ m
unfolding bit_step
step_even m =
    let half : m * 2 / 2 ≡ m = omega arith in
    let even : m * 2 % 2 ≡ 0 = omega arith in
    ap (λ h. bit_xor h (part (m * 2 % 2))) half ∙ ap (λ r. bit_xor m (part r)) even ∙ xor_zero_r m

steps_even : (n m : ℕ) → bit_steps n (m * 2 ^ n) ≡ m
unfolding bit_steps
steps_even zero m = omega arith
steps_even (suc n) m =
    let next : suc n ≡ n + 1 = omega arith in
    let same : m * 2 ^ suc n ≡ m * 2 ^ n * 2 = ap (λ k. m * 2 ^ k) next ∙ ap (λ k. m * k) (pow-add 2 n 1) ∙ sym (mul_assoc m (2 ^ n) 2) in
    ap (λ s. bit_steps n (bit_step s)) same ∙ ap (λ s. bit_steps n s) (step_even (m * 2 ^ n)) ∙ steps_even n m

-- a byte's eight steps, by those of its low eight bits alone
pub byte_by_table : (s b : ℕ) → b < 256 → byte_step s b ≡ bit_xor (bit_steps 8 (bit_xor s b % 256)) (s / 256)
unfolding byte_step
byte_by_table s b small =
    let x = bit_xor s b in
    let low : x % 256 < 2 ^ 8 = omega arith in
    let split : x ≡ bit_xor (x / 256 * 2 ^ 8) (x % 256) = sym (shr_split x 8) ∙ sym (xor_shifted (x / 256) 8 (x % 256) low) in
    let none : b / 256 ≡ 0 = omega (arith, small) in
    let high : x / 256 ≡ s / 256 = xor_shr s b 8 ∙ ap (λ h. bit_xor (s / 256) h) none ∙ xor_zero_r (s / 256) in
    ap (λ y. bit_steps 8 y) split ∙ steps_xor 8 (x / 256 * 2 ^ 8) (x % 256)
    ∙ ap (λ h. bit_xor h (bit_steps 8 (x % 256))) (steps_even 8 (x / 256) ∙ high) ∙ xor_comm (s / 256) (bit_steps 8 (x % 256))

-- ---- each step tells its states apart
part_lt : (r : ℕ) → (r ≡ 0) ⊎ (r ≡ 1) → part r < 2 ^ 32
part_lt r (inl p) = omega (arith, p)
part_lt r (inr p) = omega (arith, p)

pub step_lt : (s : ℕ) → s < 2 ^ 32 → bit_step s < 2 ^ 32
unfolding bit_step
step_lt s small = xor_lt 32 (s / 2) (part (s % 2)) (omega (arith, small)) (part_lt (s % 2) (parity s))

-- the polynomial's highest bit stays
high_part : (y : ℕ) → y < 2 ^ 31 → 2 ^ 31 ≤ bit_xor y 2197175160
high_part y small =
    let block = xor_block 31 0 1 y 49691512 small (omega arith) in
    let left : 0 * 2 ^ 31 + y ≡ y = omega arith in
    let e : bit_xor y 2197175160 ≡ 1 * 2 ^ 31 + bit_xor y 49691512 = ap (λ z. bit_xor z 2197175160) (sym left) ∙ block in
    omega (arith, e)

same_halves : (s t r : ℕ) → s / 2 ≡ t / 2 → s % 2 ≡ r → t % 2 ≡ r → s ≡ t
same_halves s t r half even odd = omega (arith, half, even, odd)

step_once : (s t : ℕ) → s < 2 ^ 32 → t < 2 ^ 32 → bit_step s ≡ bit_step t → s ≡ t
unfolding bit_step
step_once s t small_s small_t same = go (parity s) (parity t)
  where
    low : (n : ℕ) → n % 2 ≡ 0 → bit_xor (n / 2) (part (n % 2)) ≡ n / 2
    low n e = ap (λ r. bit_xor (n / 2) (part r)) e ∙ xor_zero_r (n / 2)

    high : (n : ℕ) → n % 2 ≡ 1 → bit_xor (n / 2) (part (n % 2)) ≡ bit_xor (n / 2) 2197175160
    high n e = ap (λ r. bit_xor (n / 2) (part r)) e

    go : (s % 2 ≡ 0) ⊎ (s % 2 ≡ 1) → (t % 2 ≡ 0) ⊎ (t % 2 ≡ 1) → s ≡ t
    go (inl p) (inl q) = same_halves s t 0 (sym (low s p) ∙ same ∙ low t q) p q
    go (inl p) (inr q) =
        let e : s / 2 ≡ bit_xor (t / 2) 2197175160 = sym (low s p) ∙ same ∙ high t q in
        absurd (omega (arith, e, high_part (t / 2) (omega (arith, small_t)), small_s))
    go (inr p) (inl q) =
        let e : t / 2 ≡ bit_xor (s / 2) 2197175160 = sym (low t q) ∙ sym same ∙ high s p in
        absurd (omega (arith, e, high_part (s / 2) (omega (arith, small_s)), small_t))
    go (inr p) (inr q) = same_halves s t 1 (xor_cancel (s / 2) (t / 2) 2197175160 (sym (high s p) ∙ same ∙ high t q)) p q

steps_once : (n s t : ℕ) → s < 2 ^ 32 → t < 2 ^ 32 → bit_steps n s ≡ bit_steps n t → s ≡ t
unfolding bit_steps
steps_once zero s t small_s small_t same = same
steps_once (suc n) s t small_s small_t same = step_once s t small_s small_t (steps_once n (bit_step s) (bit_step t) (step_lt s small_s) (step_lt t small_t) same)

steps_lt : (n s : ℕ) → s < 2 ^ 32 → bit_steps n s < 2 ^ 32
unfolding bit_steps
steps_lt zero s small = small
steps_lt (suc n) s small = steps_lt n (bit_step s) (step_lt s small)

with_byte : (s b : ℕ) → s < 2 ^ 32 → b < 256 → bit_xor s b < 2 ^ 32
with_byte s b small byte = xor_lt 32 s b small (omega (arith, byte))

pub byte_lt : (s b : ℕ) → s < 2 ^ 32 → b < 256 → byte_step s b < 2 ^ 32
unfolding byte_step
byte_lt s b small byte = steps_lt 8 (bit_xor s b) (with_byte s b small byte)

-- one byte after two states
state_once : (s t b : ℕ) → s < 2 ^ 32 → t < 2 ^ 32 → b < 256 → byte_step s b ≡ byte_step t b → s ≡ t
unfolding byte_step
state_once s t b small_s small_t byte same = xor_cancel s t b (steps_once 8 (bit_xor s b) (bit_xor t b) (with_byte s b small_s byte) (with_byte t b small_t byte) same)

-- two bytes after one state
byte_once : (s a b : ℕ) → s < 2 ^ 32 → a < 256 → b < 256 → byte_step s a ≡ byte_step s b → a ≡ b
unfolding byte_step
byte_once s a b small byte_a byte_b same =
    let e = steps_once 8 (bit_xor s a) (bit_xor s b) (with_byte s a small byte_a) (with_byte s b small byte_b) same in
    xor_cancel a b s (xor_comm a s ∙ e ∙ xor_comm s b)

pub from_lt : (s : ℕ) (bytes : List ℕ) → s < 2 ^ 32 → AreBytes bytes → crc_from s bytes < 2 ^ 32
from_lt s [] small bytes = small
from_lt s (b ∷ bs) small bytes = from_lt (byte_step s b) bs (byte_lt s b small (all_head (λ (x : ℕ). x < 256) b bs bytes)) (all_rest (λ (x : ℕ). x < 256) b bs bytes)

-- the same bytes after two states
from_once : (s t : ℕ) (bytes : List ℕ) → s < 2 ^ 32 → t < 2 ^ 32 → AreBytes bytes → crc_from s bytes ≡ crc_from t bytes → s ≡ t
from_once s t [] small_s small_t bytes same = same
from_once s t (b ∷ bs) small_s small_t bytes same =
    let byte = all_head (λ (x : ℕ). x < 256) b bs bytes in
    state_once s t b small_s small_t byte (from_once (byte_step s b) (byte_step t b) bs (byte_lt s b small_s byte) (byte_lt t b small_t byte) (all_rest (λ (x : ℕ). x < 256) b bs bytes) same)

-- lists that differ in one byte alone after one state
off_once : (s : ℕ) (xs ys : List ℕ) (at : ℕ) → s < 2 ^ 32 → AreBytes xs → AreBytes ys → IsOneOff xs ys at → crc_from s xs ≡ crc_from s ys → ⊥
off_once s [] ys at small bytes_x bytes_y off same = off
off_once s (x ∷ xs) [] at small bytes_x bytes_y off same = off
off_once s (x ∷ xs) (y ∷ ys) zero small bytes_x bytes_y off same =
    let byte_x = all_head (λ (b : ℕ). b < 256) x xs bytes_x in
    let byte_y = all_head (λ (b : ℕ). b < 256) y ys bytes_y in
    let ends : crc_from (byte_step s x) xs ≡ crc_from (byte_step s y) xs = same ∙ ap (λ l. crc_from (byte_step s y) l) off.1 in
    off.0 (byte_once s x y small byte_x byte_y (from_once (byte_step s x) (byte_step s y) xs (byte_lt s x small byte_x) (byte_lt s y small byte_y) (all_rest (λ (b : ℕ). b < 256) x xs bytes_x) ends))
off_once s (x ∷ xs) (y ∷ ys) (suc at) small bytes_x bytes_y off same =
    let byte = all_head (λ (b : ℕ). b < 256) x xs bytes_x in
    off_once (byte_step s x) xs ys at (byte_lt s x small byte) (all_rest (λ (b : ℕ). b < 256) x xs bytes_x) (all_rest (λ (b : ℕ). b < 256) y ys bytes_y) off.1
    (same ∙ ap (λ b. crc_from (byte_step s b) ys) off.0)

-- have different sums
pub one_byte : (bytes now : List ℕ) (at : ℕ) → AreBytes bytes → AreBytes now → IsOneOff bytes now at → crc bytes ≡ crc now → ⊥
unfolding crc
one_byte bytes now at bytes_x bytes_y off same =
    off_once 4294967295 bytes now at (omega arith) bytes_x bytes_y off (xor_cancel (crc_from 4294967295 bytes) (crc_from 4294967295 now) 4294967295 same)

mod_byte : (n : ℕ) → n % 256 < 256
mod_byte n = omega arith

byte_of : (n i d : ℕ) → i < 8 → get_or (to_be_bytes w64 n) i d < 256
byte_of n zero d h = mod_byte (n / 2 ^ 56)
byte_of n (suc zero) d h = mod_byte (n / 2 ^ 48)
byte_of n (suc (suc zero)) d h = mod_byte (n / 2 ^ 40)
byte_of n (suc (suc (suc zero))) d h = mod_byte (n / 2 ^ 32)
byte_of n (suc (suc (suc (suc zero)))) d h = mod_byte (n / 2 ^ 24)
byte_of n (suc (suc (suc (suc (suc zero))))) d h = mod_byte (n / 2 ^ 16)
byte_of n (suc (suc (suc (suc (suc (suc zero)))))) d h = mod_byte (n / 2 ^ 8)
byte_of n (suc (suc (suc (suc (suc (suc (suc zero))))))) d h = mod_byte n
byte_of n (suc (suc (suc (suc (suc (suc (suc (suc i)))))))) d h = absurd (omega (arith, h))

-- the bytes of a number
number_bytes : (n : ℕ) → AreBytes (to_be_bytes w64 n)
number_bytes n i d h = byte_of n i d h

state_of : (number : ℕ) → crc_from 4294967295 (to_be_bytes w64 number) < 2 ^ 32
state_of number = from_lt 4294967295 (to_be_bytes w64 number) (omega arith) (number_bytes number)

-- with a number before them, too
pub one_byte_behind : (number : ℕ) (bytes now : List ℕ) (at : ℕ) → AreBytes bytes → AreBytes now → IsOneOff bytes now at → sum_of number bytes ≡ sum_of number now → ⊥
unfolding crc sum_of
one_byte_behind number bytes now at bytes_x bytes_y off same =
    let spelled = to_be_bytes w64 number in
    let e = xor_cancel (crc_from 4294967295 (spelled ++ bytes)) (crc_from 4294967295 (spelled ++ now)) 4294967295 same in
    off_once (crc_from 4294967295 spelled) bytes now at (state_of number) bytes_x bytes_y off
    (sym (fold-append byte_step 4294967295 spelled bytes) ∙ e ∙ fold-append byte_step 4294967295 spelled now)

pub sum_lt : (number : ℕ) (bytes : List ℕ) → AreBytes bytes → sum_of number bytes < 2 ^ 32
unfolding crc sum_of
sum_lt number bytes small =
    let spelled = to_be_bytes w64 number in
    let e = fold-append byte_step 4294967295 spelled bytes in
    let lt = from_lt (crc_from 4294967295 spelled) bytes (state_of number) small in
    xor_lt 32 (crc_from 4294967295 (spelled ++ bytes)) 4294967295 (omega (arith, e, lt)) (omega arith)

-- what the code computes in two parts
pub sum_parts : (number : ℕ) (bytes : List ℕ) → bit_xor (crc_from (crc_from 4294967295 (to_be_bytes w64 number)) bytes) 4294967295 ≡ sum_of number bytes
unfolding crc sum_of
sum_parts number bytes = ap (λ s. bit_xor s 4294967295) (sym (fold-append byte_step 4294967295 (to_be_bytes w64 number) bytes))

pub crc_whole : (bytes : List ℕ) → bit_xor (crc_from 4294967295 bytes) 4294967295 ≡ crc bytes
unfolding crc
crc_whole bytes = refl

-- a byte's step as the code makes it
pub table_step : (s b low entry : ℕ) → b < 256 → low ≡ b → entry ≡ bit_steps 8 (bit_and (bit_xor s low) 255) → bit_xor entry (s / 256) ≡ byte_step s b
table_step s b low entry small is found =
    let mask : bit_and (bit_xor s b) 255 ≡ bit_xor s b % 256 = and_mask (bit_xor s b) 8 in
    ap (λ e. bit_xor e (s / 256)) (found ∙ ap (λ l. bit_steps 8 (bit_and (bit_xor s l) 255)) is ∙ ap (λ r. bit_steps 8 r) mask) ∙ sym (byte_by_table s b small)
