-- A field that is read is the field that was written, and what was written is read again.
use Rattle.std.proofs.Common.{◌≡◌, ℕ, suc, ◌+◌, ◌<◌, ◌≤◌, Bool, true, false, cond, ltb, List, ◌∷◌, ◌++◌, length, get_or, take, drop, All, Result, Ok, Err, refl, sym, ap, subst, ◌∙◌, append_assoc, arith, inl, inr}
use Rattle.std.specs.Int.{Width, w16, w32, byte_len, from_be_bytes, to_be_bytes}
use Rattle.std.proofs.lemmas.Bool.{cases_lt, ltb-false, le-ltb}
use Rattle.std.proofs.lemmas.List.{take_at, drop_at, take-append-drop, length-append, length-take, get_or-drop, get_or-take, get_or_past}
use Rattle.std.proofs.lemmas.Nat.{be_bytes_2, be_bytes_4, from_be_bytes-to_be_bytes_2, from_be_bytes-to_be_bytes_4}
use Rattle.fr_mutation.specs.declared.codec.fault.DecodeFault.{DecodeFault}
use Rattle.fr_mutation.specs.declared.codec.fault.DecodeFault.TheVariants.{Short, OverLimit}
use Rattle.fr_mutation.specs.CodecSpelling.{spelled_key, spelled_operand}
use Rattle.fr_mutation.specs.CodecReading.{◌>>=◌, bytes_at, number_at, field_at, key_at, operand_at}

-- ---- bytes

abbrev pub IsBytes : List ℕ → Type 0
IsBytes bytes = (i : ℕ) → get_or bytes i 0 < 256

IsBytes-drop : (n : ℕ) (bytes : List ℕ) → IsBytes bytes → IsBytes (drop n bytes)
IsBytes-drop n bytes h i = rw get_or-drop (h (n + i))

IsBytes-take : (n : ℕ) (bytes : List ℕ) → IsBytes bytes → IsBytes (take n bytes)
IsBytes-take n bytes h i =
    elim (cases_lt i n) [
      | inl lt ↦ rw (get_or-take n bytes i 0 lt) (h i)
      | inr le ↦ rw (get_or_past (take n bytes) i 0 (omega (arith, length-take n bytes))) (omega arith)
    ]

pub IsBytes-rest : (b : ℕ) (bytes : List ℕ) → IsBytes (b ∷ bytes) → IsBytes bytes
IsBytes-rest b bytes h i = h (suc i)

pub IsBytes-from_All : (bytes : List ℕ) → All (λ byte. byte < 256) bytes → IsBytes bytes
IsBytes-from_All bytes h i =
    elim (cases_lt i (length bytes)) [
      | inl lt ↦ h i 0 lt
      | inr le ↦ rw (get_or_past bytes i 0 le) (omega arith)
    ]

-- ---- steps

-- the value of a step that met no fault
pub bind_ok : {A B : Type 0} (r : Result A DecodeFault) (f : A → Result B DecodeFault) (y : B) → (r >>= f) ≡ Ok y → (x : A) × (r ≡ Ok x) × (f x ≡ Ok y)
bind_ok (Ok x) f y e = (x, refl, e)
bind_ok (Err d) f y e = absurd cc

-- a test that met no fault
pub guard_ok : {A : Type 0} (b : Bool) (d : DecodeFault) (x y : A) → cond b (Err d) (Ok x) ≡ Ok y → (b ≡ false) × (x ≡ y)
guard_ok true d x y e = absurd cc
guard_ok false d x y e = (refl, cc)

abbrev done : {A : Type 0} → A → Result A DecodeFault
done x = Ok x

pub ok_is : {A : Type 0} (x y : A) → done x ≡ done y → x ≡ y
ok_is x y e = cc

-- what a step took from the front
pub record Takes (bytes text rest : List ℕ) : Type 0 where
  pub parts : bytes ≡ text ++ rest
  pub rest_fits : IsBytes rest

pub Takes-then : (a x b y c : List ℕ) → Takes a x b → Takes b y c → Takes a (x ++ y) c
Takes-then a x b y c p q = record { parts = p.parts ∙ ap (λ (t : List ℕ). x ++ t) q.parts ∙ sym (append_assoc x y c); rest_fits = q.rest_fits }

-- ---- so many bytes

bytes_take : (len : ℕ) (bytes : List ℕ) (x : List ℕ × List ℕ) → IsBytes bytes → bytes_at len bytes ≡ Ok x → Takes bytes x.0 x.1 × (length x.0 ≡ len) × IsBytes x.0
bytes_take len bytes x fits e =
    let g = guard_ok (ltb (length bytes) len) Short (take len bytes, drop len bytes) x e in
    let long : len ≤ length bytes = ltb-false _ _ g.0 in
    let front : length (take len bytes) ≡ len = omega (arith, length-take len bytes) in
    let taken : Takes bytes (take len bytes) (drop len bytes) = record { parts = sym (take-append-drop len bytes); rest_fits = IsBytes-drop len bytes fits } in
    subst (λ (p : List ℕ × List ℕ). Takes bytes p.0 p.1 × (length p.0 ≡ len) × IsBytes p.0) g.1 (taken, front, IsBytes-take len bytes fits)

bytes_again : (front rest : List ℕ) (len : ℕ) → length front ≡ len → bytes_at len (front ++ rest) ≡ Ok (front, rest)
bytes_again front rest len e =
    let long : ltb (length (front ++ rest)) len ≡ false = le-ltb _ _ (omega (arith, length-append front rest)) in
    rw (long, take_at front rest len e, drop_at front rest len e) refl

-- ---- numbers

pub record IsWide (w : Width) (limit : ℕ) : Type 0 where
  pub len : (n : ℕ) → length (to_be_bytes w n) ≡ byte_len w
  pub back : (bytes : List ℕ) → length bytes ≡ byte_len w → IsBytes bytes → to_be_bytes w (from_be_bytes w bytes) ≡ bytes
  pub again : (n : ℕ) → n ≤ limit → from_be_bytes w (to_be_bytes w n) ≡ n

pub wide_count : IsWide w16 1000
wide_count = record { len = λ n. refl; back = λ bytes len fits. be_bytes_2 bytes _ len fits refl; again = λ n le. from_be_bytes-to_be_bytes_2 n (omega arith) }

pub wide_key : IsWide w16 10000
wide_key = record { len = λ n. refl; back = λ bytes len fits. be_bytes_2 bytes _ len fits refl; again = λ n le. from_be_bytes-to_be_bytes_2 n (omega arith) }

pub wide_operand : IsWide w32 100000
wide_operand = record { len = λ n. refl; back = λ bytes len fits. be_bytes_4 bytes _ len fits refl; again = λ n le. from_be_bytes-to_be_bytes_4 n (omega arith) }

pub number_takes : (w : Width) (limit : ℕ) (wide : IsWide w limit) (bytes : List ℕ) (x : ℕ × List ℕ) → IsBytes bytes → number_at w limit bytes ≡ Ok x → Takes bytes (to_be_bytes w x.0) x.1 × (x.0 ≤ limit)
unfolding number_at
number_takes w limit wide bytes x fits e =
    let a = bind_ok (bytes_at (byte_len w) bytes) (λ front. cond (ltb limit (from_be_bytes w front.0)) (Err OverLimit) (Ok (from_be_bytes w front.0, front.1))) x e in
    let g = guard_ok (ltb limit (from_be_bytes w a.0.0)) OverLimit (from_be_bytes w a.0.0, a.0.1) x a.2 in
    let t = bytes_take (byte_len w) bytes a.0 fits a.1 in
    let front : Takes bytes (to_be_bytes w (from_be_bytes w a.0.0)) a.0.1 = subst (λ (p : List ℕ). Takes bytes p a.0.1) (sym (wide.back a.0.0 t.1 t.2)) t.0 in
    subst (λ (p : ℕ × List ℕ). Takes bytes (to_be_bytes w p.0) p.1 × (p.0 ≤ limit)) g.1 (front, ltb-false _ _ g.0)

pub number_again : (w : Width) (limit : ℕ) (wide : IsWide w limit) (n : ℕ) (rest : List ℕ) → n ≤ limit → number_at w limit (to_be_bytes w n ++ rest) ≡ Ok (n, rest)
unfolding number_at
number_again w limit wide n rest le =
    let small : ltb limit n ≡ false = le-ltb _ _ le in
    rw (bytes_again (to_be_bytes w n) rest (byte_len w) (wide.len n), wide.again n le, small) refl

-- ---- fields

field_takes : (w : Width) (limit : ℕ) (wide : IsWide w limit) (bytes : List ℕ) (x : List ℕ × List ℕ) → IsBytes bytes → field_at w limit bytes ≡ Ok x → Takes bytes (to_be_bytes w (length x.0) ++ x.0) x.1 × (length x.0 ≤ limit)
unfolding field_at
field_takes w limit wide bytes x fits e =
    let a = bind_ok (number_at w limit bytes) (λ len. bytes_at len.0 len.1) x e in
    let n = number_takes w limit wide bytes a.0 fits a.1 in
    let t = bytes_take a.0.0 a.0.1 x n.0.rest_fits a.2 in
    let both = Takes-then bytes (to_be_bytes w a.0.0) a.0.1 x.0 x.1 n.0 t.0 in
    (subst (λ (k : ℕ). Takes bytes (to_be_bytes w k ++ x.0) x.1) (sym t.1) both, omega (arith, n.1, t.1))

field_again : (w : Width) (limit : ℕ) (wide : IsWide w limit) (text rest : List ℕ) → length text ≤ limit → field_at w limit ((to_be_bytes w (length text) ++ text) ++ rest) ≡ Ok (text, rest)
unfolding field_at
field_again w limit wide text rest le =
    ap (field_at w limit) (append_assoc (to_be_bytes w (length text)) text rest)
    ∙ rw (number_again w limit wide (length text) (text ++ rest) le) (bytes_again text rest (length text) refl)

pub key_takes : (bytes : List ℕ) (x : List ℕ × List ℕ) → IsBytes bytes → key_at bytes ≡ Ok x → Takes bytes (spelled_key x.0) x.1 × (length x.0 ≤ 10000)
key_takes bytes x fits e = field_takes w16 10000 wide_key bytes x fits e

pub key_again : (key rest : List ℕ) → length key ≤ 10000 → key_at (spelled_key key ++ rest) ≡ Ok (key, rest)
key_again key rest le = field_again w16 10000 wide_key key rest le

pub operand_takes : (bytes : List ℕ) (x : List ℕ × List ℕ) → IsBytes bytes → operand_at bytes ≡ Ok x → Takes bytes (spelled_operand x.0) x.1 × (length x.0 ≤ 100000)
operand_takes bytes x fits e = field_takes w32 100000 wide_operand bytes x fits e

pub operand_again : (operand rest : List ℕ) → length operand ≤ 100000 → operand_at (spelled_operand operand ++ rest) ≡ Ok (operand, rest)
operand_again operand rest le = field_again w32 100000 wide_operand operand rest le
