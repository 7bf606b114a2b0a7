-- Fitted byte strings, byte by byte, and the numbers that they spell.
use Rattle.std.proofs.Common.{◌≡◌, ℕ, zero, suc, ◌+◌, ◌-◌, ◌*◌, ◌/◌, ◌%◌, ◌<◌, ◌≤◌, List, [], ◌∷◌, ◌++◌, length, min, get_or, take, drop, replicate, refl, sym, ap, ◌∙◌, arith, add-zero, append-nil}
use Rattle.std.proofs.Common.{◌^◌}
use Rattle.std.proofs.Math.Arith.{mod-mul}
use Rattle.std.proofs.Math.Nat.{pow-suc}
use Rattle.std.proofs.lemmas.List.{drop_more, get_or-drop, drop-drop, take_min, length-take}
use Rattle.std.proofs.lemmas.Grind.{get_or_after_one}
use Rattle.std.proofs.Common.{true}
use Rattle.std.specs.Ordering.{nat_cmp, is_ne}
use Rattle.std.specs.declared.cmp.Ordering.{Ordering}
use Rattle.std.specs.declared.cmp.Ordering.TheVariants.{Less, Equal, Greater}
use Rattle.std.specs.Cmp.{nat_cmp_is, ranked}
use Rattle.fr_mutation.specs.LittleEndian.{number_of, low_bytes}
use Rattle.fr_mutation.specs.Values.{fitted, bytewise}

take-nil : (n : ℕ) → take {A = ℕ} n [] ≡ []
take-nil zero = refl
take-nil (suc n) = refl

fitted-nil : (n : ℕ) → fitted n [] ≡ replicate n 0
unfolding fitted
fitted-nil n = let e : n - length {A = ℕ} [] ≡ n = omega arith in λ j. take-nil n j ++ replicate (e j) 0

fitted-zero : (bytes : List ℕ) → fitted 0 bytes ≡ []
unfolding fitted
fitted-zero bytes = let e : 0 - length bytes ≡ 0 = omega arith in ap (λ k. replicate k 0) e

-- the first byte of a fit, and the others
fitted-suc : (n : ℕ) (bytes : List ℕ) → fitted (suc n) bytes ≡ get_or bytes 0 0 ∷ fitted n (drop 1 bytes)
unfolding fitted
fitted-suc n [] = fitted-nil (suc n) ∙ ap (λ l. 0 ∷ l) (sym (fitted-nil n))
fitted-suc n (b ∷ bytes) = let e : suc n - suc (length bytes) ≡ n - length bytes = omega arith in ap (λ k. b ∷ (take n bytes ++ replicate k 0)) e

-- what is left to fit after one more byte
pub fitted_more : (old param : List ℕ) (i : ℕ) → i < length param
    → fitted (length param - i) (drop i old) ≡ get_or old i 0 ∷ fitted (length param - (i + 1)) (drop (i + 1) old)
fitted_more old param i h =
    let n = length param - (i + 1) in
    let len : length param - i ≡ suc n = omega arith in
    let first : get_or (drop i old) 0 0 ≡ get_or old i 0 = get_or-drop i old 0 0 ∙ ap (λ k. get_or old k 0) (add-zero i) in
    ap (λ m. fitted m (drop i old)) len ∙ fitted-suc n (drop i old) ∙ (λ j. first j ∷ fitted n (drop-drop 1 i old j))

pub bytewise_more : (f : ℕ → ℕ → ℕ) (old param : List ℕ) (i : ℕ) → i < length param
    → bytewise f (fitted (length param - i) (drop i old)) (drop i param)
    ≡ f (get_or old i 0) (get_or param i 0) ∷ bytewise f (fitted (length param - (i + 1)) (drop (i + 1) old)) (drop (i + 1) param)
bytewise_more f old param i h = λ j. bytewise f (fitted_more old param i h j) (drop_more param i 0 h j)

low_bytes-more : (n t s : ℕ) → low_bytes (suc n) (t + 256 * s) ≡ t % 256 ∷ low_bytes n (t / 256 + s)
unfolding low_bytes
low_bytes-more n t s =
    let r : (t + 256 * s) % 256 ≡ t % 256 = omega arith in
    let q : (t + 256 * s) / 256 ≡ t / 256 + s = omega arith in
    λ i. r i ∷ low_bytes n (q i)

-- one more byte of a sum, if c is carried
pub sum_more : (old param : List ℕ) (i c : ℕ) → i < length param
    → low_bytes (length param - i) (c + (number_of (fitted (length param - i) (drop i old)) + number_of (drop i param)))
    ≡ (c + get_or old i 0 + get_or param i 0) % 256
    ∷ low_bytes (length param - (i + 1)) ((c + get_or old i 0 + get_or param i 0) / 256 + (number_of (fitted (length param - (i + 1)) (drop (i + 1) old)) + number_of (drop (i + 1) param)))
sum_more old param i c h =
    let n = length param - (i + 1) in
    let len : length param - i ≡ suc n = omega arith in
    let head : number_of (drop i param) ≡ get_or param i 0 + 256 * number_of (drop (i + 1) param) = ap number_of (drop_more param i 0 h) in
    let other : number_of (fitted (length param - i) (drop i old)) ≡ get_or old i 0 + 256 * number_of (fitted n (drop (i + 1) old)) = ap number_of (fitted_more old param i h) in
    let t = c + get_or old i 0 + get_or param i 0 in
    let s = number_of (fitted n (drop (i + 1) old)) + number_of (drop (i + 1) param) in
    let total : c + (number_of (fitted (length param - i) (drop i old)) + number_of (drop i param)) ≡ t + 256 * s = omega arith in
    ap (low_bytes (length param - i)) total
    ∙ ap (λ m. low_bytes m (t + 256 * s)) len
    ∙ low_bytes-more n t s

-- at the end nothing is left
pub sum_done : (bytes : List ℕ) (n x : ℕ) → n ≡ 0 → bytes ≡ bytes ++ low_bytes n x
unfolding low_bytes
sum_done bytes n x e = sym (append-nil bytes) ∙ ap (λ m. bytes ++ low_bytes m x) (sym e)

pub bytewise_done : (f : ℕ → ℕ → ℕ) (bytes old param : List ℕ) (n : ℕ) → n ≡ 0 → bytes ≡ bytes ++ bytewise f (fitted n old) param
bytewise_done f bytes old param n e = sym (append-nil bytes) ∙ sym (ap (λ fit. bytes ++ bytewise f fit param) (ap (λ m. fitted m old) e ∙ fitted-zero old))

take-take : (n : ℕ) (bytes : List ℕ) → take n (take n bytes) ≡ take n bytes
take-take zero bytes = refl
take-take (suc n) [] = refl
take-take (suc n) (b ∷ bytes) = ap (λ l. b ∷ l) (take-take n bytes)

-- what is cut first needs no more than the zeros
pub fitted_front : (bytes : List ℕ) (n m : ℕ) → m ≡ min n (length bytes) → take n (take m bytes) ++ replicate (n - length (take m bytes)) 0 ≡ fitted n bytes
unfolding fitted
fitted_front bytes n m e =
    let front : take m bytes ≡ take n bytes = ap (λ k. take k bytes) e ∙ take_min n bytes in
    let twice : take n (take n bytes) ≡ take n bytes = take-take n bytes in
    let left : n - length (take n bytes) ≡ n - length bytes = omega (arith, length-take n bytes) in
    ap (λ l. take n l ++ replicate (n - length l) 0) front ∙ (λ j. twice j ++ replicate (left j) 0)

after_one : (old : List ℕ) (k : ℕ) → get_or (drop 1 old) k 0 ≡ get_or old (suc k) 0
after_one old k = get_or_after_one old k 0 ∙ ap (λ n. get_or old n 0) (omega arith)

-- fitted bytes that agree with the parameter's are the parameter
same_bytes : (old param : List ℕ) → ((k : ℕ) → k < length param → get_or old k 0 ≡ get_or param k 0) → fitted (length param) old ≡ param
same_bytes old [] same = fitted-zero old
same_bytes old (b ∷ param) same =
    fitted-suc (length param) old
    ∙ (let first : get_or old 0 0 ≡ b = same 0 (omega arith) in
    let rest : fitted (length param) (drop 1 old) ≡ param = same_bytes (drop 1 old) param (λ k h. after_one old k ∙ same (suc k) (omega arith)) in
    λ j. first j ∷ rest j)

-- the bytes from i on agree
abbrev pub AgreeFrom : ℕ → List ℕ → List ℕ → Type 0
AgreeFrom i old param = (k : ℕ) → i ≤ k → k < length param → get_or old k 0 ≡ get_or param k 0

pub same_number : (old param : List ℕ) → AgreeFrom 0 old param → number_of (fitted (length param) old) ≡ number_of param
same_number old param same = ap number_of (same_bytes old param (λ k h. same k (omega arith) h))

-- the highest byte that differs decides
pub number_below : (old param : List ℕ) (i : ℕ) → i < length param → ((k : ℕ) → get_or old k 0 < 256) → AgreeFrom (suc i) old param
    → get_or old i 0 < get_or param i 0 → number_of (fitted (length param) old) < number_of param
number_below old [] i h bytes same lt = absurd (omega arith)
number_below old (b ∷ param) zero h bytes same lt =
    let rest : number_of (fitted (length param) (drop 1 old)) ≡ number_of param = same_number (drop 1 old) param (λ k _ below. after_one old k ∙ same (suc k) (omega arith) (omega arith)) in
    let all : number_of (fitted (suc (length param)) old) ≡ get_or old 0 0 + 256 * number_of (fitted (length param) (drop 1 old)) = ap number_of (fitted-suc (length param) old) in
    omega arith
number_below old (b ∷ param) (suc i) h bytes same lt =
    let first : get_or old 0 0 < 256 = bytes 0 in
    let there : get_or (drop 1 old) i 0 ≡ get_or old (suc i) 0 = after_one old i in
    let rest : number_of (fitted (length param) (drop 1 old)) < number_of param = number_below (drop 1 old) param i (omega arith) (λ k. rw after_one (bytes (suc k))) (λ k from below. after_one old k ∙ same (suc k) (omega arith) (omega arith)) (omega arith) in
    let all : number_of (fitted (suc (length param)) old) ≡ get_or old 0 0 + 256 * number_of (fitted (length param) (drop 1 old)) = ap number_of (fitted-suc (length param) old) in
    omega arith

pub number_above : (old param : List ℕ) (i : ℕ) → i < length param → ((k : ℕ) → get_or param k 0 < 256) → AgreeFrom (suc i) old param
    → get_or param i 0 < get_or old i 0 → number_of param < number_of (fitted (length param) old)
number_above old [] i h bytes same lt = absurd (omega arith)
number_above old (b ∷ param) zero h bytes same lt =
    let rest : number_of (fitted (length param) (drop 1 old)) ≡ number_of param = same_number (drop 1 old) param (λ k _ below. after_one old k ∙ same (suc k) (omega arith) (omega arith)) in
    let all : number_of (fitted (suc (length param)) old) ≡ get_or old 0 0 + 256 * number_of (fitted (length param) (drop 1 old)) = ap number_of (fitted-suc (length param) old) in
    omega arith
number_above old (b ∷ param) (suc i) h bytes same lt =
    let first : b < 256 = bytes 0 in
    let there : get_or (drop 1 old) i 0 ≡ get_or old (suc i) 0 = after_one old i in
    let rest : number_of param < number_of (fitted (length param) (drop 1 old)) = number_above (drop 1 old) param i (omega arith) (λ k. bytes (suc k)) (λ k from below. after_one old k ∙ same (suc k) (omega arith) (omega arith)) (omega arith) in
    let all : number_of (fitted (suc (length param)) old) ≡ get_or old 0 0 + 256 * number_of (fitted (length param) (drop 1 old)) = ap number_of (fitted-suc (length param) old) in
    omega arith

-- the highest byte that differs, compared, compares the numbers
pub number_order : (old param : List ℕ) (i : ℕ) → i < length param → ((k : ℕ) → get_or old k 0 < 256) → ((k : ℕ) → get_or param k 0 < 256) → AgreeFrom (suc i) old param
    → (order : Ordering) → order ≡ nat_cmp (get_or old i 0) (get_or param i 0) → is_ne order ≡ true → order ≡ nat_cmp (number_of (fitted (length param) old)) (number_of param)
number_order old param i h olds params same Less e ne = nat_cmp_is _ _ Less (number_below old param i h olds same (ranked _ _ Less e))
number_order old param i h olds params same Equal e ne = cc
number_order old param i h olds params same Greater e ne = nat_cmp_is _ _ Greater (number_above old param i h params same (ranked _ _ Greater e))

-- ---- low bytes

pub length-low_bytes : (n x : ℕ) → length (low_bytes n x) ≡ n
unfolding low_bytes
length-low_bytes zero x = refl
length-low_bytes (suc n) x = ap suc (length-low_bytes n (x / 256))

some_power : (n : ℕ) → 0 < 256 ^ n
some_power zero = omega arith
some_power (suc n) = let rest : 0 < 256 ^ n = some_power n in let e : 256 ^ suc n ≡ 256 ^ n * 256 = pow-suc 256 n in omega arith

pub number_of-low_bytes : (n x : ℕ) → number_of (low_bytes n x) ≡ x % 256 ^ n
unfolding low_bytes
number_of-low_bytes zero x = let one : x % 1 ≡ 0 = omega arith in sym one
number_of-low_bytes (suc n) x =
    let two : x % (256 ^ n * 256) ≡ (x / 256 % 256 ^ n) * 256 + x % 256 = mod-mul x (some_power n) (omega arith) in
    let rest : number_of (low_bytes n (x / 256)) ≡ x / 256 % 256 ^ n = number_of-low_bytes n (x / 256) in
    let digits : x % 256 + 256 * number_of (low_bytes n (x / 256)) ≡ (x / 256 % 256 ^ n) * 256 + x % 256 = omega arith in
    digits ∙ sym two ∙ ap (λ m. x % m) (sym (pow-suc 256 n))
