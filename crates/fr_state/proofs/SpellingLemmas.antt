-- The spelling of a state and its reading.
use Rattle.std.proofs.Common.{◌≡◌, ℕ, zero, suc, ◌+◌, ◌*◌, ◌<◌, ◌≤◌, ◌^◌, ◌&&◌, Bool, true, false, cond, eqb, leb, ltb, List, [], ◌∷◌, ◌++◌, length, take, drop, get_or, Result, Ok, Err, refl, sym, ap, subst, ◌∙◌, append_assoc, arith}
use Rattle.std.specs.Prelude.{All}
use Rattle.std.specs.List.{AllByRecursion, flat_map}
use Rattle.std.specs.Int.{w64, to_be_bytes}
use Rattle.std.proofs.lemmas.Bool.{and_parts, and_from, eqb-true, leb-true, ltb-false, le-leb, le-ltb, lt-ltb}
use Rattle.std.proofs.lemmas.List.{take-append-drop, drop-drop, drop_more, length-append, length-drop, nil_from_length, append-nil, take_all}
use Rattle.std.proofs.lemmas.List.Elements.{All-drop, All-head, All-tail, recursion_from_All}
use Rattle.fr_state.specs.declared.fault.StateDecodeFault.{StateDecodeFault}
use Rattle.fr_state.specs.declared.fault.StateDecodeFault.TheVariants.{Short, BadForm, Trailing}
use Rattle.fr_state.specs.BigEndian.{AreBytes, number_at}
use Rattle.fr_state.specs.Generations.{LogGeneration, CoordinatedState, IsGeneration, IsCoordinatedState, first_epoch_of}
use Rattle.fr_state.specs.Reading.{◌>>=◌, dropped_at, start_at, count_at, generation_at, generations_at, is_list, are_left, state_at, reading}
use Rattle.fr_state.specs.Laws.{SpellingFits, OneSpellingOneState}
use Rattle.fr_state.specs.Spelling.{row, spelled_start, spelling, length_spelled}
use Rattle.fr_state.proofs.BigEndianLemmas.{wide64, number_at-back, number_at-again}
use Rattle.fr_state.proofs.OrderLemmas.{is_ordered-true}
use Rattle.fr_state.proofs.StateLemmas.{all_within-true, length-generations_at, list_sound}

-- ---- one generation

same : (g : LogGeneration) (epoch first seeded_to : ℕ) → epoch ≡ g.epoch → first ≡ g.first → seeded_to ≡ g.seeded_to
    → record { epoch = epoch; m = g.m; k = g.k; first = first; seeded_to = seeded_to } ≡ g
same g epoch first seeded_to p q r = rw (p, q, r) refl

row_again : (g : LogGeneration) (rest : List ℕ) → IsGeneration g → generation_at (row g ++ rest) ≡ g
unfolding row generation_at
row_again g rest h =
    same g (number_at w64 0 (row g ++ rest)) (number_at w64 10 (row g ++ rest)) (number_at w64 18 (row g ++ rest))
    (wide64.again g.epoch (omega (arith, h.epoch_high))) (wide64.again g.first (omega (arith, h.first_high))) (wide64.again g.seeded_to (omega (arith, h.seeded_to_high)))

length-row : (g : LogGeneration) → length (row g) ≡ 26
unfolding row
length-row g = refl

drop-row : (g : LogGeneration) (rest : List ℕ) → drop 26 (row g ++ rest) ≡ rest
unfolding row
drop-row g rest = refl

-- five fields, one after another
pieces : (bytes epoch first seeded_to : List ℕ) → 26 ≤ length bytes → epoch ≡ take 8 bytes → first ≡ take 8 (drop 10 bytes) → seeded_to ≡ take 8 (drop 18 bytes)
    → (epoch ++ get_or bytes 8 0 ∷ get_or bytes 9 0 ∷ [] ++ first ++ seeded_to) ++ drop 26 bytes ≡ bytes
pieces bytes epoch first seeded_to long p q r =
    let e18 : take 8 (drop 18 bytes) ++ drop 26 bytes ≡ drop 18 bytes = ap (λ (t : List ℕ). take 8 (drop 18 bytes) ++ t) (sym (drop-drop 8 18 bytes)) ∙ take-append-drop 8 (drop 18 bytes) in
    let e10 : take 8 (drop 10 bytes) ++ drop 18 bytes ≡ drop 10 bytes = ap (λ (t : List ℕ). take 8 (drop 10 bytes) ++ t) (sym (drop-drop 8 10 bytes)) ∙ take-append-drop 8 (drop 10 bytes) in
    let e9 : get_or bytes 9 0 ∷ drop 10 bytes ≡ drop 9 bytes = sym (drop_more bytes 9 0 (omega arith)) in
    let e8 : get_or bytes 8 0 ∷ drop 9 bytes ≡ drop 8 bytes = sym (drop_more bytes 8 0 (omega arith)) in
    rw (p, q, r) (simp append_assoc (rw (e18, e10, e9, e8) (take-append-drop 8 bytes)))

row_back : (bytes : List ℕ) → AreBytes bytes → 26 ≤ length bytes → row (generation_at bytes) ++ drop 26 bytes ≡ bytes
unfolding row generation_at
row_back bytes h long =
    pieces bytes (to_be_bytes w64 (number_at w64 0 bytes)) (to_be_bytes w64 (number_at w64 10 bytes)) (to_be_bytes w64 (number_at w64 18 bytes)) long
    (number_at-back w64 (2 ^ 64) wide64 0 bytes h (omega arith)) (number_at-back w64 (2 ^ 64) wide64 10 bytes h (omega arith)) (number_at-back w64 (2 ^ 64) wide64 18 bytes h (omega arith))

-- ---- a list of them

pub rows_again : (gens : List LogGeneration) (rest : List ℕ) → AllByRecursion IsGeneration gens → generations_at (length gens) (flat_map row gens ++ rest) ≡ gens
rows_again [] rest h = refl
rows_again (g ∷ gens) rest h =
    let e : flat_map row (g ∷ gens) ++ rest ≡ row g ++ (flat_map row gens ++ rest) = append_assoc (row g) (flat_map row gens) rest in
    let first : generation_at (flat_map row (g ∷ gens) ++ rest) ≡ g = ap generation_at e ∙ row_again g (flat_map row gens ++ rest) h.0 in
    let others : generations_at (length gens) (drop 26 (flat_map row (g ∷ gens) ++ rest)) ≡ gens =
    ap (λ (t : List ℕ). generations_at (length gens) (drop 26 t)) e ∙ ap (generations_at (length gens)) (drop-row g (flat_map row gens ++ rest)) ∙ rows_again gens rest h.1
    in
    cc

pub rows_back : (n : ℕ) (bytes : List ℕ) → AreBytes bytes → length bytes ≡ 26 * n → flat_map row (generations_at n bytes) ≡ bytes
rows_back zero bytes h len = sym (nil_from_length bytes len)
rows_back (suc n) bytes h len =
    let rest = rows_back n (drop 26 bytes) (All-drop (λ b. b < 256) 26 bytes h) (omega (arith, length-drop 26 bytes)) in
    ap (λ (t : List ℕ). row (generation_at bytes) ++ t) rest ∙ row_back bytes h (omega arith)

pub length-rows : (gens : List LogGeneration) → length (flat_map row gens) ≡ 26 * length gens
length-rows [] = refl
length-rows (g ∷ gens) = omega (arith, length-append (row g) (flat_map row gens), length-row g, length-rows gens)

-- ---- a state

count_again : (n : ℕ) (bytes : List ℕ) → 1 ≤ n → n ≤ 64 → count_at (n ∷ bytes) ≡ Ok (n, bytes)
count_again n bytes some few = rw (le-leb 1 n some, le-leb n 64 few) refl

-- how many were dropped is below the first epoch, so it fits 8 bytes
start_fits : (s : CoordinatedState) → IsCoordinatedState s → s.dropped < 2 ^ 64
start_fits s sound = go s.gens sound.limits sound.below
  where
    go : (gens : List LogGeneration) → All IsGeneration gens → s.dropped < first_epoch_of gens → s.dropped < 2 ^ 64
    go [] limits below = omega (arith, below)
    go (g ∷ gens) limits below = let h = All-head IsGeneration g gens limits in omega (arith, below, h.epoch_high)

dropped_again : (d : ℕ) (rest : List ℕ) → d < 2 ^ 64 → eqb d 0 ≡ false → dropped_at (to_be_bytes w64 d ++ rest) ≡ Ok (d, rest)
dropped_again d rest fits some =
    let long : ltb (length (to_be_bytes w64 d ++ rest)) 8 ≡ false = le-ltb (length (to_be_bytes w64 d ++ rest)) 8 (omega arith) in
    let read : number_at w64 0 (to_be_bytes w64 d ++ rest) ≡ d = number_at-again w64 (2 ^ 64) wide64 d rest fits in
    let zero_not : eqb (number_at w64 0 (to_be_bytes w64 d ++ rest)) 0 ≡ false = ap (λ (n : ℕ). eqb n 0) read ∙ some in
    by (ltb (length (to_be_bytes w64 d ++ rest)) 8) (eqb (number_at w64 0 (to_be_bytes w64 d ++ rest)) 0) (number_at w64 0 (to_be_bytes w64 d ++ rest)) long zero_not read
  where
    by : (short none : Bool) (n : ℕ) → short ≡ false → none ≡ false → n ≡ d
        → ◌≡◌ {A = Result (ℕ × List ℕ) StateDecodeFault} (cond short (Err Short) (cond none (Err BadForm) (Ok (n, rest)))) (Ok (d, rest))
    by short none n p q r = rw (p, q, r) refl

start_again : (d : ℕ) (rest : List ℕ) → d < 2 ^ 64 → start_at (spelled_start d ++ rest) ≡ Ok (d, rest)
start_again d rest fits = go (eqb d 0) refl
  where
    go : (b : Bool) → eqb d 0 ≡ b → start_at (cond b (1 ∷ []) (2 ∷ to_be_bytes w64 d) ++ rest) ≡ Ok (d, rest)
    go true e = ap (λ (n : ℕ). Ok (n, rest)) (sym (eqb-true d 0 e))
    go false e = dropped_again d rest fits e

state_again : (s : CoordinatedState) → IsCoordinatedState s → state_at s.dropped (length s.gens) (flat_map row s.gens) ≡ Ok s
state_again s sound =
    let n : ℕ = length s.gens in
    let rows : List ℕ = flat_map row s.gens in
    let len = length-rows s.gens in
    let gens : generations_at n rows ≡ s.gens = ap (generations_at n) (sym (append-nil rows)) ∙ rows_again s.gens [] (recursion_from_All IsGeneration s.gens sound.limits) in
    let listed : is_list s.gens ≡ true = and_from _ _ (all_within-true s.gens sound.limits) (is_ordered-true s.gens sound.ordered) in
    let left : are_left s.dropped s.gens ≡ true = and_from _ _ listed (lt-ltb s.dropped (first_epoch_of s.gens) sound.below) in
    by (ltb (length rows) (26 * n)) (ltb (26 * n) (length rows)) (generations_at n rows) (le-ltb (length rows) (26 * n) (omega arith)) (le-ltb (26 * n) (length rows) (omega arith)) gens left
  where
    by : (short long : Bool) (gens : List LogGeneration) → short ≡ false → long ≡ false → gens ≡ s.gens → are_left s.dropped s.gens ≡ true
        → cond short (Err Short) (cond (are_left s.dropped gens) (cond long (Err Trailing) (Ok (record { dropped = s.dropped; gens = gens }))) (Err BadForm)) ≡ Ok s
    by short long gens p q r left = rw (p, q, r, left) refl

pub reading_again : (s : CoordinatedState) → IsCoordinatedState s → reading (spelling s) ≡ Ok s
reading_again s sound =
    let rest : List ℕ = length s.gens ∷ flat_map row s.gens in
    ap (λ (r : Result (ℕ × List ℕ) StateDecodeFault). r >>= (λ start. count_at start.1 >>= (λ count. state_at start.0 count.0 count.1))) (start_again s.dropped rest (start_fits s sound))
    ∙ ap (λ (r : Result (ℕ × List ℕ) StateDecodeFault). r >>= (λ count. state_at s.dropped count.0 count.1)) (count_again (length s.gens) (flat_map row s.gens) sound.some sound.few)
    ∙ state_again s sound

bind_ok : {A B : Type 0} (r : Result A StateDecodeFault) (f : A → Result B StateDecodeFault) (y : B) → (r >>= f) ≡ Ok y → (x : A) × (r ≡ Ok x) × (f x ≡ Ok y)
bind_ok (Ok x) f y e = (x, refl, e)
bind_ok (Err fault) f y e = absurd cc

taken : {A : Type 0} (b : Bool) (x y : A) (fault : StateDecodeFault) → cond b (Ok x) (Err fault) ≡ Ok y → (b ≡ true) × (x ≡ y)
taken true x y fault e = (refl, cc)
taken false x y fault e = absurd cc

dropped_parts : (bytes : List ℕ) (h : ℕ × List ℕ) → AreBytes bytes → dropped_at bytes ≡ Ok h → 2 ∷ bytes ≡ spelled_start h.0 ++ h.1
dropped_parts bytes h are e = go (ltb (length bytes) 8) refl (eqb (number_at w64 0 bytes) 0) refl e
  where
    go : (short : Bool) → ltb (length bytes) 8 ≡ short → (none : Bool) → eqb (number_at w64 0 bytes) 0 ≡ none
        → ◌≡◌ {A = Result (ℕ × List ℕ) StateDecodeFault} (cond short (Err Short) (cond none (Err BadForm) (Ok (number_at w64 0 bytes, drop 8 bytes)))) (Ok h)
        → 2 ∷ bytes ≡ spelled_start h.0 ++ h.1
    go true p none q k = absurd cc
    go false p true q k = absurd cc
    go false p false q k =
        let is : (number_at w64 0 bytes, drop 8 bytes) ≡ h = cc in
        let long = ltb-false (length bytes) 8 p in
        let back : to_be_bytes w64 (number_at w64 0 bytes) ≡ take 8 bytes = number_at-back w64 (2 ^ 64) wide64 0 bytes are (omega (arith, long)) in
        let whole : 2 ∷ to_be_bytes w64 (number_at w64 0 bytes) ++ drop 8 bytes ≡ 2 ∷ bytes = ap (λ (t : List ℕ). 2 ∷ t) (ap (λ (t : List ℕ). t ++ drop 8 bytes) back ∙ take-append-drop 8 bytes) in
        let start : spelled_start (number_at w64 0 bytes) ≡ 2 ∷ to_be_bytes w64 (number_at w64 0 bytes) = rw q refl in
        subst (λ (p : ℕ × List ℕ). 2 ∷ bytes ≡ spelled_start p.0 ++ p.1) is (sym whole ∙ ap (λ (t : List ℕ). t ++ drop 8 bytes) (sym start))

start_parts : (bytes : List ℕ) (h : ℕ × List ℕ) → AreBytes bytes → start_at bytes ≡ Ok h → bytes ≡ spelled_start h.0 ++ h.1
start_parts [] h are e = absurd cc
start_parts (format ∷ bytes) h are e = go (eqb format 1) refl (eqb format 2) refl e
  where
    go : (one : Bool) → eqb format 1 ≡ one → (two : Bool) → eqb format 2 ≡ two
        → ◌≡◌ {A = Result (ℕ × List ℕ) StateDecodeFault} (cond one (Ok (0, bytes)) (cond two (dropped_at bytes) (Err BadForm))) (Ok h) → format ∷ bytes ≡ spelled_start h.0 ++ h.1
    go true p two q k =
        let is : (0, bytes) ≡ h = cc in
        subst (λ (x : ℕ × List ℕ). format ∷ bytes ≡ spelled_start x.0 ++ x.1) is (ap (λ (f : ℕ). f ∷ bytes) (eqb-true format 1 p))
    go false p true q k = ap (λ (f : ℕ). f ∷ bytes) (eqb-true format 2 q) ∙ dropped_parts bytes h (All-tail (λ b. b < 256) format bytes are) k
    go false p false q k = absurd cc

count_parts : (bytes : List ℕ) (h : ℕ × List ℕ) → count_at bytes ≡ Ok h → (bytes ≡ h.0 ∷ h.1) × (1 ≤ h.0) × (h.0 ≤ 64)
count_parts [] h e = absurd cc
count_parts (n ∷ bytes) h e =
    let t = taken (leb 1 n && leb n 64) (n, bytes) h BadForm e in
    let a = and_parts _ _ t.0 in
    subst (λ (p : ℕ × List ℕ). (n ∷ bytes ≡ p.0 ∷ p.1) × (1 ≤ p.0) × (p.0 ≤ 64)) t.1 (refl, leb-true 1 n a.0, leb-true n 64 a.1)

state_parts : (short listed long : Bool) (made s : CoordinatedState) → cond short (Err Short) (cond listed (cond long (Err Trailing) (Ok made)) (Err BadForm)) ≡ Ok s
    → (short ≡ false) × (listed ≡ true) × (long ≡ false) × (made ≡ s)
state_parts true listed long made s e = absurd cc
state_parts false true true made s e = absurd cc
state_parts false true false made s e = (refl, refl, refl, cc)
state_parts false false long made s e = absurd cc

-- what stands behind the format of some bytes is bytes
start_rest : (d : ℕ) (rest : List ℕ) → AreBytes (spelled_start d ++ rest) → AreBytes rest
start_rest d rest are = subst AreBytes (behind (spelled_start d)) (All-drop (λ b. b < 256) (length (spelled_start d)) (spelled_start d ++ rest) are)
  where
    behind : (front : List ℕ) → drop (length front) (front ++ rest) ≡ rest
    behind [] = refl
    behind (b ∷ front) = behind front

pub reading_one : (bytes : List ℕ) (s : CoordinatedState) → AreBytes bytes → reading bytes ≡ Ok s → IsCoordinatedState s × (bytes ≡ spelling s)
reading_one bytes s h e =
    let a = bind_ok (start_at bytes) (λ start. count_at start.1 >>= (λ count. state_at start.0 count.0 count.1)) s e in
    let d : ℕ = a.0.0 in
    let start = start_parts bytes a.0 h a.1 in
    let b = bind_ok (count_at a.0.1) (λ count. state_at d count.0 count.1) s a.2 in
    let n : ℕ = b.0.0 in
    let rest : List ℕ = b.0.1 in
    let parts = count_parts a.0.1 b.0 b.1 in
    let made : CoordinatedState = record { dropped = d; gens = generations_at n rest } in
    let p = state_parts (ltb (length rest) (26 * n)) (are_left d (generations_at n rest)) (ltb (26 * n) (length rest)) made s b.2 in
    let counted_bytes : AreBytes a.0.1 = start_rest d a.0.1 (subst AreBytes start h) in
    let rest_bytes : AreBytes rest = All-tail (λ x. x < 256) n rest (subst AreBytes parts.0 counted_bytes) in
    let len : length rest ≡ 26 * n = omega (arith, ltb-false (length rest) (26 * n) p.0, ltb-false (26 * n) (length rest) p.2) in
    let spelled : n ∷ rest ≡ length made.gens ∷ flat_map row made.gens = let k = length-generations_at n rest in let r = rows_back n rest rest_bytes len in cc in
    let whole : bytes ≡ spelling made = start ∙ ap (λ (t : List ℕ). spelled_start d ++ t) (parts.0 ∙ spelled) in
    subst (λ (t : CoordinatedState). IsCoordinatedState t × (bytes ≡ spelling t)) p.3 (list_sound d n rest (parts.1, parts.2) p.1, whole)

-- what stands behind two formats is the same where all is
same_rest : (d e : ℕ) (x y : List ℕ) → spelled_start d ++ x ≡ spelled_start e ++ y → x ≡ y
same_rest d e x y is = go (eqb d 0) (eqb e 0) is
  where
    go : (a b : Bool) → cond a (1 ∷ []) (2 ∷ to_be_bytes w64 d) ++ x ≡ cond b (1 ∷ []) (2 ∷ to_be_bytes w64 e) ++ y → x ≡ y
    go true true k = ap (drop 1) k
    go true false k = let first : 1 ≡ 2 = ap (λ (t : List ℕ). get_or t 0 0) k in absurd (omega (arith, first))
    go false true k = let first : 2 ≡ 1 = ap (λ (t : List ℕ). get_or t 0 0) k in absurd (omega (arith, first))
    go false false k = ap (drop 9) k

pub no_prefix : (s t : CoordinatedState) (rest : List ℕ) → IsCoordinatedState s → IsCoordinatedState t → spelling s ++ rest ≡ spelling t → rest ≡ []
no_prefix s t rest a b e =
    let behind : length s.gens ∷ flat_map row s.gens ++ rest ≡ length t.gens ∷ flat_map row t.gens =
    same_rest s.dropped t.dropped (length s.gens ∷ flat_map row s.gens ++ rest) (length t.gens ∷ flat_map row t.gens)
    (sym (append_assoc (spelled_start s.dropped) (length s.gens ∷ flat_map row s.gens) rest) ∙ e)
    in
    let count : length s.gens ≡ length t.gens = cc in
    let rows : flat_map row s.gens ++ rest ≡ flat_map row t.gens = cc in
    nil_from_length rest (omega (arith, ap length rows, length-append (flat_map row s.gens) rest, length-rows s.gens, length-rows t.gens))

pub length-start : (d : ℕ) → length (spelled_start d) + 1 ≡ cond (eqb d 0) 2 10
length-start d = go (eqb d 0)
  where
    go : (b : Bool) → length (cond b (1 ∷ []) (2 ∷ to_be_bytes w64 d)) + 1 ≡ cond b 2 10
    go true = refl
    go false = refl

start_short : (d : ℕ) → cond (eqb d 0) 2 10 ≤ 10
start_short d = go (eqb d 0)
  where
    go : (b : Bool) → cond b 2 10 ≤ 10
    go true = omega arith
    go false = omega arith

pub spelled_size : (s : CoordinatedState) → length (spelling s) ≡ length_spelled s
spelled_size s =
    let k = length-append (spelled_start s.dropped) (length s.gens ∷ flat_map row s.gens) in
    omega (arith, k, length-rows s.gens, length-start s.dropped)

pub spelling_fits : SpellingFits
spelling_fits s sound =
    let few = sound.few in
    (spelled_size s, omega (arith, spelled_size s, start_short s.dropped, few))

pub one_spelling_one_state : OneSpellingOneState
one_spelling_one_state s t a b e = let k : Ok s ≡ Ok t = sym (reading_again s a) ∙ ap reading e ∙ reading_again t b in cc

-- what was spelled of all generations is the spelling
pub spelled_whole : (bytes start : List ℕ) (s : CoordinatedState) (shown : List LogGeneration) (n : ℕ) → bytes ≡ start ++ length shown ∷ flat_map row (take n shown) → length shown ≤ n → shown ≡ s.gens
    → start ≡ spelled_start s.dropped → bytes ≡ spelling s
spelled_whole bytes start s shown n e past same begun =
    e ∙ ap (λ (xs : List LogGeneration). start ++ length shown ∷ flat_map row xs) (take_all n shown past)
    ∙ ap (λ (xs : List LogGeneration). start ++ length xs ∷ flat_map row xs) same ∙ ap (λ (t : List ℕ). t ++ length s.gens ∷ flat_map row s.gens) begun
