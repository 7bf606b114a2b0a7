-- Reading and writing mutations one after the other, as loops do.
use Rattle.std.proofs.Common.{◌≡◌, ℕ, suc, ◌-◌, ◌+◌, ◌≤◌, ◌<◌, Bool, true, false, ◌||◌, List, [], ◌∷◌, ◌++◌, Result, Ok, Err, refl, sym, ap, ◌∙◌, append_assoc, arith}
use Rattle.std.specs.Prelude.{IsOk, is_ok}
use Rattle.std.specs.List.{list_any}
use Rattle.std.proofs.lemmas.List.{append-nil}
use Rattle.fr_mutation.specs.declared.codec.fault.DecodeFault.{DecodeFault}
use Rattle.fr_mutation.specs.declared.mutation.Mutation.{Mutation}
use Rattle.fr_mutation.specs.declared.codec.fault.DecodeFault.TheVariants.{NeedlessFormat}
use Rattle.fr_mutation.specs.declared.codec.format.Format.{Format}
use Rattle.fr_mutation.specs.CodecFormat.{is_compare_and_clear, is_needless}
use Rattle.fr_mutation.proofs.CodecFields.{ok_is}
use Rattle.fr_mutation.specs.CodecReading.{◌>>=◌, mutation_at, mutations_at, checked, found_in, rest_of, items_of}

-- what was read before, and what is still read
abbrev pub with_front : List Mutation → Result (List Mutation × List ℕ) DecodeFault → Result (List Mutation × List ℕ) DecodeFault
with_front front read = read >>= λ x. Ok (front ++ x.0, x.1)

one_less : (count i : ℕ) → i < count → count - i ≡ suc (count - (i + 1))
one_less count i lt = omega arith

-- ---- skipping

-- what was found before, and what is still found
abbrev pub with_found : Bool → Result (Bool × List ℕ) DecodeFault → Result (Bool × List ℕ) DecodeFault
with_found found skipped = skipped >>= λ x. Ok (found || x.0, x.1)

or_or : (a b c : Bool) → (a || (b || c)) ≡ ((a || b) || c)
or_or true b c = refl
or_or false b c = refl

or-false : (a : Bool) → (a || false) ≡ a
or-false true = refl
or-false false = refl

found_in-then : (found : Bool) (m : Mutation) (read : Result (List Mutation × List ℕ) DecodeFault) → with_found found (found_in (read >>= λ x. Ok (m ∷ x.0, x.1))) ≡ with_found (found || is_compare_and_clear m) (found_in read)
found_in-then found m (Ok x) = ap (λ (b : Bool). Ok (b, x.1)) (or_or found (is_compare_and_clear m) (list_any is_compare_and_clear x.0))
found_in-then found m (Err f) = refl

nothing_found : (skipped : Result (Bool × List ℕ) DecodeFault) → with_found false skipped ≡ skipped
nothing_found (Ok x) = refl
nothing_found (Err f) = refl

pub skips_first : (format : Format) (count : ℕ) (bytes : List ℕ) → with_found false (found_in (mutations_at format (count - 0) bytes)) ≡ found_in (mutations_at format count bytes)
skips_first format count bytes =
    let k : count - 0 ≡ count = omega arith in
    rw k (nothing_found (found_in (mutations_at format count bytes)))

pub skips_on : (format : Format) (count i : ℕ) (found : Bool) (bytes after : List ℕ) (m : Mutation) (total : Result (Bool × List ℕ) DecodeFault) → i < count → mutation_at format bytes ≡ Ok (m, after)
    → with_found found (found_in (mutations_at format (count - i) bytes)) ≡ total → with_found (found || is_compare_and_clear m) (found_in (mutations_at format (count - (i + 1)) after)) ≡ total
unfolding mutations_at
skips_on format count i found bytes after m total lt h so_far =
    let k : count - i ≡ suc (count - (i + 1)) = one_less count i lt in
    let one : with_found found (found_in (mutations_at format (count - i) bytes)) ≡ with_found (found || is_compare_and_clear m) (found_in (mutations_at format (count - (i + 1)) after)) =
    rw (k, h) (found_in-then found m (mutations_at format (count - (i + 1)) after)) in
    sym one ∙ so_far

pub skips_end : (format : Format) (count i : ℕ) (found : Bool) (bytes : List ℕ) (fault : DecodeFault) (total : Result (Bool × List ℕ) DecodeFault) → i < count → mutation_at format bytes ≡ Err fault
    → with_found found (found_in (mutations_at format (count - i) bytes)) ≡ total → total ≡ Err fault
unfolding mutations_at
skips_end format count i found bytes fault total lt h so_far =
    let k : count - i ≡ suc (count - (i + 1)) = one_less count i lt in
    let one : with_found found (found_in (mutations_at format (count - i) bytes)) ≡ Err fault = rw (k, h) refl in
    sym so_far ∙ one

pub skips_done : (format : Format) (count i : ℕ) (found : Bool) (bytes : List ℕ) (total : Result (Bool × List ℕ) DecodeFault) → count ≤ i
    → with_found found (found_in (mutations_at format (count - i) bytes)) ≡ total → total ≡ Ok (found, bytes)
unfolding mutations_at
skips_done format count i found bytes total le so_far =
    let k : count - i ≡ 0 = omega arith in
    let one : with_found found (found_in (mutations_at format (count - i) bytes)) ≡ Ok (found, bytes) = rw k (ap (λ (b : Bool). Ok (b, bytes)) (or-false found)) in
    sym so_far ∙ one

-- a format without need is told once all was skipped
pub skips_needless : (format : Format) (found : Bool) (rest : List ℕ) (read : Result (List Mutation × List ℕ) DecodeFault) → found_in read ≡ Ok (found, rest) → is_needless format found ≡ true → rest_of (read >>= checked format) ≡ Err NeedlessFormat
skips_needless format found rest (Ok x) e h =
    let both = ok_is (list_any is_compare_and_clear x.0, x.1) (found, rest) e in
    let same : list_any is_compare_and_clear x.0 ≡ found = ap (λ (p : Bool × List ℕ). p.0) both in
    rw (same, h) refl
skips_needless format found rest (Err d) e h = absurd cc

pub skips_needed : (format : Format) (found : Bool) (rest : List ℕ) (read : Result (List Mutation × List ℕ) DecodeFault) → found_in read ≡ Ok (found, rest) → is_needless format found ≡ false → rest_of (read >>= checked format) ≡ Ok rest
skips_needed format found rest (Ok x) e h =
    let both = ok_is (list_any is_compare_and_clear x.0, x.1) (found, rest) e in
    let same : list_any is_compare_and_clear x.0 ≡ found = ap (λ (p : Bool × List ℕ). p.0) both in
    rw (same, h) (ap (λ (p : Bool × List ℕ). Ok p.1) both)
skips_needed format found rest (Err d) e h = absurd cc

pub skips_fault : (format : Format) (fault : DecodeFault) (read : Result (List Mutation × List ℕ) DecodeFault) → found_in read ≡ Err fault → rest_of (read >>= checked format) ≡ Err fault
skips_fault format fault (Ok x) e = absurd cc
skips_fault format fault (Err d) e = cc

-- ---- copying

regroup : (front : List Mutation) (m : Mutation) (read : Result (List Mutation × List ℕ) DecodeFault) → with_front front (read >>= λ x. Ok (m ∷ x.0, x.1)) ≡ with_front (front ++ m ∷ []) read
regroup front m (Ok x) = ap (λ (ms : List Mutation). Ok (ms, x.1)) (simp append_assoc)
regroup front m (Err f) = refl

pub copies_on : (format : Format) (front : List Mutation) (count i : ℕ) (bytes after : List ℕ) (m : Mutation) (total : Result (List Mutation × List ℕ) DecodeFault) → i < count → mutation_at format bytes ≡ Ok (m, after)
    → with_front front (mutations_at format (count - i) bytes) ≡ total → with_front (front ++ m ∷ []) (mutations_at format (count - (i + 1)) after) ≡ total
unfolding mutations_at
copies_on format front count i bytes after m total lt h so_far =
    let k : count - i ≡ suc (count - (i + 1)) = one_less count i lt in
    let one : with_front front (mutations_at format (count - i) bytes) ≡ with_front (front ++ m ∷ []) (mutations_at format (count - (i + 1)) after) = rw (k, h) (regroup front m (mutations_at format (count - (i + 1)) after)) in
    sym one ∙ so_far

pub copies_never_end : (format : Format) (front : List Mutation) (count i : ℕ) (bytes : List ℕ) (fault : DecodeFault) (total : Result (List Mutation × List ℕ) DecodeFault) → i < count → mutation_at format bytes ≡ Err fault
    → with_front front (mutations_at format (count - i) bytes) ≡ total → IsOk total → ⊥
unfolding mutations_at
copies_never_end format front count i bytes fault total lt h so_far ok =
    let k : count - i ≡ suc (count - (i + 1)) = one_less count i lt in
    let one : with_front front (mutations_at format (count - i) bytes) ≡ Err fault = rw (k, h) refl in
    let e : total ≡ Err fault = sym so_far ∙ one in
    let no : is_ok total ≡ false = ap is_ok e in
    cc

pub copies_done : (format : Format) (front : List Mutation) (count i : ℕ) (bytes : List ℕ) (total : Result (List Mutation × List ℕ) DecodeFault) → count ≤ i → with_front front (mutations_at format (count - i) bytes) ≡ total → items_of total ≡ Ok front
unfolding mutations_at
copies_done format front count i bytes total le so_far =
    let k : count - i ≡ 0 = omega arith in
    let one : with_front front (mutations_at format (count - i) bytes) ≡ Ok (front, bytes) = rw k (ap (λ (ms : List Mutation). Ok (ms, bytes)) (append-nil front)) in
    ap items_of (sym so_far ∙ one)
