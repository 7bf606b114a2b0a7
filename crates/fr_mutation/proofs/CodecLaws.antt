-- The laws of the bytes of batches: what is read is spelled so, and what is spelled so is read.
use Rattle.std.proofs.Common.{◌≡◌, ℕ, zero, suc, ◌+◌, ◌-◌, ◌≤◌, Bool, true, false, cond, ltb, ◌||◌, ◌&&◌, List, [], ◌∷◌, ◌++◌, length, take, drop, None, Some, Result, Ok, Err, refl, sym, ap, subst, ◌∙◌, append_assoc, arith}
use Rattle.std.specs.Prelude.{not, ◌==◌}
use Rattle.std.specs.List.{flat_map, list_any}
use Rattle.std.specs.Int.{w16, to_be_bytes}
use Rattle.std.proofs.lemmas.Bool.{le-ltb, eqb-true, and_parts}
use Rattle.std.proofs.lemmas.List.{take_at, take-append-drop, length-append, length-take}
use Rattle.fr_mutation.specs.declared.codec.fault.DecodeFault.{DecodeFault}
use Rattle.fr_mutation.specs.declared.codec.fault.DecodeFault.TheVariants.{NeedlessFormat}
use Rattle.fr_mutation.specs.declared.codec.format.Format.{Format}
use Rattle.fr_mutation.specs.declared.codec.format.Format.TheVariants as formats
use Rattle.fr_mutation.specs.declared.mutation.Mutation.{Mutation}
use Rattle.fr_mutation.specs.Limits.{mutation_fault, first_fault, batch_fault}
use Rattle.fr_mutation.specs.CodecSpelling.{spelled_mutation, spelled}
use Rattle.fr_mutation.specs.CodecFormat.{format_byte, all_formats, format_with, is_compare_and_clear, format_of, is_needless}
use Rattle.fr_mutation.specs.CodecReading.{◌>>=◌, number_at, known, mutation_at, mutations_at, checked, checked_at, format_at, header_at, read_batch, decoded}
use Rattle.fr_mutation.proofs.CodecFields.{IsBytes, IsBytes-rest, bind_ok, guard_ok, ok_is, Takes, Takes-then, wide_count, number_takes, number_again}
use Rattle.fr_mutation.proofs.CodecMutations.{find_passes, known_ok, has_mutation, mutation_takes, mutation_again}
use Rattle.fr_mutation.proofs.CodecLimits.{first_of, within}

-- ---- one mutation after the other

-- whether a format has the mutations
abbrev has_all : Format → List Mutation → Bool
has_all formats.First ms = not (list_any is_compare_and_clear ms)
has_all formats.Second ms = true

not_or : (a b : Bool) → not (a || b) ≡ (not a && not b)
not_or true b = refl
not_or false b = refl

has_all-cons : (format : Format) (m : Mutation) (ms : List Mutation) → has_all format (m ∷ ms) ≡ (has_mutation format m && has_all format ms)
has_all-cons formats.First m ms = not_or (is_compare_and_clear m) (list_any is_compare_and_clear ms)
has_all-cons formats.Second m ms = refl

has_none : (format : Format) → has_all format [] ≡ true
has_none formats.First = refl
has_none formats.Second = refl

-- what was read of mutations in a format
abbrev MutationsTake : Format → ℕ → List ℕ → List Mutation × List ℕ → Type 0
MutationsTake format n bytes p = Takes bytes (flat_map spelled_mutation p.0) p.1 × (length p.0 ≡ n) × (first_fault p.0 ≡ None) × (has_all format p.0 ≡ true)

mutations_take : (format : Format) (n : ℕ) (bytes : List ℕ) (x : List Mutation × List ℕ) → IsBytes bytes → mutations_at format n bytes ≡ Ok x → MutationsTake format n bytes x
unfolding mutations_at
mutations_take format zero bytes x fits e = subst (λ (p : List Mutation × List ℕ). MutationsTake format 0 bytes p) (ok_is ([], bytes) x e) (record { parts = refl; rest_fits = fits }, refl, refl, has_none format)
mutations_take format (suc n) bytes x fits e =
    let a = bind_ok (mutation_at format bytes) (λ first. mutations_at format n first.1 >>= λ others. Ok (first.0 ∷ others.0, others.1)) x e in
    let b = bind_ok (mutations_at format n a.0.1) (λ others. Ok (a.0.0 ∷ others.0, others.1)) x a.2 in
    let first = mutation_takes format bytes a.0 fits a.1 in
    let others = mutations_take format n a.0.1 b.0 first.0.rest_fits b.1 in
    let both = Takes-then bytes (spelled_mutation a.0.0) a.0.1 (flat_map spelled_mutation b.0.0) b.0.1 first.0 others.0 in
    let faultless : first_fault (a.0.0 ∷ b.0.0) ≡ None = rw (first.1, others.2) refl in
    let had : has_all format (a.0.0 ∷ b.0.0) ≡ true = has_all-cons format a.0.0 b.0.0 ∙ rw (first.2, others.3) refl in
    let made : List Mutation × List ℕ = (a.0.0 ∷ b.0.0, b.0.1) in
    subst (λ (p : List Mutation × List ℕ). MutationsTake format (suc n) bytes p) (ok_is made x b.2) (both, ap suc others.1, faultless, had)

mutations_again : (format : Format) (ms : List Mutation) (rest : List ℕ) → first_fault ms ≡ None → has_all format ms ≡ true → mutations_at format (length ms) (flat_map spelled_mutation ms ++ rest) ≡ Ok (ms, rest)
unfolding mutations_at
mutations_again format [] rest e h = refl
mutations_again format (m ∷ ms) rest e h =
    let faultless = first_of (mutation_fault m) (first_fault ms) e in
    let had = and_parts (has_mutation format m) (has_all format ms) (sym (has_all-cons format m ms) ∙ h) in
    ap (mutations_at format (suc (length ms))) (append_assoc (spelled_mutation m) (flat_map spelled_mutation ms) rest)
    ∙ rw (mutation_again format m (flat_map spelled_mutation ms ++ rest) faultless.0 had.0, mutations_again format ms rest faultless.1 had.1) refl

-- ---- formats

-- the format in which mutations are read, and for which there is need, is the one in which they are written
read_format : (format : Format) (ms : List Mutation) → has_all format ms ≡ true → is_needless format (list_any is_compare_and_clear ms) ≡ false → format ≡ format_of ms
read_format formats.First ms h n = go (list_any is_compare_and_clear ms) h
  where
    go : (b : Bool) → not b ≡ true → formats.First ≡ cond b formats.Second formats.First
    go true h = absurd cc
    go false h = refl
read_format formats.Second ms h n = go (list_any is_compare_and_clear ms) n
  where
    go : (b : Bool) → not b ≡ false → formats.Second ≡ cond b formats.Second formats.First
    go true n = refl
    go false n = absurd cc

-- that format has them all, and there is need for it
written_format : (ms : List Mutation) → (has_all (format_of ms) ms ≡ true) × (is_needless (format_of ms) (list_any is_compare_and_clear ms) ≡ false)
written_format ms = go (list_any is_compare_and_clear ms) refl
  where
    go : (b : Bool) → list_any is_compare_and_clear ms ≡ b → (has_all (cond b formats.Second formats.First) ms ≡ true) × (is_needless (cond b formats.Second formats.First) (list_any is_compare_and_clear ms) ≡ false)
    go true e = (refl, ap not e)
    go false e = (ap not e, refl)

format_is : (byte : ℕ) (format : Format) → format_with byte ≡ Some format → byte ≡ format_byte format
format_is byte format e = eqb-true _ _ (find_passes (λ f. byte == format_byte f) all_formats format e)

format_takes : (bytes : List ℕ) (x : Format × List ℕ) → IsBytes bytes → format_at bytes ≡ Ok x → Takes bytes (format_byte x.0 ∷ []) x.1
unfolding format_at
format_takes [] x fits e = absurd cc
format_takes (byte ∷ after) x fits e =
    let a = bind_ok (known (format_with byte)) (λ format. Ok (format, after)) x e in
    let is : byte ≡ format_byte a.0 = format_is byte a.0 (known_ok (format_with byte) a.0 a.1) in
    subst (λ (p : Format × List ℕ). Takes (byte ∷ after) (format_byte p.0 ∷ []) p.1) (ok_is (a.0, after) x a.2)
    (record { parts = ap (λ (b : ℕ). b ∷ after) is; rest_fits = IsBytes-rest byte after fits })

format_again : (format : Format) (rest : List ℕ) → format_at (format_byte format ∷ rest) ≡ Ok (format, rest)
unfolding format_at
format_again formats.First rest = refl
format_again formats.Second rest = refl

-- ---- batches

header_takes : (bytes : List ℕ) (x : Format × ℕ × List ℕ) → IsBytes bytes → header_at bytes ≡ Ok x → Takes bytes (format_byte x.0 ∷ to_be_bytes w16 x.1) x.2 × (x.1 ≤ 1000)
unfolding header_at
header_takes bytes x fits e =
    let a = bind_ok (format_at bytes) (λ format. number_at w16 1000 format.1 >>= λ count. Ok (format.0, count.0, count.1)) x e in
    let b = bind_ok (number_at w16 1000 a.0.1) (λ count. Ok (a.0.0, count.0, count.1)) x a.2 in
    let s = format_takes bytes a.0 fits a.1 in
    let t = number_takes w16 1000 wide_count a.0.1 b.0 s.rest_fits b.1 in
    let made : Format × ℕ × List ℕ = (a.0.0, b.0.0, b.0.1) in
    subst (λ (p : Format × ℕ × List ℕ). Takes bytes (format_byte p.0 ∷ to_be_bytes w16 p.1) p.2 × (p.1 ≤ 1000)) (ok_is made x b.2)
    (Takes-then bytes (format_byte a.0.0 ∷ []) a.0.1 (to_be_bytes w16 b.0.0) b.0.1 s t.0, t.1)

header_again : (format : Format) (count : ℕ) (rest : List ℕ) → count ≤ 1000 → header_at (format_byte format ∷ (to_be_bytes w16 count ++ rest)) ≡ Ok (format, count, rest)
unfolding header_at
header_again format count rest few = rw (format_again format (to_be_bytes w16 count ++ rest), number_again w16 1000 wide_count count rest few) refl

pub batch_takes : (bytes : List ℕ) (x : List Mutation × List ℕ) → IsBytes bytes → read_batch bytes ≡ Ok x → (bytes ≡ spelled x.0 ++ x.1) × (batch_fault x.0 ≡ None)
unfolding read_batch spelled
batch_takes bytes x fits e =
    let a = bind_ok (header_at bytes) (λ header. checked_at header.0 header.1 header.2) x e in
    let format = a.0.0 in
    let b = bind_ok (mutations_at format a.0.1 a.0.2) (checked format) x a.2 in
    let g = guard_ok (is_needless format (list_any is_compare_and_clear b.0.0)) NeedlessFormat b.0 x b.2 in
    let s = header_takes bytes a.0 fits a.1 in
    let t = subst (λ (p : List Mutation × List ℕ). MutationsTake format a.0.1 a.0.2 p) g.1 (mutations_take format a.0.1 a.0.2 b.0 s.0.rest_fits b.1) in
    let needed : is_needless format (list_any is_compare_and_clear x.0) ≡ false = subst (λ (p : List Mutation × List ℕ). is_needless format (list_any is_compare_and_clear p.0) ≡ false) g.1 g.0 in
    let both = (Takes-then bytes (format_byte format ∷ to_be_bytes w16 a.0.1) a.0.2 (flat_map spelled_mutation x.0) x.1 s.0 t.0).parts in
    let few : ltb 1000 (length x.0) ≡ false = le-ltb _ _ (omega (arith, s.1, t.1)) in (
      both
          ∙ ap (λ (f : Format). (format_byte f ∷ (to_be_bytes w16 a.0.1 ++ flat_map spelled_mutation x.0)) ++ x.1) (read_format format x.0 t.3 needed)
          ∙ ap (λ (n : ℕ). (format_byte (format_of x.0) ∷ (to_be_bytes w16 n ++ flat_map spelled_mutation x.0)) ++ x.1) (sym t.1),
      rw (few, t.2) refl,
    )

pub batch_again : (ms : List Mutation) (rest : List ℕ) → batch_fault ms ≡ None → read_batch (spelled ms ++ rest) ≡ Ok (ms, rest)
unfolding read_batch spelled
batch_again ms rest e =
    let w = within ms e in
    let f = written_format ms in
    let format = format_of ms in
    let text = flat_map spelled_mutation ms ++ rest in
    let whole : (format_byte format ∷ (to_be_bytes w16 (length ms) ++ flat_map spelled_mutation ms)) ++ rest ≡ format_byte format ∷ (to_be_bytes w16 (length ms) ++ text) =
    ap (λ (t : List ℕ). format_byte format ∷ t) (append_assoc (to_be_bytes w16 (length ms)) (flat_map spelled_mutation ms) rest) in
    let read : mutations_at format (length ms) text ≡ Ok (ms, rest) = mutations_again format ms rest w.1 f.0 in
    ap (λ (t : List ℕ). header_at t >>= λ header. checked_at header.0 header.1 header.2) whole
    ∙ ap (λ (r : Result (Format × ℕ × List ℕ) DecodeFault). r >>= λ header. checked_at header.0 header.1 header.2) (header_again format (length ms) text w.0)
    ∙ ap (λ (r : Result (List Mutation × List ℕ) DecodeFault). r >>= checked format) read
    ∙ ap (λ (b : Bool). cond b (Err NeedlessFormat) (Ok (ms, rest))) f.1

-- ---- the laws

pub spelling_is_read : (ms : List Mutation) (rest : List ℕ) → batch_fault ms ≡ None → decoded (spelled ms ++ rest) ≡ Ok (ms, length (spelled ms))
unfolding decoded
spelling_is_read ms rest e =
    let used : length (spelled ms ++ rest) - length rest ≡ length (spelled ms) = omega (arith, length-append (spelled ms) rest) in
    rw (batch_again ms rest e, used) refl

pub read_is_spelled : (bytes : List ℕ) (x : List Mutation × List ℕ) → IsBytes bytes → read_batch bytes ≡ Ok x
    → (length bytes ≡ length (spelled x.0) + length x.1) × (take (length bytes - length x.1) bytes ≡ spelled x.0)
read_is_spelled bytes x fits e =
    let t = batch_takes bytes x fits e in
    let long : length bytes ≡ length (spelled x.0) + length x.1 = omega (arith, ap length t.0, length-append (spelled x.0) x.1) in
    let used : length bytes - length x.1 ≡ length (spelled x.0) = omega arith in
    (long, rw used (ap (take (length (spelled x.0))) t.0 ∙ take_at (spelled x.0) x.1 (length (spelled x.0)) refl))

pub decoded_is_spelled : (bytes : List ℕ) (ms : List Mutation) (used : ℕ) → IsBytes bytes → decoded bytes ≡ Ok (ms, used) → (batch_fault ms ≡ None) × (used ≤ length bytes) × (take used bytes ≡ spelled ms)
unfolding decoded
decoded_is_spelled bytes ms used fits e =
    let a = bind_ok (read_batch bytes) (λ read. Ok (read.0, length bytes - length read.1)) (ms, used) e in
    let s = read_is_spelled bytes a.0 fits a.1 in
    let made : List Mutation × ℕ = (a.0.0, length bytes - length a.0.1) in
    subst (λ (p : List Mutation × ℕ). (batch_fault p.0 ≡ None) × (p.1 ≤ length bytes) × (take p.1 bytes ≡ spelled p.0)) (ok_is made (ms, used) a.2) ((batch_takes bytes a.0 fits a.1).1, omega arith, s.1)

pub spelled_is_decoded : (bytes : List ℕ) (ms : List Mutation) (used : ℕ) → batch_fault ms ≡ None → used ≤ length bytes → take used bytes ≡ spelled ms → decoded bytes ≡ Ok (ms, used)
spelled_is_decoded bytes ms used e le same =
    let parts : spelled ms ++ drop used bytes ≡ bytes = ap (λ (t : List ℕ). t ++ drop used bytes) (sym same) ∙ take-append-drop used bytes in
    let long : length (spelled ms) ≡ used = ap length (sym same) ∙ omega (arith, length-take used bytes) in
    ap decoded (sym parts) ∙ spelling_is_read ms (drop used bytes) e ∙ ap (λ (n : ℕ). Ok (ms, n)) long

pub one_front : (a b : List Mutation) (x y : List ℕ) → batch_fault a ≡ None → batch_fault b ≡ None → spelled a ++ x ≡ spelled b ++ y → (a ≡ b) × (x ≡ y)
one_front a b x y p q e =
    let same : Ok (a, x) ≡ read_batch (spelled b ++ y) = sym (batch_again a x p) ∙ ap read_batch e in
    let both = ok_is (a, x) (b, y) (same ∙ batch_again b y q) in
    (ap (λ (r : List Mutation × List ℕ). r.0) both, ap (λ (r : List Mutation × List ℕ). r.1) both)
