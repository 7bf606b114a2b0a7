-- What it is for mutations to be within the limits.
use Rattle.std.proofs.Common.{◌≡◌, ℕ, ◌≤◌, Bool, true, false, cond, ltb, ◌||◌, List, [], ◌∷◌, length, All, Option, Some, None, refl}
use Rattle.std.specs.Ordering.{is_lt}
use Rattle.std.specs.Option.{option_or}
use Rattle.std.specs.List.{AllByRecursion}
use Rattle.std.proofs.lemmas.Bool.{ltb-false, le-ltb}
use Rattle.std.proofs.lemmas.List.Elements.{All-from_recursion}
use Rattle.fr_base.specs.Bytes.{bytes_cmp}
use Rattle.fr_mutation.specs.declared.fault.BatchFault.{BatchFault}
use Rattle.fr_mutation.specs.declared.fault.BatchFault.TheVariants.{KeyTooLong, ValueTooLong, Inverted, TooMany}
use Rattle.fr_mutation.specs.declared.mutation.Mutation.{Mutation}
use Rattle.fr_mutation.specs.Limits.{keyed_fault, clear_fault, mutation_fault, first_fault, batch_fault}

-- ---- one mutation

chosen : (b : Bool) (f : BatchFault) (o : Option BatchFault) → cond b (Some f) o ≡ None → (b ≡ false) × (o ≡ None)
chosen true f o e = absurd cc
chosen false f o e = (refl, e)

neither : (a b : Bool) → (a || b) ≡ false → (a ≡ false) × (b ≡ false)
neither true b e = absurd cc
neither false b e = (refl, e)

pub keyed_limits : (key operand : List ℕ) → keyed_fault key operand ≡ None → (length key ≤ 10000) × (length operand ≤ 100000)
keyed_limits key operand e =
    let a = chosen (ltb 10000 (length key)) KeyTooLong (cond (ltb 100000 (length operand)) (Some ValueTooLong) None) e in
    let b = chosen (ltb 100000 (length operand)) ValueTooLong None a.1 in
    (ltb-false _ _ a.0, ltb-false _ _ b.0)

pub keyed_within : (key operand : List ℕ) → length key ≤ 10000 → length operand ≤ 100000 → keyed_fault key operand ≡ None
keyed_within key operand k o = rw (le-ltb _ _ k, le-ltb _ _ o) refl

pub clear_limits : (begin end : List ℕ) → clear_fault begin end ≡ None → (length begin ≤ 10000) × (length end ≤ 10000) × (is_lt (bytes_cmp end begin) ≡ false)
clear_limits begin end e =
    let a = chosen (ltb 10000 (length begin) || ltb 10000 (length end)) KeyTooLong (cond (is_lt (bytes_cmp end begin)) (Some Inverted) None) e in
    let b = neither (ltb 10000 (length begin)) (ltb 10000 (length end)) a.0 in
    let c = chosen (is_lt (bytes_cmp end begin)) Inverted None a.1 in
    (ltb-false _ _ b.0, ltb-false _ _ b.1, c.0)

pub clear_within : (begin end : List ℕ) → length begin ≤ 10000 → length end ≤ 10000 → is_lt (bytes_cmp end begin) ≡ false → clear_fault begin end ≡ None
clear_within begin end b e lt = rw (le-ltb _ _ b, le-ltb _ _ e, lt) refl

-- ---- a list of mutations

pub first_of : (a b : Option BatchFault) → option_or a b ≡ None → (a ≡ None) × (b ≡ None)
first_of None b e = (refl, e)
first_of (Some f) b e = absurd cc

each_within : (ms : List Mutation) → first_fault ms ≡ None → AllByRecursion (λ m. mutation_fault m ≡ None) ms
each_within [] e = tt
each_within (m ∷ ms) e = let both = first_of (mutation_fault m) (first_fault ms) e in (both.0, each_within ms both.1)

pub within : (ms : List Mutation) → batch_fault ms ≡ None → (length ms ≤ 1000) × (first_fault ms ≡ None)
within ms e = let both = chosen (ltb 1000 (length ms)) TooMany (first_fault ms) e in (ltb-false _ _ both.0, both.1)

pub all_within : (ms : List Mutation) → batch_fault ms ≡ None → All (λ m. mutation_fault m ≡ None) ms
all_within ms e = All-from_recursion (λ m. mutation_fault m ≡ None) ms (each_within ms (within ms e).1)
