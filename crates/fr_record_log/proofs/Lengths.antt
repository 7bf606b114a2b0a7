-- How many bytes a batch has at most, and how many bodies a push.
use Rattle.std.proofs.Common.{◌≡◌, ℕ, ◌+◌, ◌*◌, ◌<◌, ◌≤◌, Bool, true, false, cond, nat_lt, nat_le, List, [], ◌∷◌, ◌++◌, length, All, Option, Some, None, refl, arith, length-append, get_or, subst, inl, inr}
use Rattle.std.specs.Prelude.{◌||◌}
use Rattle.std.specs.Ordering.{is_lt}
use Rattle.std.specs.Option.{option_or}
use Rattle.std.specs.Int.{w16, w32, to_be_bytes}
use Rattle.std.specs.List.{flat_map}
use Rattle.std.proofs.lemmas.Bool.{cases_lt, ltb-false, leb-true, and_parts}
use Rattle.std.proofs.lemmas.List.Elements.{All-head, All-tail}
use Rattle.fr_base.specs.Bytes.{bytes_cmp}
use Rattle.fr_mutation.specs.declared.fault.BatchFault.{BatchFault}
use Rattle.fr_mutation.specs.declared.fault.BatchFault.TheVariants.{KeyTooLong, ValueTooLong, Inverted, TooMany}
use Rattle.fr_mutation.specs.declared.mutation.Mutation.{Mutation}
use Rattle.fr_mutation.specs.declared.mutation.Mutation.TheVariants.{Set, Clear, Atomic}
use Rattle.fr_mutation.specs.Atomic.{op_byte}
use Rattle.fr_mutation.specs.Limits.{keyed_fault, clear_fault, mutation_fault, first_fault, batch_fault}
use Rattle.fr_mutation.specs.CodecSpelling.{spelled_key, spelled_operand, spelled_mutation, spelled}
use Rattle.fr_tags.specs.declared.body.Body.{Body}
use Rattle.fr_tags.specs.Bodies.{is_rising_from}
use Rattle.fr_record_log.specs.Limits.{IsSoundBody}

chosen : (b : Bool) (f : BatchFault) (o : Option BatchFault) → cond b (Some f) o ≡ None → (b ≡ false) × (o ≡ None)
chosen true f o e = absurd cc
chosen false f o e = (refl, e)

neither : (a b : Bool) → (a || b) ≡ false → (a ≡ false) × (b ≡ false)
neither true b e = absurd cc
neither false b e = (refl, e)

keyed_short : (kind : ℕ) (key operand : List ℕ) → keyed_fault key operand ≡ None → length (kind ∷ (spelled_key key ++ spelled_operand operand)) ≤ 110007
keyed_short kind key operand e =
    let a = chosen (nat_lt 10000 (length key)) KeyTooLong (cond (nat_lt 100000 (length operand)) (Some ValueTooLong) None) e in
    let b = chosen (nat_lt 100000 (length operand)) ValueTooLong None a.1 in
    omega (arith, ltb-false _ _ a.0, ltb-false _ _ b.0, length-append key (to_be_bytes w32 (length operand) ++ operand))

clear_short : (begin end : List ℕ) → clear_fault begin end ≡ None → length (2 ∷ (spelled_key begin ++ spelled_key end)) ≤ 110007
clear_short begin end e =
    let a = chosen (nat_lt 10000 (length begin) || nat_lt 10000 (length end)) KeyTooLong (cond (is_lt (bytes_cmp end begin)) (Some Inverted) None) e in
    let b = neither (nat_lt 10000 (length begin)) (nat_lt 10000 (length end)) a.0 in
    omega (arith, ltb-false _ _ b.0, ltb-false _ _ b.1, length-append begin (to_be_bytes w16 (length end) ++ end))

mutation_short : (m : Mutation) → mutation_fault m ≡ None → length (spelled_mutation m) ≤ 110007
mutation_short (Set key value) e = keyed_short 1 key value e
mutation_short (Clear begin end) e = clear_short begin end e
mutation_short (Atomic op key param) e = keyed_short (op_byte op) key param e

first_of : (a b : Option BatchFault) → option_or a b ≡ None → (a ≡ None) × (b ≡ None)
first_of None b e = (refl, e)
first_of (Some f) b e = absurd cc

all_short : (ms : List Mutation) → first_fault ms ≡ None → length (flat_map spelled_mutation ms) ≤ 110007 * length ms
all_short [] e = omega arith
all_short (m ∷ ms) e =
    let both = first_of (mutation_fault m) (first_fault ms) e in
    omega (arith, mutation_short m both.0, all_short ms both.1, length-append (spelled_mutation m) (flat_map spelled_mutation ms))

-- a batch has at most so many bytes
pub batch_short : (ms : List Mutation) → batch_fault ms ≡ None → length (spelled ms) ≤ 110007003
unfolding spelled
batch_short ms e =
    let both = chosen (nat_lt 1000 (length ms)) TooMany (first_fault ms) e in
    let few = ltb-false 1000 (length ms) both.0 in
    omega (arith, few, all_short ms both.1)

-- tags that rise are few
pub bodies_few : (tag : ℕ) (bs : List Body) → tag ≤ 32 → is_rising_from tag bs ≡ true → All IsSoundBody bs → tag + length bs ≤ 32
bodies_few tag [] low rising sound = omega arith
bodies_few tag (b ∷ bs) low rising sound =
    let parts = and_parts (nat_le tag b.tag) (is_rising_from (b.tag + 1) bs) rising in
    let here = All-head IsSoundBody b bs sound in
    let less = here.tag in
    let later = bodies_few (b.tag + 1) bs (omega arith) parts.1 (All-tail IsSoundBody b bs sound) in
    omega (arith, leb-true tag b.tag parts.0, later)

-- what holds of the items before a place and of the one there holds of those before the next place
pub one_more : {X : Type 0} (P : X → Type 0) (xs : List X) (i : ℕ) → ((k : ℕ) (d : X) → k < i → P (get_or xs k d)) → ((d : X) → P (get_or xs i d)) → (k : ℕ) (d : X) → k < i + 1 → P (get_or xs k d)
one_more P xs i before here k d less = elim (cases_lt k i) [
  | inl lt ↦ before k d lt
  | inr le ↦ (let same : i ≡ k = omega (arith, le, less) in subst (λ j. P (get_or xs j d)) same (here d))
]
