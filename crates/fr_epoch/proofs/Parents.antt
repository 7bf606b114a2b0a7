-- What is read as a state has generations within their limits.
use Rattle.std.proofs.Common.{◌≡◌, ℕ, ◌*◌, Bool, true, false, cond, nat_lt, List, length, Some, Result, Ok, Err, refl, subst}
use Rattle.std.specs.Prelude.{All}
use Rattle.std.specs.List.{list_all}
use Rattle.std.proofs.lemmas.Bool.{and_parts}
use Rattle.fr_state.specs.declared.fault.StateDecodeFault.{StateDecodeFault}
use Rattle.fr_state.specs.declared.fault.StateDecodeFault.TheVariants.{Short, BadForm, Trailing}
use Rattle.fr_state.specs.Generations.{LogGeneration, CoordinatedState, IsGeneration, last_of, first_epoch_of}
use Rattle.fr_state.specs.Order.{is_ordered}
use Rattle.fr_state.specs.Reading.{start_at, count_at, generations_at, is_within, is_list, are_left, state_at, reading, ◌>>=◌}
use Rattle.fr_state.specs.Laws.{LastIsWithin}
use Rattle.fr_state.proofs.StateLemmas.{All-within}

bind_ok : {A B : Type 0} (r : Result A StateDecodeFault) (f : A → Result B StateDecodeFault) (y : B) → (r >>= f) ≡ Ok y → (x : A) × (f x ≡ Ok y)
bind_ok (Ok x) f y e = (x, e)
bind_ok (Err fault) f y e = absurd cc

state_parts : (short listed long : Bool) (made s : CoordinatedState) → cond short (Err Short) (cond listed (cond long (Err Trailing) (Ok made)) (Err BadForm)) ≡ Ok s → (listed ≡ true) × (made ≡ s)
state_parts true listed long made s e = absurd cc
state_parts false true true made s e = absurd cc
state_parts false true false made s e = (refl, cc)
state_parts false false long made s e = absurd cc

-- each generation of a state that was read is within its limits
read_within : (bytes : List ℕ) (s : CoordinatedState) → reading bytes ≡ Ok s → All IsGeneration s.gens
read_within bytes s e =
    let b = bind_ok (start_at bytes) (λ start. count_at start.1 >>= (λ count. state_at start.0 count.0 count.1)) s e in
    let d = bind_ok (count_at b.0.1) (λ count. state_at b.0.0 count.0 count.1) s b.1 in
    let dropped : ℕ = b.0.0 in
    let n : ℕ = d.0.0 in
    let rest : List ℕ = d.0.1 in
    let made : CoordinatedState = record { dropped = dropped; gens = generations_at n rest } in
    let parts = state_parts (nat_lt (length rest) (26 * n)) (are_left dropped (generations_at n rest)) (nat_lt (26 * n) (length rest)) made s d.1 in
    let left = and_parts (is_list (generations_at n rest)) (nat_lt dropped (first_epoch_of (generations_at n rest))) parts.0 in
    let listed = and_parts (list_all is_within (generations_at n rest)) (is_ordered (generations_at n rest)) left.0 in
    subst (λ (t : CoordinatedState). All IsGeneration t.gens) parts.1 (All-within (generations_at n rest) listed.0)

-- and so is the last one
pub read_last : LastIsWithin → (bytes : List ℕ) (s : CoordinatedState) (g : LogGeneration) → reading bytes ≡ Ok s → last_of s.gens ≡ Some g → IsGeneration g
read_last law bytes s g e last = law s.gens g (read_within bytes s e) last
