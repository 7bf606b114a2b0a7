-- What stands under each key, as one key takes places.
use Rattle.std.proofs.Common.{◌≡◌, Bool, true, false, cond, List, [], None, Some, refl, ◌∙◌, ap, subst, sym}
use Rattle.std.specs.Prelude.{ℕ}
use Rattle.std.specs.List.{list_any}
use Rattle.std.specs.BTreeMap as tree
use Rattle.std.specs.Ordering.{is_eq, nat_cmp, ordering_then}
use Rattle.std.specs.Cmp.{nat_cmp_total}
use Rattle.std.specs.declared.cmp.Ordering.TheVariants.{Equal}
use Rattle.std.proofs.lemmas.Cmp.{tied_itself}
use Rattle.std.proofs.lemmas.Map.Lookups.{exact_pairs, exact_unsigned, CmpEqualImpliesEq}
use Rattle.std.proofs.lemmas.Map.Views.{tells_apart}
use Rattle.fr_world_turns.specs.Places.{Key, Places, Grows, IsAmong, IsUnder, Keeps, found_at, key_cmp, places_of, under}
use Rattle.fr_world_turns.specs.declared.places.Found.{Found}

-- keys with the same numbers are one
exact_key : CmpEqualImpliesEq key_cmp
exact_key a b e =
    let both = exact_pairs (λ (p q : ℕ × ℕ). ordering_then (nat_cmp p.0 q.0) (nat_cmp p.1 q.1)) nat_cmp (exact_pairs nat_cmp nat_cmp exact_unsigned exact_unsigned) exact_unsigned ((a.0, a.1), a.2) ((b.0, b.1), b.2) e in
    ap (λ (p : (ℕ × ℕ) × ℕ). (p.0.0, p.0.1, p.1)) both

nat_itself : (n : ℕ) → nat_cmp n n ≡ Equal
nat_itself = tied_itself nat_cmp_total

key_itself : (k : Key) → key_cmp k k ≡ Equal
key_itself k = rw (nat_itself k.0, nat_itself k.1, nat_itself k.2) refl

-- as one key takes places, the others keep theirs
abbrev pub Takes : Places → Places → Key → Found → Type 0
Takes m n k found = (q : Key) → tree.get key_cmp n q ≡ cond (tree.is_at (key_cmp k) q) (Some found) (tree.get key_cmp m q)

-- where these have what was under the key, so has each
pub grown : (m n : Places) (k : Key) (found : Found) → Takes m n k found → Keeps (under m k) (found_at found) → Grows m n
grown m n k found put keeps q f e = ap (λ o. list_any f (places_of o)) (put q) ∙ go (tree.is_at (key_cmp k) q) refl
  where
    go : (b : Bool) → tree.is_at (key_cmp k) q ≡ b → list_any f (places_of (cond b (Some found) (tree.get key_cmp m q))) ≡ true
    go true h = keeps f (subst (λ p. list_any f (under m p) ≡ true) (sym (tells_apart exact_key k q h)) e)
    go false h = e

-- none was under a key
pub none_under : (m : Places) (k : Key) (places : List ℕ) → tree.get key_cmp m k ≡ None → Keeps (under m k) places
none_under m k places none f e = absurd (let d : list_any f [] ≡ true = subst (λ o. list_any f (places_of o) ≡ true) none e in cc)

-- what is under a key is what was found there
pub under_is : (m : Places) (k : Key) (found : Found) (places : List ℕ) → tree.get key_cmp m k ≡ Some found → Keeps (found_at found) places → Keeps (under m k) places
under_is m k found places is keeps f e = keeps f (subst (λ o. list_any f (places_of o) ≡ true) is e)

-- a place among those that a key takes stands under it
pub there : (m n : Places) (k : Key) (found : Found) (place : ℕ) → Takes m n k found → IsAmong place (found_at found) → IsUnder n k place
there m n k found place put among f e =
    let here : tree.is_at (key_cmp k) k ≡ true = ap is_eq (key_itself k) in
    ap (λ o. list_any f (places_of o)) (put k) ∙ (ap (λ b. list_any f (places_of (cond b (Some found) (tree.get key_cmp m k)))) here ∙ among f e)
