-- The numbers that a sequencer gave, as a tree and as a map.
use Rattle.std.proofs.Common.{◌≡◌, ℕ, cond, List, [], ◌∷◌, Option, None, Some, IsSome, refl, sym, ap, ap₂, ◌∙◌}
use Rattle.std.specs.Ordering.{nat_cmp, eq_by_cmp}
use Rattle.std.specs.Cmp.{nat_cmp_total, eq_by_cmp_equiv}
use Rattle.std.specs.List.{AllZip}
use Rattle.std.specs.BTreeMap as tree
use Rattle.std.specs.BTreeMap.{BTreeMap, Updates, IsUnchanged}
use Rattle.std.specs.FinMap.{get, insert, get-insert, from_entries, same_map, nat_cmp-IsAntisymmetric}
use Rattle.fr_base.specs.Map.{map_of}
use Rattle.fr_base.proofs.MapLemmas.{get-map_of}
use Rattle.fr_proxy.specs.declared.number.Number.{Number}

-- a tree in which a key was given a value is the map with it
pub put_is_insert : (m n : BTreeMap ℕ Number) (proxy : ℕ) (number : Number) → Updates nat_cmp m n proxy (Some number) → map_of {R = nat_cmp} n ≡ insert (map_of m) proxy number
put_is_insert m n proxy number h =
    same_map nat_cmp_total nat_cmp-IsAntisymmetric _ _ (λ q.
    get-map_of nat_cmp_total n q
    ∙ h.0 q
    ∙ ap (λ b. cond b (Some number) (tree.get nat_cmp m q)) ((eq_by_cmp_equiv nat_cmp_total).symm proxy q)
    ∙ ap (λ v. cond (eq_by_cmp nat_cmp q proxy) (Some number) v) (sym (get-map_of nat_cmp_total m q))
    ∙ sym (get-insert nat_cmp_total (map_of m) proxy number q))

-- a tree with the same entries is the same map
pub unchanged_is_same : (m n : BTreeMap ℕ Number) → IsUnchanged m n → map_of {R = nat_cmp} n ≡ map_of m
unfolding map_of
unchanged_is_same m n h = ap from_entries h

no_value : (o : Option Number) → o ≡ None → IsSome o → ⊥
no_value None e h = absurd (cc)
no_value (Some n) e h = absurd (cc)

-- a key that the tree lacks has no value in the map
pub never_err : (m : BTreeMap ℕ Number) (proxy : ℕ) → tree.get nat_cmp m proxy ≡ None → IsSome (get (map_of {R = nat_cmp} m) proxy) → ⊥
never_err m proxy e has = no_value (get (map_of {R = nat_cmp} m) proxy) (get-map_of nat_cmp_total m proxy ∙ e) has

same_pair : (p q : ℕ × Number) → q.0 ≡ p.0 → q.1 ≡ p.1 → q ≡ p
same_pair p q a b = ap₂ (λ x y. (x, y)) a b

-- entries that are clones are the same
pub clones_are_same : (es fs : List (ℕ × Number)) → AllZip (λ p q. (q.0 ≡ p.0) × (q.1 ≡ p.1)) es fs → fs ≡ es
clones_are_same [] [] h = refl
clones_are_same [] (f ∷ fs) h = absurd h
clones_are_same (e ∷ es) [] h = absurd h
clones_are_same (e ∷ es) (f ∷ fs) h =
    let first = same_pair e f h.0.0 h.0.1 in
    let rest = clones_are_same es fs h.1 in
    cc
