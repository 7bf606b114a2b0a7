-- Rows of stations whose nodes are those of the first numbers.
use Rattle.std.proofs.Common.{◌≡◌, ℕ, zero, suc, ◌<◌, ◌+◌, List, [], ◌∷◌, ◌++◌, Option, None, Some, inl, inr, length, get_or, map, refl, sym, ap, ◌∙◌, subst, arith}
use denote.Ref.{Bor}
use Rattle.std.specs.Prelude.{IfSome}
use Rattle.core.specs.Slice.{IsItemAt}
use Rattle.std.proofs.lemmas.Bool.{cases_lt}
use Rattle.std.proofs.lemmas.List.{get_or_append_left, get_or-map, length_push, map-append}
use Rattle.std.proofs.Math.Numerals.{add-one}
use Rattle.std.proofs.Math.Seq.{get_or-append_seam}
use Rattle.fr_base.specs.declared.place.NodeId.{NodeId}
use Rattle.fr_runtime_station.specs.Named.{named}

length_named : (node : ℕ → NodeId) (n : ℕ) → length (named node n) ≡ n
length_named node zero = refl
length_named node (suc n) = length_push (named node n) (node n) ∙ (add-one (length (named node n)) ∙ ap (λ k. suc k) (length_named node n))

named_at : (node : ℕ → NodeId) (n i : ℕ) (d : NodeId) → i < n → get_or (named node n) i d ≡ node i
named_at node zero i d less = absurd (omega (arith, less))
named_at node (suc n) i d less = elim (cases_lt i n) [
  | inl lower ↦ let count = length_named node n in get_or_append_left (named node n) (node n ∷ []) d i (omega (arith, lower, count)) ∙ named_at node n i d lower
  | inr upper ↦
      let same : i ≡ n = omega (arith, less, upper) in
      ap (λ k. get_or (named node n ++ node n ∷ []) k d) (same ∙ sym (length_named node n)) ∙ (get_or-append_seam (named node n) (node n) [] d ∙ ap node (sym same))
]

-- the station of a number stands in the place of that number
place-found : {S : Type 0} (place : S → NodeId) (node : ℕ → NodeId) (xs : List S) (i : ℕ) (s : S)
    → map place xs ≡ named node (length xs) → i < length xs → s ≡ get_or xs i s → place s ≡ node i
place-found place node xs i s are within is =
    ap place is
    ∙ (sym (get_or-map place xs i s (place s) within)
    ∙ (ap (λ places. get_or places i (place s)) are ∙ named_at node (length xs) i (place s) within))

-- so does the one that is read from such a row
pub place-read : {S : Type 0} (place : S → NodeId) (node : ℕ → NodeId) (xs ys : List S) (i j : ℕ) (s : S)
    → map place xs ≡ named node (length xs) → ys ≡ xs → j ≡ i → j < length ys → s ≡ get_or ys j s → place s ≡ node i
place-read place node xs ys i j s are same at within is =
    place-found place node xs i s are
    (subst (λ k. k < length xs) at (subst (λ zs. j < length zs) same within))
    (subst (λ k. s ≡ get_or xs k s) at (subst (λ zs. s ≡ get_or zs j s) same is))

-- and the one that is lent of it, if there is one
pub place-lent : {S : Type 0} (place : S → NodeId) (node : ℕ → NodeId) (xs ys : List S) (i j : ℕ) (r : Option (Bor S))
    → map place xs ≡ named node (length xs) → ys ≡ xs → j ≡ i → IsItemAt ys j r → IfSome r (λ s. place s.now ≡ node i)
place-lent place node xs ys i j None are same at item = tt
place-lent place node xs ys i j (Some s) are same at item = place-read place node xs ys i j s.now are same at item.3.0 item.1

-- so many stations are named, and one more is that of the next number
pub one-more : {S : Type 0} (place : S → NodeId) (node : ℕ → NodeId) (before after : List S) (s : S) (n : ℕ) → after ≡ before ++ s ∷ []
    → map place before ≡ named node n → place s ≡ node n → map place after ≡ named node (n + 1)
one-more place node before after s n grows are is =
    rw grows (map-append place before (s ∷ []) ∙ ap (λ (l : List NodeId). l ++ place s ∷ []) are
    ∙ ap (λ (p : NodeId). named node n ++ p ∷ []) is ∙ sym (ap (named node) (add-one n)))
