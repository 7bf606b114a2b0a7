-- Lists of asks, one after the other.
use Rattle.std.proofs.Common.{◌≡◌, ℕ, ◌+◌, List, [], ◌∷◌, ◌++◌, map, refl, sym, ap, ◌∙◌, arith}
use Rattle.std.specs.Prelude.{flat_map}
use Rattle.std.specs.List.{range_with_len}
use Rattle.std.proofs.lemmas.List.{flat_map_more}
use Rattle.std.proofs.lemmas.List.FromFn.{map-range_with_len_more}
use Rattle.fr_base.specs.declared.place.NodeId.{NodeId}
use Rattle.fr_ask.specs.declared.ask.Ask.{Ask}
use Rattle.fr_tail.specs.Tail.{TailState}
use Rattle.fr_epoch.specs.Lists.{peeks_at, peeks_below}

map_itself : {X : Type 0} (xs : List X) → map (λ x. x) xs ≡ xs
map_itself [] = refl
map_itself (x ∷ xs) = ap (λ ys. x ∷ ys) (map_itself xs)

one_more : (n : ℕ) → range_with_len 0 (n + 1) ≡ range_with_len 0 n ++ n ∷ []
one_more n = sym (map_itself (range_with_len 0 (n + 1))) ∙ map-range_with_len_more (λ x. x) 0 n n (omega arith) ∙ ap (λ xs. xs ++ n ∷ []) (map_itself (range_with_len 0 n))

pub append_none : {X : Type 0} (xs : List X) → xs ++ [] ≡ xs
append_none [] = refl
append_none (x ∷ xs) = ap (λ ys. x ∷ ys) (append_none xs)

-- one more tag has its peeks
pub peeks_more : (epoch : ℕ) (tail : TailState) (n : ℕ) (before more after : List (NodeId × Ask)) → before ≡ peeks_below epoch tail n → more ≡ peeks_at epoch tail n → after ≡ before ++ more
    → after ≡ peeks_below epoch tail (n + 1)
peeks_more epoch tail n before more after so_far own added =
    added ∙ ap (λ xs. before ++ xs) own ∙ ap (λ xs. xs ++ peeks_at epoch tail n) so_far ∙ sym (ap (flat_map (peeks_at epoch tail)) (one_more n) ∙ sym (flat_map_more (peeks_at epoch tail) [] (range_with_len 0 n) n))
