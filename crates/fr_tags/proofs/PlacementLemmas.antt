-- Counting and placing logs.
use Rattle.std.proofs.Common.{◌≡◌, ℕ, ◌+◌, ◌%◌, Bool, ◌||◌, List, [], ◌∷◌, ◌++◌, map, refl, sym, ◌∙◌, ap, arith}
use Rattle.std.specs.List.{list_any}
use Rattle.std.proofs.lemmas.List.FromFn.{map-range_with_len_more}
use Rattle.fr_tags.specs.Placement.{holders}

pub list_any-map : {A B : Type 0} (test : B → Bool) (f : A → B) (xs : List A) → list_any test (map f xs) ≡ list_any (λ x. test (f x)) xs
list_any-map test f [] = refl
list_any-map test f (x ∷ xs) = ap (λ b. test (f x) || b) (list_any-map test f xs)

-- after the first i holders comes one more
pub holders_pushed : (t m i number : ℕ) (logs more : List ℕ) → logs ≡ holders t m i → number ≡ t → more ≡ logs ++ ((number + i) % m) ∷ [] → more ≡ holders t m (i + 1)
holders_pushed t m i number logs more e n p =
    p ∙ ap (λ x. logs ++ ((x + i) % m) ∷ []) n ∙ ap (λ xs. xs ++ ((t + i) % m) ∷ []) e
    ∙ sym (map-range_with_len_more (λ j. (t + j) % m) 0 i i (omega arith))
