-- Epochs that may come, and what stands first.
use Rattle.std.proofs.Common.{ℕ, ◌≡◌, ◌==◌, ◌<◌, ◌++◌, true, List, [], ◌∷◌, Some, length, get_or, map, ap, sym, ◌∙◌, arith}
use Rattle.std.specs.List.{list_any, slice_get}
use Rattle.std.proofs.lemmas.List.{get_or-map, length-map}
use Rattle.std.proofs.lemmas.List.Folds.{list_any_at}

-- the epoch of the one at a place is among all of theirs
pub epoch-among : {X : Type 0} (epoch_of : X → ℕ) (xs : List X) (i : ℕ) (x : X) (own epoch : ℕ)
    → i < length xs → x ≡ get_or xs i x → own ≡ epoch_of x → (own == epoch) ≡ true → list_any (λ e. e == epoch) (map epoch_of xs) ≡ true
epoch-among epoch_of xs i x own epoch within is its same =
    let count = length-map xs epoch_of in
    let here = get_or-map epoch_of xs i x (epoch_of x) within ∙ (ap epoch_of (sym is) ∙ sym its) in
    list_any_at (λ e. e == epoch) (map epoch_of xs) i (epoch_of x) (omega (arith, within, count)) (ap (λ e. e == epoch) here ∙ same)

-- what stands first in a list stands there still with one more behind it
pub first-stays : {X : Type 0} (xs : List X) (x y : X) → slice_get xs 0 ≡ Some x → slice_get (xs ++ y ∷ []) 0 ≡ Some x
first-stays [] x y first = absurd (cc)
first-stays (z ∷ zs) x y first = first
