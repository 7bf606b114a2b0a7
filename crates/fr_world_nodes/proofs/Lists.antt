-- What is true of each item of a list by its place, as an item is added at the end or set.
use Rattle.std.proofs.Common.{◌≡◌, ◌≢◌, ℕ, zero, suc, List, [], ◌∷◌, ◌++◌, Some, subst, length, slice_set, arith}
use Rattle.std.specs.Prelude.{slice_get}

module _ {X : Type 0} where
  pub each_push : (P : ℕ → X → Type 0) (xs : List X) (y : X) → ((i : ℕ) (x : X) → slice_get xs i ≡ Some x → P i x) → P (length xs) y → (i : ℕ) (x : X) → slice_get (xs ++ (y ∷ [])) i ≡ Some x → P i x
  each_push P [] y all own zero x e = let k : y ≡ x = cc in subst (P 0) k own
  each_push P [] y all own (suc i) x e = absurd (cc)
  each_push P (z ∷ xs) y all own zero x e = all 0 x e
  each_push P (z ∷ xs) y all own (suc i) x e = each_push (λ j. P (suc j)) xs y (λ j. all (suc j)) own i x e

  pub each_set : (P : ℕ → X → Type 0) (xs : List X) (n : ℕ) (y : X) → ((i : ℕ) (x : X) → i ≢ n → slice_get xs i ≡ Some x → P i x) → P n y → (i : ℕ) (x : X) → slice_get (slice_set xs n y) i ≡ Some x → P i x
  each_set P [] n y others own i x e = absurd (cc)
  each_set P (z ∷ xs) zero y others own zero x e = let k : y ≡ x = cc in subst (P 0) k own
  each_set P (z ∷ xs) zero y others own (suc i) x e = others (suc i) x (λ k. let d : ⊥ = omega (arith, k) in d) e
  each_set P (z ∷ xs) (suc n) y others own zero x e = others 0 x (λ k. let d : ⊥ = omega (arith, k) in d) e
  each_set P (z ∷ xs) (suc n) y others own (suc i) x e =
      each_set (λ j. P (suc j)) xs n y (λ j w ne. others (suc j) w (λ k. ne (let d : j ≡ n = omega (arith, k) in d))) own i x e
