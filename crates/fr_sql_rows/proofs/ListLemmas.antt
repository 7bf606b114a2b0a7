-- Lists that are filtered twice.
use Rattle.std.proofs.Common.{◌≡◌, ◌≤◌, suc, length, filter, map, List, [], ◌∷◌, Bool, true, false, not, ◌||◌, refl, ap, arith}

module _ {X : Type 0} where
  -- those that pass the one all pass the other
  pub kept_in : (p g : X → Bool) → ((x : X) → p x ≡ true → g x ≡ true) → (xs : List X) → filter p (filter g xs) ≡ filter p xs
  kept_in p g h [] = refl
  kept_in p g h (x ∷ xs) = go (g x) refl (p x) refl (kept_in p g h xs)
    where
      go : (a : Bool) → g x ≡ a → (b : Bool) → p x ≡ b → filter p (filter g xs) ≡ filter p xs → filter p (filter g (x ∷ xs)) ≡ filter p (x ∷ xs)
      go true e true f more = rw (e, f) (ap (λ l. x ∷ l) more)
      go true e false f more = rw (e, f) more
      go false e true f more = absurd (let clash = h x f in cc)
      go false e false f more = rw (e, f) more

  -- those that pass the one do not pass the other
  pub none_in : (p g : X → Bool) → ((x : X) → p x ≡ true → g x ≡ false) → (xs : List X) → filter p (filter g xs) ≡ []
  none_in p g h [] = refl
  none_in p g h (x ∷ xs) = go (g x) refl (p x) refl (none_in p g h xs)
    where
      go : (a : Bool) → g x ≡ a → (b : Bool) → p x ≡ b → filter p (filter g xs) ≡ [] → filter p (filter g (x ∷ xs)) ≡ []
      go true e true f more = absurd (let clash = h x f in cc)
      go true e false f more = rw (e, f) more
      go false e b f more = rw e more

  pub fewer : (p g : X → Bool) (xs : List X) → length (filter p (filter g xs)) ≤ length (filter p xs)
  fewer p g [] = omega arith
  fewer p g (x ∷ xs) = go (g x) refl (p x) refl (fewer p g xs)
    where
      go : (a : Bool) → g x ≡ a → (b : Bool) → p x ≡ b → length (filter p (filter g xs)) ≤ length (filter p xs) → length (filter p (filter g (x ∷ xs))) ≤ length (filter p (x ∷ xs))
      go true e true f more = rw (e, f) (omega (arith, more))
      go true e false f more = rw (e, f) more
      go false e true f more = rw (e, f) (omega (arith, more))
      go false e false f more = rw (e, f) more

  pub all_in : (xs : List X) → filter (λ x. true) xs ≡ xs
  all_in [] = refl
  all_in (x ∷ xs) = ap (λ l. x ∷ l) (all_in xs)

  -- what passes neither test
  pub neither : (a b : X → Bool) (xs : List X) → filter (λ x. not (b x)) (filter (λ x. not (a x)) xs) ≡ filter (λ x. not (a x || b x)) xs
  neither a b [] = refl
  neither a b (x ∷ xs) = go (a x) refl (b x) refl (neither a b xs)
    where
      go : (s : Bool) → a x ≡ s → (t : Bool) → b x ≡ t → filter (λ x. not (b x)) (filter (λ x. not (a x)) xs) ≡ filter (λ x. not (a x || b x)) xs
          → filter (λ x. not (b x)) (filter (λ x. not (a x)) (x ∷ xs)) ≡ filter (λ x. not (a x || b x)) (x ∷ xs)
      go true e t f more = rw e more
      go false e true f more = rw (e, f) more
      go false e false f more = rw (e, f) (ap (λ l. x ∷ l) more)

  pub map_length : {Y : Type 0} (f : X → Y) (xs : List X) → length (map f xs) ≡ length xs
  map_length f [] = refl
  map_length f (x ∷ xs) = ap suc (map_length f xs)
