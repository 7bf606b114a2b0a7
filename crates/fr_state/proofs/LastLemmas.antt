-- The last element of a list that passes a test, found from its end.
use Rattle.std.proofs.Common.{◌≡◌, Bool, true, false, cond, List, [], ◌∷◌, ◌++◌, Option, Some, None, refl, sym, ap, ◌∙◌, inl, inr}
use Rattle.std.specs.Prelude.{find, reverse, ◌⊎◌}
use Rattle.std.specs.List.{AllByRecursion}
use Rattle.std.specs.Option.{option_or}
use Rattle.std.proofs.lemmas.List.{reverse-append}
use Rattle.std.proofs.lemmas.List.Folds.{find-append}

module _ {X : Type 0} (p : X → Bool) where
  -- x passes, and what stands after it does not
  pub record IsLast (xs : List X) (x : X) : Type 0 where
    pub before : List X
    pub after : List X
    pub parts : xs ≡ before ++ x ∷ after
    pub passes : p x ≡ true
    pub rest : AllByRecursion (λ y. p y ≡ false) after

  pub last-append : (xs ys : List X) → find p (reverse (xs ++ ys)) ≡ option_or (find p (reverse ys)) (find p (reverse xs))
  last-append xs ys = ap (find p) (reverse-append xs ys) ∙ find-append p (reverse ys) (reverse xs)

  last-cons : (x : X) (xs : List X) → find p (reverse (x ∷ xs)) ≡ option_or (find p (reverse xs)) (cond (p x) (Some x) None)
  last-cons x xs = last-append (x ∷ []) xs

  pub none_from_fails : (xs : List X) → AllByRecursion (λ y. p y ≡ false) xs → find p (reverse xs) ≡ None
  none_from_fails [] h = refl
  none_from_fails (x ∷ xs) h = last-cons x xs ∙ rw (none_from_fails xs h.1, h.0) refl

  both_none : (o : Option X) (b : Bool) (x : X) → option_or o (cond b (Some x) None) ≡ None → (o ≡ None) × (b ≡ false)
  both_none None true x e = absurd cc
  both_none None false x e = (refl, refl)
  both_none (Some y) b x e = absurd cc

  pub fails_from_none : (xs : List X) → find p (reverse xs) ≡ None → AllByRecursion (λ y. p y ≡ false) xs
  fails_from_none [] e = tt
  fails_from_none (x ∷ xs) e =
      let h = both_none (find p (reverse xs)) (p x) x (sym (last-cons x xs) ∙ e) in
      (h.1, fails_from_none xs h.0)

  pub last_from_split : (before after : List X) (x : X) → p x ≡ true → AllByRecursion (λ y. p y ≡ false) after → find p (reverse (before ++ x ∷ after)) ≡ Some x
  last_from_split before after x passes rest =
      let e : find p (reverse (x ∷ after)) ≡ Some x = last-cons x after ∙ rw (none_from_fails after rest, passes) refl in
      last-append before (x ∷ after) ∙ rw e refl

  found_in : (o : Option X) (b : Bool) (y x : X) → option_or o (cond b (Some y) None) ≡ Some x → (o ≡ Some x) ⊎ ((o ≡ None) × (b ≡ true) × (y ≡ x))
  found_in None true y x e = inr (refl, refl, cc)
  found_in None false y x e = absurd cc
  found_in (Some z) b y x e = inl e

  pub split_from_last : (xs : List X) (x : X) → find p (reverse xs) ≡ Some x → IsLast xs x
  split_from_last [] x e = absurd cc
  split_from_last (y ∷ xs) x e =
      elim (found_in (find p (reverse xs)) (p y) y x (sym (last-cons y xs) ∙ e)) [
        | inl later ↦
            let s = split_from_last xs x later in
            record { before = y ∷ s.before; after = s.after; parts = ap (λ (t : List X). y ∷ t) s.parts; passes = s.passes; rest = s.rest }
        | inr here ↦
            record { before = []; after = xs; parts = ap (λ (z : X). z ∷ xs) here.2; passes = ap p (sym here.2) ∙ here.1; rest = fails_from_none xs here.0 }
      ]
