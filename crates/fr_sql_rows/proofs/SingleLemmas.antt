-- Rows of which no two clash have each key once.
use Rattle.std.proofs.Common.{◌≡◌, ◌≤◌, Bool, true, false, List, [], ◌∷◌, filter, length, refl, sym, ap, ◌∙◌, arith}
use Rattle.std.specs.List.{AllByRecursion, list_any}
use Rattle.std.specs.declared.cmp.Ordering.TheVariants.{Less}
use Rattle.sqlite.specs.Order.{Row}
use Rattle.sqlite.specs.Tree.{IsTable, rowid}
use Rattle.sqlite_trees.specs.Tree.{IsAscending}
use Rattle.sqlite_value.specs.Order.{value_cmp}

pub none_of : {X : Type 0} (p : X → Bool) (xs : List X) → list_any p xs ≡ false → AllByRecursion (λ x. p x ≡ false) xs
none_of p [] h = tt
none_of p (x ∷ xs) h = go (p x) refl (none_of p xs)
  where
    go : (b : Bool) → p x ≡ b → (list_any p xs ≡ false → AllByRecursion (λ x. p x ≡ false) xs) → AllByRecursion (λ x. p x ≡ false) (x ∷ xs)
    go true e more = absurd (let clash = rw e at h in cc)
    go false e more = (e, more (rw e at h))

-- each key once, if keys of rows are apart from those of later rows
module _ {K : Type 0} (key : Row → K) (same : K → K → Bool) (exact : (a b : K) → same a b ≡ true → a ≡ b) (comm : (a b : K) → same a b ≡ same b a) where
  none_at : (r : Row) (q : K) → same (key r) q ≡ true → (rows : List Row) → AllByRecursion (λ y. same (key r) (key y) ≡ false) rows → filter (λ y. same (key y) q) rows ≡ []
  none_at r q is [] all = refl
  none_at r q is (y ∷ ys) all =
      let apart : same (key y) q ≡ false = comm (key y) q ∙ ap (λ k. same k (key y)) (sym (exact (key r) q is)) ∙ all.0 in
      rw apart (none_at r q is ys all.1)

  pub single_of : (rows : List Row) → IsAscending (λ x y. same (key x) (key y) ≡ false) rows → (q : K) → length (filter (λ y. same (key y) q) rows) ≤ 1
  single_of [] apart q = omega arith
  single_of (r ∷ rows) apart q = go (same (key r) q) refl (single_of rows apart.1 q)
    where
      go : (b : Bool) → same (key r) q ≡ b → length (filter (λ y. same (key y) q) rows) ≤ 1 → length (filter (λ y. same (key y) q) (r ∷ rows)) ≤ 1
      go true is more = rw is (rw (none_at r q is rows apart.0) (omega arith))
      go false is more = rw is more

-- of rows in the order of their rowids, none has the key of a later one, if none clashes with another
module _ (P : Row → Type 0) (clash same : Row → Row → Bool) (step : (x y : Row) → P x → P y → value_cmp (rowid x) (rowid y) ≡ Less → clash x y ≡ false → same x y ≡ false) where
  heads : (r : Row) (rows ys : List Row) → P r → AllByRecursion (λ y. value_cmp (rowid r) (rowid y) ≡ Less) ys → AllByRecursion P ys
      → AllByRecursion (λ y. AllByRecursion (λ x. clash x y ≡ false) (r ∷ rows)) ys → AllByRecursion (λ y. same r y ≡ false) ys
  heads r rows [] p up all none = tt
  heads r rows (y ∷ ys) p up all none = (step r y p all.0 up.0 none.0.0, heads r rows ys p up.1 all.1 none.1)

  tails : (r : Row) (rows ys : List Row) → AllByRecursion (λ y. AllByRecursion (λ x. clash x y ≡ false) (r ∷ rows)) ys → AllByRecursion (λ y. AllByRecursion (λ x. clash x y ≡ false) rows) ys
  tails r rows [] none = tt
  tails r rows (y ∷ ys) none = (none.0.1, tails r rows ys none.1)

  pub apart_of : (rows : List Row) → IsTable rows → AllByRecursion P rows → AllByRecursion (λ y. AllByRecursion (λ x. clash x y ≡ false) rows) rows → IsAscending (λ x y. same x y ≡ false) rows
  apart_of [] up all none = tt
  apart_of (r ∷ rows) up all none = (heads r rows rows all.0 up.0 all.1 none.1, apart_of rows up.1 all.1 (tails r rows rows none.1))
