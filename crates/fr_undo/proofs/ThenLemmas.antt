-- What the test of a version says.
use Rattle.std.proofs.Common.{◌≡◌, ℕ, ◌<◌, ◌≤◌, true, false, refl, sym, ap, ◌∙◌, arith}
use Rattle.std.specs.declared.cmp.Ordering.{Ordering}
use Rattle.std.specs.declared.cmp.Ordering.TheVariants.{Less, Equal, Greater}
use Rattle.std.specs.Ordering.{is_ge, nat_cmp}
use Rattle.std.specs.Cmp.{ranked}

clash : true ≡ false → ⊥
clash h = cc

pub at_least_from_ge : (a b : ℕ) → is_ge (nat_cmp a b) ≡ true → b ≤ a
at_least_from_ge a b e = from (nat_cmp a b) refl
  where
    from : (r : Ordering) → nat_cmp a b ≡ r → b ≤ a
    from Less t = absurd (clash (sym e ∙ ap is_ge t))
    from Equal t = let is : a ≡ b = ranked a b Equal (sym t) in omega arith
    from Greater t = let lt : b < a = ranked a b Greater (sym t) in omega arith

pub below_from_not_ge : (a b : ℕ) → is_ge (nat_cmp a b) ≡ false → a < b
below_from_not_ge a b e = from (nat_cmp a b) refl
  where
    from : (r : Ordering) → nat_cmp a b ≡ r → a < b
    from Less t = ranked a b Less (sym t)
    from Equal t = absurd (clash (sym (ap is_ge t) ∙ e))
    from Greater t = absurd (clash (sym (ap is_ge t) ∙ e))
