-- What a comparison of versions says.
use Rattle.std.proofs.Common.{◌≡◌, ◌<◌, ◌≤◌, ℕ, true, false, refl, sym, ap, ◌∙◌, arith}
use Rattle.std.specs.declared.cmp.Ordering.{Ordering}
use Rattle.std.specs.declared.cmp.Ordering.TheVariants.{Less, Equal, Greater}
use Rattle.std.specs.Ordering.{nat_cmp, is_le, is_ge}
use Rattle.std.specs.Cmp.{ranked}

clash : false ≡ true → ⊥
clash e = cc

pub le_from_le : (a b : ℕ) → is_le (nat_cmp a b) ≡ true → a ≤ b
le_from_le a b e = from (nat_cmp a b) refl
  where
    from : (r : Ordering) → nat_cmp a b ≡ r → a ≤ b
    from Less t = let lt = ranked a b Less (sym t) in omega arith
    from Equal t = let same = ranked a b Equal (sym t) in omega arith
    from Greater t = absurd (clash (sym (ap is_le t) ∙ e))

pub ge_from_ge : (a b : ℕ) → is_ge (nat_cmp a b) ≡ true → b ≤ a
ge_from_ge a b e = from (nat_cmp a b) refl
  where
    from : (r : Ordering) → nat_cmp a b ≡ r → b ≤ a
    from Less t = absurd (clash (sym (ap is_ge t) ∙ e))
    from Equal t = let same = ranked a b Equal (sym t) in omega arith
    from Greater t = let gt = ranked a b Greater (sym t) in omega arith

pub below_from_not_ge : (a b : ℕ) → is_ge (nat_cmp a b) ≡ false → a < b
below_from_not_ge a b e = from (nat_cmp a b) refl
  where
    from : (r : Ordering) → nat_cmp a b ≡ r → a < b
    from Less t = ranked a b Less (sym t)
    from Equal t = absurd (clash (sym e ∙ ap is_ge t))
    from Greater t = absurd (clash (sym e ∙ ap is_ge t))
