-- Entries in order of which none has the place of the one before have places of their own.
use Rattle.std.proofs.Common.{◌≡◌, ◌≢◌, true, false, List, [], ◌∷◌, None, Some, refl, ap, ◌∙◌}
use Rattle.std.specs.declared.cmp.Ordering.{Ordering}
use Rattle.std.specs.declared.cmp.Ordering.TheVariants.{Less, Equal, Greater}
use Rattle.std.specs.Ordering.{is_eq, is_lt, ordering_reverse}
use Rattle.fr_base.specs.Bytes.{bytes_cmp, bytes_exact, bytes_total}
use Rattle.fr_audit_journal.specs.Merge.{Placed, is_before, place_cmp, place_numbers}
use Rattle.fr_audit_journal.proofs.Sorting.{Ascends, Low}
use Rattle.fr_audit.specs.Audited.{is_same_place}
use Rattle.fr_audit.specs.Law.{AreUnrepeated}
use Rattle.fr_audit.specs.Run.{AreApart, IsApart}

before_at : (p q : Placed) (r : Ordering) → place_cmp p q ≡ r → is_eq r ≡ false → is_before q p ≡ false → is_lt r ≡ true
before_at p q Less e apart low = refl
before_at p q Equal e apart low = absurd (cc)
before_at p q Greater e apart low =
    let k : place_cmp q p ≡ Less = bytes_total.antisymm (place_numbers q) (place_numbers p) ∙ ap ordering_reverse e in
    let l : is_before q p ≡ true = ap is_lt k in
    absurd (cc)

-- of two places in order that differ, the first is before the second
is_below : (p q : Placed) → is_same_place p q ≡ false → is_before q p ≡ false → is_before p q ≡ true
is_below p q apart low = before_at p q (place_cmp p q) refl apart low

same_is_repeated : (p q : Placed) → place_numbers p ≡ place_numbers q → is_same_place p q ≡ true
same_is_repeated p q e = ap (λ n. is_eq (bytes_cmp n (place_numbers q))) e ∙ itself (bytes_cmp (place_numbers q) (place_numbers q)) (bytes_total.antisymm (place_numbers q) (place_numbers q))
  where
    itself : (r : Ordering) → r ≡ ordering_reverse r → is_eq r ≡ true
    itself Less e = absurd (cc)
    itself Equal e = refl
    itself Greater e = absurd (cc)

differ : (p q : Placed) → is_same_place p q ≡ false → place_numbers p ≢ place_numbers q
differ p q apart e = let k = same_is_repeated p q e in absurd (cc)

apart_from_low : (p q : Placed) (ps : List Placed) → is_before p q ≡ true → Low is_before q ps → IsApart p ps
unfolding Low
apart_from_low p q [] below low = tt
apart_from_low p q (r ∷ ps) below low =
    ((λ e. let k : is_before p q ≡ is_before r q = ap (λ n. is_lt (bytes_cmp n (place_numbers q))) e in let l = low.0 in absurd (cc)), apart_from_low p q ps below low.1)

apart_after : (p : Placed) (ps : List Placed) → Ascends is_before (p ∷ ps) → AreUnrepeated (Some p) ps → AreApart (p ∷ ps)
unfolding Ascends Low
apart_after p [] up alone = (tt, tt)
apart_after p (q ∷ ps) up alone =
    ((differ p q alone.0, apart_from_low p q ps (is_below p q alone.0 up.0.0) up.1.0), apart_after q ps up.1 alone.1)

pub are_apart : (ps : List Placed) → Ascends is_before ps → AreUnrepeated None ps → AreApart ps
are_apart [] up alone = tt
are_apart (p ∷ ps) up alone = apart_after p ps up alone.1

-- ---- and back

unlike : (p q : Placed) → place_numbers p ≢ place_numbers q → is_same_place p q ≡ false
unlike p q apart = go (place_cmp p q) refl
  where
    go : (r : Ordering) → place_cmp p q ≡ r → is_eq (place_cmp p q) ≡ false
    go Less e = ap is_eq e
    go Equal e = absurd (apart (bytes_exact (place_numbers p) (place_numbers q) e))
    go Greater e = ap is_eq e

unrepeated_after : (p : Placed) (ps : List Placed) → IsApart p ps → AreApart ps → AreUnrepeated (Some p) ps
unrepeated_after p [] apart all = tt
unrepeated_after p (q ∷ ps) apart all = (unlike p q apart.0, unrepeated_after q ps all.0 all.1)

pub are_unrepeated : (ps : List Placed) → AreApart ps → AreUnrepeated None ps
are_unrepeated [] apart = tt
are_unrepeated (p ∷ ps) apart = (refl, unrepeated_after p ps apart.0 apart.1)
