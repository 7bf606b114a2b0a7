-- A seed with one record more.
use Rattle.std.proofs.Common.{◌≡◌, ℕ, suc, ◌+◌, ◌-◌, ◌<◌, ◌≤◌, Bool, true, false, ◌&&◌, ◌||◌, List, [], ◌∷◌, ◌++◌, length, nat_lt, nat_le, nat_eq, Some, refl, sym, ◌∙◌, ap, arith}
use Rattle.std.specs.List.{slice_get}
use Rattle.std.proofs.lemmas.Bool.{and_parts, lt-ltb, le-ltb, eq-eqb, ne_eqb}
use Rattle.fr_log.specs.declared.records.SeedRecord.{SeedRecord}
use Rattle.fr_log.specs.Seed.{is_rising_from}

-- whether a record stands behind another
abbrev pub behind : SeedRecord → SeedRecord → Bool
behind last next = nat_lt last.version next.version || (nat_eq last.version next.version && nat_le (last.tag + 1) next.tag)

only : (a b : Bool) → a ≡ true → (a && (b && true)) ≡ b
only true true e = refl
only true false e = refl
only false b e = absurd (cc e)

both : (a b c : Bool) → a ≡ true → b ≡ c → (a && b) ≡ c
both true b c e h = h
both false b c e h = absurd (cc e)

-- records rise with one more exactly if it stands behind the last
pub one_more_rises : (version tag : ℕ) (rs : List SeedRecord) (last next : SeedRecord) → slice_get rs (length rs - 1) ≡ Some last → is_rising_from version tag rs ≡ true → is_rising_from version tag (rs ++ next ∷ []) ≡ behind last next
one_more_rises version tag [] last next is rising = absurd (cc is)
one_more_rises version tag (r ∷ []) last next is rising =
    let same : r ≡ last = cc is in
    only (nat_lt version r.version || (nat_eq version r.version && nat_le tag r.tag)) (behind r next) (and_parts _ _ rising).0 ∙ ap (λ x. behind x next) same
one_more_rises version tag (r ∷ s ∷ rs) last next is rising =
    let at : length (r ∷ s ∷ rs) - 1 ≡ suc (length (s ∷ rs) - 1) = omega arith in
    let later : slice_get (s ∷ rs) (length (s ∷ rs) - 1) ≡ Some last = ap (λ i. slice_get (r ∷ s ∷ rs) i) (sym at) ∙ is in
    let parts = and_parts (nat_lt version r.version || (nat_eq version r.version && nat_le tag r.tag)) (is_rising_from r.version (r.tag + 1) (s ∷ rs)) rising in
    both (nat_lt version r.version || (nat_eq version r.version && nat_le tag r.tag)) (is_rising_from r.version (r.tag + 1) ((s ∷ rs) ++ next ∷ [])) (behind last next) parts.0
    (one_more_rises r.version (r.tag + 1) (s ∷ rs) last next later parts.1)

-- the tests of the code, one after another
module _ (rs : List SeedRecord) (last next : SeedRecord) (found : slice_get rs (length rs - 1) ≡ Some last) (rising : is_rising_from 0 0 rs ≡ true)
    (version version' : ℕ) (version_is : version ≡ last.version) (version'_is : version' ≡ next.version) where
  whole : is_rising_from 0 0 (rs ++ next ∷ []) ≡ (nat_lt version version' || (nat_eq version version' && nat_le (last.tag + 1) next.tag))
  whole = rw (version_is, version'_is) (one_more_rises 0 0 rs last next found rising)

  pub above : version < version' → nat_lt version version' ≡ is_rising_from 0 0 (rs ++ next ∷ [])
  above less = let e = lt-ltb version version' less in e ∙ sym (whole ∙ rw e refl)

  pub apart : version' ≤ version → (version ≡ version' → ⊥) → nat_eq version version' ≡ is_rising_from 0 0 (rs ++ next ∷ [])
  apart least other =
      let e = le-ltb version version' least in
      let h = ne_eqb version version' other in
      h ∙ sym (whole ∙ rw (e, h) refl)

  pub beside : version' ≤ version → version ≡ version' → (tag tag' : ℕ) → tag ≡ last.tag → tag' ≡ next.tag → nat_le (tag + 1) tag' ≡ is_rising_from 0 0 (rs ++ next ∷ [])
  beside least same tag tag' tag_is tag'_is =
      let e = le-ltb version version' least in
      let h = eq-eqb version version' same in
      rw (tag_is, tag'_is) (sym (whole ∙ rw (e, h) refl))
