-- Entries of popped tags, and records compared where what is popped is passed over.
use Rattle.std.proofs.Common.{◌≡◌, ℕ, suc, ◌+◌, ◌<◌, ◌≤◌, Bool, true, false, ◌&&◌, List, [], ◌∷◌, length, get_or, drop, cond, eqb, nat_le, refl, sym, ap, ◌∙◌, inl, inr, arith}
use Rattle.std.specs.Prelude.{filter, slice_set}
use Rattle.std.specs.List.{insert}
use Rattle.std.specs.Cmp.Lexicographic.{pointwise}
use Rattle.std.proofs.lemmas.Bool.{leb-true, leb-false, lt-ltb, le-ltb, ne_eqb, eq-eqb, cases_lt}
use Rattle.std.proofs.lemmas.List.{drop_more, drop_all}
use Rattle.fr_log.specs.declared.popped.PoppedTag.{PoppedTag}
use Rattle.fr_log.specs.declared.records.SeedRecord.{SeedRecord}
use Rattle.fr_log.specs.Records.{is_same_seed_record}
use Rattle.fr_log.specs.Left.{place_in, raised, is_left, IsLeftAtFirst}

-- ---- where an entry stands

at_least : (a b : ℕ) → a ≤ b → (b ≡ a → ⊥) → a < b
at_least a b le apart = elim (cases_lt a b) [
  | inl l ↦ l
  | inr m ↦ absurd (apart (omega (arith, le, m)))
]

-- the entry that stands there is replaced, if it is of the tag
pub raised_set : (ps : List PoppedTag) (tag version : ℕ) (d : PoppedTag) → place_in ps tag < length ps → (get_or ps (place_in ps tag) d).tag ≡ tag
    → slice_set ps (place_in ps tag) (record { tag = tag; version = version }) ≡ raised ps tag version
raised_set [] tag version d less same = absurd (omega (arith, less))
raised_set (p ∷ ps) tag version d less same = go (raised_set ps tag version d) (nat_le tag p.tag) refl less same
  where
    go : (place_in ps tag < length ps → (get_or ps (place_in ps tag) d).tag ≡ tag → slice_set ps (place_in ps tag) (record { tag = tag; version = version }) ≡ raised ps tag version)
        → (b : Bool) → nat_le tag p.tag ≡ b → cond b 0 (suc (place_in ps tag)) < length (p ∷ ps) → (get_or (p ∷ ps) (cond b 0 (suc (place_in ps tag))) d).tag ≡ tag
        → slice_set (p ∷ ps) (cond b 0 (suc (place_in ps tag))) (record { tag = tag; version = version }) ≡ raised (p ∷ ps) tag version
    go rest true e l s = rw (le-ltb tag p.tag (omega (arith, s)), eq-eqb p.tag tag s) refl
    go rest false e l s =
        let low = leb-false tag p.tag e in
        rw (le-ltb tag p.tag (omega (arith, low)), ne_eqb p.tag tag (λ k. absurd (omega (arith, k, low)))) (ap (λ xs. p ∷ xs) (rest (omega (arith, l)) s))

-- else the entry is put before it
pub raised_insert : (ps : List PoppedTag) (tag version : ℕ) → ((d : PoppedTag) → place_in ps tag < length ps → (get_or ps (place_in ps tag) d).tag ≡ tag → ⊥)
    → insert ps (place_in ps tag) (record { tag = tag; version = version }) ≡ raised ps tag version
raised_insert [] tag version other = refl
raised_insert (p ∷ ps) tag version other = go (raised_insert ps tag version) (nat_le tag p.tag) refl other
  where
    go : (((d : PoppedTag) → place_in ps tag < length ps → (get_or ps (place_in ps tag) d).tag ≡ tag → ⊥) → insert ps (place_in ps tag) (record { tag = tag; version = version }) ≡ raised ps tag version)
        → (b : Bool) → nat_le tag p.tag ≡ b → ((d : PoppedTag) → cond b 0 (suc (place_in ps tag)) < length (p ∷ ps) → (get_or (p ∷ ps) (cond b 0 (suc (place_in ps tag))) d).tag ≡ tag → ⊥)
        → insert (p ∷ ps) (cond b 0 (suc (place_in ps tag))) (record { tag = tag; version = version }) ≡ raised (p ∷ ps) tag version
    go rest true e o = rw (lt-ltb tag p.tag (at_least tag p.tag (leb-true tag p.tag e) (o p (omega arith)))) refl
    go rest false e o =
        let low = leb-false tag p.tag e in
        rw (le-ltb tag p.tag (omega (arith, low)), ne_eqb p.tag tag (λ k. absurd (omega (arith, k, low))))
        (ap (λ xs. p ∷ xs) (rest (λ d l s. o d (omega (arith, l)) s)))

-- ---- records of two seeds, one after the other

abbrev left_from : List PoppedTag → ℕ → List SeedRecord → List SeedRecord
left_from ps n rs = filter (is_left ps) (drop n rs)

pub left_next : (ps : List PoppedTag) (n : ℕ) (rs : List SeedRecord) (r : SeedRecord) → n < length rs → r ≡ get_or rs n r → is_left ps r ≡ true
    → left_from ps n rs ≡ r ∷ left_from ps (n + 1) rs
left_next ps n rs r within is left =
    ap (filter (is_left ps)) (drop_more rs n r within ∙ ap (λ x. x ∷ drop (n + 1) rs) (sym is)) ∙ ap (λ b. cond b (r ∷ left_from ps (n + 1) rs) (left_from ps (n + 1) rs)) left

pub left_passed : (ps : List PoppedTag) (n : ℕ) (rs : List SeedRecord) (r : SeedRecord) → n < length rs → r ≡ get_or rs n r → is_left ps r ≡ false → left_from ps n rs ≡ left_from ps (n + 1) rs
left_passed ps n rs r within is gone =
    ap (filter (is_left ps)) (drop_more rs n r within ∙ ap (λ x. x ∷ drop (n + 1) rs) (sym is)) ∙ ap (λ b. cond b (r ∷ left_from ps (n + 1) rs) (left_from ps (n + 1) rs)) gone

first_left : (ps : List PoppedTag) (left : List SeedRecord) (x : SeedRecord) → IsLeftAtFirst ps left → 1 ≤ length left → x ≡ get_or left 0 x → filter (is_left ps) left ≡ x ∷ filter (is_left ps) (drop 1 left)
first_left ps [] x first long is = absurd (omega (arith, long))
first_left ps (y ∷ left) x first long is = ap (λ b. cond b (y ∷ filter (is_left ps) left) (filter (is_left ps) left)) first ∙ ap (λ z. z ∷ filter (is_left ps) left) (sym is)

pub records_met : (ps : List PoppedTag) (n : ℕ) (rs left : List SeedRecord) (r x : SeedRecord) → n < length rs → r ≡ get_or rs n r → is_left ps r ≡ true → IsLeftAtFirst ps left → 1 ≤ length left → x ≡ get_or left 0 x
    → pointwise is_same_seed_record (left_from ps n rs) (filter (is_left ps) left) ≡ is_same_seed_record r x && pointwise is_same_seed_record (left_from ps (n + 1) rs) (filter (is_left ps) (drop 1 left))
records_met ps n rs left r x within is yes_left first long there =
    ap (λ l. pointwise is_same_seed_record l (filter (is_left ps) left)) (left_next ps n rs r within is yes_left)
    ∙ ap (pointwise is_same_seed_record (r ∷ left_from ps (n + 1) rs)) (first_left ps left x first long there)

pub records_unmet : (ps : List PoppedTag) (n : ℕ) (rs left : List SeedRecord) (r : SeedRecord) → n < length rs → r ≡ get_or rs n r → is_left ps r ≡ true → length left < 1
    → pointwise is_same_seed_record (left_from ps n rs) (filter (is_left ps) left) ≡ false
records_unmet ps n rs [] r within is yes_left none = ap (λ l. pointwise is_same_seed_record l []) (left_next ps n rs r within is yes_left)
records_unmet ps n rs (y ∷ left) r within is yes_left none = absurd (omega (arith, none))

pub records_end : (ps : List PoppedTag) (n : ℕ) (rs left : List SeedRecord) → length rs ≤ n → IsLeftAtFirst ps left → eqb (length left) 0 ≡ pointwise is_same_seed_record (left_from ps n rs) (filter (is_left ps) left)
records_end ps n rs left past first = go left first ∙ ap (λ l. pointwise is_same_seed_record (filter (is_left ps) l) (filter (is_left ps) left)) (sym (drop_all n rs past))
  where
    go : (left : List SeedRecord) → IsLeftAtFirst ps left → eqb (length left) 0 ≡ pointwise is_same_seed_record [] (filter (is_left ps) left)
    go [] first = refl
    go (x ∷ left) first =
        ne_eqb (length (x ∷ left)) 0 (λ e. absurd (omega (arith, e))) ∙ sym (ap (λ t. pointwise is_same_seed_record [] (cond t (x ∷ filter (is_left ps) left) (filter (is_left ps) left))) first)
