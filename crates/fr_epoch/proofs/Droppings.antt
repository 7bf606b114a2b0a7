-- What is left of a parent once what was shown let generations drop.
use Rattle.std.proofs.Common.{◌≡◌, ℕ, zero, suc, ◌+◌, ◌-◌, ◌<◌, ◌≤◌, Bool, true, false, cond, eqb, min, max, List, [], ◌∷◌, ◌++◌, length, drop, get_or, Option, Some, None, refl, sym, ap, ◌∙◌, inl, inr, arith}
use Rattle.std.specs.Prelude.{◌⊎◌, slice_get, Contains, unwrap_or}
use Rattle.std.specs.List.{range_with_len}
use Rattle.std.specs.Option.{option_and_then}
use Rattle.std.proofs.lemmas.Bool.{cases_lt, eqb-true}
use Rattle.std.proofs.lemmas.List.{length-append, at_drop_more, at_drop_all}
use Rattle.std.proofs.lemmas.List.Elements.{Contains-append_right}
use Rattle.fr_state.specs.Generations.{LogGeneration, CoordinatedState}
use Rattle.fr_state.specs.LookUp.{source_of}
use Rattle.fr_state.specs.Order.{without_first}
use Rattle.fr_state.specs.Laws as state
use Rattle.fr_log.specs.declared.popped.PoppedTag.{PoppedTag}
use Rattle.fr_epoch.specs.Dropping.{shown_of, greater, lesser, least_with, least_shown, left_from, left_after, left_by}
use Rattle.fr_epoch.specs.DroppingLaws.{IsLeftBy, IsShownFrom, LeastIsShown, LeftIsWithout}

-- ---- nothing is dropped

whole : (s : CoordinatedState) → s ≡ without_first s 0
whole s = let k : s.dropped ≡ s.dropped + 0 = omega arith in ap (λ (d : ℕ). let t : CoordinatedState = record { dropped = d; gens = s.gens } in t) k

none_dropped : (s : CoordinatedState) (shown : List PoppedTag) (tags : List ℕ) → 1 ≤ length s.gens → left_by s shown tags ≡ s → IsLeftBy s shown tags
none_dropped s shown tags some e = record { number = 0; fewer = omega (arith, some); is = e ∙ whole s; starts = λ one. absurd (omega (arith, one)) }

-- ---- what is shown

-- an entry, and what stands behind it
in_rest : (shown : List PoppedTag) (p : PoppedTag) (tag least : ℕ) → IsShownFrom shown tag least → IsShownFrom (p ∷ shown) tag least
in_rest shown p tag least h = record { entry = h.entry; there = Contains-append_right (p ∷ []) shown h.entry h.there; tag_is = h.tag_is; high = h.high }

-- the greatest version shown of a tag is that of an entry
greatest_is_shown : (shown : List PoppedTag) (tag v least : ℕ) → shown_of shown tag ≡ Some v → least ≤ v → IsShownFrom shown tag least
greatest_is_shown [] tag v least e le = absurd cc
greatest_is_shown (p ∷ shown) tag v least e le = go (eqb p.tag tag) refl (shown_of shown tag) refl (greatest_is_shown shown tag)
  where
    here : p.tag ≡ tag → least ≤ p.version → IsShownFrom (p ∷ shown) tag least
    here same high = record { entry = p; there = (0, omega arith, refl); tag_is = same; high = high }

    either : (a b : ℕ) → least ≤ max a b → (least ≤ a) ⊎ (least ≤ b)
    either a b h = elim (cases_lt a b) [
      | inl less ↦ inr (omega (arith, h, less))
      | inr ge ↦ inl (omega (arith, h, ge))
    ]

    go : (b : Bool) → eqb p.tag tag ≡ b → (o : Option ℕ) → shown_of shown tag ≡ o → ((w bound : ℕ) → shown_of shown tag ≡ Some w → bound ≤ w → IsShownFrom shown tag bound) → IsShownFrom (p ∷ shown) tag least
    go true k None o_is rest =
        let is : Some (max p.version 0) ≡ Some v = sym (ap (λ o. Some (max p.version (unwrap_or o 0))) o_is) ∙ sym (ap (λ b. cond b (Some (max p.version (unwrap_or (shown_of shown tag) 0))) (shown_of shown tag)) k) ∙ e in
        let same : max p.version 0 ≡ v = cc in
        here (eqb-true p.tag tag k) (omega (arith, same, le))
    go true k (Some w) o_is rest =
        let is : Some (max p.version w) ≡ Some v = sym (ap (λ o. Some (max p.version (unwrap_or o 0))) o_is) ∙ sym (ap (λ b. cond b (Some (max p.version (unwrap_or (shown_of shown tag) 0))) (shown_of shown tag)) k) ∙ e in
        let same : max p.version w ≡ v = cc in
        elim (either p.version w (omega (arith, same, le))) [
          | inl high ↦ here (eqb-true p.tag tag k) high
          | inr high ↦ in_rest shown p tag least (rest w least o_is high)
        ]
    go false k o o_is rest = in_rest shown p tag least (rest v least (sym (ap (λ b. cond b (Some (max p.version (unwrap_or (shown_of shown tag) 0))) (shown_of shown tag)) k) ∙ e) le)

-- the least is no more than one from before, and than what is shown of each tag
least_low : (shown : List PoppedTag) (from least : ℕ) (tags : List ℕ) → least_with shown (Some from) tags ≡ Some least → least ≤ from
least_low shown from least [] e = let k : from ≡ least = cc in omega (arith, k)
least_low shown from least (t ∷ tags) e = go (shown_of shown t) refl (λ v k. least_low shown (min from v) least tags k)
  where
    go : (o : Option ℕ) → shown_of shown t ≡ o → ((v : ℕ) → least_with shown (Some (min from v)) tags ≡ Some least → least ≤ min from v) → least ≤ from
    go None is rest = let k : None ≡ Some least = sym (ap (option_and_then (λ v. least_with shown (Some (min from v)) tags)) is) ∙ e in absurd cc
    go (Some v) is rest = let k = rest v (sym (ap (option_and_then (λ v. least_with shown (Some (min from v)) tags)) is) ∙ e) in omega (arith, k)

lesser_low : (before : Option ℕ) (v : ℕ) → lesser before v ≤ v
lesser_low None v = omega arith
lesser_low (Some from) v = omega arith

shown_each : (shown : List PoppedTag) (before : Option ℕ) (tags : List ℕ) (least tag i : ℕ) → least_with shown before tags ≡ Some least → i < length tags → get_or tags i tag ≡ tag → IsShownFrom shown tag least
shown_each shown before [] least tag i e within at = absurd (omega (arith, within))
shown_each shown before (t ∷ tags) least tag i e within at = go (shown_of shown t) refl (λ v k j inside is. shown_each shown (Some (lesser before v)) tags least tag j k inside is) i within at
  where
    go : (o : Option ℕ) → shown_of shown t ≡ o
        → ((v : ℕ) → least_with shown (Some (lesser before v)) tags ≡ Some least → (j : ℕ) → j < length tags → get_or tags j tag ≡ tag → IsShownFrom shown tag least)
        → (i : ℕ) → i < length (t ∷ tags) → get_or (t ∷ tags) i tag ≡ tag → IsShownFrom shown tag least
    go None is rest i within at = let k : None ≡ Some least = sym (ap (option_and_then (λ v. least_with shown (Some (lesser before v)) tags)) is) ∙ e in absurd cc
    go (Some v) is rest zero within at =
        let k : least_with shown (Some (lesser before v)) tags ≡ Some least = sym (ap (option_and_then (λ v. least_with shown (Some (lesser before v)) tags)) is) ∙ e in
        let low = least_low shown (lesser before v) least tags k in
        let below = lesser_low before v in
        greatest_is_shown shown tag v least (ap (shown_of shown) (sym at) ∙ is) (omega (arith, low, below))
    go (Some v) is rest (suc j) within at =
        rest v (sym (ap (option_and_then (λ v. least_with shown (Some (lesser before v)) tags)) is) ∙ e) j (omega (arith, within)) at

pub least_is_shown : LeastIsShown
least_is_shown shown tags least tag e has = shown_each shown None tags least tag has.0 e has.1 has.2

-- ---- how they are found

-- what the entries so far show, with what the others do
abbrev pub with_rest : Option ℕ → Option ℕ → Option ℕ
with_rest None rest = rest
with_rest (Some v) rest = Some (max v (unwrap_or rest 0))

with_none : (o : Option ℕ) → with_rest o None ≡ o
with_none None = refl
with_none (Some v) = let k : max v 0 ≡ v = omega arith in ap Some k

-- one entry more
greater_on : (o : Option ℕ) (p : PoppedTag) (ps : List PoppedTag) (tag : ℕ) → with_rest o (shown_of (p ∷ ps) tag) ≡ with_rest (cond (eqb p.tag tag) (Some (greater o p.version)) o) (shown_of ps tag)
greater_on o p ps tag = go o (eqb p.tag tag) (shown_of ps tag)
  where
    go : (o : Option ℕ) (b : Bool) (rest : Option ℕ) → with_rest o (cond b (Some (max p.version (unwrap_or rest 0))) rest) ≡ with_rest (cond b (Some (greater o p.version)) o) rest
    go o false rest = refl
    go None true rest = refl
    go (Some v) true rest = let k : max v (max p.version (unwrap_or rest 0)) ≡ max (max v p.version) (unwrap_or rest 0) = omega arith in ap Some k

-- behind one entry more it is still what all show
pub shown_next : (o : Option ℕ) (shown : List PoppedTag) (i tag : ℕ) (p : PoppedTag) (all : Option ℕ) → i < length shown → get_or shown i p ≡ p → with_rest o (shown_of (drop i shown) tag) ≡ all
    → with_rest (cond (eqb p.tag tag) (Some (greater o p.version)) o) (shown_of (drop (i + 1) shown) tag) ≡ all
shown_next o shown i tag p all less at is =
    sym (greater_on o p (drop (i + 1) shown) tag)
    ∙ ap (λ (q : PoppedTag). with_rest o (shown_of (q ∷ drop (i + 1) shown) tag)) (sym at)
    ∙ sym (at_drop_more (λ xs. with_rest o (shown_of xs tag)) shown i p less)
    ∙ is

pub shown_end : (o : Option ℕ) (shown : List PoppedTag) (i tag : ℕ) (all : Option ℕ) → length shown ≤ i → with_rest o (shown_of (drop i shown) tag) ≡ all → o ≡ all
shown_end o shown i tag all le is = sym (at_drop_all (λ xs. with_rest o (shown_of xs tag)) shown i le ∙ with_none o) ∙ is

-- one tag more
least_on : (shown : List PoppedTag) (least : Option ℕ) (tag tags : ℕ) → tag < tags
    → least_with shown least (range_with_len tag (tags - tag)) ≡ option_and_then (λ v. least_with shown (Some (lesser least v)) (range_with_len (tag + 1) (tags - (tag + 1)))) (shown_of shown tag)
least_on shown least tag tags lt = let k : tags - tag ≡ suc (tags - (tag + 1)) = omega (arith, lt) in ap (λ n. least_with shown least (range_with_len tag n)) k

pub least_start : (shown : List PoppedTag) (tags : ℕ) → least_with shown None (range_with_len 0 (tags - 0)) ≡ least_shown shown (range_with_len 0 tags)
least_start shown tags = let k : tags - 0 ≡ tags = omega arith in ap (λ n. least_with shown None (range_with_len 0 n)) k

pub least_next : (shown : List PoppedTag) (least : Option ℕ) (tag tags v : ℕ) (all : Option ℕ) → tag < tags → shown_of shown tag ≡ Some v → least_with shown least (range_with_len tag (tags - tag)) ≡ all
    → least_with shown (Some (lesser least v)) (range_with_len (tag + 1) (tags - (tag + 1))) ≡ all
least_next shown least tag tags v all less shows is =
    sym (least_on shown least tag tags less ∙ ap (option_and_then (λ w. least_with shown (Some (lesser least w)) (range_with_len (tag + 1) (tags - (tag + 1))))) shows) ∙ is

-- a tag that is not shown ends it
pub least_none : (shown : List PoppedTag) (least : Option ℕ) (tag tags : ℕ) (all : Option ℕ) → tag < tags → shown_of shown tag ≡ None → least_with shown least (range_with_len tag (tags - tag)) ≡ all → None ≡ all
least_none shown least tag tags all less shows is =
    sym (least_on shown least tag tags less ∙ ap (option_and_then (λ w. least_with shown (Some (lesser least w)) (range_with_len (tag + 1) (tags - (tag + 1))))) shows) ∙ is

pub least_end : (shown : List PoppedTag) (least : Option ℕ) (tag tags : ℕ) (all : Option ℕ) → tags ≤ tag → least_with shown least (range_with_len tag (tags - tag)) ≡ all → least ≡ all
least_end shown least tag tags all le is = let k : tags - tag ≡ 0 = omega (arith, le) in sym (ap (λ n. least_with shown least (range_with_len tag n)) k) ∙ is

-- ---- what is left

at_place : (before : List LogGeneration) (g : LogGeneration) (after : List LogGeneration) → slice_get (before ++ g ∷ after) (length before) ≡ Some g
at_place [] g after = refl
at_place (x ∷ before) g after = at_place before g after

from_place : (before rest : List LogGeneration) → drop (length before) (before ++ rest) ≡ rest
from_place [] rest = refl
from_place (x ∷ before) rest = from_place before rest

pub left_is_without : state.DroppedBeginsThere → state.SourceIsExact → LeftIsWithout
left_is_without begins source s shown tags sound = go (least_shown shown tags) refl
  where
    dropped : (least : ℕ) (g : LogGeneration) → least_shown shown tags ≡ Some least → source_of s.gens (least + 1) ≡ Some g → IsLeftBy s shown tags
    dropped least g e k =
        let is = (source s.gens (least + 1) g sound.ordered sound.limits).0 k in
        let d = begins s g sound.ordered is.0 in
        let p = d.2 in
        let n : ℕ = length p.before in
        let left : drop n s.gens ≡ g ∷ p.after = ap (drop n) p.were ∙ from_place p.before (g ∷ p.after) in
        let first : slice_get s.gens n ≡ Some g = ap (λ (gens : List LogGeneration). slice_get gens n) p.were ∙ at_place p.before g p.after in
        record {
          number = n;
          fewer = omega (arith, ap length p.were, length-append p.before (g ∷ p.after));
          is = ap (left_after s) e ∙ ap (left_from s) k ∙ ap (λ (o : Option CoordinatedState). unwrap_or o s) d.1 ∙ p.are
              ∙ ap (λ (gens : List LogGeneration). let t : CoordinatedState = record { dropped = s.dropped + n; gens = gens } in t) (sym left);
          starts = λ one. record { least = least; is_least = e; first = g; left = first; starts = is.1 };
        }

    go : (o : Option ℕ) → least_shown shown tags ≡ o → IsLeftBy s shown tags
    go None e = none_dropped s shown tags sound.some (ap (left_after s) e)
    go (Some least) e = by (source_of s.gens (least + 1)) refl
      where
        by : (o : Option LogGeneration) → source_of s.gens (least + 1) ≡ o → IsLeftBy s shown tags
        by None k = none_dropped s shown tags sound.some (ap (left_after s) e ∙ ap (left_from s) k)
        by (Some g) k = dropped least g e k
