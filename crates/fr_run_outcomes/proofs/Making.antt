-- Where each tag is shown popped through the version before the last generation's first, a list has room for one generation more.
use Rattle.std.proofs.Common.{◌≡◌, ℕ, ◌+◌, ◌-◌, ◌≤◌, Bool, true, false, cond, nat_lt, min, max, ◌==◌, List, [], ◌∷◌, ◌++◌, length, Option, None, Some, inl, inr, ◌⊎◌, refl, sym, ◌∙◌, ap, subst, arith}
use Rattle.std.specs.Prelude.{IfSome, unwrap_or}
use Rattle.std.specs.List.{Contains, All}
use Rattle.std.specs.Option.{option_and_then}
use Rattle.std.proofs.lemmas.Bool.{eq-eqb, lt-ltb, true≢false}
use Rattle.fr_state.specs.Generations.{LogGeneration, CoordinatedState, IsGeneration, IsCoordinatedState, AreOrdered, last_of}
use Rattle.fr_state.specs.Laws.{SourceIsExact, LastIsOpen, IsLeftFirst, DroppedBeginsThere}
use Rattle.fr_state.specs.LookUp.{source_of}
use Rattle.fr_state.specs.Order.{dropped_before}
use Rattle.fr_log.specs.declared.popped.PoppedTag.{PoppedTag}
use Rattle.fr_epoch.specs.Dropping.{shown_of, lesser, least_with, least_shown, left_from, left_after, left_by}
use Rattle.fr_epoch.specs.DroppingLaws.{IsShownFrom}
use Rattle.fr_run.proofs.Cells.{Contains-here, Contains-later, Contains-none, Contains-cases}

-- ---- the least that is shown

-- a version that is no less than another
record IsFrom (o : Option ℕ) (v : ℕ) : Type 0 where
  version : ℕ
  is : o ≡ Some version
  high : v ≤ version

-- what is shown of a tag is no less than each entry of it
shown_from : (ps : List PoppedTag) (tag v : ℕ) → IsShownFrom ps tag v → IsFrom (shown_of ps tag) v
shown_from [] tag v k = absurd (Contains-none k.there)
shown_from (p ∷ ps) tag v k = go (shown_from ps tag v) (p.tag == tag) refl (Contains-cases p ps k.entry k.there)
  where
    rest : (IsShownFrom ps tag v → IsFrom (shown_of ps tag) v) → Contains ps k.entry → IsFrom (shown_of ps tag) v
    rest before there = before (record { entry = k.entry; there = there; tag_is = k.tag_is; high = k.high })

    high : (IsShownFrom ps tag v → IsFrom (shown_of ps tag) v) → (p ≡ k.entry) ⊎ Contains ps k.entry → v ≤ max p.version (unwrap_or (shown_of ps tag) 0)
    high before (inl same) = (let l = k.high in let e = ap (λ (x : PoppedTag). x.version) same in omega (arith, l, e))
    high before (inr there) = (let r = rest before there in let l = r.high in let e : unwrap_or (shown_of ps tag) 0 ≡ r.version = ap (λ o. unwrap_or o 0) r.is in omega (arith, l, e))

    go : (IsShownFrom ps tag v → IsFrom (shown_of ps tag) v) → (s : Bool) → (p.tag == tag) ≡ s → (p ≡ k.entry) ⊎ Contains ps k.entry
        → IsFrom (cond s (Some (max p.version (unwrap_or (shown_of ps tag) 0))) (shown_of ps tag)) v
    go before true e where_is = record { version = max p.version (unwrap_or (shown_of ps tag) 0); is = refl; high = high before where_is }
    go before false e (inl same) = absurd (true≢false (sym (eq-eqb p.tag tag (ap (λ (x : PoppedTag). x.tag) same ∙ k.tag_is)) ∙ e))
    go before false e (inr there) = rest before there

-- so the least over tags is no less than what is shown of each
least_from : (shown : List PoppedTag) (v x : ℕ) (tags : List ℕ) → v ≤ x → ((tag : ℕ) → Contains tags tag → IsShownFrom shown tag v) → IsFrom (least_with shown (Some x) tags) v
least_from shown v x [] le each = record { version = x; is = refl; high = le }
least_from shown v x (t ∷ tags) le each =
    let one = shown_from shown t v (each t (Contains-here t tags)) in
    let high = one.high in
    let rest = least_from shown v (min x one.version) tags (omega (arith, le, high)) (λ tag there. each tag (Contains-later t tags tag there)) in
    record { version = rest.version; is = ap (option_and_then (λ w. least_with shown (Some (min x w)) tags)) one.is ∙ rest.is; high = rest.high }

least_is : (shown : List PoppedTag) (v : ℕ) (tags : List ℕ) → 1 ≤ length tags → ((tag : ℕ) → Contains tags tag → IsShownFrom shown tag v) → IsFrom (least_shown shown tags) v
least_is shown v [] some each = absurd (omega (arith, some))
least_is shown v (t ∷ tags) some each =
    let one = shown_from shown t v (each t (Contains-here t tags)) in
    let rest = least_from shown v one.version tags one.high (λ tag there. each tag (Contains-later t tags tag there)) in
    record { version = rest.version; is = ap (option_and_then (λ w. least_with shown (Some (lesser None w)) tags)) one.is ∙ rest.is; high = rest.high }

-- ---- the last generation

pub last_there : (gens : List LogGeneration) (g : LogGeneration) → last_of gens ≡ Some g → Contains gens g
last_there [] g e = absurd (cc)
last_there (x ∷ []) g e = (let same : x ≡ g = cc in subst (Contains (x ∷ [])) same (Contains-here x []))
last_there (x ∷ y ∷ gens) g e = Contains-later x (y ∷ gens) g (last_there (y ∷ gens) g e)

last_high : (x : LogGeneration) (gens : List LogGeneration) (g : LogGeneration) → AreOrdered (x ∷ gens) → last_of (x ∷ gens) ≡ Some g → x.epoch ≤ g.epoch
last_high x [] g order e = (let same : x ≡ g = cc in let at = ap (λ (y : LogGeneration). y.epoch) same in omega (arith, at))
last_high x (y ∷ gens) g order e = (let rest = last_high y gens g order.1 e in let less = order.0.epoch in omega (arith, rest, less))

-- nothing stands behind it
last_alone : (before : List LogGeneration) (g : LogGeneration) (after : List LogGeneration) → AreOrdered (before ++ g ∷ after) → last_of (before ++ g ∷ after) ≡ Some g → length (g ∷ after) ≡ 1
last_alone [] g [] order e = refl
last_alone [] g (x ∷ after) order e = (let high = last_high x after g order.1 e in let less = order.0.epoch in absurd (omega (arith, high, less)))
last_alone (y ∷ []) g after order e = last_alone [] g after order.1 e
last_alone (y ∷ z ∷ before) g after order e = last_alone (z ∷ before) g after order.1 e

-- it is the source of each version from its first on
pub source_is_last : SourceIsExact → LastIsOpen → (gens : List LogGeneration) (g : LogGeneration) (v : ℕ) → AreOrdered gens → All IsGeneration gens → last_of gens ≡ Some g → g.first ≤ v → source_of gens v ≡ Some g
source_is_last source open_last gens g v order limits last low =
    (source gens v g order limits).1 (last_there gens g last, low, subst (λ o. IfSome o (λ n. v ≤ n)) (sym (open_last gens g order last).0) tt)

-- ---- room

pub room_made : SourceIsExact → LastIsOpen → DroppedBeginsThere → (s : CoordinatedState) (g : LogGeneration) (shown : List PoppedTag) (tags : List ℕ) → IsCoordinatedState s → last_of s.gens ≡ Some g → 1 ≤ length tags
    → ((tag : ℕ) → Contains tags tag → IsShownFrom shown tag (g.first - 1)) → nat_lt (length (left_by s shown tags).gens) 64 ≡ true
room_made source open_last begins s g shown tags sound last some each = lt-ltb (length (left_by s shown tags).gens) 64 (omega (arith, one))
  where
    least : IsFrom (least_shown shown tags) (g.first - 1)
    least = least_is shown (g.first - 1) tags some each

    from : source_of s.gens (least.version + 1) ≡ Some g
    from = source_is_last source open_last s.gens g (least.version + 1) sound.ordered sound.limits last (let high = least.high in omega (arith, high))

    there : Contains s.gens g
    there = last_there s.gens g last

    left : (t : CoordinatedState) × (dropped_before s g.epoch ≡ Some t) × IsLeftFirst s g t
    left = begins s g sound.ordered there

    is : left_by s shown tags ≡ left.0
    is = ap (left_after s) least.is ∙ ap (left_from s) from ∙ ap (λ o. unwrap_or o s) left.1

    one : length (left_by s shown tags).gens ≡ 1
    one =
        ap (λ (x : CoordinatedState). length x.gens) is
        ∙ ap (λ (x : CoordinatedState). length x.gens) left.2.are
        ∙ last_alone left.2.before g left.2.after (subst AreOrdered left.2.were sound.ordered) (sym (ap last_of left.2.were) ∙ last)
