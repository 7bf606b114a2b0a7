-- The order of generations: the test and the fact, and a list with one generation more.
use Rattle.std.proofs.Common.{◌≡◌, suc, ◌-◌, ◌<◌, ◌&&◌, Bool, true, false, List, [], ◌∷◌, ◌++◌, length, Some, Ok, refl, sym, ap, subst, ◌∙◌, arith}
use Rattle.std.specs.Prelude.{slice_get}
use Rattle.std.proofs.lemmas.Bool.{true≢false, and_parts, and_from, ltb-true, leb-true, lt-ltb, le-leb}
use Rattle.std.proofs.lemmas.List.{length-append}
use Rattle.std.proofs.lemmas.List.Elements.{All-push}
use Rattle.fr_state.specs.Generations.{LogGeneration, CoordinatedState, IsGeneration, IsCoordinatedState, Follows, AreOrdered, last_of, first_epoch_of}
use Rattle.fr_state.specs.Order.{may_follow, is_ordered, extended}

-- ---- the test and the fact

pub Follows-test : (g next : LogGeneration) → may_follow g next ≡ true → Follows g next
Follows-test g next e =
    let a = and_parts _ _ e in
    let b = and_parts _ _ a.1 in
    record { epoch = ltb-true _ _ a.0; first = leb-true _ _ b.0; seeded_to = leb-true _ _ b.1 }

pub may_follow-true : (g next : LogGeneration) → Follows g next → may_follow g next ≡ true
may_follow-true g next f = and_from _ _ (lt-ltb _ _ f.epoch) (and_from _ _ (le-leb _ _ f.first) (le-leb _ _ f.seeded_to))

pub AreOrdered-test : (gens : List LogGeneration) → is_ordered gens ≡ true → AreOrdered gens
AreOrdered-test [] e = tt
AreOrdered-test (g ∷ []) e = tt
AreOrdered-test (g ∷ next ∷ gens) e =
    let a = and_parts (may_follow g next) (is_ordered (next ∷ gens)) e in
    (Follows-test g next a.0, AreOrdered-test (next ∷ gens) a.1)

pub is_ordered-true : (gens : List LogGeneration) → AreOrdered gens → is_ordered gens ≡ true
is_ordered-true [] o = refl
is_ordered-true (g ∷ []) o = refl
is_ordered-true (g ∷ next ∷ gens) o = and_from _ _ (may_follow-true g next o.0) (is_ordered-true (next ∷ gens) o.1)

-- ---- one generation more

and_true : (b : Bool) → (b && true) ≡ b
and_true true = refl
and_true false = refl

-- a list that has a last generation stays ordered where the new one follows that
pub is_ordered_push : (gens : List LogGeneration) (last g : LogGeneration) → last_of gens ≡ Some last → AreOrdered gens → is_ordered (gens ++ g ∷ []) ≡ may_follow last g
is_ordered_push [] last g e o = absurd cc
is_ordered_push (x ∷ []) last g e o = let k : x ≡ last = cc in rw k (and_true (may_follow last g))
is_ordered_push (x ∷ next ∷ gens) last g e o = rw (may_follow-true x next o.0) (is_ordered_push (next ∷ gens) last g e o.1)

pub last_of_push : (gens : List LogGeneration) (g : LogGeneration) → last_of (gens ++ g ∷ []) ≡ Some g
last_of_push [] g = refl
last_of_push (x ∷ []) g = refl
last_of_push (x ∷ next ∷ gens) g = last_of_push (next ∷ gens) g

-- as `last` of a slice reads it
pub last_of-slice_get : (gens : List LogGeneration) → last_of gens ≡ slice_get gens (length gens - 1)
last_of-slice_get [] = refl
last_of-slice_get (g ∷ []) = refl
last_of-slice_get (g ∷ next ∷ gens) =
    let k : length (g ∷ next ∷ gens) - 1 ≡ suc (length (next ∷ gens) - 1) = omega arith in
    last_of-slice_get (next ∷ gens) ∙ ap (slice_get (g ∷ next ∷ gens)) (sym k)

-- ---- what a state with one generation more is, by the test of its last one

pub not_ordered : (s : CoordinatedState) (last g : LogGeneration) → IsCoordinatedState s → last_of s.gens ≡ Some last → may_follow last g ≡ false → ¬ AreOrdered (s.gens ++ g ∷ [])
not_ordered s last g sound e refused o = true≢false (sym (is_ordered-true (s.gens ++ g ∷ []) o) ∙ is_ordered_push s.gens last g e sound.ordered ∙ refused)

pub ordered : (s : CoordinatedState) (last g : LogGeneration) → IsCoordinatedState s → last_of s.gens ≡ Some last → may_follow last g ≡ true → AreOrdered (s.gens ++ g ∷ [])
ordered s last g sound e passed = AreOrdered-test (s.gens ++ g ∷ []) (is_ordered_push s.gens last g e sound.ordered ∙ passed)

pub extended-Ok : (s : CoordinatedState) (g : LogGeneration) → AreOrdered (s.gens ++ g ∷ []) → length s.gens < 64 → extended s g ≡ Ok (record s { gens = s.gens ++ g ∷ [] })
extended-Ok s g o lt = rw (is_ordered-true (s.gens ++ g ∷ []) o, lt-ltb (length s.gens) 64 lt) refl

pub extended_sound : (s : CoordinatedState) (g : LogGeneration) → IsCoordinatedState s → IsGeneration g → AreOrdered (s.gens ++ g ∷ []) → length s.gens < 64 → IsCoordinatedState (record s { gens = s.gens ++ g ∷ [] })
extended_sound s g sound limits o lt = record {
  limits = All-push IsGeneration s.gens g sound.limits limits;
  ordered = o;
  some = omega (arith, length-append s.gens (g ∷ []));
  few = omega (arith, length-append s.gens (g ∷ []));
  below = first_stays s.gens refl;
}
  where
    first_stays : (gens : List LogGeneration) → s.gens ≡ gens → s.dropped < first_epoch_of (gens ++ g ∷ [])
    first_stays [] e = let none : length s.gens ≡ 0 = ap length e in let some = sound.some in absurd (omega (arith, none, some))
    first_stays (x ∷ gens) e = subst (λ (t : List LogGeneration). s.dropped < first_epoch_of t) e sound.below
