-- A state with one generation more, as a function.
use Rattle.std.proofs.Common.{◌≡◌, Bool, true, false, cond, ltb, List, [], ◌∷◌, ◌++◌, length, Result, Ok, Err, refl, sym, ap, subst, ◌∙◌}
use Rattle.std.proofs.lemmas.Bool.{true≢false, false_from_ne_true, ltb-true, ltb-false, le-ltb}
use Rattle.fr_state.specs.declared.fault.StateFault.{StateFault}
use Rattle.fr_state.specs.declared.fault.StateFault.TheVariants.{NotLater, TooMany}
use Rattle.fr_state.specs.Generations.{LogGeneration, CoordinatedState, IsCoordinatedState, AreOrdered, last_of}
use Rattle.fr_state.specs.Order.{is_ordered}
use Rattle.fr_state.specs.Laws.{ExtensionIsState, FollowerExtends, NotLaterIsExact, TooManyIsExact}
use Rattle.fr_state.proofs.OrderLemmas.{may_follow-true, AreOrdered-test, is_ordered-true, last_of_push, ordered, extended-Ok, extended_sound}

-- the answer by its two tests
abbrev answer : Bool → Bool → CoordinatedState → Result CoordinatedState StateFault
answer ordered room t = cond ordered (cond room (Ok t) (Err TooMany)) (Err NotLater)

when_ok : (ordered room : Bool) (t u : CoordinatedState) → answer ordered room t ≡ Ok u → (ordered ≡ true) × (room ≡ true) × (t ≡ u)
when_ok true true t u e = (refl, refl, cc)
when_ok true false t u e = absurd cc
when_ok false room t u e = absurd cc

when_not_later : (ordered room : Bool) (t : CoordinatedState) → answer ordered room t ≡ Err NotLater → ordered ≡ false
when_not_later true true t e = absurd cc
when_not_later true false t e = absurd cc
when_not_later false room t e = refl

when_too_many : (ordered room : Bool) (t : CoordinatedState) → answer ordered room t ≡ Err TooMany → (ordered ≡ true) × (room ≡ false)
when_too_many true true t e = absurd cc
when_too_many true false t e = (refl, refl)
when_too_many false room t e = absurd cc

pub extension_is_state : ExtensionIsState
extension_is_state s t g sound limits e =
    let longer : CoordinatedState = record s { gens = s.gens ++ g ∷ [] } in
    let w = when_ok (is_ordered (s.gens ++ g ∷ [])) (ltb (length s.gens) 64) longer t e in
    let is = extended_sound s g sound limits (AreOrdered-test (s.gens ++ g ∷ []) w.0) (ltb-true (length s.gens) 64 w.1) in
    (subst IsCoordinatedState w.2 is, sym w.2, ap (λ (u : CoordinatedState). last_of u.gens) (sym w.2) ∙ last_of_push s.gens g)

pub follower_extends : FollowerExtends
follower_extends s last g sound e follows room = extended-Ok s g (ordered s last g sound e (may_follow-true last g follows)) room

-- the test fails where the list is not ordered
unordered : (gens : List LogGeneration) → ¬ AreOrdered gens → is_ordered gens ≡ false
unordered gens n = false_from_ne_true (is_ordered gens) (λ e. n (AreOrdered-test gens e))

pub not_later_is_exact : NotLaterIsExact
not_later_is_exact s g =
    let gens : List LogGeneration = s.gens ++ g ∷ [] in (
      λ e o. true≢false (sym (is_ordered-true gens o) ∙ when_not_later (is_ordered gens) (ltb (length s.gens) 64) (record s { gens = gens }) e),
      λ n. rw (unordered gens n) refl,
    )

pub too_many_is_exact : TooManyIsExact
too_many_is_exact s g =
    let gens : List LogGeneration = s.gens ++ g ∷ [] in (
      λ e. let w = when_too_many (is_ordered gens) (ltb (length s.gens) 64) (record s { gens = gens }) e in (AreOrdered-test gens w.0, ltb-false (length s.gens) 64 w.1),
      λ p. rw (is_ordered-true gens p.0, le-ltb (length s.gens) 64 p.1) refl,
    )
