-- When an answer is refused.
use Rattle.std.proofs.Common.{◌≡◌, ℕ, ◌<◌, ◌≤◌, Bool, true, false, cond, nat_lt, ◌||◌, not, refl, arith}
use Rattle.std.specs.Prelude.{Result, Ok, Err}
use Rattle.std.proofs.lemmas.Bool.{le-ltb, lt-ltb, ltb-false, ltb-true, not-false, or_parts}
use Rattle.fr_log.specs.Peeked.{PeekedContent}
use Rattle.fr_tail.specs.declared.fault.TailFault.{TailFault}
use Rattle.fr_tail.specs.declared.fault.TailFault.TheVariants.{NotResponder, Hole, ShortOfEnd}
use Rattle.fr_tail.specs.Tail.{TailState, is_responder, part_at, take, take_next, with_part, longer}
use Rattle.fr_tail.specs.Refusals.{NotResponderIsFirst, HoleIsAbove, ShortIsEmpty}

abbrev Answered : Type 0
Answered = Result TailState TailFault

-- the tests of an answer of a responder, as choices over their outcomes
abbrev chosen : TailState → ℕ → PeekedContent → Bool → Bool → Bool → Answered
chosen s tag peeked above done more =
    cond above (Err Hole) (cond done (Ok s) (cond more (Ok (with_part s tag (longer s.rv (part_at s tag) peeked))) (Err ShortOfEnd)))

pub not_responder_is_first : NotResponderIsFirst
not_responder_is_first s log tag peeked = (to (is_responder s log tag) refl, from (is_responder s log tag))
  where
    other : (a d m : Bool) → chosen s tag peeked a d m ≡ Err NotResponder → ⊥
    other true d m e = absurd (cc)
    other false true m e = absurd (cc)
    other false false true e = absurd (cc)
    other false false false e = absurd (cc)

    to : (b : Bool) → is_responder s log tag ≡ b → cond b (take s tag (part_at s tag) peeked) (Err NotResponder) ≡ Err NotResponder → is_responder s log tag ≡ false
    to true is e = absurd (other (nat_lt (part_at s tag).reached peeked.after) (nat_lt peeked.after (part_at s tag).reached || not (nat_lt (part_at s tag).reached s.rv)) (nat_lt peeked.after peeked.upto) e)
    to false is e = is

    from : (b : Bool) → b ≡ false → cond b (take s tag (part_at s tag) peeked) (Err NotResponder) ≡ Err NotResponder
    from true e = absurd (cc)
    from false e = refl

pub hole_is_above : HoleIsAbove
hole_is_above s log tag peeked = (to (is_responder s log tag) refl, λ both. from (is_responder s log tag) both.0 (nat_lt (part_at s tag).reached peeked.after) (lt-ltb (part_at s tag).reached peeked.after both.1))
  where
    lower : (a d m : Bool) → nat_lt (part_at s tag).reached peeked.after ≡ a → chosen s tag peeked a d m ≡ Err Hole → (part_at s tag).reached < peeked.after
    lower true d m is e = ltb-true (part_at s tag).reached peeked.after is
    lower false true m is e = absurd (cc)
    lower false false true is e = absurd (cc)
    lower false false false is e = absurd (cc)

    to : (b : Bool) → is_responder s log tag ≡ b → cond b (take s tag (part_at s tag) peeked) (Err NotResponder) ≡ Err Hole → (is_responder s log tag ≡ true) × ((part_at s tag).reached < peeked.after)
    to true is e = (is, lower (nat_lt (part_at s tag).reached peeked.after) (nat_lt peeked.after (part_at s tag).reached || not (nat_lt (part_at s tag).reached s.rv)) (nat_lt peeked.after peeked.upto) refl e)
    to false is e = absurd (cc)

    from : (b : Bool) → b ≡ true → (a : Bool) → a ≡ true
        → cond b (cond a (Err Hole) (cond (nat_lt peeked.after (part_at s tag).reached || not (nat_lt (part_at s tag).reached s.rv)) (Ok s) (take_next s tag (part_at s tag) peeked))) (Err NotResponder) ≡ Err Hole
    from true e true f = refl
    from true e false f = absurd (cc)
    from false e a f = absurd (cc)

pub short_is_empty : ShortIsEmpty
short_is_empty s log tag peeked = (to (is_responder s log tag) refl, λ (is, at, short, ends). from is at short ends)
  where
    p : ℕ
    p = (part_at s tag).reached

    lower : (a d m : Bool) → nat_lt p peeked.after ≡ a → (nat_lt peeked.after p || not (nat_lt p s.rv)) ≡ d → nat_lt peeked.after peeked.upto ≡ m → chosen s tag peeked a d m ≡ Err ShortOfEnd
        → (peeked.after ≡ p) × (p < s.rv) × (peeked.upto ≤ peeked.after)
    lower true d m above done more e = absurd (cc)
    lower false true m above done more e = absurd (cc)
    lower false false true above done more e = absurd (cc)
    lower false false false above done more e =
        let both = or_parts (nat_lt peeked.after p) (not (nat_lt p s.rv)) done in
        let low = ltb-false p peeked.after above in
        let high = ltb-false peeked.after p both.0 in
        (omega (arith, low, high), ltb-true p s.rv (not-false (nat_lt p s.rv) both.1), ltb-false peeked.after peeked.upto more)

    to : (b : Bool) → is_responder s log tag ≡ b → cond b (take s tag (part_at s tag) peeked) (Err NotResponder) ≡ Err ShortOfEnd
        → (is_responder s log tag ≡ true) × (peeked.after ≡ p) × (p < s.rv) × (peeked.upto ≤ peeked.after)
    to true is e = let k = lower (nat_lt p peeked.after) (nat_lt peeked.after p || not (nat_lt p s.rv)) (nat_lt peeked.after peeked.upto) refl refl refl e in (is, k.0, k.1, k.2)
    to false is e = absurd (cc)

    from : is_responder s log tag ≡ true → peeked.after ≡ p → p < s.rv → peeked.upto ≤ peeked.after → cond (is_responder s log tag) (take s tag (part_at s tag) peeked) (Err NotResponder) ≡ Err ShortOfEnd
    from is at short ends =
        rw (is, le-ltb p peeked.after (omega (arith, at)), le-ltb peeked.after p (omega (arith, at)), lt-ltb p s.rv short, le-ltb peeked.after peeked.upto ends) refl
