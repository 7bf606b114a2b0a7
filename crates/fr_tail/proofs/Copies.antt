-- A copy keeps its ends, and stands still once it is complete.
use Rattle.std.proofs.Common.{◌≡◌, ℕ, ◌<◌, Bool, true, false, cond, nat_lt, ◌==◌, ◌&&◌, ◌||◌, not, length, refl, sym, ◌∙◌, ap, arith}
use Rattle.std.specs.Prelude.{Ok, Err}
use Rattle.std.specs.List.{list_any}
use Rattle.std.proofs.lemmas.List.Folds.{list_all_at}
use Rattle.fr_tags.specs.Placement.{is_held}
use Rattle.std.proofs.lemmas.Bool.{and_parts, eqb-true, le-ltb, ltb-true, or_right}
use Rattle.fr_tail.specs.declared.fault.TailFault.TheVariants.{NotResponder, Hole, ShortOfEnd}
use Rattle.fr_log.specs.Peeked.{PeekedContent}
use Rattle.std.proofs.lemmas.List.{length-set}
use Rattle.fr_tail.specs.Tail.{TailState, is_complete, is_responder, part_at, new_part, take, take_next, kept, with_part, longer, after_hear}
use Rattle.fr_tail.specs.Law.{CompleteStays, IsSameCopy, HearKeepsEnds}

-- ---- ends

same : (s : TailState) → IsSameCopy s s
same s = record { m = refl; k = refl; responders = refl; pev = refl; rv = refl }

pub hear_keeps_ends : HearKeepsEnds
hear_keeps_ends s log tag peeked = go (is_responder s log tag)
  where
    next : (b : Bool) → IsSameCopy s (kept s (cond b (Ok (with_part s tag (longer s.rv (part_at s tag) peeked))) (Err ShortOfEnd)))
    next true = record { m = refl; k = refl; responders = refl; pev = refl; rv = refl }
    next false = same s

    low : (b : Bool) → IsSameCopy s (kept s (cond b (Ok s) (take_next s tag (part_at s tag) peeked)))
    low true = same s
    low false = next (nat_lt peeked.after peeked.upto)

    taken : (b : Bool) → IsSameCopy s (kept s (cond b (Err Hole) (cond (nat_lt peeked.after (part_at s tag).reached || not (nat_lt (part_at s tag).reached s.rv)) (Ok s) (take_next s tag (part_at s tag) peeked))))
    taken true = same s
    taken false = low (nat_lt peeked.after (part_at s tag).reached || not (nat_lt (part_at s tag).reached s.rv))

    go : (b : Bool) → IsSameCopy s (kept s (cond b (take s tag (part_at s tag) peeked) (Err NotResponder)))
    go true = taken (nat_lt (part_at s tag).reached peeked.after)
    go false = same s

-- ---- a complete copy

-- the part of a tag of a complete copy is complete
part_is_complete : (s : TailState) (log tag : ℕ) → is_complete s ≡ true → is_responder s log tag ≡ true → (part_at s tag).reached ≡ s.rv
part_is_complete s log tag all is = go ((part_at s tag).reached == s.rv) refl
  where
    below : tag < length s.parts
    below = ltb-true tag (length s.parts) (and_parts (is_held tag s.m s.k log) (nat_lt tag (length s.parts)) (and_parts (list_any (λ r. r == log) s.responders) (is_held tag s.m s.k log && nat_lt tag (length s.parts)) is).1).1

    go : (b : Bool) → ((part_at s tag).reached == s.rv) ≡ b → (part_at s tag).reached ≡ s.rv
    go true e = eqb-true (part_at s tag).reached s.rv e
    go false e = let k : true ≡ false = sym all ∙ list_all_at (λ p. p.reached == s.rv) s.parts tag (new_part s.pev) below e in absurd (cc)

pub complete_stays : CompleteStays
complete_stays s log tag peeked all = go (is_responder s log tag) refl
  where
    low : (b : Bool) → b ≡ true → kept s (cond b (Ok s) (take_next s tag (part_at s tag) peeked)) ≡ s
    low true e = refl
    low false e = absurd (cc)

    taken : (b : Bool) → (nat_lt peeked.after (part_at s tag).reached || not (nat_lt (part_at s tag).reached s.rv)) ≡ true → kept s (cond b (Err Hole) (cond (nat_lt peeked.after (part_at s tag).reached || not (nat_lt (part_at s tag).reached s.rv)) (Ok s) (take_next s tag (part_at s tag) peeked))) ≡ s
    taken true e = refl
    taken false e = low (nat_lt peeked.after (part_at s tag).reached || not (nat_lt (part_at s tag).reached s.rv)) e

    go : (b : Bool) → is_responder s log tag ≡ b → kept s (cond b (take s tag (part_at s tag) peeked) (Err NotResponder)) ≡ s
    go true e =
        let full = part_is_complete s log tag all e in
        let low : nat_lt (part_at s tag).reached s.rv ≡ false = le-ltb (part_at s tag).reached s.rv (omega (arith, full)) in
        taken (nat_lt (part_at s tag).reached peeked.after) (or_right (nat_lt peeked.after (part_at s tag).reached) (not (nat_lt (part_at s tag).reached s.rv)) (ap not low))
    go false e = refl

-- ---- tags

-- no answer adds or takes a tag
pub hear_keeps_tags : (s : TailState) (log tag : ℕ) (peeked : PeekedContent) → length (after_hear s log tag peeked).parts ≡ length s.parts
hear_keeps_tags s log tag peeked = go (is_responder s log tag)
  where
    next : (b : Bool) → length (kept s (cond b (Ok (with_part s tag (longer s.rv (part_at s tag) peeked))) (Err ShortOfEnd))).parts ≡ length s.parts
    next true = length-set s.parts tag (longer s.rv (part_at s tag) peeked)
    next false = refl

    low : (b : Bool) → length (kept s (cond b (Ok s) (take_next s tag (part_at s tag) peeked))).parts ≡ length s.parts
    low true = refl
    low false = next (nat_lt peeked.after peeked.upto)

    taken : (b : Bool) → length (kept s (cond b (Err Hole) (cond (nat_lt peeked.after (part_at s tag).reached || not (nat_lt (part_at s tag).reached s.rv)) (Ok s) (take_next s tag (part_at s tag) peeked)))).parts ≡ length s.parts
    taken true = refl
    taken false = low (nat_lt peeked.after (part_at s tag).reached || not (nat_lt (part_at s tag).reached s.rv))

    go : (b : Bool) → length (kept s (cond b (take s tag (part_at s tag) peeked) (Err NotResponder))).parts ≡ length s.parts
    go true = taken (nat_lt (part_at s tag).reached peeked.after)
    go false = refl
