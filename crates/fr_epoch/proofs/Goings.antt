-- How far an answer brings a copy.
use Rattle.std.proofs.Common.{◌≡◌, ℕ, suc, ◌<◌, Bool, true, false, cond, nat_lt, ◌==◌, ◌&&◌, ◌||◌, not, List, [], ◌∷◌, length, min, get_or, refl, sym, ap, ◌∙◌, arith}
use Rattle.std.specs.Prelude.{Ok, Err}
use Rattle.std.specs.List.{list_all}
use Rattle.std.proofs.lemmas.Bool.{and_parts, eq-eqb, eqb-true, eqb-false, lt-ltb, le-ltb, ltb-true, ltb-false}
use Rattle.std.proofs.lemmas.List.{get_or-set_same, get_or-set_other, length-set}
use Rattle.std.proofs.lemmas.List.Folds.{list_all_at}
use Rattle.fr_log.specs.Peeked.{PeekedContent}
use Rattle.fr_tail.specs.declared.fault.TailFault.TheVariants.{NotResponder, Hole, ShortOfEnd}
use Rattle.fr_tail.specs.Tail.{TailState, TagPart, new_part, part_at, is_responder, is_complete, longer, with_part, kept, after_hear}
use Rattle.fr_epoch.specs.Going.{goes_on, reached_with}

-- an answer that does not go on leaves the copy
pub stays : (s : TailState) (i : ℕ) (peeked : PeekedContent) → goes_on s i peeked ≡ false → after_hear s i peeked.tag peeked ≡ s
stays s i peeked idle =
    go (is_responder s i peeked.tag) refl (nat_lt reached peeked.after) refl (nat_lt peeked.after reached) refl (nat_lt reached s.rv) refl (nat_lt peeked.after peeked.upto) refl
  where
    reached : ℕ
    reached = (part_at s peeked.tag).reached

    go : (r : Bool) → is_responder s i peeked.tag ≡ r → (a : Bool) → nat_lt reached peeked.after ≡ a → (b : Bool) → nat_lt peeked.after reached ≡ b → (d : Bool) → nat_lt reached s.rv ≡ d → (e : Bool) → nat_lt peeked.after peeked.upto ≡ e
        → kept s (cond r (cond a (Err Hole) (cond (b || not d) (Ok s) (cond e (Ok (with_part s peeked.tag (longer s.rv (part_at s peeked.tag) peeked))) (Err ShortOfEnd)))) (Err NotResponder)) ≡ s
    go false er a ea b eb d ed e ee = refl
    go true er true ea b eb d ed e ee = refl
    go true er false ea true eb d ed e ee = refl
    go true er false ea false eb false ed e ee = refl
    go true er false ea false eb true ed false ee = refl
    go true er false ea false eb true ed true ee =
        let low = ltb-false reached peeked.after ea in
        let high = ltb-false peeked.after reached eb in
        let at : peeked.after ≡ reached = omega (arith, low, high) in
        let under = ltb-true reached s.rv ed in
        let same = eq-eqb peeked.after reached at in
        let short = lt-ltb peeked.after s.rv (omega (arith, at, under)) in
        let all : goes_on s i peeked ≡ true = rw (er, same, short, ee) refl in
        let other : true ≡ false = sym all ∙ idle in
        absurd (cc)

-- the tests of an answer that goes on
record GoesOn (s : TailState) (i : ℕ) (peeked : PeekedContent) : Type 0 where
  responder : is_responder s i peeked.tag ≡ true
  at : peeked.after ≡ (part_at s peeked.tag).reached
  short : peeked.after < s.rv
  more : nat_lt peeked.after peeked.upto ≡ true
  there : peeked.tag < length s.parts

going : (s : TailState) (i : ℕ) (peeked : PeekedContent) → goes_on s i peeked ≡ true → GoesOn s i peeked
going s i peeked moved =
    let all = and_parts (is_responder s i peeked.tag) ((peeked.after == (part_at s peeked.tag).reached) && (nat_lt peeked.after s.rv && nat_lt peeked.after peeked.upto)) moved in
    let next = and_parts (peeked.after == (part_at s peeked.tag).reached) (nat_lt peeked.after s.rv && nat_lt peeked.after peeked.upto) all.1 in
    let ends = and_parts (nat_lt peeked.after s.rv) (nat_lt peeked.after peeked.upto) next.1 in
    let own = and_parts _ _ all.0 in
    let held = and_parts _ _ own.1 in
    record {
      responder = all.0;
      at = eqb-true peeked.after (part_at s peeked.tag).reached next.0;
      short = ltb-true peeked.after s.rv ends.0;
      more = ends.1;
      there = ltb-true peeked.tag (length s.parts) held.1;
    }

-- one that goes on makes the part of its tag longer
pub moves : (s : TailState) (i : ℕ) (peeked : PeekedContent) → goes_on s i peeked ≡ true → after_hear s i peeked.tag peeked ≡ with_part s peeked.tag (longer s.rv (part_at s peeked.tag) peeked)
moves s i peeked moved =
    let g = going s i peeked moved in
    let at = g.at in
    let short = g.short in
    let above = le-ltb (part_at s peeked.tag).reached peeked.after (omega (arith, at)) in
    let below = le-ltb peeked.after (part_at s peeked.tag).reached (omega (arith, at)) in
    let under = lt-ltb (part_at s peeked.tag).reached s.rv (omega (arith, at, short)) in
    rw (g.responder, above, below, under, g.more) refl

pub reached_is : (s : TailState) (i : ℕ) (peeked : PeekedContent) (t : ℕ) → (part_at (after_hear s i peeked.tag peeked) t).reached ≡ reached_with s i peeked t
reached_is s i peeked t = go (goes_on s i peeked) refl
  where
    none : (x : Bool) → cond (x && false) (min peeked.upto s.rv) (part_at s t).reached ≡ (part_at s t).reached
    none true = refl
    none false = refl

    own : goes_on s i peeked ≡ true → (b : Bool) → (t == peeked.tag) ≡ b
        → (part_at (with_part s peeked.tag (longer s.rv (part_at s peeked.tag) peeked)) t).reached ≡ cond (b && true) (min peeked.upto s.rv) (part_at s t).reached
    own moved true e =
        let same = eqb-true t peeked.tag e in
        ap (λ u. (part_at (with_part s peeked.tag (longer s.rv (part_at s peeked.tag) peeked)) u).reached) same
        ∙ ap (λ (p : TagPart). p.reached) (get_or-set_same s.parts peeked.tag (longer s.rv (part_at s peeked.tag) peeked) (new_part s.pev) (going s i peeked moved).there)
    own moved false e = ap (λ (p : TagPart). p.reached) (get_or-set_other s.parts peeked.tag t (longer s.rv (part_at s peeked.tag) peeked) (new_part s.pev) (eqb-false t peeked.tag e))

    go : (g : Bool) → goes_on s i peeked ≡ g → (part_at (after_hear s i peeked.tag peeked) t).reached ≡ cond ((t == peeked.tag) && goes_on s i peeked) (min peeked.upto s.rv) (part_at s t).reached
    go false e = ap (λ (x : TailState). (part_at x t).reached) (stays s i peeked e) ∙ sym (rw e (none (t == peeked.tag)))
    go true e = ap (λ (x : TailState). (part_at x t).reached) (moves s i peeked e) ∙ (rw e (own e (t == peeked.tag) refl))

-- ends and tags stand still
ends : (s : TailState) (i : ℕ) (peeked : PeekedContent) → ((after_hear s i peeked.tag peeked).rv ≡ s.rv) × (length (after_hear s i peeked.tag peeked).parts ≡ length s.parts)
ends s i peeked = go (goes_on s i peeked) refl
  where
    go : (g : Bool) → goes_on s i peeked ≡ g → ((after_hear s i peeked.tag peeked).rv ≡ s.rv) × (length (after_hear s i peeked.tag peeked).parts ≡ length s.parts)
    go false e = (ap (λ (x : TailState). x.rv) (stays s i peeked e), ap (λ (x : TailState). length x.parts) (stays s i peeked e))
    go true e = (
      ap (λ (x : TailState). x.rv) (moves s i peeked e),
      ap (λ (x : TailState). length x.parts) (moves s i peeked e) ∙ length-set s.parts peeked.tag (longer s.rv (part_at s peeked.tag) peeked),
    )

all_true : (f : TagPart → Bool) (ps : List TagPart) (d : TagPart) → ((t : ℕ) → t < length ps → f (get_or ps t d) ≡ true) → list_all f ps ≡ true
all_true f [] d each = refl
all_true f (p ∷ ps) d each = rw (each 0 (omega arith)) (all_true f ps d (λ t less. each (suc t) (omega (arith, less))))

pub completes_all : (s : TailState) (i : ℕ) (peeked : PeekedContent) → ((t : ℕ) → t < length s.parts → reached_with s i peeked t ≡ s.rv) → is_complete (after_hear s i peeked.tag peeked) ≡ true
completes_all s i peeked each =
    let n = after_hear s i peeked.tag peeked in
    let same = ends s i peeked in
    all_true (λ p. p.reached == n.rv) n.parts (new_part n.pev) (λ t less. eq-eqb (part_at n t).reached n.rv (reached_is s i peeked t ∙ each t (let k = same.1 in omega (arith, less, k)) ∙ sym same.0))

pub incomplete_at : (s : TailState) (i : ℕ) (peeked : PeekedContent) (t : ℕ) → t < length s.parts → (reached_with s i peeked t == s.rv) ≡ false → is_complete (after_hear s i peeked.tag peeked) ≡ false
incomplete_at s i peeked t less other =
    let n = after_hear s i peeked.tag peeked in
    let same = ends s i peeked in
    list_all_at (λ p. p.reached == n.rv) n.parts t (new_part n.pev) (let k = same.1 in omega (arith, less, k))
    (ap (λ v. v == n.rv) (reached_is s i peeked t) ∙ ap (λ v. reached_with s i peeked t == v) same.0 ∙ other)
