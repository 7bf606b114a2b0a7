-- Headers that follow one another evenly.
use Rattle.std.proofs.Common.{◌≡◌, ℕ, zero, suc, ◌+◌, ◌-◌, ◌*◌, ◌/◌, ◌%◌, ◌<◌, ◌≤◌, Bool, true, false, ◌&&◌, ◌||◌, List, [], ◌∷◌, ◌++◌, length, take, eqb, Option, None, Some, refl, sym, ◌∙◌, ap, arith}
use Rattle.std.specs.Prelude.{is_none}
use Rattle.std.specs.List.{list_any}
use Rattle.std.proofs.lemmas.Bool.{ne_eqb, eq-eqb, eqb-true, and_parts}
use Rattle.std.proofs.Math.Nat.{suc-mul, zero-mul, mod-lt, mod-add-div'}
use Rattle.fr_state.specs.Generations.{CoordinatedState}
use Rattle.fr_log.specs.declared.pushes.header.PushHeader.{PushHeader}
use Rattle.fr_log.specs.Fields.{three, five}
use Rattle.fr_log.specs.Push.{PushContent, is_same_mark}
use Rattle.fr_log.specs.Pushes.{RiseFrom, is_headed}
use Rattle.fr_log.specs.Headers.{next, evenly, begins, first_mark, version_at, follows_as, is_numbered}

-- ---- one run

pub evenly_length : (h : PushHeader) (step more : ℕ) → length (evenly h step more) ≡ more + 1
unfolding evenly
evenly_length h step zero = refl
evenly_length h step (suc more) = let k = evenly_length (next h step) step more in omega (arith, k)

pub evenly_begins : (h : PushHeader) (step more : ℕ) → begins (evenly h step more) ≡ h.version
unfolding evenly
evenly_begins h step zero = refl
evenly_begins h step (suc more) = refl

pub evenly_mark : (h : PushHeader) (step more : ℕ) → first_mark (evenly h step more) ≡ h.mark
unfolding evenly
evenly_mark h step zero = refl
evenly_mark h step (suc more) = refl

pub evenly_alone : (h : PushHeader) (step : ℕ) → evenly h step 0 ≡ h ∷ []
unfolding evenly
evenly_alone h step = refl

pub evenly_at : (h : PushHeader) (step more place : ℕ) → place ≤ more → version_at (evenly h step more) place ≡ Some (h.version + place * step)
unfolding evenly
evenly_at h step zero zero le = let e : h.version ≡ h.version + zero * step = omega arith in ap Some e
evenly_at h step (suc more) zero le = let e : h.version ≡ h.version + zero * step = omega arith in ap Some e
evenly_at h step zero (suc place) le = absurd (omega (arith, le))
evenly_at h step (suc more) (suc place) le =
    let up = suc-mul place step in
    let e : h.version + step + place * step ≡ h.version + suc place * step = omega (arith, up) in
    evenly_at (next h step) step more place (omega (arith, le)) ∙ ap Some e

pub evenly_take : (h : PushHeader) (step more left : ℕ) → left ≤ more → evenly h step left ≡ take (suc left) (evenly h step more)
unfolding evenly
evenly_take h step zero zero le = refl
evenly_take h step (suc more) zero le = refl
evenly_take h step zero (suc left) le = absurd (omega (arith, le))
evenly_take h step (suc more) (suc left) le = ap (λ hs. h ∷ hs) (evenly_take (next h step) step more left (omega (arith, le)))

-- the header that makes a run longer by one
abbrev pub after : PushHeader → ℕ → ℕ → PushHeader
after h step more = record { epoch = h.epoch; prev = h.version + more * step; version = h.version + more * step + step; known = h.known + more * step + step; mark = None }

evenly_after : (h : PushHeader) (step more : ℕ) → evenly h step (suc more) ≡ evenly h step more ++ after h step more ∷ []
unfolding evenly
evenly_after h step zero =
    let a : h.version ≡ h.version + zero * step = omega arith in
    let b : h.version + step ≡ h.version + zero * step + step = omega arith in
    let c : h.known + step ≡ h.known + zero * step + step = omega arith in
    ap (λ (g : PushHeader). h ∷ g ∷ []) (three (λ (u v w : ℕ). record { epoch = h.epoch; prev = u; version = v; known = w; mark = None }) a b c)
evenly_after h step (suc more) =
    let up = suc-mul more step in
    let a : h.version + step + more * step ≡ h.version + suc more * step = omega (arith, up) in
    let b : h.version + step + more * step + step ≡ h.version + suc more * step + step = omega (arith, up) in
    let c : h.known + step + more * step + step ≡ h.known + suc more * step + step = omega (arith, up) in
    ap (λ hs. h ∷ hs) (evenly_after (next h step) step more
    ∙ ap (λ (g : PushHeader). evenly (next h step) step more ++ g ∷ []) (three (λ (u v w : ℕ). record { epoch = h.epoch; prev = u; version = v; known = w; mark = None }) a b c))

numbered : (h : PushHeader) (epoch prev version known : ℕ) → h.version ≡ version → is_numbered h epoch prev known ≡ true
    → h ≡ record { epoch = epoch; prev = prev; version = version; known = known; mark = None }
numbered h epoch prev version known at e =
    let a = and_parts (eqb h.epoch epoch) (eqb h.prev prev && (eqb h.known known && is_none h.mark)) e in
    let b = and_parts (eqb h.prev prev) (eqb h.known known && is_none h.mark) a.1 in
    let f = and_parts (eqb h.known known) (is_none h.mark) b.1 in
    five (λ (t u v w : ℕ) (m : Option CoordinatedState). record { epoch = t; prev = u; version = v; known = w; mark = m })
    (eqb-true h.epoch epoch a.0) (eqb-true h.prev prev b.0) at (eqb-true h.known known f.0) (unmarked h.mark f.1)
  where
    unmarked : (m : Option CoordinatedState) → is_none m ≡ true → m ≡ None
    unmarked None k = refl
    unmarked (Some s) k = absurd (cc)

pub evenly_taken : (h g : PushHeader) (step more : ℕ) → g.version ≡ h.version + more * step + step → is_numbered g h.epoch (h.version + more * step) (h.known + more * step + step) ≡ true
    → evenly h step (more + 1) ≡ evenly h step more ++ g ∷ []
evenly_taken h g step more at e =
    let one : more + 1 ≡ suc more = omega arith in
    ap (evenly h step) one ∙ evenly_after h step more
    ∙ sym (ap (λ (x : PushHeader). evenly h step more ++ x ∷ []) (numbered g h.epoch (h.version + more * step) (h.version + more * step + step) (h.known + more * step + step) at e))

-- the step is only told by the second one
pub evenly_restepped : (h : PushHeader) (step other more : ℕ) → more ≡ 0 → evenly h other more ≡ evenly h step more
unfolding evenly
evenly_restepped h step other zero e = refl
evenly_restepped h step other (suc more) e = absurd (omega (arith, e))

-- ---- versions

pub evenly_rises : (least : ℕ) (h : PushHeader) (step more : ℕ) → 1 ≤ step → least ≤ h.version → RiseFrom least (evenly h step more)
unfolding evenly
evenly_rises least h step zero some le = (le, tt)
evenly_rises least h step (suc more) some le = (le, evenly_rises (h.version + 1) (next h step) step more some (omega (arith, some)))

-- a run's own numbers are in range
pub more_within : (step more : ℕ) → 1 ≤ step → more ≤ more * step
more_within step zero some = omega arith
more_within step (suc more) some = let up = suc-mul more step in let k = more_within step more some in omega (arith, up, k, some)

pub place_within : (step place more : ℕ) → place ≤ more → place * step ≤ more * step
place_within step place more le = Rattle.std.proofs.Math.Nat.mul-le-mul_right step le

-- ---- a push is sought

pub unheaded : (p : PushContent) (h : PushHeader) → (p.version ≡ h.version → ⊥) → is_headed p h ≡ false
unheaded p h apart = go (eqb p.epoch h.epoch) (eqb p.prev h.prev) (eqb p.version h.version) (ne_eqb p.version h.version apart)
  where
    go : (a b c : Bool) → c ≡ false → (a && (b && (c && is_same_mark p.mark h.mark))) ≡ false
    go true true true e = absurd (cc)
    go true true false e = refl
    go true false c e = refl
    go false b c e = refl

pub none_headed_above : (p : PushContent) (least : ℕ) (hs : List PushHeader) → RiseFrom least hs → p.version < least → list_any (is_headed p) hs ≡ false
none_headed_above p least [] r less = refl
none_headed_above p least (h ∷ hs) (low, rest) less =
    ap (λ t. t || list_any (is_headed p) hs) (unheaded p h (λ e. absurd (omega (arith, e, low, less)))) ∙ none_headed_above p (h.version + 1) hs rest (omega (arith, low, less))

pub or_none : (a b : Bool) → b ≡ false → (a || b) ≡ a
or_none true b e = refl
or_none false b e = e

-- a push at the version of the first one or below it
pub evenly_first : (p : PushContent) (h : PushHeader) (step more : ℕ) → 1 ≤ step → p.version ≤ h.version → list_any (is_headed p) (evenly h step more) ≡ is_headed p h
unfolding evenly
evenly_first p h step zero some low = or_none (is_headed p h) false refl
evenly_first p h step (suc more) some low =
    or_none (is_headed p h) (list_any (is_headed p) (evenly (next h step) step more))
    (none_headed_above p (h.version + 1) (evenly (next h step) step more) (evenly_rises (h.version + 1) (next h step) step more some (omega (arith, some))) (omega (arith, low)))

-- a push above the last one
evenly_past : (p : PushContent) (h : PushHeader) (step more : ℕ) → h.version + more * step < p.version → list_any (is_headed p) (evenly h step more) ≡ false
unfolding evenly
evenly_past p h step zero high = or_none (is_headed p h) false refl ∙ unheaded p h (λ e. absurd (omega (arith, e, high)))
evenly_past p h step (suc more) high =
    let up = suc-mul more step in
    ap (λ t. t || list_any (is_headed p) (evenly (next h step) step more)) (unheaded p h (λ e. absurd (omega (arith, e, up, high))))
    ∙ evenly_past p (next h step) step more (omega (arith, up, high))

-- a push between two
evenly_between : (p : PushContent) (h : PushHeader) (step more times rest : ℕ) → p.version ≡ h.version + times * step + rest → 0 < rest → rest < step
    → list_any (is_headed p) (evenly h step more) ≡ false
unfolding evenly
evenly_between p h step zero times rest at some less = or_none (is_headed p h) false refl ∙ unheaded p h (λ e. absurd (omega (arith, e, at, some)))
evenly_between p h step (suc more) zero rest at some less =
    ap (λ t. t || list_any (is_headed p) (evenly (next h step) step more)) (unheaded p h (λ e. absurd (omega (arith, e, at, some))))
    ∙ none_headed_above p (h.version + step) (evenly (next h step) step more) (evenly_rises (h.version + step) (next h step) step more (omega (arith, less)) (omega arith)) (omega (arith, at, less))
evenly_between p h step (suc more) (suc times) rest at some less =
    let up = suc-mul times step in
    ap (λ t. t || list_any (is_headed p) (evenly (next h step) step more)) (unheaded p h (λ e. absurd (omega (arith, e, up, at, some))))
    ∙ evenly_between p (next h step) step more times rest (omega (arith, up, at)) some less

-- a push at the version of the one behind a header
follows_is : (p : PushContent) (h : PushHeader) (step : ℕ) → p.version ≡ h.version + step → is_headed p (next h step) ≡ follows_as p h.epoch h.version
follows_is p h step at = go (eqb p.epoch h.epoch) (eqb p.prev h.version) (eqb p.version (h.version + step)) (eq-eqb p.version (h.version + step) at) ∙ ap (λ t. eqb p.epoch h.epoch && (eqb p.prev h.version && t)) (mark_is p.mark)
  where
    go : (a b c : Bool) → c ≡ true → (a && (b && (c && is_same_mark p.mark None))) ≡ (a && (b && is_same_mark p.mark None))
    go true true true e = refl
    go true true false e = absurd (cc)
    go true false c e = refl
    go false b c e = refl

    mark_is : (m : Option CoordinatedState) → is_same_mark m None ≡ is_none m
    mark_is None = refl
    mark_is (Some s) = refl

-- a push at the version of one behind the first
evenly_met : (p : PushContent) (h : PushHeader) (step more times : ℕ) → 1 ≤ step → p.version ≡ h.version + times * step + step → times < more
    → list_any (is_headed p) (evenly h step more) ≡ follows_as p h.epoch (h.version + times * step)
unfolding evenly
evenly_met p h step zero times some at less = absurd (omega (arith, less))
evenly_met p h step (suc more) zero some at less =
    let here : h.version ≡ h.version + zero * step = omega arith in
    ap (λ t. t || list_any (is_headed p) (evenly (next h step) step more)) (unheaded p h (λ e. absurd (omega (arith, e, at, some))))
    ∙ evenly_first p (next h step) step more some (omega (arith, at)) ∙ follows_is p h step (omega (arith, at)) ∙ ap (follows_as p h.epoch) here
evenly_met p h step (suc more) (suc times) some at less =
    let up = suc-mul times step in
    let e : h.version + step + times * step ≡ h.version + suc times * step = omega (arith, up) in
    ap (λ t. t || list_any (is_headed p) (evenly (next h step) step more)) (unheaded p h (λ e. absurd (omega (arith, e, up, at, some))))
    ∙ evenly_met p (next h step) step more times some (omega (arith, up, at)) (omega (arith, less)) ∙ ap (follows_as p h.epoch) e

-- the same by the rest and the quotient of how far the push is past the first one
pub sought_between : (p : PushContent) (h : PushHeader) (step more past : ℕ) → 1 ≤ step → p.version ≡ h.version + past → (past % step ≡ 0 → ⊥) → list_any (is_headed p) (evenly h step more) ≡ false
sought_between p h step more past some at off =
    let sum = mod-add-div' past step in
    let less = mod-lt past some in
    evenly_between p h step more (past / step) (past % step) (omega (arith, sum, at)) (omega (arith, off)) less

pub sought_past : (p : PushContent) (h : PushHeader) (step more past : ℕ) → p.version ≡ h.version + past → more < past / step → 1 ≤ step → list_any (is_headed p) (evenly h step more) ≡ false
sought_past p h step more past at high some =
    let sum = mod-add-div' past step in
    let up = suc-mul more step in
    let k = place_within step (suc more) (past / step) (omega (arith, high)) in
    evenly_past p h step more (omega (arith, sum, at, up, k, some))

pub sought_met : (p : PushContent) (h : PushHeader) (step more past : ℕ) → 1 ≤ step → p.version ≡ h.version + past → 0 < past → past % step ≡ 0 → past / step ≤ more
    → list_any (is_headed p) (evenly h step more) ≡ follows_as p h.epoch (p.version - step)
sought_met p h step more past some at high even le = go (past / step) refl
  where
    go : (times : ℕ) → past / step ≡ times → list_any (is_headed p) (evenly h step more) ≡ follows_as p h.epoch (p.version - step)
    go zero e =
        let sum = mod-add-div' past step in
        let none : past / step * step ≡ 0 = ap (λ n. n * step) e ∙ zero-mul step in
        absurd (omega (arith, sum, none, even, high))
    go (suc times) e =
        let sum = mod-add-div' past step in
        let all : past / step * step ≡ suc times * step = ap (λ n. n * step) e in
        let up = suc-mul times step in
        let prev : h.version + times * step ≡ p.version - step = omega (arith, sum, all, up, even, at) in
        evenly_met p h step more times some (omega (arith, sum, all, up, even, at)) (omega (arith, e, le)) ∙ ap (follows_as p h.epoch) prev
