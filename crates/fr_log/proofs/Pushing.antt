-- A push that is newly held.
use Rattle.std.proofs.Common.{◌≡◌, ℕ, ◌+◌, ◌<◌, ◌≤◌, Bool, true, false, not, ◌&&◌, ◌||◌, List, [], ◌∷◌, ◌++◌, cond, nat_lt, nat_le, eqb, Option, None, Some, refl, sym, ◌∙◌, ap, subst, arith, max}
use Rattle.std.specs.Prelude.{is_some, is_none, IsNone, IsSome}
use Rattle.std.specs.List.{list_all, All}
use Rattle.std.proofs.lemmas.Bool.{not-false, ltb-false, eqb-true, eqb-false, or_parts, and_parts, and_from, leb-true, le-leb}
use Rattle.std.proofs.lemmas.List.Sums.{fold-append}
use Rattle.std.proofs.lemmas.List.Elements.{All-push, All-nil}
use Rattle.std.specs.Ordering.{is_some_and, is_le, nat_cmp}
use Rattle.fr_log.specs.declared.ask.LogRefusal.{LogRefusal}
use Rattle.fr_log.specs.declared.popped.PoppedTag.{PoppedTag}
use Rattle.fr_log.specs.Push.{PushContent, IsPush}
use Rattle.fr_log.specs.LogState.{LogState, headers, holds, durable_of, known_of, seeded_to_of, first_of, is_push_held}
use Rattle.fr_log.specs.Pushes.{ArePushedBelow}
use Rattle.fr_log.specs.Chain.{IsChain, BeginsWithMark, IsLog, IsKept, IsOwnPush}
use Rattle.fr_log.specs.Refusal.{push_refusal, new_push_refusal}
use Rattle.fr_log.specs.StepLaws.{passes}
use Rattle.fr_log.specs.Change.{IsNext, with_push}
use Rattle.fr_log.proofs.Chains.{reach, reach_above, held_within_reach}

pub some_from : {A : Type 0} (o : Option A) → is_none o ≡ false → IsSome o
some_from None e = absurd (cc)
some_from (Some x) e = refl

new_next : (l : LogState) (p : PushContent) → p.epoch ≡ l.epoch → is_none l.seed ≡ false → is_push_held l p ≡ false → push_refusal l p ≡ None → new_push_refusal l p ≡ None → IsNext l p
new_next l p own seeded other granted e =
    let a = passes l.stopped _ _ e in
    let b = passes (nat_lt p.prev (durable_of l) || (is_some p.mark && not (eqb p.prev (seeded_to_of l.seed)))) _ _ a.1 in
    let c = passes (nat_lt (durable_of l) p.prev) _ _ b.1 in
    let d = passes (not (list_all (λ x. holds l x.tag) p.bodies)) _ _ c.1 in
    let f = passes (is_none p.mark && eqb (durable_of l) (seeded_to_of l.seed)) _ _ d.1 in
    let stale = or_parts (nat_lt p.prev (durable_of l)) (is_some p.mark && not (eqb p.prev (seeded_to_of l.seed))) b.0 in
    let above = ltb-false p.prev (durable_of l) stale.0 in
    let below = ltb-false (durable_of l) p.prev c.0 in
    record {
      granted = granted;
      epoch = own;
      seeded = some_from l.seed seeded;
      unheld = other;
      running = a.0;
      follows = omega (arith, above, below);
      tags = not-false (list_all (λ x. holds l x.tag) p.bodies) d.0;
      first_mark = λ same. some_from p.mark (first (is_none p.mark) (durable_of l) (seeded_to_of l.seed) same f.0);
      later_mark = λ is. later (is_some p.mark) p.prev (seeded_to_of l.seed) is stale.1;
    }
  where
    first : (t : Bool) (x y : ℕ) → x ≡ y → (t && eqb x y) ≡ false → t ≡ false
    first true x y same k = absurd (eqb-false x y k same)
    first false x y same k = refl

    later : (t : Bool) (x y : ℕ) → t ≡ true → (t && not (eqb x y)) ≡ false → x ≡ y
    later true x y is k = eqb-true x y (not-false (eqb x y) k)
    later false x y is k = absurd (cc)

pub next_push : (l : LogState) (p : PushContent) → push_refusal l p ≡ None → is_push_held l p ≡ false → IsNext l p
next_push l p e other =
    let a = passes (not (eqb p.epoch l.epoch)) _ _ e in
    let b = passes (is_none l.seed) _ _ a.1 in
    new_next l p (eqb-true p.epoch l.epoch (not-false (eqb p.epoch l.epoch) a.0)) b.0 other e (unheld (is_push_held l p) (new_push_refusal l p) other b.1)
  where
    unheld : (t : Bool) (later : Option LogRefusal) → t ≡ false → cond t None later ≡ None → later ≡ None
    unheld true later is k = absurd (cc)
    unheld false later is k = k

-- ---- the chain with one push more

chain_more : (version : ℕ) (ps : List PushContent) (p : PushContent) → IsChain version (headers ps) → p.prev ≡ reach version ps → IsPush p → IsChain version (headers (ps ++ p ∷ []))
chain_more version [] p chain follows is = (follows, (is.rises, (is.known, tt)))
chain_more version (q ∷ qs) p (first, (rises, (known, rest))) follows is =
    let top : max version q.version ≡ q.version = omega arith in
    (first, (rises, (known, chain_more q.version qs p rest (follows ∙ ap (λ v. reach v qs) top) is)))

none_from : {A : Type 0} (o : Option A) → (is_some o ≡ true → ⊥) → IsNone o
none_from None h = refl
none_from (Some x) h = absurd (h refl)

marked_more : (version : ℕ) (ps : List PushContent) (p : PushContent) → IsChain version (headers ps) → BeginsWithMark (headers ps) → p.prev ≡ reach version ps
    → (reach version ps ≡ version → IsSome p.mark) → (is_some p.mark ≡ true → p.prev ≡ version) → BeginsWithMark (headers (ps ++ p ∷ []))
marked_more version [] p chain marked follows first later = (first refl, All-nil (λ h. IsNone h.mark))
marked_more version (q ∷ qs) p (start, (rises, (known, rest))) (is, others) follows first later =
    let up = reach_above (max version q.version) qs in (
      is,
      subst (λ hs. All (λ h. IsNone h.mark) hs) (sym (headers_push qs))
          (All-push (λ h. IsNone h.mark) (headers qs) (record { prev = p.prev; version = p.version; known = p.known; mark = p.mark }) others (none_from p.mark (λ some. let at = later some in absurd (omega arith)))),
    )
  where
    headers_push : (rs : List PushContent) → headers (rs ++ p ∷ []) ≡ headers rs ++ record { prev = p.prev; version = p.version; known = p.known; mark = p.mark } ∷ []
    headers_push rs = Rattle.std.proofs.lemmas.List.map-append (λ r. record { prev = r.prev; version = r.version; known = r.known; mark = r.mark }) rs (p ∷ [])

pub some_is_not_none : {A : Type 0} (o : Option A) → o ≡ None → IsSome o → ⊥
some_is_not_none None e some = absurd (cc)
some_is_not_none (Some x) e some = absurd (cc)

pub durable_more : (l : LogState) (p : PushContent) → durable_of (with_push l p) ≡ max (durable_of l) p.version
durable_more l p = fold-append (λ v q. max v q.version) (seeded_to_of l.seed) l.pushes (p ∷ [])

pub known_more : (l : LogState) (p : PushContent) → known_of (with_push l p) ≡ max (known_of l) p.known
known_more l p = fold-append (λ v q. max v q.known) (Rattle.std.proofs.Common.◌-◌ (first_of l.seed) 1) l.pushes (p ∷ [])

-- what is popped is known for good
pub known_on : (ps : List PoppedTag) (a b : ℕ) → a ≤ b → list_all (λ p. nat_le p.version a) ps ≡ true → list_all (λ p. nat_le p.version b) ps ≡ true
known_on [] a b le h = refl
known_on (p ∷ ps) a b le h =
    let parts = and_parts (nat_le p.version a) (list_all (λ q. nat_le q.version a) ps) h in
    let low = leb-true p.version a parts.0 in
    and_from (nat_le p.version b) (list_all (λ q. nat_le q.version b) ps) (le-leb p.version b (omega (arith, low, le))) (known_on ps a b le parts.1)

pub with_push_is_log : (l : LogState) (p : PushContent) → IsLog l → IsNext l p → IsPush p → IsLog (with_push l p)
with_push_is_log l p h next is = record {
  k_low = h.k_low;
  k_high = h.k_high;
  m_high = h.m_high;
  index_high = h.index_high;
  unseeded = λ e. absurd (some_is_not_none l.seed e next.seeded);
  unlocked = λ e. absurd (some_is_not_none l.seed e next.seeded);
  own_seed = h.own_seed;
  own_pushes = All-push (IsOwnPush l.epoch (holds l)) l.pushes p h.own_pushes (record { within = is; epoch = next.epoch; tags = next.tags });
  chain = chain_more (seeded_to_of l.seed) l.pushes p h.chain next.follows is;
  marked = marked_more (seeded_to_of l.seed) l.pushes p h.chain h.marked next.follows next.first_mark next.later_mark;
  unpopped = h.unpopped;
  popped_rise = h.popped_rise;
  popped_held = h.popped_held;
  popped_known = known_on l.popped (known_of l) (known_of (with_push l p)) (let k = known_more l p in omega (arith, k)) h.popped_known;
}

pub with_push_is_kept : (l : LogState) (p : PushContent) (durable known : ℕ) → IsKept l durable known → push_refusal l p ≡ None → is_push_held l p ≡ false → IsPush p
    → IsKept (with_push l p) p.version (max known p.known)
with_push_is_kept l p durable known h taken other is =
    let next = next_push l p taken other in
    let rises = is.rises in
    let follows = next.follows in
    record {
      log = with_push_is_log l p h.log next is;
      durable_is = sym (durable_more l p ∙ top (durable_of l) p.version (omega arith));
      known_is = ap (λ v. max v p.known) h.known_is ∙ sym (known_more l p);
    }
  where
    top : (a b : ℕ) → a < b → max a b ≡ b
    top a b less = omega arith

-- a push that is held is not above what the log reaches, and one that is above is not held
pub held_is_low : (l : LogState) (p : PushContent) → is_push_held l p ≡ true → p.version ≤ durable_of l
held_is_low l p held = held_within_reach l.popped (seeded_to_of l.seed) p l.pushes held

pub unheld_is_high : (l : LogState) (p : PushContent) → push_refusal l p ≡ None → IsPush p → is_push_held l p ≡ false → durable_of l < p.version
unheld_is_high l p taken is other = let follows = (next_push l p taken other).follows in let rises = is.rises in omega arith

pub high_is_unheld : (l : LogState) (p : PushContent) → durable_of l < p.version → is_push_held l p ≡ false
high_is_unheld l p high = Rattle.std.proofs.lemmas.Bool.false_from_ne_true (is_push_held l p) (λ held. let low = held_is_low l p held in absurd (omega arith))

-- a version that the test does not find at most another is above it
pub above_from_test : (a b : ℕ) → false ≡ is_some_and is_le (Some (nat_cmp a b)) → b < a
above_from_test a b h = go (nat_lt a b) (eqb a b) refl refl
  where
    go : (s t : Bool) → nat_lt a b ≡ s → eqb a b ≡ t → b < a
    go true t e d = let k = rw e at h in absurd (cc)
    go false true e d = let k = rw (e, d) at h in absurd (cc)
    go false false e d = let low = ltb-false a b e in let other = eqb-false a b d in omega arith

reach_below : (version above : ℕ) (ps : List PushContent) → reach version ps < above → ArePushedBelow above ps
reach_below version above [] less = tt
reach_below version above (p ∷ ps) less = (let k = reach_above (max version p.version) ps in omega (arith, k, less), reach_below (max version p.version) above ps less)

-- a push that is newly held is above those that are held
pub held_below : (l : LogState) (p : PushContent) → push_refusal l p ≡ None → IsPush p → is_push_held l p ≡ false → ArePushedBelow p.version l.pushes
held_below l p taken is other = reach_below (seeded_to_of l.seed) p.version l.pushes (unheld_is_high l p taken is other)
