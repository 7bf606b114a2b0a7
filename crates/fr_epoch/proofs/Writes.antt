-- What a recoverer writes, and when.
use Rattle.std.proofs.Common.{◌≡◌, ℕ, ◌<◌, ◌≤◌, Bool, true, false, ◌||◌, nat_le, ◌==◌, eqb, List, [], ◌∷◌, ◌++◌, length, Option, None, Some, refl, sym, ◌∙◌, ap, subst, arith}
use Rattle.std.specs.List.{All, AllByRecursion, IsDistinct, list_any}
use Rattle.std.proofs.lemmas.Bool.{and_parts, leb-true, eq-eqb, eqb-true, ne_eqb, or_parts}
use Rattle.std.proofs.lemmas.List.Elements.{All-nil, All-cons, All-append, All-head, All-tail}
use Rattle.std.proofs.lemmas.Map.Steps.{length-le_from_distinct_below}
use Rattle.fr_tail.specs.Tail.{TailState, is_complete, seed_for, after_hear as after_peeked}
use Rattle.fr_state.specs.Generations.{CoordinatedState}
use Rattle.fr_state.specs.Order.{extended}
use Rattle.fr_epoch.specs.Recoverer.{RecState, Parent, Plan, is_written_in, mark_of}
use Rattle.fr_epoch.specs.Words.{Word, word_of, is_in}
use Rattle.fr_epoch.specs.Hear.{shape_after, left_of, plan_of, after_hear}
use Rattle.fr_epoch.specs.Change.{replied, Change, Stands, LosesReads, Reads, Finds, Locks, LosesLocks, Plans, Copies, Seeds, SeedsAll, Writes, LosesWrites, Chooses, Marks}
use Rattle.fr_epoch.specs.Law.{IsRecoverer}
use Rattle.fr_epoch.specs.WriteLaw.{IsMadeOf, HasMadePlan, AreSeeded, HearKeepsMade, HearKeepsSeeded, WrittenIsSeeded, WriteIsParentExtended, MarkIsChosen, MarksAreOne, SeedIsOfCopied, SeedsAreOne}
use Rattle.fr_epoch.proofs.Changes.{hear_is_change}

-- ---- the plan is made of the parent and the replies

none_made : (r n : RecState) → r.plan ≡ None → n.plan ≡ r.plan → HasMadePlan n
none_made r n none same p e = let k : None ≡ Some p = sym none ∙ sym same ∙ e in absurd (cc)

-- it stands, and what it comes from
still : (r n : RecState) → n.shape ≡ r.shape → n.parent ≡ r.parent → n.end ≡ r.end → ((p : Parent) → left_of n p ≡ left_of r p) → n.plan ≡ r.plan → HasMadePlan r → HasMadePlan n
still r n shape parent end left plan k q e =
    let was = k q (sym plan ∙ e) in
    let is = was.2 in (
      was.0,
      was.1,
      record {
        parent = parent ∙ is.parent;
        tally = end ∙ is.tally;
        covered = is.covered;
        within = is.within;
        below = is.below;
        m = is.m ∙ ap (λ o. (shape_after o was.0.last).m) (sym shape);
        k = is.k ∙ ap (λ o. (shape_after o was.0.last).k) (sym shape);
        first = is.first;
        seeded_to = is.seeded_to;
        state = ap (λ (x : CoordinatedState). extended x q.generation) (left was.0) ∙ is.state;
      },
    )

made : (w : Word) (r n : RecState) → Change r w n → IsRecoverer r → HasMadePlan r → HasMadePlan n
made w r n Stands h k = k
made w r n (LosesReads i t why at) h k = none_made r n (h.parentless (h.reading at.phase)) refl
made w r n (Reads i t at) h k = none_made r n (h.parentless (h.reading at.phase)) refl
made w r n (Finds i t s g at is) h k = none_made r n (h.parentless (h.reading at.phase)) refl
made w r n (Locks p end i durable known popped at) h k = none_made r n (h.locking at.phase) refl
made w r n (LosesLocks p end i durable known popped why at) h k = none_made r n (h.locking at.phase) refl
made w r n (Plans p end i durable known popped s at is) h k = λ q e. (
    let d : plan_of r p (replied end i durable known) s ≡ q = cc in (
      p,
      replied end i durable known,
      subst (λ x. IsMadeOf n x p (replied end i durable known)) d
          (record { parent = at.parent; tally = refl; covered = is.covered; within = is.within; below = is.below; m = refl; k = refl; first = refl; seeded_to = refl; state = is.state }),
    ))
made w r n (Copies parent p i peeked at) h k = λ q e. (
    let t : TailState = after_peeked p.tail i peeked.tag peeked in
    let m : Plan = record { state = p.state; generation = p.generation; tail = t } in
    let d : m ≡ q = cc in
    let was = k p at.plan in
    let is = was.2 in (
      was.0,
      was.1,
      subst (λ x. IsMadeOf n x was.0 was.1) d
          (record { parent = is.parent; tally = is.tally; covered = is.covered; within = is.within; below = is.below; m = is.m; k = is.k; first = is.first; seeded_to = is.seeded_to; state = is.state }),
    ))
made w r n (Seeds p i at l) h k = still r n refl refl refl (λ p. refl) refl k
made w r n (SeedsAll p i at l) h k = still r n refl refl refl (λ p. refl) refl k
made w r n (Writes i t at) h k = still r n refl refl refl (λ p. refl) refl k
made w r n (LosesWrites i t why at) h k = still r n refl refl refl (λ p. refl) refl k
made w r n (Chooses i t at l) h k = still r n refl refl refl (λ p. refl) refl k
made w r n (Marks p i at) h k = still r n refl refl refl (λ p. refl) refl k

pub hear_keeps_made : HearKeepsMade
hear_keeps_made r from t h k = made (word_of from t) r (after_hear r from t) (hear_is_change r from t) h k

-- ---- the seeded logs

apart : (is : List ℕ) (i : ℕ) → is_in is i ≡ false → AllByRecursion (λ y. (i == y) ≡ false) is
apart [] i e = tt
apart (x ∷ is) i e =
    let p = or_parts (x == i) (is_in is i) e in
    (ne_eqb i x (λ k. (let b : (x == i) ≡ true = eq-eqb x i (sym k) in let f : true ≡ false = sym b ∙ p.0 in absurd (cc))), apart is i p.1)

distinct_more : (is : List ℕ) (i : ℕ) → is_in is i ≡ false → IsDistinct (λ a b. a == b) is → IsDistinct (λ a b. a == b) (is ++ i ∷ [])
unfolding IsDistinct
distinct_more [] i e d = (tt, tt)
distinct_more (x ∷ is) i e (others, d) = let p = or_parts (x == i) (is_in is i) e in (more is others p.0, distinct_more is i p.1 d)
  where
    more : (ys : List ℕ) → AllByRecursion (λ y. (x == y) ≡ false) ys → (x == i) ≡ false → AllByRecursion (λ y. (x == y) ≡ false) (ys ++ i ∷ [])
    more [] all k = (k, tt)
    more (y ∷ ys) (here, rest) k = (here, more ys rest k)

one_more : (plan : Option Plan) (p : Plan) (seeded : List ℕ) (i : ℕ) → plan ≡ Some p → i < p.generation.m → is_in seeded i ≡ false → AreSeeded plan seeded → AreSeeded plan (seeded ++ i ∷ [])
one_more plan p seeded i at below first k = record {
  none = λ e. let c : Some p ≡ None = sym at ∙ e in absurd (cc);
  below = λ q e. (let c : Some p ≡ Some q = sym at ∙ e in let d : p ≡ q = cc in
      All-append (λ j. j < q.generation.m) seeded (i ∷ []) (k.below q e) (All-cons (λ j. j < q.generation.m) i [] (subst (λ (x : Plan). i < x.generation.m) d below) (All-nil (λ j. j < q.generation.m))));
  distinct = distinct_more seeded i first k.distinct;
}

seeded : (w : Word) (r n : RecState) → Change r w n → IsRecoverer r → AreSeeded r.plan r.seeded → AreSeeded n.plan n.seeded
seeded w r n Stands h k = k
seeded w r n (LosesReads i t why at) h k = k
seeded w r n (Reads i t at) h k = k
seeded w r n (Finds i t s g at is) h k = k
seeded w r n (Locks p end i durable known popped at) h k = k
seeded w r n (LosesLocks p end i durable known popped why at) h k = k
seeded w r n (Plans p end i durable known popped s at is) h k = record {
  none = λ e. absurd (cc);
  below = λ q e. subst (All (λ j. j < q.generation.m)) (sym (k.none (h.locking at.phase))) (All-nil (λ j. j < q.generation.m));
  distinct = k.distinct;
}
seeded w r n (Copies parent p i peeked at) h k = record {
  none = λ e. absurd (cc);
  below = λ q e. (
      let m : Plan = record { state = p.state; generation = p.generation; tail = after_peeked p.tail i peeked.tag peeked } in
      let d : m ≡ q = cc in
      subst (λ (x : Plan). All (λ j. j < x.generation.m) r.seeded) d (k.below p at.plan));
  distinct = k.distinct;
}
seeded w r n (Seeds p i at l) h k = one_more r.plan p r.seeded i at.plan at.below at.first k
seeded w r n (SeedsAll p i at l) h k = one_more r.plan p r.seeded i at.plan at.below at.first k
seeded w r n (Writes i t at) h k = k
seeded w r n (LosesWrites i t why at) h k = k
seeded w r n (Chooses i t at l) h k = k
seeded w r n (Marks p i at) h k = k

pub hear_keeps_seeded : HearKeepsSeeded
hear_keeps_seeded r from t h k = seeded (word_of from t) r (after_hear r from t) (hear_is_change r from t) h k

-- m numbers below m that are apart are all of them
below_all : (m i : ℕ) (is : List ℕ) → i < m → All (λ j. j < m) is → (q : ℕ) → list_any (eqb q) (i ∷ is) ≡ true → q < m
below_all m i is less all q e = go (eqb q i) refl e
  where
    rest : (is : List ℕ) → All (λ j. j < m) is → list_any (eqb q) is ≡ true → q < m
    rest [] all e = absurd (cc)
    rest (x ∷ is) all e = pick (eqb q x) refl e (rest is (All-tail (λ j. j < m) x is all))
      where
        pick : (b : Bool) → eqb q x ≡ b → (b || list_any (eqb q) is) ≡ true → (list_any (eqb q) is ≡ true → q < m) → q < m
        pick true at k later = let here = All-head (λ j. j < m) x is all in let e = eqb-true q x at in omega (arith, here, e)
        pick false at k later = later k

    go : (b : Bool) → eqb q i ≡ b → (b || list_any (eqb q) is) ≡ true → q < m
    go true at k = let e = eqb-true q i at in omega (arith, less, e)
    go false at k = rest is all k

all_there : (m : ℕ) (is : List ℕ) → All (λ j. j < m) is → IsDistinct (λ a b. a == b) is → m ≤ length is → (i : ℕ) → i < m → is_in is i ≡ true
unfolding IsDistinct
all_there m is all d many i less = go (is_in is i) refl
  where
    go : (b : Bool) → is_in is i ≡ b → is_in is i ≡ true
    go true e = e
    go false e = let n = length-le_from_distinct_below (i ∷ is) m (apart is i e, d) (below_all m i is less all) in absurd (omega (arith, n, many))

pub written_is_seeded : WrittenIsSeeded
written_is_seeded r p at k written i less =
    let test = subst (λ o. is_written_in o r.seeded ≡ true) at written in
    let both = and_parts (is_complete p.tail) (nat_le p.generation.m (length r.seeded)) test in
    all_there p.generation.m r.seeded (k.below p at) k.distinct (leb-true p.generation.m (length r.seeded) both.1) i less

-- ---- asks

pub write_is_parent_extended : WriteIsParentExtended
write_is_parent_extended r cell b x k (own, w, (p, at, is)) = let from = k p at in (own, w, (p, from.0, at, from.2.parent, from.2.state, is))

pub mark_is_chosen : MarkIsChosen
mark_is_chosen r e i q h = h.1

pub marks_are_one : MarksAreOne
marks_are_one r e i f j q s (own, ph, c, (p, at, l, is)) (own_2, ph_2, c_2, (p_2, at_2, l_2, is_2)) =
    let k : Some p ≡ Some p_2 = sym at ∙ at_2 in let d : p ≡ p_2 = cc in is ∙ ap mark_of d ∙ sym is_2

pub seed_is_of_copied : SeedIsOfCopied
seed_is_of_copied r e i s h = h.1

pub seeds_are_one : SeedsAreOne
seeds_are_one r e f i s t (own, c, (p, at, l, is)) (own_2, c_2, (p_2, at_2, l_2, is_2)) =
    let k : Some p ≡ Some p_2 = sym at ∙ at_2 in let d : p ≡ p_2 = cc in
    is ∙ ap (λ (x : Plan). seed_for x.tail r.ballot x.generation.m x.generation.k i) d ∙ sym is_2
