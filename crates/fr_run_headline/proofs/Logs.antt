-- What each log of a run holds.
use Rattle.std.proofs.Common.{◌≡◌, ℕ, ◌+◌, ◌<◌, ◌≤◌, Bool, true, false, cond, max, nat_lt, ◌==◌, ◌&&◌, List, [], ◌∷◌, ◌++◌, Option, None, Some, inl, inr, ◌⊎◌, refl, sym, ◌∙◌, ap, subst, arith}
use Rattle.std.specs.List.{All, Contains}
use Rattle.std.specs.Prelude.{IfSome, is_none, fold}
use Rattle.std.proofs.lemmas.Bool.{and_parts, eqb-true, ltb-false, ltb-true}
use Rattle.std.proofs.lemmas.List.Sums.{fold-append}
use Rattle.std.proofs.lemmas.List.Elements.{All-nil, All-push, All-head, All-tail, All-weaker, Contains-append_left, Contains-push}
use Rattle.fr_base.specs.declared.place.NodeId.{NodeId}
use Rattle.fr_base.specs.declared.place.NodeId.TheVariants as node
use Rattle.fr_state.specs.Generations.{CoordinatedState}
use Rattle.fr_log.specs.declared.ask.LogAsk.{LogAsk}
use Rattle.fr_log.specs.declared.popped.PoppedTag.{PoppedTag}
use Rattle.fr_log.specs.declared.ask.LogAsk.TheVariants.{Seed, Push, Peek}
use Rattle.fr_log.specs.Seed.{SeedContent}
use Rattle.fr_log.specs.Push.{PushContent}
use Rattle.fr_log.specs.LogState.{LogState, durable_of, seeded_to_of}
use Rattle.fr_log.specs.Step.{next_of}
use Rattle.fr_ask.specs.declared.ask.Ask.TheVariants as ask
use Rattle.fr_ask.specs.declared.sequencer.SeqAsk.TheVariants.{Next}
use Rattle.fr_ask.specs.declared.sequencer.SeqTell.{SeqTell}
use Rattle.fr_ask.specs.declared.sequencer.SeqTell.TheVariants as stell
use Rattle.fr_tail.specs.Tail.{is_complete}
use Rattle.fr_proxy.specs.Sequencer.{new_sequencer}
use Rattle.fr_epoch.specs.Recoverer.{Plan, is_copied_in}
use Rattle.fr_run.specs.Config.{Config, first_epoch, first_generation, first_log, first_mark}
use Rattle.fr_run.specs.Turn.{Turn, Begun, CellTurn, LogTurn, SeqTurn, Submitted, ProxyHeard, RecHeard, StorageHeard, Gone, Crashed, Sent}
use Rattle.fr_run.specs.Nodes.{plan_at, generation_in, generation_at, mark_version, is_open, logs_in, logs_at, new_log_in, new_log, log_after, log_from, log_at}
use Rattle.fr_run_headline.specs.Numbers.{Numbering, is_above, with_number, numbers, top_of, AreChained}
use Rattle.fr_run_headline.specs.Logs.{IsAt, IsPlaced, IsOfEpoch, IsSeedOf, HoldsAt, IsLogOf}
use Rattle.fr_run.specs.Run.{IsTurn, IsRun, StorageMayAsk}
use Rattle.fr_run.specs.Laws.{Laws}
use Rattle.fr_run_headline.specs.LogLaws.{LogsAreOwn}
use Rattle.fr_run.proofs.Growth.{HasGeneration, open_stays, generation_stays, copied_stays, log_stays}
use Rattle.fr_run.proofs.Cells.{Contains-none, Contains-cases}
use Rattle.fr_run_headline.proofs.Numbers.{chained_below, numbers_stay, numbers_chain, closed}
use Rattle.fr_run_headline.proofs.LogChanges.{IsTaken, log_change}
use Rattle.fr_run_headline.proofs.Pushes.{pushes_are_own, seeds_are_own}

-- ---- turns

-- what is true of a log stays so at a turn, if it does at each ask that was delivered to it
pub log_by_own_turn : (c : Config) (h : List Turn) (t : Turn) → IsTurn c h t → (e i : ℕ) (l : LogState) (P : LogState → Type 0) → P l
    → ((from : NodeId) (a : LogAsk) → Sent h from (node.Log e i) (ask.Log a) ⊎ StorageMayAsk c h from a → P (next_of l a)) → P (log_after t e i l)
log_by_own_turn c h (Begun b shape asks) is e i l P same takes = same
log_by_own_turn c h (CellTurn from j a t) is e i l P same takes = same
log_by_own_turn c h (LogTurn from x j a t) is e i l P same takes = go ((x == e) && (j == i)) refl
  where
    go : (b : Bool) → ((x == e) && (j == i)) ≡ b → P (cond b (next_of l a) l)
    go true k =
        let parts = and_parts (x == e) (j == i) k in
        takes from a (subst (λ n. Sent h from n (ask.Log a) ⊎ StorageMayAsk c h from a) (ap (λ y. node.Log y j) (eqb-true x e parts.0) ∙ ap (λ y. node.Log e y) (eqb-true j i parts.1)) is.1)
    go false k = same
log_by_own_turn c h (SeqTurn from x a t) is e i l P same takes = same
log_by_own_turn c h (Submitted x p step batch asks) is e i l P same takes = same
log_by_own_turn c h (ProxyHeard x p from t outcome asks) is e i l P same takes = same
log_by_own_turn c h (RecHeard b from t asks) is e i l P same takes = same
log_by_own_turn c h (StorageHeard tag from t taken fault) is e i l P same takes = same
log_by_own_turn c h (Gone who) is e i l P same takes = same
log_by_own_turn c h (Crashed who) is e i l P same takes = same

-- records that a storage server may ask for it may ask for later on
pub peek_later : (c : Config) (h : List Turn) (t : Turn) (from : NodeId) (e u after most : ℕ) → StorageMayAsk c h from (Peek e u after most) → StorageMayAsk c (t ∷ h) from (Peek e u after most)
peek_later c h t (node.Storage tag) e u after most k = k
peek_later c h t from e u after most k = absurd k

-- no storage server seeds or pushes
pub no_seed : (c : Config) (h : List Turn) (from : NodeId) (s : SeedContent) → StorageMayAsk c h from (Seed s) → ⊥
no_seed c h (node.Cell i) s k = k
no_seed c h (node.Log e i) s k = k
no_seed c h (node.Sequencer e) s k = k
no_seed c h (node.Proxy e p) s k = k
no_seed c h (node.Recoverer b) s k = k
no_seed c h (node.Storage t) s k = k

pub no_push : (c : Config) (h : List Turn) (from : NodeId) (q : PushContent) → StorageMayAsk c h from (Push q) → ⊥
no_push c h (node.Cell i) q k = k
no_push c h (node.Log e i) q k = k
no_push c h (node.Sequencer e) q k = k
no_push c h (node.Proxy e p) q k = k
no_push c h (node.Recoverer b) q k = k
no_push c h (node.Storage t) q k = k

-- ---- numbers

-- a number after a turn was there before, or is the newest
record IsNewest (c : Config) (h : List Turn) (t : Turn) (e : ℕ) (n : Numbering) : Type 0 where
  opened : is_open c h e ≡ true
  newest : numbers (t ∷ h) e ≡ n ∷ numbers h e

with_number_cases : (p : ℕ) (t : SeqTell) (ns : List Numbering) (n : Numbering) → Contains (with_number p t ns) n → Contains ns n ⊎ (with_number p t ns ≡ n ∷ ns)
with_number_cases p (stell.Numbered r prev v) ns n k = go (is_above v ns) k
  where
    go : (b : Bool) → Contains (cond b (record { proxy = p; request = r; prev = prev; version = v } ∷ ns) ns) n → Contains ns n ⊎ (cond b (record { proxy = p; request = r; prev = prev; version = v } ∷ ns) ns ≡ n ∷ ns)
    go true k = elim (Contains-cases (record { proxy = p; request = r; prev = prev; version = v }) ns n k) [ inl e ↦ inr (ap (λ x. x ∷ ns) e) | inr m ↦ inl m ]
    go false k = inl k
with_number_cases p (stell.Refused why) ns n k = inl k

number_cases : (c : Config) (h : List Turn) (t : Turn) → IsTurn c h t → (e : ℕ) (n : Numbering) → Contains (numbers (t ∷ h) e) n → Contains (numbers h e) n ⊎ IsNewest c h t e n
number_cases c h (Begun b shape asks) is e n k = inl k
number_cases c h (CellTurn from i a t) is e n k = inl k
number_cases c h (LogTurn from x i a t) is e n k = inl k
number_cases c h (SeqTurn from x (Next p r step) t) is e n k = go (x == e) refl k
  where
    go : (b : Bool) → (x == e) ≡ b → Contains (cond b (with_number p t (numbers h e)) (numbers h e)) n → Contains (numbers h e) n ⊎ IsNewest c h (SeqTurn from x (Next p r step) t) e n
    go true at k = elim (with_number_cases p t (numbers h e) n k) [
      | inl m ↦ inl m
      | inr d ↦ inr (record { opened = subst (λ y. is_open c h y ≡ true) (eqb-true x e at) is.0.there; newest = ap (λ b. cond b (with_number p t (numbers h e)) (numbers h e)) at ∙ d })
    ]
    go false at k = inl k
number_cases c h (Submitted x p step batch asks) is e n k = inl k
number_cases c h (ProxyHeard x p from t outcome asks) is e n k = inl k
number_cases c h (RecHeard b from t asks) is e n k = inl k
number_cases c h (StorageHeard tag from t taken fault) is e n k = inl k
number_cases c h (Gone who) is e n k = inl k
number_cases c h (Crashed who) is e n k = inl k

-- two numbers of a chain of which the one is above the version before the other, and not above the other, are one
one_number : (base : ℕ) (ns : List Numbering) → AreChained base ns → (x y : Numbering) → Contains ns x → Contains ns y → y.prev < x.version → x.version ≤ y.version → (x.prev ≡ y.prev) × (x.version ≡ y.version)
one_number base [] k x y l m low high = absurd (Contains-none l)
one_number base (n ∷ ns) (follows, rises, rest) x y l m low high = elim (Contains-cases n ns x l) [
  | inl e ↦ elim (Contains-cases n ns y m) [
    | inl d ↦ (ap (λ (z : Numbering). z.prev) (sym e ∙ d), ap (λ (z : Numbering). z.version) (sym e ∙ d))
    | inr j ↦ (let v = ap (λ (z : Numbering). z.version) e in let b = chained_below base ns rest y j in absurd (omega (arith, v, b.2, follows, rises, high)))
  ]
  | inr i ↦ elim (Contains-cases n ns y m) [
    | inl d ↦ (let v = ap (λ (z : Numbering). z.prev) d in let b = chained_below base ns rest x i in absurd (omega (arith, v, b.2, follows, low)))
    | inr j ↦ one_number base ns rest x y i j low high
  ]
]

-- ---- durable

-- the greatest version held is not above a bound of all
reach_below : (top v : ℕ) (ps : List PushContent) → v ≤ top → All (λ p. p.version ≤ top) ps → fold (λ w p. max w p.version) v ps ≤ top
reach_below top v [] l all = l
reach_below top v (p ∷ ps) l all = reach_below top (max v p.version) ps (let k = All-head (λ p. p.version ≤ top) p ps all in omega arith) (All-tail (λ p. p.version ≤ top) p ps all)

-- the version of a push of an open epoch is not above the last one of the epoch
placed_below : (c : Config) (h : List Turn) (e : ℕ) → AreChained (mark_version (generation_at c h e)) (numbers h e) → (q : PushContent) → IsOfEpoch c h e q → q.version ≤ top_of (mark_version (generation_at c h e)) (numbers h e)
placed_below c h e chain q k = go q.mark k.placed
  where
    top : (base : ℕ) (ns : List Numbering) → AreChained base ns → base ≤ top_of base ns
    top base [] k = omega arith
    top base (n ∷ ns) (follows, rises, rest) = let k = top base ns rest in omega (arith, k, follows, rises)

    go : (m : Option CoordinatedState) → IsPlaced c h e m q → q.version ≤ top_of (mark_version (generation_at c h e)) (numbers h e)
    go None (n, given, at) = let b = chained_below (mark_version (generation_at c h e)) (numbers h e) chain n given in omega (arith, b.2, at.version)
    go (Some state) (is, next) = let b = top (mark_version (generation_at c h e)) (numbers h e) chain in omega (arith, b, is)

pub durable_below : (c : Config) (h : List Turn) (e : ℕ) → AreChained (mark_version (generation_at c h e)) (numbers h e) → (l : LogState) → IsLogOf c h e l → durable_of l ≤ top_of (mark_version (generation_at c h e)) (numbers h e)
durable_below c h e chain l k =
    reach_below (top_of (mark_version (generation_at c h e)) (numbers h e)) (seeded_to_of l.seed) l.pushes (seed l.seed k.seeded) (All-weaker (IsOfEpoch c h e) (λ q. q.version ≤ top_of (mark_version (generation_at c h e)) (numbers h e)) (λ q j. placed_below c h e chain q j) l.pushes k.each)
  where
    top : (base : ℕ) (ns : List Numbering) → AreChained base ns → base ≤ top_of base ns
    top base [] k = omega arith
    top base (n ∷ ns) (follows, rises, rest) = let k = top base ns rest in omega (arith, k, follows, rises)

    seed : (o : Option SeedContent) → IfSome o (IsSeedOf c h e) → seeded_to_of o ≤ top_of (mark_version (generation_at c h e)) (numbers h e)
    seed None j = omega arith
    seed (Some s) j = let b = top (mark_version (generation_at c h e)) (numbers h e) chain in omega (arith, b, j)

-- ---- later on

of_epoch_stays : Laws → (c : Config) (h : List Turn) (t : Turn) → IsRun c h → IsTurn c h t → (e : ℕ) → generation_at c (t ∷ h) e ≡ generation_at c h e → (q : PushContent) → IsOfEpoch c h e q → IsOfEpoch c (t ∷ h) e q
of_epoch_stays laws c h t run is e same q k = record { opened = open_stays laws c h t run is e k.opened; placed = go q.mark k.placed }
  where
    go : (m : Option CoordinatedState) → IsPlaced c h e m q → IsPlaced c (t ∷ h) e m q
    go None (n, given, at) = (n, numbers_stay t e (numbers h e) n given, at)
    go (Some state) (v, next) = (v ∙ ap mark_version (sym same), next)

log_later : Laws → (c : Config) (h : List Turn) (t : Turn) → IsRun c h → IsTurn c h t → (e : ℕ) → generation_at c (t ∷ h) e ≡ generation_at c h e → (l : LogState) → IsLogOf c h e l → IsLogOf c (t ∷ h) e l
log_later laws c h t run is e same l k = record {
  unseeded = k.unseeded;
  seeded = subst (λ o. IfSome l.seed (λ s. s.seeded_to + 1 ≡ mark_version o)) (sym same) k.seeded;
  each = All-weaker (IsOfEpoch c h e) (IsOfEpoch c (t ∷ h) e) (λ q j. of_epoch_stays laws c h t run is e same q j) l.pushes k.each;
  whole = λ n given low. elim (number_cases c h t is e n given) [ inl old ↦ k.whole n old low | inr new ↦ absurd (fresh n new low) ];
}
  where
    fresh : (n : Numbering) → IsNewest c h t e n → n.version ≤ durable_of l → ⊥
    fresh n new low =
        let before = numbers_chain laws c h run e new.opened in
        let after = numbers_chain laws c (t ∷ h) (is, run) e (open_stays laws c h t run is e new.opened) in
        let base = mark_version (generation_at c h e) in
        let chain : AreChained base (n ∷ numbers h e) = subst (AreChained base) new.newest (subst (λ o. AreChained (mark_version o) (numbers (t ∷ h) e)) same after.chain) in
        let bound = durable_below c h e before.chain l k in
        omega (arith, bound, chain.0, chain.1, low)

-- ---- one ask

-- the versions of the numbers of an epoch are above its mark, whether or not it is open
above_mark : Laws → (c : Config) (h : List Turn) → IsRun c h → (e : ℕ) (n : Numbering) → Contains (numbers h e) n → mark_version (generation_at c h e) < n.version
above_mark laws c h run e n given = go (is_open c h e) refl
  where
    go : (b : Bool) → is_open c h e ≡ b → mark_version (generation_at c h e) < n.version
    go true o = let b = chained_below (mark_version (generation_at c h e)) (numbers h e) (numbers_chain laws c h run e o).chain n given in omega (arith, b.0, b.1)
    go false o = absurd (Contains-none (subst (λ ns. Contains ns n) (closed laws c h run e o (new_sequencer e 0)).1 given))

stopped_log : (c : Config) (h : List Turn) (e : ℕ) (l : LogState) → IsLogOf c h e l → IsLogOf c h e (record l { stopped = true })
stopped_log c h e l k = record {
  unseeded = k.unseeded;
  seeded = k.seeded;
  each = k.each;
  whole = λ n given low. let j = k.whole n given low in record { push = j.push; held = j.held; at = j.at };
}

popped_log : (c : Config) (h : List Turn) (e : ℕ) (l : LogState) → IsLogOf c h e l → (ps : List PoppedTag) → IsLogOf c h e (record l { popped = ps })
popped_log c h e l k ps = record {
  unseeded = k.unseeded;
  seeded = k.seeded;
  each = k.each;
  whole = λ n given low. let j = k.whole n given low in record { push = j.push; held = j.held; at = j.at };
}

seeded_log : Laws → (c : Config) (h : List Turn) → IsRun c h → (e : ℕ) (l : LogState) → IsLogOf c h e l → (s : SeedContent) → l.seed ≡ None → IsSeedOf c h e s → IsLogOf c h e (record l { seed = Some s })
seeded_log laws c h run e l k s none is =
    let empty = k.unseeded none in
    record {
      unseeded = λ d. absurd (cc);
      seeded = is;
      each = k.each;
      whole = λ n given low. (
          let up = above_mark laws c h run e n given in
          let d : durable_of (record l { seed = Some s }) ≡ s.seeded_to = ap (λ ps. fold (λ v (p : PushContent). max v p.version) s.seeded_to ps) empty in
          absurd (omega (arith, up, d, low, is)));
    }

pushed_log : Laws → (c : Config) (h : List Turn) → IsRun c h → (e : ℕ) (l : LogState) → IsLogOf c h e l → (q : PushContent) → IsTaken l q → IsOfEpoch c h e q → IsLogOf c h e (record l { pushes = l.pushes ++ q ∷ [] })
pushed_log laws c h run e l k q took own = record {
  unseeded = λ d. let j : false ≡ true = sym took.seeded ∙ ap is_none d in absurd (cc);
  seeded = k.seeded;
  each = All-push (IsOfEpoch c h e) l.pushes q k.each own;
  whole = λ n given low. go n given low (nat_lt (durable_of l) n.version) refl;
}
  where
    durable : durable_of (record l { pushes = l.pushes ++ q ∷ [] }) ≡ max (durable_of l) q.version
    durable = fold-append (λ v (p : PushContent). max v p.version) (seeded_to_of l.seed) l.pushes (q ∷ [])

    new : (n : Numbering) → Contains (numbers h e) n → durable_of l < n.version → n.version ≤ q.version → (m : Option CoordinatedState) → IsPlaced c h e m q → IsAt q n
    new n given above below None (x, mine, at) =
        let one = one_number (mark_version (generation_at c h e)) (numbers h e) (numbers_chain laws c h run e own.opened).chain n x given mine (omega (arith, above, took.follows, at.prev)) (omega (arith, below, at.version)) in
        record { prev = at.prev ∙ sym one.0; version = at.version ∙ sym one.1 }
    new n given above below (Some state) (v, next) = let up = above_mark laws c h run e n given in absurd (omega (arith, up, v, below))

    go : (n : Numbering) → Contains (numbers h e) n → n.version ≤ durable_of (record l { pushes = l.pushes ++ q ∷ [] }) → (b : Bool) → nat_lt (durable_of l) n.version ≡ b → HoldsAt (record l { pushes = l.pushes ++ q ∷ [] }) n
    go n given low true b =
        let above = ltb-true (durable_of l) n.version b in
        record { push = q; held = Contains-push l.pushes q; at = new n given above (omega (arith, above, low, durable)) q.mark own.placed }
    go n given low false b =
        let j = k.whole n given (ltb-false (durable_of l) n.version b) in
        record { push = j.push; held = Contains-append_left l.pushes (q ∷ []) j.push j.held; at = j.at }

-- a log after an ask that was delivered to it
pub asked_log : Laws → (c : Config) (h g : List Turn) → IsRun c h → (e i : ℕ) (l : LogState) → IsLogOf c h e l → (from : NodeId) (a : LogAsk) → Sent h from (node.Log e i) (ask.Log a) ⊎ StorageMayAsk c g from a → IsLogOf c h e (next_of l a)
asked_log laws c h g run e i l k from a came =
    log_change (IsLogOf c h e) l a k (λ s at none. seeded_log laws c h run e l k s none (seed s at came)) (λ q at took. pushed_log laws c h run e l k q took (push q at came)) (stopped_log c h e l k)
    (λ ps. popped_log c h e l k ps)
  where
    seed : (s : SeedContent) → a ≡ Seed s → Sent h from (node.Log e i) (ask.Log a) ⊎ StorageMayAsk c g from a → IsSeedOf c h e s
    seed s at (inl sent) = seeds_are_own laws c h run from e i s (subst (λ x. Sent h from (node.Log e i) (ask.Log x)) at sent)
    seed s at (inr may) = absurd (no_seed c g from s (subst (StorageMayAsk c g from) at may))

    push : (q : PushContent) → a ≡ Push q → Sent h from (node.Log e i) (ask.Log a) ⊎ StorageMayAsk c g from a → IsOfEpoch c h e q
    push q at (inl sent) = pushes_are_own laws c h run from e i q (subst (λ x. Sent h from (node.Log e i) (ask.Log x)) at sent)
    push q at (inr may) = absurd (no_push c g from q (subst (StorageMayAsk c g from) at may))

-- ---- runs

-- an epoch that has logs has a generation
pub logs_generation : (c : Config) (h : List Turn) (e i : ℕ) → i < logs_at c h e → HasGeneration c h e
logs_generation c h e i below = go (e == first_epoch) refl below
  where
    planned : (o : Option Plan) → plan_at c h e ≡ o → i < logs_in o → (e == first_epoch) ≡ false → HasGeneration c h e
    planned None at l other = absurd (omega (arith, l))
    planned (Some p) at l other = record { generation = p.generation; is = ap (λ s. cond s (Some (first_generation c)) (generation_in (plan_at c h e))) other ∙ ap generation_in at }

    go : (s : Bool) → (e == first_epoch) ≡ s → i < cond s c.m (logs_in (plan_at c h e)) → HasGeneration c h e
    go true first l = record { generation = first_generation c; is = ap (λ s. cond s (Some (first_generation c)) (generation_in (plan_at c h e))) first }
    go false other l = planned (plan_at c h e) refl l other

-- a log that is not there was asked nothing
pub unasked : Laws → (c : Config) (h : List Turn) (t : Turn) → IsTurn c h t → (e i : ℕ) → nat_lt i (logs_at c h e) ≡ false → (l : LogState) → log_after t e i l ≡ l
unasked laws c h (Begun b shape asks) is e i absent l = refl
unasked laws c h (CellTurn from j a t) is e i absent l = refl
unasked laws c h (LogTurn from x j a t) is e i absent l = go ((x == e) && (j == i)) refl
  where
    go : (b : Bool) → ((x == e) && (j == i)) ≡ b → cond b (next_of l a) l ≡ l
    go true k =
        let parts = and_parts (x == e) (j == i) k in
        let there : nat_lt i (logs_at c h e) ≡ true = subst (λ y. nat_lt y (logs_at c h e) ≡ true) (eqb-true j i parts.1) (subst (λ y. nat_lt j (logs_at c h y) ≡ true) (eqb-true x e parts.0) is.0.there) in
        let d : false ≡ true = sym absent ∙ there in absurd (cc)
    go false k = refl
unasked laws c h (SeqTurn from x a t) is e i absent l = refl
unasked laws c h (Submitted x p step batch asks) is e i absent l = refl
unasked laws c h (ProxyHeard x p from t outcome asks) is e i absent l = refl
unasked laws c h (RecHeard b from t asks) is e i absent l = refl
unasked laws c h (StorageHeard tag from t taken fault) is e i absent l = refl
unasked laws c h (Gone who) is e i absent l = refl
unasked laws c h (Crashed who) is e i absent l = refl

-- the logs that are there stay
pub logs_stay : Laws → (c : Config) (h : List Turn) (t : Turn) → IsRun c h → IsTurn c h t → (e i : ℕ) → i < logs_at c h e → logs_at c (t ∷ h) e ≡ logs_at c h e
logs_stay laws c h t run is e i below = go (e == first_epoch) below
  where
    copied : (o : Option Plan) → i < logs_in o → is_copied_in o ≡ true
    copied None l = absurd (omega (arith, l))
    copied (Some p) l = pick (is_complete p.tail) l
      where
        pick : (b : Bool) → i < cond b p.generation.m 0 → b ≡ true
        pick true k = refl
        pick false k = absurd (omega (arith, k))

    go : (s : Bool) → i < cond s c.m (logs_in (plan_at c h e)) → cond s c.m (logs_in (plan_at c (t ∷ h) e)) ≡ cond s c.m (logs_in (plan_at c h e))
    go true l = refl
    go false l = ap logs_in (copied_stays laws c h t run is e (copied (plan_at c h e) l))

pub absent_before : Laws → (c : Config) (h : List Turn) (t : Turn) → IsRun c h → IsTurn c h t → (e i : ℕ) → nat_lt i (logs_at c (t ∷ h) e) ≡ false → nat_lt i (logs_at c h e) ≡ false
absent_before laws c h t run is e i absent = go (nat_lt i (logs_at c h e)) refl
  where
    go : (b : Bool) → nat_lt i (logs_at c h e) ≡ b → b ≡ false
    go true k = sym k ∙ (ap (nat_lt i) (sym (logs_stay laws c h t run is e i (ltb-true i (logs_at c h e) k))) ∙ absent)
    go false k = refl

pub unasked_run : Laws → (c : Config) (h : List Turn) → IsRun c h → (e i : ℕ) → nat_lt i (logs_at c h e) ≡ false → (l : LogState) → log_from l h e i ≡ l
unasked_run laws c [] run e i absent l = refl
unasked_run laws c (t ∷ h) run e i absent l =
    let before = absent_before laws c h t run.1 run.0 e i absent in
    ap (log_after t e i) (unasked_run laws c h run.1 e i before l) ∙ unasked laws c h t run.0 e i before l

first_is : (c : Config) (i : ℕ) → IsLogOf c [] first_epoch (first_log c i)
first_is c i = record {
  unseeded = λ e. absurd (cc);
  seeded = refl;
  each = All-push (IsOfEpoch c [] first_epoch) [] (first_mark c) (All-nil (IsOfEpoch c [] first_epoch)) (record { opened = refl; placed = (refl, refl) });
  whole = λ n given low. absurd (Contains-none given);
}

-- a log that was just made
new_is : Laws → (c : Config) (h : List Turn) → IsRun c h → (e i : ℕ) (o : Option Plan) → IsLogOf c h e (new_log_in o e i)
new_is laws c h run e i None = record {
  unseeded = λ d. refl;
  seeded = tt;
  each = All-nil (IsOfEpoch c h e);
  whole = λ n given low. absurd (let up = above_mark laws c h run e n given in omega (arith, up, low));
}
new_is laws c h run e i (Some p) = record {
  unseeded = λ d. refl;
  seeded = tt;
  each = All-nil (IsOfEpoch c h e);
  whole = λ n given low. absurd (let up = above_mark laws c h run e n given in omega (arith, up, low));
}

-- a log that is there only now was never asked
pub made_log : Laws → (c : Config) (h : List Turn) (t : Turn) → IsRun c h → IsTurn c h t → (e i : ℕ) → nat_lt i (logs_at c h e) ≡ false → log_at c (t ∷ h) e i ≡ new_log c (t ∷ h) e i
made_log laws c h t run is e i absent = let l = new_log c (t ∷ h) e i in ap (log_after t e i) (unasked_run laws c h run e i absent l) ∙ unasked laws c h t is e i absent l

made_now : Laws → (c : Config) (h : List Turn) (t : Turn) → IsRun c h → IsTurn c h t → (e i : ℕ) → nat_lt i (logs_at c h e) ≡ false → i < logs_at c (t ∷ h) e → IsLogOf c (t ∷ h) e (log_at c (t ∷ h) e i)
made_now laws c h t run is e i absent below =
    subst (IsLogOf c (t ∷ h) e) (sym (made_log laws c h t run is e i absent)) (go (e == first_epoch) absent below)
  where
    go : (s : Bool) → nat_lt i (cond s c.m (logs_in (plan_at c h e))) ≡ false → i < cond s c.m (logs_in (plan_at c (t ∷ h) e)) → IsLogOf c (t ∷ h) e (cond s (first_log c i) (new_log_in (plan_at c (t ∷ h) e) e i))
    go true k l = let low = ltb-false i c.m k in absurd (omega (arith, low, l))
    go false k l = new_is laws c (t ∷ h) (is, run) e i (plan_at c (t ∷ h) e)

there_before : Laws → (c : Config) (h : List Turn) (t : Turn) → IsRun c h → IsTurn c h t → (e i : ℕ) → i < logs_at c h e → IsLogOf c h e (log_at c h e i) → IsLogOf c (t ∷ h) e (log_at c (t ∷ h) e i)
there_before laws c h t run is e i below k =
    let g = logs_generation c h e i below in
    let same : generation_at c (t ∷ h) e ≡ generation_at c h e = generation_stays laws c h t run is e g.generation g.is ∙ sym g.is in
    let l = log_at c h e i in
    let later = log_later laws c h t run is e same l k in
    subst (IsLogOf c (t ∷ h) e) (sym (log_stays laws c h t run is e i below))
    (log_by_own_turn c h t is e i l (IsLogOf c (t ∷ h) e) later (λ from a came. asked_log laws c (t ∷ h) h (is, run) e i l later from a (lift from a came)))
  where
    lift : (from : NodeId) (a : LogAsk) → Sent h from (node.Log e i) (ask.Log a) ⊎ StorageMayAsk c h from a → Sent (t ∷ h) from (node.Log e i) (ask.Log a) ⊎ StorageMayAsk c h from a
    lift from a (inl s) = inl (inr s)
    lift from a (inr m) = inr m

log_next : Laws → (c : Config) (h : List Turn) (t : Turn) → IsRun c h → IsTurn c h t → (e i : ℕ) → (i < logs_at c h e → IsLogOf c h e (log_at c h e i)) → i < logs_at c (t ∷ h) e → IsLogOf c (t ∷ h) e (log_at c (t ∷ h) e i)
log_next laws c h t run is e i before below = go (nat_lt i (logs_at c h e)) refl
  where
    go : (b : Bool) → nat_lt i (logs_at c h e) ≡ b → IsLogOf c (t ∷ h) e (log_at c (t ∷ h) e i)
    go true k = let l = ltb-true i (logs_at c h e) k in there_before laws c h t run is e i l (before l)
    go false k = made_now laws c h t run is e i k below

pub logs_are_own : Laws → LogsAreOwn
logs_are_own laws c [] run e i below = go (e == first_epoch) refl below
  where
    go : (s : Bool) → (e == first_epoch) ≡ s → i < cond s c.m 0 → IsLogOf c [] e (log_at c [] e i)
    go true k l = subst (λ x. IsLogOf c [] x (log_at c [] x i)) (sym (eqb-true e first_epoch k)) (first_is c i)
    go false k l = absurd (omega (arith, l))
logs_are_own laws c (t ∷ h) run e i below = log_next laws c h t run.1 run.0 e i (λ l. logs_are_own laws c h run.1 e i l) below
