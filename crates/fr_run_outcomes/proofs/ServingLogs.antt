-- The logs that serve in a run are those of the laws, without what these may let go.
use Rattle.std.proofs.Common.{◌≡◌, ℕ, ◌<◌, ◌⊎◌, Bool, true, false, cond, nat_lt, ◌==◌, ◌&&◌, map, List, [], ◌∷◌, ◌++◌, length, Option, None, Some, inl, inr, refl, sym, ◌∙◌, ap, subst, arith}
use Rattle.std.specs.Prelude.{is_some, flat_map}
use Rattle.std.specs.List.{range_with_len}
use Rattle.std.proofs.lemmas.Bool.{and_parts, eqb-true, ltb-true}
use Rattle.fr_base.specs.declared.place.NodeId.{NodeId}
use Rattle.fr_base.specs.declared.place.NodeId.TheVariants as node
use Rattle.fr_undo.specs.Canonical.{Commit, Rises}
use Rattle.fr_state.specs.Generations.{CoordinatedState}
use Rattle.fr_tags.specs.Placement.{is_held}
use Rattle.fr_log.specs.declared.ask.LogAsk.{LogAsk}
use Rattle.fr_log.specs.declared.ask.LogAsk.TheVariants.{Seed, Push}
use Rattle.fr_log.specs.declared.records.SeedRecord.{SeedRecord}
use Rattle.fr_log.specs.Seed.{SeedContent}
use Rattle.fr_log.specs.Push.{PushContent}
use Rattle.fr_log.specs.Left.{popped_at, left_push}
use Rattle.fr_log.specs.LogState.{LogState, swept}
use Rattle.fr_log.specs.SweptLaws.{durable_same, some_swept}
use Rattle.fr_log.specs.Change.{IsFirst, IsNext}
use Rattle.fr_log.specs.Step.{answer_of, next_of, after_ask}
use Rattle.fr_log.specs.Law.{AskIsChange, PushAdds, RaisedIs, SweptTells, SweptTwice, SweptGoesOn}
use Rattle.fr_ask.specs.declared.ask.Ask.TheVariants as ask
use Rattle.fr_tail.specs.Copied.{IsCopiedPart}
use Rattle.fr_tail.specs.Tail.{TailState, part_at, as_seed_record, records_for, is_before, placed, in_order, seed_for}
use Rattle.fr_epoch.specs.Recoverer.{RecState, Plan}
use Rattle.fr_run.specs.Config.{Config, first_epoch, first_log}
use Rattle.fr_run.specs.Turn.{Turn, Begun, CellTurn, LogTurn, SeqTurn, Submitted, ProxyHeard, RecHeard, StorageHeard, Gone, Crashed, Sent}
use Rattle.fr_run.specs.Nodes.{rec_at, plan_at, generation_at, mark_version, logs_at, new_log_in, new_log, log_after, log_at}
use Rattle.fr_run.specs.Run.{IsTurn, IsRun, StorageMayAsk}
use Rattle.fr_run.specs.StateLaws.{IsConfig, RecoverersHaveStates}
use Rattle.fr_run.specs.AskLaws.{SenderAccounts, SentIsAccounted}
use Rattle.fr_run.specs.Laws.{Laws}
use Rattle.fr_run.proofs.Growth.{new_log_stays, log_stays}
use Rattle.fr_run_headline.specs.Numbers.{numbers}
use Rattle.fr_run_headline.specs.Logs.{IsPlaced}
use Rattle.fr_run_headline.specs.LogLaws.{PushesAreOwn, LogsAreOwn}
use Rattle.fr_run_headline.specs.BoundLaws.{KnownIsDurable}
use Rattle.fr_run_headline.proofs.Ends.{always_chained}
use Rattle.fr_run_headline.proofs.LogRule.{IsLogRule, log_holds}
use Rattle.fr_run_headline.proofs.Logs.{absent_before, made_log, no_seed, no_push}
use Rattle.fr_run_headline.proofs.Numbers.{chained_below}
use Rattle.fr_run_headline.specs.Contents.{record_of_commit, part_records, CopiesAreTrue}
use Rattle.fr_run_headline.specs.Issued.{part}
use Rattle.fr_run_headline.specs.Agreement.{PartsArePieces}
use Rattle.fr_run_outcomes.specs.Serving.{serving_after, serving_from, serving_at, ServingIsSwept, ServingTells}
use Rattle.fr_run_outcomes.proofs.Letting.{IsPoppedLow, none_popped, popped_low_on, AreFromOne, IsWhole, lets_go_at_once}

-- ---- the laws on which this rests

pub record Rules : Type 0 where
  pub nodes : Laws
  pub changes : AskIsChange
  pub adds : PushAdds
  pub raises : RaisedIs
  pub tells : SweptTells
  pub twice : SweptTwice
  pub goes_on : SweptGoesOn
  pub accounted : SentIsAccounted
  pub states : RecoverersHaveStates
  pub pushes : PushesAreOwn
  pub own : LogsAreOwn
  pub durable : KnownIsDurable
  pub copies : CopiesAreTrue
  pub pieces : PartsArePieces

-- ---- what is popped

-- nothing is popped of a log that was never asked, nor of a first one
new_popped : (o : Option Plan) (e i : ℕ) → IsPoppedLow (new_log_in o e i)
new_popped None e i = none_popped (new_log_in None e i) refl
new_popped (Some p) e i = none_popped (new_log_in (Some p) e i) refl

popped_rule : Rules → (c : Config) → IsLogRule c (λ h e i l. IsPoppedLow l)
popped_rule k c = record {
  starts = λ i. none_popped (first_log c i) refl;
  made = λ h run e i o at other below. new_popped o e i;
  lasts = λ h t run is e i below l low. low;
  takes = λ h run e i below low from a came. popped_low_on k.changes k.adds k.raises (log_at c h e i) a low;
}

popped_low : Rules → (c : Config) (h : List Turn) → IsRun c h → (e i : ℕ) → i < logs_at c h e → IsPoppedLow (log_at c h e i)
popped_low k c h run e i there = log_holds k.nodes c (λ h e i l. IsPoppedLow l) (popped_rule k c) h run e i there

-- ---- the records of seeds

commits_from_one : (low v : ℕ) (xs : List Commit) → Rises low xs v → (tag : ℕ) → AreFromOne (map (as_seed_record tag) (map record_of_commit xs))
commits_from_one low v [] rises tag = tt
commits_from_one low v (x ∷ xs) (lt, rises) tag = (omega (arith, lt), commits_from_one x.0 v xs rises tag)

append_from_one : (rs qs : List SeedRecord) → AreFromOne rs → AreFromOne qs → AreFromOne (rs ++ qs)
append_from_one [] qs k m = m
append_from_one (r ∷ rs) qs (low, k) m = (low, append_from_one rs qs k m)

placed_from_one : (r : SeedRecord) (qs : List SeedRecord) → 0 < r.version → AreFromOne qs → AreFromOne (placed r qs)
placed_from_one r [] low k = (low, tt)
placed_from_one r (q ∷ qs) low (first, k) = go (is_before r q) (placed_from_one r qs low k)
  where
    go : (b : Bool) → AreFromOne (placed r qs) → AreFromOne (cond b (r ∷ q ∷ qs) (q ∷ placed r qs))
    go true rest = (low, (first, k))
    go false rest = (first, rest)

order_from_one : (rs : List SeedRecord) → AreFromOne rs → AreFromOne (in_order rs)
order_from_one [] k = tt
order_from_one (r ∷ rs) (low, k) = placed_from_one r (in_order rs) low (order_from_one rs k)

flat_from_one : (f : ℕ → List SeedRecord) (ts : List ℕ) → ((t : ℕ) → AreFromOne (f t)) → AreFromOne (flat_map f ts)
flat_from_one f [] each = tt
flat_from_one f (t ∷ ts) each = append_from_one (f t) (flat_map f ts) (each t) (flat_from_one f ts each)

-- a seed of a copy that has parts of what an epoch issues has records from version 1 on
seed_from_one : Rules → (c : Config) (h : List Turn) → IsConfig c → IsRun c h → (e : ℕ) (s : TailState) → ((t : ℕ) → IsCopiedPart (part_records c h e t) s.pev s.rv (part_at s t)) → (epoch m k log : ℕ)
    → AreFromOne (seed_for s epoch m k log).records
seed_from_one k c h config run e s copied epoch m n log = order_from_one (flat_map (records_for s m n log) (range_with_len 0 (length s.parts))) (flat_from_one (records_for s m n log) (range_with_len 0 (length s.parts)) each)
  where
    each : (t : ℕ) → AreFromOne (records_for s m n log t)
    each t = pick (is_held t m n log)
      where
        held : AreFromOne (map (as_seed_record t) (part_at s t).records)
        held =
            let p = copied t in
            subst (λ rs. AreFromOne (map (as_seed_record t) rs)) (sym p.records)
            (commits_from_one s.pev (part_at s t).reached (part c h e t s.pev (part_at s t).reached) ((k.pieces c h config run t).rise e s.pev (part_at s t).reached p.low) t)

        pick : (b : Bool) → AreFromOne (cond b (map (as_seed_record t) (part_at s t).records) [])
        pick true = held
        pick false = tt

-- each seed that was sent is one
sent_seed : Rules → (c : Config) (h : List Turn) → IsConfig c → IsRun c h → (from : NodeId) (e i : ℕ) (s : SeedContent) → Sent h from (node.Log e i) (ask.Log (Seed s)) → AreFromOne s.records
sent_seed k c h config run from e i s sent = go from (k.accounted c h run from (node.Log e i) (ask.Log (Seed s)) sent)
  where
    planned : (b : ℕ) (r : RecState) → rec_at c h b ≡ Some r → (q : Plan) → r.plan ≡ Some q → s ≡ seed_for q.tail r.ballot q.generation.m q.generation.k i → AreFromOne s.records
    planned b r at q plan is =
        let p = (k.states c h config run b r at).plan q plan in
        let copy = k.copies c h config run b r p.1.0 q at p.1.1 plan in
        subst (λ (x : SeedContent). AreFromOne x.records) (sym is) (seed_from_one k c h config run p.1.0.last.epoch q.tail copy.copied r.ballot q.generation.m q.generation.k i)

    go : (from : NodeId) → SenderAccounts c h from (node.Log e i) (ask.Log (Seed s)) → AreFromOne s.records
    go (node.Cell j) m = absurd m
    go (node.Log x j) m = absurd m
    go (node.Sequencer x) m = absurd m
    go (node.Proxy x p) m = absurd m.1.1
    go (node.Recoverer b) (r, at, m) = planned b r at m.2.0 m.2.1 m.2.3
    go (node.Storage t) m = absurd m

-- ---- one ask of a run

popped_same : (l : LogState) → (swept l).popped ≡ l.popped
unfolding swept
popped_same l = refl

pushes_none : (l : LogState) → l.pushes ≡ [] → (swept l).pushes ≡ []
unfolding swept
pushes_none l none = ap (map (left_push l.popped)) none

seed_none : (o : Option SeedContent) → is_some o ≡ false → o ≡ None
seed_none None e = refl
seed_none (Some s) e = absurd (cc)

-- a push that was sent is above the version before it
rises : Rules → (c : Config) (h : List Turn) → IsRun c h → (from : NodeId) (e i : ℕ) (p : PushContent) → Sent h from (node.Log e i) (ask.Log (Push p)) → p.prev < p.version
rises k c h run from e i p sent = go p.mark (k.pushes c h run from e i p sent).placed
  where
    go : (m : Option CoordinatedState) → IsPlaced c h e m p → p.prev < p.version
    go None (n, given, at) =
        let up = chained_below (mark_version (generation_at c h e)) (numbers h e) (always_chained k.nodes c h run e) n given in
        let prev = at.prev in
        let version = at.version in
        omega (arith, up.1, prev, version)
    go (Some state) (version, next) = omega (arith, next)

asked : Rules → (c : Config) (h : List Turn) → IsConfig c → IsRun c h → (e i : ℕ) → i < logs_at c h e → (from : NodeId) (a : LogAsk) → Sent h from (node.Log e i) (ask.Log a) ⊎ StorageMayAsk c h from a → IsWhole (swept (log_at c h e i)) a
asked k c h config run e i there from a came = record { seed = seed; push = push }
  where
    l : LogState
    l = log_at c h e i

    low : IsPoppedLow (log_at c h e i)
    low = popped_low k c h run e i there

    unseeded : (swept (log_at c h e i)).seed ≡ None → (log_at c h e i).seed ≡ None
    unseeded none = seed_none (log_at c h e i).seed (sym (some_swept (log_at c h e i)) ∙ ap is_some none)

    sent_by : (b : LogAsk) → a ≡ b → (StorageMayAsk c h from b → ⊥) → Sent h from (node.Log e i) (ask.Log b)
    sent_by b at never = elim came [
      | inl sent ↦ subst (λ x. Sent h from (node.Log e i) (ask.Log x)) at sent
      | inr may ↦ absurd (never (subst (StorageMayAsk c h from) at may))
    ]

    seed : (s : SeedContent) → a ≡ Seed s → IsFirst (swept (log_at c h e i)) s → AreFromOne s.records × ((swept (log_at c h e i)).popped ≡ []) × ((swept (log_at c h e i)).pushes ≡ [])
    seed s at first = (
      sent_seed k c h config run from e i s (sent_by (Seed s) at (no_seed c h from s)),
      popped_same (log_at c h e i) ∙ low.unseeded (unseeded first.unseeded),
      pushes_none (log_at c h e i) ((k.own c h run e i there).unseeded (unseeded first.unseeded)),
    )

    push : (p : PushContent) → a ≡ Push p → IsNext (swept (log_at c h e i)) p → (t : ℕ) → popped_at (swept (log_at c h e i)).popped t < p.version
    push p at next t =
        let up = rises k c h run from e i p (sent_by (Push p) at (no_push c h from p)) in
        let popped = ap (λ ps. popped_at ps t) (popped_same (log_at c h e i)) in
        let known = low.low t in
        let durable = k.durable c h run e i i there there (sym (some_swept (log_at c h e i)) ∙ next.seeded) in
        let follows = next.follows in
        let same = durable_same (log_at c h e i) in
        omega (arith, up, popped, known, durable, follows, same)

-- a log that serves, after one more ask
served : Rules → (c : Config) (h : List Turn) → IsConfig c → IsRun c h → (e i : ℕ) → i < logs_at c h e → (from : NodeId) (a : LogAsk) → Sent h from (node.Log e i) (ask.Log a) ⊎ StorageMayAsk c h from a
    → after_ask (swept (log_at c h e i)) a ≡ swept (next_of (log_at c h e i) a)
served k c h config run e i there from a came =
    lets_go_at_once k.changes (swept (log_at c h e i)) a (k.twice (log_at c h e i)) (asked k c h config run e i there from a came)
    ∙ k.goes_on (log_at c h e i) a

-- ---- runs

-- nothing is let go of a log that was never asked
first_swept : (c : Config) (i : ℕ) → swept (first_log c i) ≡ first_log c i
unfolding swept
first_swept c i = refl

new_swept_in : (o : Option Plan) (e i : ℕ) → swept (new_log_in o e i) ≡ new_log_in o e i
unfolding swept
new_swept_in None e i = refl
new_swept_in (Some p) e i = refl

new_swept : (c : Config) (h : List Turn) (e i : ℕ) → swept (new_log c h e i) ≡ new_log c h e i
new_swept c h e i = go (e == first_epoch)
  where
    go : (b : Bool) → swept (cond b (first_log c i) (new_log_in (plan_at c h e) e i)) ≡ cond b (first_log c i) (new_log_in (plan_at c h e) e i)
    go true = first_swept c i
    go false = new_swept_in (plan_at c h e) e i

-- a log that is not there was asked nothing
unasked : (c : Config) (h : List Turn) (t : Turn) → IsTurn c h t → (e i : ℕ) → nat_lt i (logs_at c h e) ≡ false → (l : LogState) → serving_after t e i l ≡ l
unasked c h (Begun b shape asks) is e i absent l = refl
unasked c h (CellTurn from j a t) is e i absent l = refl
unasked c h (LogTurn from x j a t) is e i absent l = go ((x == e) && (j == i)) refl
  where
    go : (b : Bool) → ((x == e) && (j == i)) ≡ b → cond b (after_ask l a) l ≡ l
    go true k =
        let parts = and_parts (x == e) (j == i) k in
        let there : nat_lt i (logs_at c h e) ≡ true = subst (λ y. nat_lt y (logs_at c h e) ≡ true) (eqb-true j i parts.1) (subst (λ y. nat_lt j (logs_at c h y) ≡ true) (eqb-true x e parts.0) is.0.there) in
        let d : false ≡ true = sym absent ∙ there in
        absurd (cc)
    go false k = refl
unasked c h (SeqTurn from x a t) is e i absent l = refl
unasked c h (Submitted x p step batch asks) is e i absent l = refl
unasked c h (ProxyHeard x p from t outcome asks) is e i absent l = refl
unasked c h (RecHeard b from t asks) is e i absent l = refl
unasked c h (StorageHeard tag from t taken fault) is e i absent l = refl
unasked c h (Gone who) is e i absent l = refl
unasked c h (Crashed who) is e i absent l = refl

unasked_run : Laws → (c : Config) (h : List Turn) → IsRun c h → (e i : ℕ) → nat_lt i (logs_at c h e) ≡ false → (l : LogState) → serving_from l h e i ≡ l
unasked_run laws c [] run e i absent l = refl
unasked_run laws c (t ∷ h) run e i absent l =
    let before = absent_before laws c h t run.1 run.0 e i absent in
    ap (serving_after t e i) (unasked_run laws c h run.1 e i before l) ∙ unasked c h t run.0 e i before l

-- one more turn
turn : Rules → (c : Config) (h : List Turn) (t : Turn) → IsConfig c → IsRun c h → IsTurn c h t → (e i : ℕ) → i < logs_at c h e → serving_after t e i (swept (log_at c h e i)) ≡ swept (log_after t e i (log_at c h e i))
turn k c h (Begun b shape asks) config run is e i there = refl
turn k c h (CellTurn from j a t) config run is e i there = refl
turn k c h (LogTurn from x j a t) config run is e i there = go ((x == e) && (j == i)) refl
  where
    go : (b : Bool) → ((x == e) && (j == i)) ≡ b → cond b (after_ask (swept (log_at c h e i)) a) (swept (log_at c h e i)) ≡ swept (cond b (next_of (log_at c h e i) a) (log_at c h e i))
    go true at =
        let parts = and_parts (x == e) (j == i) at in
        let came : Sent h from (node.Log e i) (ask.Log a) ⊎ StorageMayAsk c h from a =
        subst (λ y. Sent h from (node.Log y i) (ask.Log a) ⊎ StorageMayAsk c h from a) (eqb-true x e parts.0)
        (subst (λ y. Sent h from (node.Log x y) (ask.Log a) ⊎ StorageMayAsk c h from a) (eqb-true j i parts.1) is.1) in
        served k c h config run e i there from a came
    go false at = refl
turn k c h (SeqTurn from x a t) config run is e i there = refl
turn k c h (Submitted x p step batch asks) config run is e i there = refl
turn k c h (ProxyHeard x p from t outcome asks) config run is e i there = refl
turn k c h (RecHeard b from t asks) config run is e i there = refl
turn k c h (StorageHeard tag from t taken fault) config run is e i there = refl
turn k c h (Gone who) config run is e i there = refl
turn k c h (Crashed who) config run is e i there = refl

pub serving_is_swept : Rules → ServingIsSwept
serving_is_swept k c [] config run e i below = sym (new_swept c [] e i)
serving_is_swept k c (t ∷ h) config run e i below = go (nat_lt i (logs_at c h e)) refl (λ there. serving_is_swept k c h config run.1 e i there)
  where
    go : (b : Bool) → nat_lt i (logs_at c h e) ≡ b → (i < logs_at c h e → serving_at c h e i ≡ swept (log_at c h e i)) → serving_at c (t ∷ h) e i ≡ swept (log_at c (t ∷ h) e i)
    go true e' before =
        let there = ltb-true i (logs_at c h e) e' in
        ap (λ l. serving_after t e i (serving_from l h e i)) (new_log_stays k.nodes c h t run.1 run.0 e i there)
        ∙ ap (serving_after t e i) (before there)
        ∙ turn k c h t config run.1 run.0 e i there
        ∙ ap swept (sym (log_stays k.nodes c h t run.1 run.0 e i there))
    go false absent before =
        ap (serving_after t e i) (unasked_run k.nodes c h run.1 e i absent (new_log c (t ∷ h) e i))
        ∙ unasked c h t run.0 e i absent (new_log c (t ∷ h) e i)
        ∙ sym (new_swept c (t ∷ h) e i)
        ∙ ap swept (sym (made_log k.nodes c h t run.1 run.0 e i absent))

pub serving_tells : Rules → ServingTells
serving_tells k c h config run e i there a =
    ap (λ l. answer_of l a) (serving_is_swept k c h config run e i there) ∙ k.tells (log_at c h e i) a
