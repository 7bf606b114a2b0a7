-- The next batch is answered as committed, and comes to be stored.
use Rattle.std.proofs.Common.{◌≡◌, ℕ, zero, suc, ◌+◌, ◌<◌, ◌≤◌, ◌^◌, Bool, true, false, cond, not, nat_lt, ◌==◌, ◌&&◌, ◌||◌, List, [], ◌∷◌, ◌++◌, length, Option, None, Some, inl, inr, refl, sym, ◌∙◌, ap, subst, arith}
use Rattle.std.specs.Prelude.{IfSome, is_some, is_none}
use Rattle.std.specs.FinMap.{get}
use Rattle.std.specs.List.{Contains, All, list_all}
use Rattle.std.proofs.lemmas.Bool.{eq-eqb, ne_eqb, le-ltb, lt-ltb, or_from, true≢false}
use Rattle.std.proofs.lemmas.List.Elements.{All-head, All-tail}
use Rattle.fr_base.specs.declared.place.NodeId.{NodeId}
use Rattle.fr_base.specs.declared.place.NodeId.TheVariants as node
use Rattle.fr_mutation.specs.declared.mutation.Mutation.{Mutation}
use Rattle.fr_state.specs.Generations.{LogGeneration}
use Rattle.fr_tags.specs.SplitLaw.{AreBodiesFor, EachLogHasItsBodies}
use Rattle.fr_tags.specs.Placement.{is_held}
use Rattle.fr_tags.specs.declared.body.Body.{Body}
use Rattle.fr_log.specs.Law.{AskIsChange}
use Rattle.fr_log.specs.LogState.{LogState, seeded_to_of, durable_of, is_push_held, holds, mark_among}
use Rattle.fr_log.specs.Push.{PushContent}
use Rattle.fr_log.specs.Refusal.{push_refusal, new_push_refusal}
use Rattle.fr_log.specs.Seed.{SeedContent}
use Rattle.fr_log.specs.declared.ask.LogRefusal.{LogRefusal}
use Rattle.fr_log.specs.declared.ask.LogRefusal.TheVariants.{WrongEpoch, Unseeded, Stopped, Stale, Gap, NotMine, NoMark}
use Rattle.fr_proxy.specs.declared.outcome.Outcome.TheVariants.{Committed}
use Rattle.fr_proxy.specs.Proxy.{ProxyState, takes_batch, push_of}
use Rattle.fr_proxy.specs.Sequencer.{last_request}
use Rattle.fr_run.specs.Batches.{IsAcknowledged}
use Rattle.fr_run.specs.Config.{Config}
use Rattle.fr_run.specs.Nodes.{generation_at, mark_version, logs_at, log_at, proxy_at, seq_at}
use Rattle.fr_run.specs.Run.{IsUp, IsRun}
use Rattle.fr_run.specs.StateLaws.{IsConfig}
use Rattle.fr_run.specs.States.{state_of, IsLatest}
use Rattle.fr_run.specs.Turn.{Turn, ProxyHeard, Gone}
use Rattle.fr_run.proofs.Cells.{Contains-none, Contains-later, Contains-cases}
use Rattle.fr_run.proofs.Growth.{HasGeneration, open_generation}
use Rattle.fr_run_headline.specs.Bounds.{IsSafe}
use Rattle.fr_run_headline.specs.Issued.{least_durable}
use Rattle.fr_run_headline.specs.Laws.{Laws}
use Rattle.fr_run_headline.specs.Logs.{IsSeedOf, HoldsAt, IsLogOf}
use Rattle.fr_run_headline.specs.Numbers.{numbers, top_at, IsNumbered}
use Rattle.fr_run_headline.specs.Proxies.{IsOfGeneration, IsOpenOf}
use Rattle.fr_run_headline.proofs.Acks.{acknowledged_is_safe, proxy_known_below}
use Rattle.fr_run_headline.proofs.Counted.{numbers_counted}
use Rattle.fr_run_headline.proofs.Durables.{has_log, seeded_logs, below_is_least, least_is_numbered}
use Rattle.fr_run_headline.proofs.Floors.{seed_is_numbered}
use Rattle.fr_run_headline.proofs.Logs.{durable_below, logs_are_own}
use Rattle.fr_run_headline.proofs.Named.{IsNamed, log_named}
use Rattle.fr_run_headline.proofs.Numbers.{numbers_chain}
use Rattle.fr_run_headline.proofs.Proxies.{proxies_are}
use Rattle.fr_run_headline.proofs.Requests.{proxy_is}
use Rattle.fr_run_outcomes.specs.Once.{IsAnswered}
use Rattle.fr_run_outcomes.specs.Pulling.{AllServed, MarkedIsServed}
use Rattle.fr_run_outcomes.proofs.Marking.{has_mark}
use Rattle.fr_run_outcomes.proofs.Left.{left_latest, left_few}
use Rattle.fr_run_commits.specs.Committing.{IsServing, AnswersOn, NextIsAnswered, CommitsOn, NextIsCommitted}
use Rattle.fr_run_commits.specs.Going.{IsOwnOf}
use Rattle.fr_run_commits.proofs.Asking.{CanTake, request_of, place_of, open_of, placed_by, takes_turn, numbers_turn, hears_turn, asking, HasAsked, has_asked, asking_turns, not_gone}
use Rattle.fr_run_commits.proofs.Idle.{idle_is_numbered}
use Rattle.fr_run_commits.proofs.Pushing.{turns_further, left_further, IsPushing, IsPushed, push_all}

-- ---- a push that follows what a log holds

is_true_some : {X : Type 0} (o : Option X) → is_some o ≡ true → is_none o ≡ false
is_true_some None e = absurd (true≢false (sym e))
is_true_some (Some x) e = refl

-- a log takes it, if it is seeded, was not locked, and has its mark
pub takes : (l : LogState) (q : PushContent) → q.epoch ≡ l.epoch → is_some l.seed ≡ true → l.stopped ≡ false → q.prev ≡ durable_of l → seeded_to_of l.seed < durable_of l → q.mark ≡ None → list_all (λ (b : Body). holds l b.tag) q.bodies ≡ true → push_refusal l q ≡ None
takes l q own seeded running follows marked plain mine =
    ap (λ b. cond (not b) (Some WrongEpoch) (cond (is_none l.seed) (Some Unseeded) (cond (is_push_held l q) None (new_push_refusal l q)))) (eq-eqb q.epoch l.epoch own)
    ∙ ap (λ b. cond b (Some Unseeded) (cond (is_push_held l q) None (new_push_refusal l q))) (is_true_some l.seed seeded)
    ∙ either (is_push_held l q) granted
  where
    either : (b : Bool) → new_push_refusal l q ≡ None → cond b None (new_push_refusal l q) ≡ None
    either true e = refl
    either false e = e

    stale : (nat_lt q.prev (durable_of l) || (is_some q.mark && not (q.prev == seeded_to_of l.seed))) ≡ false
    stale = or_from (nat_lt q.prev (durable_of l)) (is_some q.mark && not (q.prev == seeded_to_of l.seed)) (le-ltb q.prev (durable_of l) (omega (arith, follows))) (ap (λ o. is_some o && not (q.prev == seeded_to_of l.seed)) plain)

    unmarked : (is_none q.mark && (durable_of l == seeded_to_of l.seed)) ≡ false
    unmarked = ap (λ o. is_none o && (durable_of l == seeded_to_of l.seed)) plain ∙ ne_eqb (durable_of l) (seeded_to_of l.seed) (λ same. omega (arith, marked, same))

    granted : new_push_refusal l q ≡ None
    granted =
        ap (λ b. cond b (Some Stopped) (after_stop (nat_lt q.prev (durable_of l) || (is_some q.mark && not (q.prev == seeded_to_of l.seed))))) running
        ∙ ap after_stop stale
        ∙ ap after_gap (le-ltb (durable_of l) q.prev (omega (arith, follows)))
        ∙ ap after_tags mine
        ∙ ap (λ b. cond b (Some NoMark) None) unmarked
      where
        after_tags : Bool → Option LogRefusal
        after_tags b = cond (not b) (Some NotMine) (cond (is_none q.mark && (durable_of l == seeded_to_of l.seed)) (Some NoMark) None)

        after_gap : Bool → Option LogRefusal
        after_gap b = cond b (Some (Gap (durable_of l))) (after_tags (list_all (λ (x : Body). holds l x.tag) q.bodies))

        after_stop : Bool → Option LogRefusal
        after_stop b = cond b (Some Stale) (after_gap (nat_lt (durable_of l) q.prev))

-- ---- an epoch that serves

pub record CommitRules : Type 0 where
  pub laws : Laws
  pub changes : AskIsChange
  pub bodies : EachLogHasItsBodies
  pub served : MarkedIsServed

-- what is known of it
record IsKnown (c : Config) (h : List Turn) (e : ℕ) : Type 0 where
  generation : LogGeneration
  of : generation_at c h e ≡ Some generation
  some : 1 ≤ generation.m
  seeded : (i : ℕ) → i < generation.m → (i < logs_at c h e) × (is_some (log_at c h e i).seed ≡ true)
  last : (seq_at c h e).last ≡ top_at c h e
  high : (i : ℕ) → i < generation.m → durable_of (log_at c h e i) ≡ top_at c h e
  low : (i : ℕ) → i < generation.m → seeded_to_of (log_at c h e i).seed < top_at c h e

known : CommitRules → (c : Config) (h : List Turn) → IsConfig c → IsRun c h → (e : ℕ) → IsServing c h e → IsKnown c h e
known rules c h config run e k = record {
  generation = g;
  of = of;
  some = (let logs = has_log rules.laws c h config run e g of in let a = logs.0 in let b = logs.1 in omega (arith, a, b));
  seeded = λ i below. seeded i below;
  last = chain.last;
  high = λ i below. (let there = (seeded i below).0 in let least = k.whole i there in let most = durable_below c h e chain.chain (log_at c h e i) (own i there) in omega (arith, least, most));
  low = λ i below. (let is = seed_is i below in let over = seed_is_numbered rules.laws c h run e g of in omega (arith, is, over));
}
  where
    here : HasGeneration c h e
    here = open_generation rules.laws.contents.nodes c h run e k.opened

    g : LogGeneration
    g = here.generation

    of : generation_at c h e ≡ Some g
    of = here.is

    chain : IsNumbered (mark_version (generation_at c h e)) (seq_at c h e) (numbers h e)
    chain = numbers_chain rules.laws.contents.nodes c h run e k.opened

    seeded : (i : ℕ) → i < g.m → (i < logs_at c h e) × (is_some (log_at c h e i).seed ≡ true)
    seeded i below = seeded_logs rules.laws c h config run e g k.latest.chosen of i below

    own : (i : ℕ) → i < logs_at c h e → IsLogOf c h e (log_at c h e i)
    own i there = logs_are_own rules.laws.contents.nodes c h run e i there

    seed_is : (i : ℕ) → i < g.m → seeded_to_of (log_at c h e i).seed ≡ g.seeded_to
    seed_is i below = go (log_at c h e i).seed refl (seeded i below).1
      where
        go : (o : Option SeedContent) → (log_at c h e i).seed ≡ o → is_some o ≡ true → seeded_to_of (log_at c h e i).seed ≡ g.seeded_to
        go None is some = absurd (true≢false (sym some))
        go (Some s) is some =
            let end : s.seeded_to + 1 ≡ mark_version (generation_at c h e) = subst (λ o. IfSome o (IsSeedOf c h e)) is (own i (seeded i below).0).seeded in
            let mark : mark_version (generation_at c h e) ≡ g.seeded_to + 1 = ap mark_version of in
            let mine : seeded_to_of (log_at c h e i).seed ≡ s.seeded_to = ap seeded_to_of is in
            omega (arith, end, mark, mine)

-- each log takes the push
ready : CommitRules → (c : Config) (h : List Turn) → IsConfig c → IsRun c h → (e : ℕ) → (k : IsServing c h e) → (n : IsKnown c h e) → (p step : ℕ) (batch : List Mutation) → IsOfGeneration c e p n.generation (proxy_at c h e p) → (i : ℕ) → i < n.generation.m
    → push_refusal (log_at c h e i) (push_of (placed_by c h e p step batch) (open_of c h e p step batch) (place_of c h e step) i) ≡ None
ready rules c h config run e k n p step batch s i below =
    takes (log_at c h e i) (push_of (placed_by c h e p step batch) (open_of c h e p step batch) (place_of c h e step) i) (s.epoch ∙ sym name.epoch) (n.seeded i below).1 (k.running i (n.seeded i below).0)
    (n.last ∙ sym (n.high i below)) (let low = n.low i below in let high = n.high i below in omega (arith, low, high)) refl mine
  where
    name : IsNamed c h e i (log_at c h e i)
    name = log_named rules.laws.contents.nodes c h run e i (n.seeded i below).0

    same : name.generation ≡ n.generation
    same = (let two : Some name.generation ≡ Some n.generation = sym name.of ∙ n.of in cc)

    parts : AreBodiesFor (length (proxy_at c h e p).begins) (proxy_at c h e p).m (proxy_at c h e p).k i (push_of (placed_by c h e p step batch) (open_of c h e p step batch) (place_of c h e step) i).bodies
    parts = rules.bodies (proxy_at c h e p).begins batch (proxy_at c h e p).m (proxy_at c h e p).k i (let m = s.m in omega (arith, m, below))

    mine : list_all (λ (b : Body). holds (log_at c h e i) b.tag) (push_of (placed_by c h e p step batch) (open_of c h e p step batch) (place_of c h e step) i).bodies ≡ true
    mine =
        ap (λ m. list_all (λ (b : Body). is_held b.tag m (log_at c h e i).k (log_at c h e i).index) (push_of (placed_by c h e p step batch) (open_of c h e p step batch) (place_of c h e step) i).bodies) (name.m ∙ ap (λ (g : LogGeneration). g.m) same ∙ sym s.m)
        ∙ ap (λ x. list_all (λ (b : Body). is_held b.tag (proxy_at c h e p).m x (log_at c h e i).index) (push_of (placed_by c h e p step batch) (open_of c h e p step batch) (place_of c h e step) i).bodies) (name.k ∙ ap (λ (g : LogGeneration). g.k) same ∙ sym s.k)
        ∙ ap (λ j. list_all (λ (b : Body). is_held b.tag (proxy_at c h e p).m (proxy_at c h e p).k j) (push_of (placed_by c h e p step batch) (open_of c h e p step batch) (place_of c h e step) i).bodies) name.index
        ∙ parts.held

-- ---- the answer

-- the answer, and that it was given
pub record IsAnsweredOn (c : Config) (h : List Turn) (e p step : ℕ) (batch : List Mutation) : Type 0 where
  pub on : AnswersOn c h e p step batch
  pub acknowledged : IsAcknowledged on.later e (top_at c h e + step)

answered : CommitRules → (c : Config) (h : List Turn) → IsConfig c → IsRun c h → (e : ℕ) → IsServing c h e → (p step : ℕ) (batch : List Mutation) → IsUp c h (node.Proxy e p) → takes_batch (proxy_at c h e p) ≡ true → 1 ≤ step → step ≤ 1000000
    → top_at c h e + step < 2 ^ 62 → IsAnsweredOn c h e p step batch
answered rules c h config run e k p step batch up takes low high room = count n.generation.m refl
  where
    n : IsKnown c h e
    n = known rules c h config run e k

    s : IsOfGeneration c e p n.generation (proxy_at c h e p)
    s = proxy_is rules.laws.contents.nodes c h e p n.generation n.of

    next : last_request (get (seq_at c h e).given p) ≡ (proxy_at c h e p).requests
    next = (numbers_counted rules.laws.contents.nodes c h run e k.opened).last p ∙ idle_is_numbered rules.laws.contents.nodes c h run e p k.opened takes

    below : (proxy_at c h e p).known ≤ (seq_at c h e).last
    below =
        let known = below_is_least rules.laws c h config run e n.generation k.latest.chosen n.of (proxy_at c h e p).known (proxy_known_below rules.laws.contents.nodes c h run e p k.opened) in
        let least = least_is_numbered rules.laws c h config run e n.generation k.latest.chosen n.of in
        let last = n.last in
        omega (arith, known, least, last)

    can : CanTake c h e p step
    can = record {
      run = run;
      opened = k.opened;
      sequencer = k.sequencer.up;
      up = up;
      takes = takes;
      epoch = s.epoch;
      number = s.number;
      next = next;
      known = below;
      low = low;
      high = high;
      room = subst (λ v. v + step < 2 ^ 62) (sym n.last) room;
    }

    asked : HasAsked c h e p step batch
    asked = has_asked c h e p step batch can

    start : IsPushing c e p batch (placed_by c h e p step batch) (open_of c h e p step batch) (place_of c h e step) (asking c h e p step batch) []
    start = record {
      run = asked.run;
      up = record { there = up.there; up = λ gone. three (node.Proxy e p) up.up gone };
      proxy = asked.proxy;
      taken = (subst (λ u. IfSome u (IsOpenOf c (asking c h e p step batch) e p (proxy_at c (asking c h e p step batch) e p))) (ap (λ (y : ProxyState). y.under_way) asked.proxy) (proxies_are rules.laws.contents.nodes c (asking c h e p step batch) asked.run e p k.opened).under_way).batch;
      sent = asked.sent;
      fresh = λ i high. refl;
      logs = λ i high below. record { there = (k.logs i (n.seeded i (inside i below)).0).there; up = λ gone. three (node.Log e i) (k.logs i (n.seeded i (inside i below)).0).up gone };
      ready = λ i high below. ready rules c h config run e k n p step batch s i (inside i below);
    }
      where
        inside : (i : ℕ) → i < (proxy_at c h e p).m → i < n.generation.m
        inside i below = (let m = s.m in omega (arith, m, below))

        three : (who : NodeId) → (Contains h (Gone who) → ⊥) → Contains (asking c h e p step batch) (Gone who) → ⊥
        three who up =
            not_gone (hears_turn c h e p step batch) (numbers_turn c h e p step ∷ takes_turn c h e p step batch ∷ h) who (λ d. absurd (cc))
            (not_gone (numbers_turn c h e p step) (takes_turn c h e p step batch ∷ h) who (λ d. absurd (cc)) (not_gone (takes_turn c h e p step batch) h who (λ d. absurd (cc)) up))

    whole : IsPushed c e p batch (open_of c h e p step batch) (place_of c h e step) (asking c h e p step batch) → IsAnsweredOn c h e p step batch
    whole pushed = record {
      on = record {
        later = pushed.later;
        goes_on = turns_further c e p batch h (asking c h e p step batch) pushed.later (asking_turns c h e p step batch asked.run) pushed.goes_on;
        leaves = left_further c h (asking c h e p step batch) pushed.later (record { cells = refl; recoverers = λ b. refl; lost = λ b. refl }) pushed.leaves;
        taken = pushed.taken;
        answered = subst (IsAnswered c pushed.later e p (request_of c h e p)) (ap (λ v. v + step) n.last) pushed.answered;
      };
      acknowledged = subst (IsAcknowledged pushed.later e) (ap (λ v. v + step) n.last) pushed.acknowledged;
    }

    count : (m : ℕ) → n.generation.m ≡ m → IsAnsweredOn c h e p step batch
    count zero is = absurd (let some = n.some in omega (arith, some, is))
    count (suc m) is = whole (push_all m c e p batch (placed_by c h e p step batch) (open_of c h e p step batch) (place_of c h e step) (record { epoch = s.epoch; place = refl }) (asking c h e p step batch) [] start (let own = s.m in omega (arith, own, is)))

pub next_is_answered : CommitRules → NextIsAnswered
next_is_answered rules c h config run e k p step batch up takes low high room = (answered rules c h config run e k p step batch up takes low high room).on

-- ---- and stored

gone_before : (e p : ℕ) (batch : List Mutation) (more h : List Turn) → All (IsOwnOf e p batch) more → (who : NodeId) → Contains (more ++ h) (Gone who) → Contains h (Gone who)
gone_before e p batch [] h own who k = k
gone_before e p batch (t ∷ more) h own who k = elim (Contains-cases t (more ++ h) (Gone who) k) [
  | inl now ↦ absurd (never t (All-head (IsOwnOf e p batch) t more own) now)
  | inr before ↦ gone_before e p batch more h (All-tail (IsOwnOf e p batch) t more own) who before
]
  where
    never : (x : Turn) → IsOwnOf e p batch x → x ≡ Gone who → ⊥
    never x own d = subst (IsOwnOf e p batch) d own

contains_more : (more h : List Turn) (t : Turn) → Contains h t → Contains (more ++ h) t
contains_more [] h t k = k
contains_more (x ∷ more) h t k = Contains-later x (more ++ h) t (contains_more more h t k)

acknowledged_later : (h later more : List Turn) → more ++ h ≡ later → (e v : ℕ) → IsAcknowledged h e v → IsAcknowledged later e v
acknowledged_later h later more is e v k = subst (λ l. IsAcknowledged l e v) is (record { proxy = k.proxy; from = k.from; tell = k.tell; asks = k.asks; turn = contains_more more h (ProxyHeard e k.proxy k.from k.tell (Committed v) k.asks) k.turn })

-- what was acknowledged is held by each log
held_by_all : CommitRules → (c : Config) (h : List Turn) → IsConfig c → IsRun c h → (e v : ℕ) → IsLatest c h e → IsAcknowledged h e v → v ≤ least_durable c h e
held_by_all rules c h config run e v latest k =
    let safe = acknowledged_is_safe rules.laws.contents.nodes c h run e v k in
    below_is_least rules.laws c h config run e safe.generation latest.chosen safe.of v (record { generation = safe.generation; at = safe.of; below = inr safe.reached })

pub next_is_committed : CommitRules → NextIsCommitted
next_is_committed rules c h config run e k few p step batch up takes low high room =
    stored (rules.served c a.on.later config a.on.goes_on.is_run e 0 (state_of c a.on.later e) latest (left_few c h a.on.later a.on.leaves e few) log_up mark)
  where
    a : IsAnsweredOn c h e p step batch
    a = answered rules c h config run e k p step batch up takes low high room

    n : IsKnown c h e
    n = known rules c h config run e k

    latest : IsLatest c a.on.later e
    latest = left_latest c h a.on.later a.on.leaves e k.latest

    safe : IsSafe c a.on.later e (top_at c h e + step)
    safe = acknowledged_is_safe rules.laws.contents.nodes c a.on.later a.on.goes_on.is_run e (top_at c h e + step) a.acknowledged

    first : 0 < safe.generation.m
    first = (let logs = has_log rules.laws c a.on.later config a.on.goes_on.is_run e safe.generation safe.of in let x = logs.0 in let y = logs.1 in omega (arith, x, y))

    there : 0 < logs_at c a.on.later e
    there = (safe.reached 0 first).there

    log_up : IsUp c a.on.later (node.Log e 0)
    log_up = record {
      there = lt-ltb 0 (logs_at c a.on.later e) there;
      up = λ gone. (k.logs 0 (n.seeded 0 n.some).0).up (gone_before e p batch a.on.goes_on.more h a.on.goes_on.own (node.Log e 0) (subst (λ l. Contains l (Gone (node.Log e 0))) (sym a.on.goes_on.is) gone));
    }

    has : HoldsAt (log_at c a.on.later e 0) safe.number
    has = (logs_are_own rules.laws.contents.nodes c a.on.later a.on.goes_on.is_run e 0 there).whole safe.number safe.given (let at = safe.at in let durable = (safe.reached 0 first).durable in omega (arith, at, durable))

    mark : mark_among (log_at c a.on.later e 0).pushes ≡ Some (state_of c a.on.later e)
    mark = go (log_at c a.on.later e 0).pushes refl
      where
        go : (ps : List PushContent) → (log_at c a.on.later e 0).pushes ≡ ps → mark_among (log_at c a.on.later e 0).pushes ≡ Some (state_of c a.on.later e)
        go [] empty = absurd (Contains-none (subst (λ ps. Contains ps has.push) empty has.held))
        go (q ∷ ps) is = has_mark rules.laws.contents.nodes rules.changes c a.on.later a.on.goes_on.is_run e 0 there q ps is

    stored : AllServed c a.on.later e → CommitsOn c h e p step batch
    stored s = record {
      answer = a.on;
      later = s.later;
      goes_on = s.goes_on;
      latest = now;
      committed = through;
      each = s.each;
      applied = λ tag inside. (let most = (s.each tag inside).applied in omega (arith, most, through));
    }
      where
        now : IsLatest c s.later e
        now = left_latest c a.on.later s.later s.leaves e latest

        through : top_at c h e + step ≤ least_durable c s.later e
        through = held_by_all rules c s.later config (s.goes_on e).is_run e (top_at c h e + step) now (acknowledged_later a.on.later s.later (s.goes_on e).more (s.goes_on e).is e (top_at c h e + step) a.acknowledged)
