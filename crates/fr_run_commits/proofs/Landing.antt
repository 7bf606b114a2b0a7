-- Batches in flight land: in the order of their numbers each log that lacks one takes its push.
use Rattle.std.proofs.Common.{◌≡◌, ℕ, ◌+◌, ◌<◌, ◌≤◌, ◌^◌, Bool, true, false, cond, not, nat_lt, nat_le, ◌==◌, ◌&&◌, List, [], ◌∷◌, ◌++◌, Option, None, Some, inl, inr, refl, sym, ◌∙◌, ap, subst, arith}
use Rattle.std.specs.Prelude.{is_some}
use Rattle.std.specs.List.{Contains, All, range_with_len}
use Rattle.std.specs.Option.{option_map}
use Rattle.std.proofs.lemmas.Bool.{and_from, and_parts, cases_eq, eq-eqb, ne_eqb, lt-ltb, le-leb, ltb-true, ltb-false, true≢false}
use Rattle.std.proofs.lemmas.List.Elements.{All-nil, All-cons, All-head, All-tail, All-contains}
use Rattle.fr_base.specs.declared.place.NodeId.{NodeId}
use Rattle.fr_base.specs.declared.place.NodeId.TheVariants as node
use Rattle.fr_state.specs.Generations.{LogGeneration, CoordinatedState}
use Rattle.fr_log.specs.LogState.{durable_of, mark_among}
use Rattle.fr_ask.specs.declared.sequencer.SeqTell.TheVariants.{Numbered}
use Rattle.fr_ask.specs.declared.tell.Tell.{Tell}
use Rattle.fr_ask.specs.declared.tell.Tell.TheVariants as tell
use Rattle.fr_proxy.specs.declared.heeded.Heeded.TheVariants.{Ignored, Placed}
use Rattle.fr_proxy.specs.declared.number.Place.{Place}
use Rattle.fr_proxy.specs.declared.outcome.Outcome.TheVariants.{Waiting}
use Rattle.fr_proxy.specs.Proxy.{ProxyState, Open, takes_batch, may_place, heed_seq, heed_open, heeded, placed, after_heeded, after_hear, outcome_of_heeded, new_asks}
use Rattle.fr_run.specs.Config.{Config}
use Rattle.fr_run.specs.Nodes.{generation_at, mark_version, is_open, logs_at, log_at, seq_at, proxy_at}
use Rattle.fr_run.specs.Run.{IsRun}
use Rattle.fr_run.specs.StateLaws.{IsConfig}
use Rattle.fr_run.specs.Turn.{Turn, ProxyHeard, Gone}
use Rattle.fr_run.proofs.Cells.{Contains-here, Contains-later, Contains-cases}
use Rattle.fr_run.specs.Laws.{Laws}
use Rattle.fr_run.proofs.Growth.{open_generation}
use Rattle.fr_run_headline.specs.Numbers.{Numbering, numbers, top_of, top_at, AreChained, IsNumbered}
use Rattle.fr_run_headline.specs.Proxies.{IsOfGeneration}
use Rattle.fr_run_headline.proofs.Acks.{proxy_known_below}
use Rattle.fr_run_headline.proofs.Durables.{least_each, logs_within, seeded_logs, below_is_least}
use Rattle.fr_run_headline.proofs.Numbers.{chained_below, numbers_chain}
use Rattle.fr_run_headline.proofs.Requests.{proxy_is}
use Rattle.fr_run_outcomes.proofs.Counts.{below_all}
use Rattle.fr_run_outcomes.proofs.Lists.{in_range}
use Rattle.fr_run_outcomes.proofs.Left.{left_latest, left_few}
use Rattle.fr_run_commits.specs.Committing.{CommitsOn, NextIsCommitted}
use Rattle.fr_run_commits.specs.Flying.{IsLanding, IsUnderWay, LandsOn, FlightLands, CommitsGoOn}
use Rattle.fr_run_commits.proofs.Asking.{not_gone}
use Rattle.fr_run_commits.proofs.Committing.{takes}
use Rattle.fr_run_commits.proofs.Idle.{is_idle}
use Rattle.fr_run_commits.proofs.LandingPush.{FlightRules, place_of_number, between, IsFlying, Flown, flown_none, flown_further, OneLands, pushes}
use Rattle.fr_run_commits.proofs.Returning.{marked_reaches}
use Rattle.fr_run_commits.proofs.Sent.{number_is_told}

-- ---- a number

-- a proxy whose batch has no place hears its number, and gives it one
record HasPlaced (c : Config) (e : ℕ) (g : LogGeneration) (ns : List Numbering) (h : List Turn) (n : Numbering) : Type 0 where
  flown : Flown c e g ns h
  way : IsUnderWay c flown.later e n
  place : way.open_batch.place ≡ Some (place_of_number n)
  same : (j : ℕ) → log_at c flown.later e j ≡ log_at c h e j

hears : FlightRules → (c : Config) → IsConfig c → (e : ℕ) (g : LogGeneration) (ns : List Numbering) (h : List Turn) → IsFlying c e g ns h → (n : Numbering) → Contains ns n → (i : ℕ) → i < g.m → durable_of (log_at c h e i) < n.version → (w : IsUnderWay c h e n) → w.open_batch.place ≡ None
    → HasPlaced c e g ns h n
hears rules c config e g ns h k n given i below lacks w unplaced = record {
  flown = record {
    later = turn ∷ h;
    lands = record {
      more = turn ∷ [];
      is = refl;
      landing = All-cons (IsLanding e) turn [] refl (All-nil (IsLanding e));
      leaves = record { cells = refl; recoverers = λ b. refl; lost = λ b. refl };
      idle = λ p free. other_proxy p (λ same. (
          let none : (proxy_at c h e p).under_way ≡ None = (is_idle (proxy_at c h e p) free).under_way in
          let d : Some w.open_batch ≡ None = sym w.under_way ∙ ap (λ x. (proxy_at c h e x).under_way) same ∙ none in
          absurd (cc)));
      gone = λ who up. not_gone turn h who (λ d. absurd (cc)) up;
    };
    flying = record {
      run = whole;
      opened = k.opened;
      latest = left_latest c h (turn ∷ h) (record { cells = refl; recoverers = λ b. refl; lost = λ b. refl }) e k.latest;
      of = k.of;
      numbers_are = k.numbers_are;
      many = k.many;
      up = λ j inside. not_gone turn h (node.Log e j) (λ d. absurd (cc)) (k.up j inside);
      running = k.running;
      seeded = k.seeded;
      flight = λ m among j inside less. later_way m (k.flight m among j inside less);
    };
    keeps = λ j inside. omega arith;
  };
  way = now;
  place = refl;
  same = λ j. refl;
}
  where
    nodes : Laws
    nodes = rules.commits.laws.contents.nodes

    there : (j : ℕ) → j < g.m → j < logs_at c h e
    there j inside = (let many = k.many in omega (arith, many, inside))

    mine : Contains (numbers h e) n
    mine = subst (λ xs. Contains xs n) (sym k.numbers_are) given

    gen : IsOfGeneration c e n.proxy g (proxy_at c h e n.proxy)
    gen = proxy_is nodes c h e n.proxy g k.of

    chain : (mark_version (generation_at c h e) ≤ n.prev) × (n.prev < n.version) × (n.version ≤ top_of (mark_version (generation_at c h e)) (numbers h e))
    chain = chained_below (mark_version (generation_at c h e)) (numbers h e) (numbers_chain nodes c h k.run e k.opened).chain n mine

    known : (proxy_at c h e n.proxy).known ≤ n.prev
    known =
        let least = below_is_least rules.commits.laws c h config k.run e g k.latest.chosen k.of (proxy_at c h e n.proxy).known (proxy_known_below nodes c h k.run e n.proxy k.opened) in
        let each = least_each (λ j. durable_of (log_at c h e j)) (durable_of (log_at c h e 0)) 0 (logs_at c h e) i (omega arith) (let a = there i below in omega (arith, a)) in
        let high = between rules c h k.run e i k.opened (there i below) (k.seeded i below) n mine lacks in
        omega (arith, least, each, high)

    tell_is : Tell
    tell_is = tell.Seq (Numbered n.request n.prev n.version)

    places : heeded (proxy_at c h e n.proxy) (node.Sequencer e) (tell.Seq (Numbered n.request n.prev n.version)) ≡ Placed (place_of_number n)
    places =
        ap (λ u. heed_open (proxy_at c h e n.proxy) u (node.Sequencer e) (tell.Seq (Numbered n.request n.prev n.version))) w.under_way
        ∙ ap (λ b. cond b (heed_seq (proxy_at c h e n.proxy) w.open_batch (Numbered n.request n.prev n.version)) Ignored) (eq-eqb e (proxy_at c h e n.proxy).epoch (sym gen.epoch))
        ∙ ap (λ b. cond b (Placed (place_of_number n)) Ignored) may
      where
        may : may_place (proxy_at c h e n.proxy) w.open_batch n.request n.prev n.version ≡ true
        may = and_from ((n.request == w.open_batch.request) && not (is_some w.open_batch.place)) (nat_le (proxy_at c h e n.proxy).known n.prev && (nat_lt n.prev n.version && nat_le n.version (n.prev + 1000000)))
            (and_from (n.request == w.open_batch.request) (not (is_some w.open_batch.place)) (eq-eqb n.request w.open_batch.request (sym w.request)) (ap (λ o. not (is_some o)) unplaced))
            (and_from (nat_le (proxy_at c h e n.proxy).known n.prev) (nat_lt n.prev n.version && nat_le n.version (n.prev + 1000000)) (le-leb (proxy_at c h e n.proxy).known n.prev known)
            (and_from (nat_lt n.prev n.version) (nat_le n.version (n.prev + 1000000)) (lt-ltb n.prev n.version chain.1) (le-leb n.version (n.prev + 1000000) w.step)))

    turn : Turn
    turn = ProxyHeard e n.proxy (node.Sequencer e) (tell.Seq (Numbered n.request n.prev n.version)) Waiting (new_asks (proxy_at c h e n.proxy) (node.Sequencer e) (tell.Seq (Numbered n.request n.prev n.version)))

    whole : IsRun c (turn ∷ h)
    whole = ((record { actor = w.up; told = number_is_told nodes c h k.run e n mine }, sym (ap outcome_of_heeded places), refl), k.run)

    -- its proxy then
    own : (proxy_at c (turn ∷ h) e n.proxy).under_way ≡ Some (placed (place_of_number n) w.open_batch)
    own =
        ap (λ b. (cond (b && (n.proxy == n.proxy)) (after_hear (proxy_at c h e n.proxy) (node.Sequencer e) (tell.Seq (Numbered n.request n.prev n.version))) (proxy_at c h e n.proxy)).under_way) (eq-eqb e e refl)
        ∙ ap (λ b. (cond b (after_hear (proxy_at c h e n.proxy) (node.Sequencer e) (tell.Seq (Numbered n.request n.prev n.version))) (proxy_at c h e n.proxy)).under_way) (eq-eqb n.proxy n.proxy refl)
        ∙ ap (λ x. (after_heeded (proxy_at c h e n.proxy) x).under_way) places
        ∙ ap (option_map (placed (place_of_number n))) w.under_way

    -- each other one stays
    other_proxy : (q : ℕ) → (n.proxy ≡ q → ⊥) → proxy_at c (turn ∷ h) e q ≡ proxy_at c h e q
    other_proxy q other =
        ap (λ b. cond (b && (n.proxy == q)) (after_hear (proxy_at c h e q) (node.Sequencer e) (tell.Seq (Numbered n.request n.prev n.version))) (proxy_at c h e q)) (eq-eqb e e refl)
        ∙ ap (λ b. cond b (after_hear (proxy_at c h e q) (node.Sequencer e) (tell.Seq (Numbered n.request n.prev n.version))) (proxy_at c h e q)) (ne_eqb n.proxy q other)

    now : IsUnderWay c (turn ∷ h) e n
    now = record { up = record { there = w.up.there; up = not_gone turn h (node.Proxy e n.proxy) (λ d. absurd (cc)) w.up.up }; open_batch = placed (place_of_number n) w.open_batch; under_way = own; request = w.request; step = w.step }

    later_way : (m : Numbering) → IsUnderWay c h e m → IsUnderWay c (turn ∷ h) e m
    later_way m x = elim (cases_eq n.proxy m.proxy) [
      | inl same ↦ record {
        up = record { there = x.up.there; up = not_gone turn h (node.Proxy e m.proxy) (λ d. absurd (cc)) x.up.up };
        open_batch = placed (place_of_number n) w.open_batch;
        under_way = ap (λ q. (proxy_at c (turn ∷ h) e q).under_way) (sym same) ∙ own;
        request = (let two : Some w.open_batch ≡ Some x.open_batch = sym w.under_way ∙ ap (λ q. (proxy_at c h e q).under_way) same ∙ x.under_way in let one : w.open_batch ≡ x.open_batch = cc in ap (λ (o : Open). o.request) one ∙ x.request);
        step = x.step;
      }
      | inr other ↦ record {
        up = record { there = x.up.there; up = not_gone turn h (node.Proxy e m.proxy) (λ d. absurd (cc)) x.up.up };
        open_batch = x.open_batch;
        under_way = ap (λ (y : ProxyState). y.under_way) (other_proxy m.proxy other) ∙ x.under_way;
        request = x.request;
        step = x.step;
      }
    ]

-- ---- one log

lands_one : FlightRules → (c : Config) → IsConfig c → (e : ℕ) (g : LogGeneration) (ns : List Numbering) (h : List Turn) → IsFlying c e g ns h → (n : Numbering) → Contains ns n → (i : ℕ) → i < g.m → n.prev ≤ durable_of (log_at c h e i) → OneLands c e g ns h i n.version
lands_one rules c config e g ns h k n given i below low = go (nat_lt (durable_of (log_at c h e i)) n.version) refl
  where
    after : (p : HasPlaced c e g ns h n) → OneLands c e g ns p.flown.later i n.version → OneLands c e g ns h i n.version
    after p one = record { flown = flown_further c e g ns h p.flown one.flown; reached = one.reached }

    asked : durable_of (log_at c h e i) < n.version → (w : IsUnderWay c h e n) → (o : Option Place) → w.open_batch.place ≡ o → OneLands c e g ns h i n.version
    asked lacks w (Some at) is = pushes rules c e g ns h k n given i below low lacks w at is
    asked lacks w None is = placed_then (hears rules c config e g ns h k n given i below lacks w is)
      where
        placed_then : HasPlaced c e g ns h n → OneLands c e g ns h i n.version
        placed_then p =
            after p (pushes rules c e g ns p.flown.later p.flown.flying n given i below (subst (λ l. n.prev ≤ durable_of l) (sym (p.same i)) low) (subst (λ l. durable_of l < n.version) (sym (p.same i)) lacks) p.way (place_of_number n) p.place)

    go : (b : Bool) → nat_lt (durable_of (log_at c h e i)) n.version ≡ b → OneLands c e g ns h i n.version
    go false is = record { flown = flown_none c e g ns h k; reached = ltb-false (durable_of (log_at c h e i)) n.version is }
    go true is = (let lacks = ltb-true (durable_of (log_at c h e i)) n.version is in let w = k.flight n given i below lacks in asked lacks w w.open_batch.place refl)

-- ---- all logs

record LogsLand (c : Config) (e : ℕ) (g : LogGeneration) (ns : List Numbering) (h : List Turn) (version : ℕ) (logs : List ℕ) : Type 0 where
  flown : Flown c e g ns h
  reached : All (λ i. version ≤ durable_of (log_at c flown.later e i)) logs

logs_more : FlightRules → (c : Config) → IsConfig c → (e : ℕ) (g : LogGeneration) (ns : List Numbering) (h : List Turn) (n : Numbering) → Contains ns n → ((i : ℕ) → i < g.m → n.prev ≤ durable_of (log_at c h e i)) → (i : ℕ) (logs : List ℕ) → i < g.m → All (λ j. j < g.m) logs
    → LogsLand c e g ns h n.version logs → LogsLand c e g ns h n.version (i ∷ logs)
logs_more rules c config e g ns h n given low i logs below inside rest = more (lands_one rules c config e g ns rest.flown.later rest.flown.flying n given i below (let a = low i below in let b = rest.flown.keeps i below in omega (arith, a, b)))
  where
    kept : (one : OneLands c e g ns rest.flown.later i n.version) → (js : List ℕ) → All (λ j. j < g.m) js → All (λ j. n.version ≤ durable_of (log_at c rest.flown.later e j)) js → All (λ j. n.version ≤ durable_of (log_at c one.flown.later e j)) js
    kept one [] a b = All-nil (λ j. n.version ≤ durable_of (log_at c one.flown.later e j))
    kept one (j ∷ js) a b = All-cons (λ x. n.version ≤ durable_of (log_at c one.flown.later e x)) j js
        (let mine = All-head (λ x. n.version ≤ durable_of (log_at c rest.flown.later e x)) j js b in let up = one.flown.keeps j (All-head (λ x. x < g.m) j js a) in omega (arith, mine, up))
        (kept one js (All-tail (λ x. x < g.m) j js a) (All-tail (λ x. n.version ≤ durable_of (log_at c rest.flown.later e x)) j js b))

    more : OneLands c e g ns rest.flown.later i n.version → LogsLand c e g ns h n.version (i ∷ logs)
    more one = record {
      flown = flown_further c e g ns h rest.flown one.flown;
      reached = All-cons (λ j. n.version ≤ durable_of (log_at c one.flown.later e j)) i logs one.reached (kept one logs inside rest.reached);
    }

logs_land : FlightRules → (c : Config) → IsConfig c → (e : ℕ) (g : LogGeneration) (ns : List Numbering) (h : List Turn) → IsFlying c e g ns h → (n : Numbering) → Contains ns n → ((i : ℕ) → i < g.m → n.prev ≤ durable_of (log_at c h e i)) → (logs : List ℕ) → All (λ j. j < g.m) logs
    → LogsLand c e g ns h n.version logs
logs_land rules c config e g ns h k n given low [] inside = record { flown = flown_none c e g ns h k; reached = All-nil (λ i. n.version ≤ durable_of (log_at c h e i)) }
logs_land rules c config e g ns h k n given low (i ∷ logs) inside =
    logs_more rules c config e g ns h n given low i logs (All-head (λ j. j < g.m) i logs inside) (All-tail (λ j. j < g.m) i logs inside) (logs_land rules c config e g ns h k n given low logs (All-tail (λ j. j < g.m) i logs inside))

-- ---- all numbers

record NumbersLand (c : Config) (e : ℕ) (g : LogGeneration) (ns : List Numbering) (h : List Turn) (version : ℕ) : Type 0 where
  flown : Flown c e g ns h
  reached : (i : ℕ) → i < g.m → version ≤ durable_of (log_at c flown.later e i)

numbers_more : FlightRules → (c : Config) → IsConfig c → (e : ℕ) (g : LogGeneration) (ns : List Numbering) (h : List Turn) (n : Numbering) → Contains ns n → (rest : NumbersLand c e g ns h n.prev) → NumbersLand c e g ns h n.version
numbers_more rules c config e g ns h n given rest = all (logs_land rules c config e g ns rest.flown.later rest.flown.flying n given rest.reached (range_with_len 0 g.m) (below_all g.m))
  where
    all : LogsLand c e g ns rest.flown.later n.version (range_with_len 0 g.m) → NumbersLand c e g ns h n.version
    all one = record {
      flown = flown_further c e g ns h rest.flown one.flown;
      reached = λ i below. All-contains (λ j. n.version ≤ durable_of (log_at c one.flown.later e j)) (range_with_len 0 g.m) i one.reached (in_range g.m i below);
    }

numbers_land : FlightRules → (c : Config) → IsConfig c → (e : ℕ) (g : LogGeneration) (ns : List Numbering) (h : List Turn) → IsFlying c e g ns h → (base : ℕ) → ((i : ℕ) → i < g.m → base ≤ durable_of (log_at c h e i)) → (ms : List Numbering) → AreChained base ms → ((n : Numbering) → Contains ms n → Contains ns n)
    → NumbersLand c e g ns h (top_of base ms)
numbers_land rules c config e g ns h k base low [] chain within = record { flown = flown_none c e g ns h k; reached = low }
numbers_land rules c config e g ns h k base low (n ∷ ms) (follows, rises, rest) within =
    numbers_more rules c config e g ns h n (within n (Contains-here n ms)) (subst (NumbersLand c e g ns h) (sym follows) (numbers_land rules c config e g ns h k base low ms rest (λ m among. within m (Contains-later n ms m among))))

-- ---- the end

pub flight_lands : FlightRules → FlightLands
flight_lands rules c h config run e k = done (numbers_land rules c config e g (numbers h e) h start (g.seeded_to + 1) base (numbers h e) (subst (λ v. AreChained v (numbers h e)) (ap mark_version of) chain.chain) (λ n among. among))
  where
    nodes : Laws
    nodes = rules.commits.laws.contents.nodes

    g : LogGeneration
    g = (open_generation nodes c h run e k.opened).generation

    of : generation_at c h e ≡ Some g
    of = (open_generation nodes c h run e k.opened).is

    chain : IsNumbered (mark_version (generation_at c h e)) (seq_at c h e) (numbers h e)
    chain = numbers_chain nodes c h run e k.opened

    own : (i : ℕ) → i < g.m → (i < logs_at c h e) × (is_some (log_at c h e i).seed ≡ true)
    own i below = seeded_logs rules.commits.laws c h config run e g k.latest.chosen of i below

    many : logs_at c h e ≡ g.m
    many = even (logs_within c h e g of) (λ i below. (own i below).0)
      where
        even : logs_at c h e ≤ g.m → ((i : ℕ) → i < g.m → i < logs_at c h e) → logs_at c h e ≡ g.m
        even le each = go (nat_lt (logs_at c h e) g.m) refl
          where
            go : (b : Bool) → nat_lt (logs_at c h e) g.m ≡ b → logs_at c h e ≡ g.m
            go false is = (let ge = ltb-false (logs_at c h e) g.m is in omega (arith, le, ge))
            go true is = absurd (let less = ltb-true (logs_at c h e) g.m is in let bad = each (logs_at c h e) less in omega (arith, bad))

    base : (i : ℕ) → i < g.m → g.seeded_to + 1 ≤ durable_of (log_at c h e i)
    base i below = go (mark_among (log_at c h e i).pushes) refl (k.marked i (own i below).0)
      where
        go : (o : Option CoordinatedState) → mark_among (log_at c h e i).pushes ≡ o → is_some o ≡ true → g.seeded_to + 1 ≤ durable_of (log_at c h e i)
        go None is some = absurd (true≢false (sym some))
        go (Some x) is some = (marked_reaches rules.commits.laws c h run e i g x of (own i below).0 is).durable

    start : IsFlying c e g (numbers h e) h
    start = record {
      run = run;
      opened = k.opened;
      latest = k.latest;
      of = of;
      numbers_are = refl;
      many = many;
      up = λ i below. (k.logs i (own i below).0).up;
      running = λ i below. k.running i (own i below).0;
      seeded = λ i below. (own i below).1;
      flight = λ n among i below less. k.flight n among i (own i below).0 less;
    }

    done : NumbersLand c e g (numbers h e) h (top_of (g.seeded_to + 1) (numbers h e)) → LandsOn c h e
    done l = record {
      later = l.flown.later;
      more = l.flown.lands.more;
      is = l.flown.lands.is;
      is_run = l.flown.flying.run;
      landing = l.flown.lands.landing;
      leaves = l.flown.lands.leaves;
      serving = record {
        latest = l.flown.flying.latest;
        opened = l.flown.flying.opened;
        sequencer = record { there = l.flown.flying.opened; up = l.flown.lands.gone (node.Sequencer e) k.sequencer.up };
        logs = λ i there. record { there = lt-ltb i (logs_at c l.flown.later e) there; up = l.flown.flying.up i (inside i there) };
        running = λ i there. l.flown.flying.running i (inside i there);
        whole = λ i there. (let reached = l.reached i (inside i there) in let last = top in let first = ap (λ v. top_of v (numbers h e)) (ap mark_version of) in omega (arith, reached, last, first));
      };
      top = top;
      idle = l.flown.lands.idle;
    }
      where
        inside : (i : ℕ) → i < logs_at c l.flown.later e → i < g.m
        inside i there = (let now = l.flown.flying.many in omega (arith, there, now))

        top : top_at c l.flown.later e ≡ top_at c h e
        top = ap (top_of (mark_version (generation_at c l.flown.later e))) l.flown.flying.numbers_are ∙ ap (λ o. top_of (mark_version o) (numbers h e)) (l.flown.flying.of ∙ sym of)

pub commits_go_on : FlightRules → NextIsCommitted → CommitsGoOn
commits_go_on rules commits c h config run e k few p step batch up takes low high room = record { lands = l; commits = next }
  where
    l : LandsOn c h e
    l = flight_lands rules c h config run e k

    gone_before : (more h : List Turn) → All (IsLanding e) more → (who : NodeId) → Contains (more ++ h) (Gone who) → Contains h (Gone who)
    gone_before [] h own who at = at
    gone_before (t ∷ more) h own who at = elim (Contains-cases t (more ++ h) (Gone who) at) [
      | inl now ↦ absurd (subst (IsLanding e) now (All-head (IsLanding e) t more own))
      | inr before ↦ gone_before more h (All-tail (IsLanding e) t more own) who before
    ]

    next : CommitsOn c l.later e p step batch
    next = commits c l.later config l.is_run e l.serving (left_few c h l.later l.leaves e few) p step batch
        (record { there = and_from (is_open c l.later e) (nat_lt p c.proxies) l.serving.opened (and_parts (is_open c h e) (nat_lt p c.proxies) up.there).1; up = λ gone. up.up (gone_before l.more h l.landing (node.Proxy e p) (subst (λ x. Contains x (Gone (node.Proxy e p))) (sym l.is) gone)) })
        (ap takes_batch (l.idle p takes) ∙ takes) low high (subst (λ v. v + step < 2 ^ 62) (sym l.top) room)
