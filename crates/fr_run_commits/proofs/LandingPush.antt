-- A proxy's push comes to a log that holds the number before it.
use Rattle.std.proofs.Common.{◌≡◌, ℕ, ◌+◌, ◌<◌, ◌≤◌, Bool, true, false, cond, max, fold, ◌==◌, ◌&&◌, List, [], ◌∷◌, ◌++◌, length, append_assoc, Option, None, Some, inl, inr, refl, sym, ◌∙◌, ap, subst, arith}
use Rattle.std.specs.Prelude.{IfSome, is_some}
use Rattle.std.specs.List.{Contains, All, list_all}
use Rattle.std.proofs.lemmas.Bool.{lt-ltb, true≢false}
use Rattle.std.proofs.lemmas.List.Elements.{All-nil, All-cons, All-append, All-contains}
use Rattle.fr_base.specs.declared.place.NodeId.{NodeId}
use Rattle.fr_base.specs.declared.place.NodeId.TheVariants as node
use Rattle.fr_state.specs.Generations.{LogGeneration, CoordinatedState}
use Rattle.fr_tags.specs.SplitLaw.{AreBodiesFor}
use Rattle.fr_tags.specs.Placement.{is_held}
use Rattle.fr_tags.specs.declared.body.Body.{Body}
use Rattle.fr_log.specs.Change.{LogChange, Stands, Seeds, Holds, Stops, Pops}
use Rattle.fr_log.specs.Law.{Grows}
use Rattle.fr_log.specs.LogState.{LogState, seeded_to_of, durable_of, holds}
use Rattle.fr_log.specs.Push.{PushContent}
use Rattle.fr_log.specs.Refusal.{push_refusal}
use Rattle.fr_log.specs.Seed.{SeedContent}
use Rattle.fr_log.specs.Step.{answer_unless, next_of}
use Rattle.fr_log.specs.declared.ask.LogAsk.TheVariants.{Push, Lock}
use Rattle.fr_log.specs.declared.ask.LogTell.TheVariants.{Held}
use Rattle.fr_proxy.specs.declared.number.Place.{Place}
use Rattle.fr_proxy.specs.Proxy.{ProxyState, takes_batch, push_of}
use Rattle.fr_run.specs.Config.{Config}
use Rattle.fr_run.specs.Nodes.{generation_at, mark_version, is_open, logs_at, log_at, proxy_at}
use Rattle.fr_run.specs.Run.{IsRun}
use Rattle.fr_run.specs.States.{IsLatest}
use Rattle.fr_run.specs.Turn.{Turn, LogTurn, Gone}
use Rattle.fr_run.proofs.Cells.{Contains-here, Contains-later, Contains-none, Contains-cases}
use Rattle.fr_run.specs.Laws.{Laws}
use Rattle.fr_run.proofs.Growth.{log_grows}
use Rattle.fr_run_headline.specs.Logs.{IsPlaced, IsOfEpoch, IsSeedOf, IsLogOf}
use Rattle.fr_run_headline.specs.Numbers.{Numbering, numbers, AreChained}
use Rattle.fr_run_headline.specs.Proxies.{IsOfGeneration, IsNumberOf, IsOpenOf}
use Rattle.fr_run_headline.proofs.Logs.{logs_are_own}
use Rattle.fr_run_headline.proofs.Named.{IsNamed, log_named}
use Rattle.fr_run_headline.proofs.Numbers.{chained_below, numbers_chain}
use Rattle.fr_run_headline.proofs.Proxies.{proxies_are}
use Rattle.fr_run_headline.proofs.Requests.{proxy_is}
use Rattle.fr_run_headline.proofs.Tells.{held_is_held, push_is_reached}
use Rattle.fr_run_outcomes.specs.Going.{LeavesChosen}
use Rattle.fr_run_outcomes.specs.Once.{RequestHasOneNumber}
use Rattle.fr_run_outcomes.proofs.Left.{left_latest}
use Rattle.fr_run_commits.specs.Flying.{IsLanding, IsUnderWay}
use Rattle.fr_run_commits.proofs.Asking.{not_gone}
use Rattle.fr_run_commits.proofs.Committing.{CommitRules, takes}
use Rattle.fr_run_commits.proofs.Pushing.{left_further}
use Rattle.fr_run_commits.proofs.Sent.{are_pushed}

-- what holds of the nodes
pub record FlightRules : Type 0 where
  pub commits : CommitRules
  pub once : RequestHasOneNumber

-- the place of a number
abbrev pub place_of_number : Numbering → Place
place_of_number n = record { prev = n.prev; version = n.version }

-- ---- between two numbers a log holds nothing

chained_apart : (base : ℕ) (ns : List Numbering) → AreChained base ns → (m n : Numbering) → Contains ns m → Contains ns n → m.version < n.version → m.version ≤ n.prev
chained_apart base [] k m n a b less = absurd (Contains-none a)
chained_apart base (x ∷ ns) (follows, rises, rest) m n a b less = elim (Contains-cases x ns n b) [
  | inl last ↦ elim (Contains-cases x ns m a) [
    | inl also ↦ absurd (let one = ap (λ (y : Numbering). y.version) (sym also ∙ last) in omega (arith, less, one))
    | inr before ↦ (let top = (chained_below base ns rest m before).2 in let prev = ap (λ (y : Numbering). y.prev) last in omega (arith, top, prev, follows))
  ]
  | inr earlier ↦ elim (Contains-cases x ns m a) [
    | inl also ↦ absurd (let top = (chained_below base ns rest n earlier).2 in let one = ap (λ (y : Numbering). y.version) also in omega (arith, less, one, top, follows, rises))
    | inr before ↦ chained_apart base ns rest m n before earlier less
  ]
]

fold_bound : (v bound : ℕ) (ps : List PushContent) → v ≤ bound → ((q : PushContent) → Contains ps q → q.version ≤ bound) → fold (λ w (q : PushContent). max w q.version) v ps ≤ bound
fold_bound v bound [] low each = low
fold_bound v bound (p ∷ ps) low each = fold_bound (max v p.version) bound ps (let here = each p (Contains-here p ps) in omega (arith, low, here)) (λ q k. each q (Contains-later p ps q k))

-- a log that lacks a number holds nothing above the number before it
pub between : FlightRules → (c : Config) (h : List Turn) → IsRun c h → (e i : ℕ) → is_open c h e ≡ true → i < logs_at c h e → is_some (log_at c h e i).seed ≡ true → (n : Numbering) → Contains (numbers h e) n → durable_of (log_at c h e i) < n.version → durable_of (log_at c h e i) ≤ n.prev
between rules c h run e i op there some n given lacks = fold_bound (seeded_to_of (log_at c h e i).seed) n.prev (log_at c h e i).pushes (start (log_at c h e i).seed refl some) each
  where
    chain : AreChained (mark_version (generation_at c h e)) (numbers h e)
    chain = (numbers_chain rules.commits.laws.contents.nodes c h run e op).chain

    own : IsLogOf c h e (log_at c h e i)
    own = logs_are_own rules.commits.laws.contents.nodes c h run e i there

    low : mark_version (generation_at c h e) ≤ n.prev
    low = (chained_below (mark_version (generation_at c h e)) (numbers h e) chain n given).0

    start : (o : Option SeedContent) → (log_at c h e i).seed ≡ o → is_some o ≡ true → seeded_to_of (log_at c h e i).seed ≤ n.prev
    start None is k = absurd (true≢false (sym k))
    start (Some s) is k =
        let end : s.seeded_to + 1 ≡ mark_version (generation_at c h e) = subst (λ o. IfSome o (IsSeedOf c h e)) is own.seeded in
        let mine : seeded_to_of (log_at c h e i).seed ≡ s.seeded_to = ap seeded_to_of is in
        omega (arith, end, mine, low)

    each : (q : PushContent) → Contains (log_at c h e i).pushes q → q.version ≤ n.prev
    each q held = go q.mark (All-contains (IsOfEpoch c h e) (log_at c h e i).pushes q own.each held).placed
      where
        below : q.version < n.version
        below = (let reached = (push_is_reached rules.commits.laws.contents.nodes c h run e i q.version (record { there = there; push = q; held = held; at = refl })).durable in omega (arith, reached, lacks))

        go : (o : Option CoordinatedState) → IsPlaced c h e o q → q.version ≤ n.prev
        go None (m, among, at) = (let version = at.version in let apart = chained_apart (mark_version (generation_at c h e)) (numbers h e) chain m n among given (omega (arith, below, version)) in omega (arith, apart, version))
        go (Some x) (version, before) = omega (arith, version, low)

-- ---- the way

-- a run goes on by such turns
pub record Lands (c : Config) (e : ℕ) (h later : List Turn) : Type 0 where
  pub more : List Turn
  pub is : more ++ h ≡ later
  pub landing : All (IsLanding e) more
  pub leaves : LeavesChosen c h later
  pub idle : (p : ℕ) → takes_batch (proxy_at c h e p) ≡ true → proxy_at c later e p ≡ proxy_at c h e p
  pub gone : (who : NodeId) → (Contains h (Gone who) → ⊥) → Contains later (Gone who) → ⊥

pub lands_none : (c : Config) (e : ℕ) (h : List Turn) → Lands c e h h
lands_none c e h = record { more = []; is = refl; landing = All-nil (IsLanding e); leaves = record { cells = refl; recoverers = λ b. refl; lost = λ b. refl }; idle = λ p k. refl; gone = λ who up. up }

pub lands_further : (c : Config) (e : ℕ) (h mid later : List Turn) → Lands c e h mid → Lands c e mid later → Lands c e h later
lands_further c e h mid later first second = record {
  more = second.more ++ first.more;
  is = append_assoc second.more first.more h ∙ (ap (λ x. second.more ++ x) first.is ∙ second.is);
  landing = All-append (IsLanding e) second.more first.more second.landing first.landing;
  leaves = left_further c h mid later first.leaves second.leaves;
  idle = λ p k. second.idle p (ap takes_batch (first.idle p k) ∙ k) ∙ first.idle p k;
  gone = λ who up. second.gone who (first.gone who up);
}

-- a moment at which batches of an epoch are in flight
pub record IsFlying (c : Config) (e : ℕ) (g : LogGeneration) (ns : List Numbering) (h : List Turn) : Type 0 where
  pub run : IsRun c h
  pub opened : is_open c h e ≡ true
  pub latest : IsLatest c h e
  pub of : generation_at c h e ≡ Some g
  pub numbers_are : numbers h e ≡ ns
  pub many : logs_at c h e ≡ g.m
  pub up : (i : ℕ) → i < g.m → Contains h (Gone (node.Log e i)) → ⊥
  pub running : (i : ℕ) → i < g.m → (log_at c h e i).stopped ≡ false
  pub seeded : (i : ℕ) → i < g.m → is_some (log_at c h e i).seed ≡ true
  pub flight : (n : Numbering) → Contains ns n → (i : ℕ) → i < g.m → durable_of (log_at c h e i) < n.version → IsUnderWay c h e n

-- what one step keeps
pub record Flown (c : Config) (e : ℕ) (g : LogGeneration) (ns : List Numbering) (h : List Turn) : Type 0 where
  pub later : List Turn
  pub lands : Lands c e h later
  pub flying : IsFlying c e g ns later
  pub keeps : (j : ℕ) → j < g.m → durable_of (log_at c h e j) ≤ durable_of (log_at c later e j)

abbrev pub flown_none : (c : Config) (e : ℕ) (g : LogGeneration) (ns : List Numbering) (h : List Turn) → IsFlying c e g ns h → Flown c e g ns h
flown_none c e g ns h k = record { later = h; lands = lands_none c e h; flying = k; keeps = λ j below. omega arith }

abbrev pub flown_further : (c : Config) (e : ℕ) (g : LogGeneration) (ns : List Numbering) (h : List Turn) → (a : Flown c e g ns h) → Flown c e g ns a.later → Flown c e g ns h
flown_further c e g ns h a b = record {
  later = b.later;
  lands = lands_further c e h a.later b.later a.lands b.lands;
  flying = b.flying;
  keeps = λ j below. (let x = a.keeps j below in let y = b.keeps j below in omega (arith, x, y));
}

-- ---- a push

-- a push leaves a log running
push_runs : (l : LogState) (q : PushContent) (n : LogState) → LogChange l (Push q) n → n.stopped ≡ l.stopped
push_runs l q n Stands = refl
push_runs l q n (Seeds s at is) = refl
push_runs l q n (Holds p at is) = refl
push_runs l q n (Stops at some) = (let d : Push q ≡ Lock l.epoch = at in absurd (cc))
push_runs l q n (Pops tag through at is) = refl

-- a number of a proxy's open batch is its place
placed_at : FlightRules → (c : Config) (h : List Turn) → IsRun c h → (e : ℕ) → is_open c h e ≡ true → (n : Numbering) → Contains (numbers h e) n → (w : IsUnderWay c h e n) → (at : Place) → w.open_batch.place ≡ Some at → (at.prev ≡ n.prev) × (at.version ≡ n.version)
placed_at rules c h run e op n given w at place = (ap (λ (x : Numbering). x.prev) same, ap (λ (x : Numbering). x.version) same)
  where
    own : IsOpenOf c h e n.proxy (proxy_at c h e n.proxy) w.open_batch
    own = subst (λ u. IfSome u (IsOpenOf c h e n.proxy (proxy_at c h e n.proxy))) w.under_way (proxies_are rules.commits.laws.contents.nodes c h run e n.proxy op).under_way

    number : IsNumberOf h e n.proxy (proxy_at c h e n.proxy) w.open_batch at
    number = subst (λ q. IfSome q (IsNumberOf h e n.proxy (proxy_at c h e n.proxy) w.open_batch)) place own.number

    same : record { proxy = n.proxy; request = w.open_batch.request; prev = at.prev; version = at.version } ≡ n
    same = rules.once c h run e n.proxy n.request (record { proxy = n.proxy; request = w.open_batch.request; prev = at.prev; version = at.version }) n (record { given = number.0; by = refl; asked = w.request }) (record { given = given; by = refl; asked = refl })

pub record OneLands (c : Config) (e : ℕ) (g : LogGeneration) (ns : List Numbering) (h : List Turn) (i version : ℕ) : Type 0 where
  pub flown : Flown c e g ns h
  pub reached : version ≤ durable_of (log_at c flown.later e i)

pub pushes : FlightRules → (c : Config) (e : ℕ) (g : LogGeneration) (ns : List Numbering) (h : List Turn) → IsFlying c e g ns h → (n : Numbering) → Contains ns n → (i : ℕ) → i < g.m → n.prev ≤ durable_of (log_at c h e i) → durable_of (log_at c h e i) < n.version
    → (w : IsUnderWay c h e n) → (at : Place) → w.open_batch.place ≡ Some at → OneLands c e g ns h i n.version
pushes rules c e g ns h k n given i below low lacks w at place = record {
  flown = record {
    later = turn ∷ h;
    lands = record {
      more = turn ∷ [];
      is = refl;
      landing = All-cons (IsLanding e) turn [] refl (All-nil (IsLanding e));
      leaves = record { cells = refl; recoverers = λ b. refl; lost = λ b. refl };
      idle = λ p free. refl;
      gone = λ who up. not_gone turn h who (λ d. absurd (cc)) up;
    };
    flying = record {
      run = whole;
      opened = k.opened;
      latest = left_latest c h (turn ∷ h) (record { cells = refl; recoverers = λ b. refl; lost = λ b. refl }) e k.latest;
      of = k.of;
      numbers_are = k.numbers_are;
      many = k.many;
      up = λ j inside. not_gone turn h (node.Log e j) (λ d. absurd (cc)) (k.up j inside);
      running = λ j inside. runs ((e == e) && (i == j)) j ∙ k.running j inside;
      seeded = λ j inside. ap is_some ((grows j inside).seed (k.seeded j inside)) ∙ k.seeded j inside;
      flight = λ m among j inside less. later_way m (k.flight m among j inside (let up = (grows j inside).durable in omega (arith, up, less)));
    };
    keeps = λ j inside. (grows j inside).durable;
  };
  reached = (let durable = (push_is_reached nodes c (turn ∷ h) whole e i at.version (held_is_held nodes c (turn ∷ h) whole e i (node.Proxy e n.proxy) at.version (inl (refl, refl, refl)))).durable in let version = its.1 in omega (arith, durable, version));
}
  where
    nodes : Laws
    nodes = rules.commits.laws.contents.nodes

    s : ProxyState
    s = proxy_at c h e n.proxy

    there : (j : ℕ) → j < g.m → j < logs_at c h e
    there j inside = (let many = k.many in omega (arith, many, inside))

    mine : Contains (numbers h e) n
    mine = subst (λ xs. Contains xs n) (sym k.numbers_are) given

    its : (at.prev ≡ n.prev) × (at.version ≡ n.version)
    its = placed_at rules c h k.run e k.opened n mine w at place

    high : durable_of (log_at c h e i) ≤ n.prev
    high = between rules c h k.run e i k.opened (there i below) (k.seeded i below) n mine lacks

    gen : IsOfGeneration c e n.proxy g (proxy_at c h e n.proxy)
    gen = proxy_is nodes c h e n.proxy g k.of

    name : IsNamed c h e i (log_at c h e i)
    name = log_named nodes c h k.run e i (there i below)

    same : name.generation ≡ g
    same = (let two : Some name.generation ≡ Some g = sym name.of ∙ k.of in cc)

    parts : AreBodiesFor (length (proxy_at c h e n.proxy).begins) (proxy_at c h e n.proxy).m (proxy_at c h e n.proxy).k i (push_of (proxy_at c h e n.proxy) w.open_batch at i).bodies
    parts = rules.commits.bodies (proxy_at c h e n.proxy).begins w.open_batch.batch (proxy_at c h e n.proxy).m (proxy_at c h e n.proxy).k i (let m = gen.m in omega (arith, m, below))

    tags : list_all (λ (b : Body). holds (log_at c h e i) b.tag) (push_of (proxy_at c h e n.proxy) w.open_batch at i).bodies ≡ true
    tags =
        ap (λ m. list_all (λ (b : Body). is_held b.tag m (log_at c h e i).k (log_at c h e i).index) (push_of (proxy_at c h e n.proxy) w.open_batch at i).bodies) (name.m ∙ ap (λ (y : LogGeneration). y.m) same ∙ sym gen.m)
        ∙ ap (λ x. list_all (λ (b : Body). is_held b.tag (proxy_at c h e n.proxy).m x (log_at c h e i).index) (push_of (proxy_at c h e n.proxy) w.open_batch at i).bodies) (name.k ∙ ap (λ (y : LogGeneration). y.k) same ∙ sym gen.k)
        ∙ ap (λ j. list_all (λ (b : Body). is_held b.tag (proxy_at c h e n.proxy).m (proxy_at c h e n.proxy).k j) (push_of (proxy_at c h e n.proxy) w.open_batch at i).bodies) name.index
        ∙ parts.held

    over : seeded_to_of (log_at c h e i).seed < durable_of (log_at c h e i)
    over = go (log_at c h e i).seed refl (k.seeded i below)
      where
        go : (o : Option SeedContent) → (log_at c h e i).seed ≡ o → is_some o ≡ true → seeded_to_of (log_at c h e i).seed < durable_of (log_at c h e i)
        go None is some = absurd (true≢false (sym some))
        go (Some x) is some =
            let end : x.seeded_to + 1 ≡ mark_version (generation_at c h e) = subst (λ o. IfSome o (IsSeedOf c h e)) is (logs_are_own nodes c h k.run e i (there i below)).seeded in
            let base = (chained_below (mark_version (generation_at c h e)) (numbers h e) (numbers_chain nodes c h k.run e k.opened).chain n mine).0 in
            let own : seeded_to_of (log_at c h e i).seed ≡ x.seeded_to = ap seeded_to_of is in
            omega (arith, end, base, own, low)

    granted : push_refusal (log_at c h e i) (push_of (proxy_at c h e n.proxy) w.open_batch at i) ≡ None
    granted = takes (log_at c h e i) (push_of (proxy_at c h e n.proxy) w.open_batch at i) (gen.epoch ∙ sym name.epoch) (k.seeded i below) (k.running i below) (let prev = its.0 in omega (arith, prev, low, high)) over refl tags

    turn : Turn
    turn = LogTurn (node.Proxy e n.proxy) e i (Push (push_of (proxy_at c h e n.proxy) w.open_batch at i)) (Held at.version)

    whole : IsRun c (turn ∷ h)
    whole = (
      (
        record { there = lt-ltb i (logs_at c h e) (there i below); up = k.up i below },
        inl (are_pushed nodes c h k.run e n.proxy k.opened w.open_batch at w.under_way place i (let m = gen.m in omega (arith, m, below))),
        sym (ap (λ o. answer_unless o (Held at.version)) granted),
        tt,
      ),
      k.run,
    )

    grows : (j : ℕ) → j < g.m → Grows (log_at c h e j) (log_at c (turn ∷ h) e j)
    grows j inside = log_grows nodes c h turn k.run whole.0 e j (there j inside)

    runs : (b : Bool) → (j : ℕ) → (cond b (next_of (log_at c h e j) (Push (push_of (proxy_at c h e n.proxy) w.open_batch at i))) (log_at c h e j)).stopped ≡ (log_at c h e j).stopped
    runs true j = push_runs (log_at c h e j) (push_of (proxy_at c h e n.proxy) w.open_batch at i) (next_of (log_at c h e j) (Push (push_of (proxy_at c h e n.proxy) w.open_batch at i))) (rules.commits.changes (log_at c h e j) (Push (push_of (proxy_at c h e n.proxy) w.open_batch at i)))
    runs false j = refl

    later_way : (m : Numbering) → IsUnderWay c h e m → IsUnderWay c (turn ∷ h) e m
    later_way m x = record { up = record { there = x.up.there; up = not_gone turn h (node.Proxy e m.proxy) (λ d. absurd (cc)) x.up.up }; open_batch = x.open_batch; under_way = x.under_way; request = x.request; step = x.step }
