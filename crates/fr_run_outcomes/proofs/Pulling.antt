-- A storage server that keeps the latest state peeks at logs that are up until it has all that is committed.
use Rattle.std.proofs.Common.{◌≡◌, ℕ, zero, suc, ◌+◌, ◌<◌, ◌≤◌, Bool, true, false, cond, nat_lt, min, max, fold, ◌==◌, ◌&&◌, List, [], ◌∷◌, length, Option, None, Some, inl, inr, refl, sym, ◌∙◌, ap, subst, arith}
use Rattle.std.specs.Prelude.{IfSome, is_some}
use Rattle.std.specs.List.{Contains, All, range_with_len}
use Rattle.std.proofs.lemmas.Bool.{cases_eq, eq-eqb, ne_eqb, lt-ltb, le-ltb, ltb-true, ltb-false, true≢false}
use Rattle.std.proofs.lemmas.List.Elements.{All-nil, All-cons, All-head, All-tail, All-weaker, All-contains}
use Rattle.fr_base.specs.declared.place.NodeId.TheVariants as node
use Rattle.fr_state.specs.Generations.{LogGeneration, CoordinatedState}
use Rattle.fr_state.specs.LookUp.{source_of, end_of}
use Rattle.fr_tags.specs.Placement.{is_held}
use Rattle.fr_log.specs.declared.ask.LogAsk.TheVariants.{Peek}
use Rattle.fr_log.specs.declared.ask.LogTell.TheVariants.{Peeked}
use Rattle.fr_log.specs.Left.{popped_at}
use Rattle.fr_log.specs.LogState.{LogState, first_of, durable_of, holds, mark_among}
use Rattle.fr_log.specs.Peeked.{PeekedContent}
use Rattle.fr_log.specs.Seed.{SeedContent}
use Rattle.fr_log.specs.Step.{peek_of, answer_of, next_of}
use Rattle.fr_ask.specs.declared.tell.Tell.TheVariants as tell
use Rattle.fr_storage.specs.Position.{PeekedApplied}
use Rattle.fr_storage.specs.Storage.{StorageState, own_epoch, peeked_fault, reached_by, target_of, after_peeked}
use Rattle.fr_run.specs.Config.{Config, first_epoch}
use Rattle.fr_run.specs.Turn.{Turn, LogTurn, StorageHeard, Told}
use Rattle.fr_run.specs.Nodes.{plan_in, generation_at, logs_in, logs_at, log_at, storage_hear, storage_at}
use Rattle.fr_run.specs.Run.{IsUp, IsRun}
use Rattle.fr_run.specs.States.{state_of, IsLatest}
use Rattle.fr_run.specs.StateLaws.{IsConfig}
use Rattle.fr_run.proofs.Chosen.{chosen_is_planned}
use Rattle.fr_run_headline.specs.Bounds.{IsSeedAt}
use Rattle.fr_run_headline.specs.Issued.{least_durable}
use Rattle.fr_run_headline.specs.Laws.{Laws}
use Rattle.fr_run_headline.specs.Retrievable.{AreFewLost, IsRetrievable, CommittedIsRetrievable}
use Rattle.fr_run_headline.specs.Storages.{IsStorageOf, StoragesFollow}
use Rattle.fr_run_headline.proofs.Agreement.{planned_epoch}
use Rattle.fr_run_headline.proofs.Known.{logs_know}
use Rattle.fr_run_headline.proofs.Named.{IsNamed, log_named}
use Rattle.fr_run_outcomes.specs.Going.{IsOwn, GoesOn, LeavesChosen, LeavesOthers}
use Rattle.fr_run_outcomes.specs.Hearing.{HearsOn, MarkIsHeard}
use Rattle.fr_run_outcomes.specs.Marking.{MarksOn, MarkIsHeld}
use Rattle.fr_run_outcomes.specs.Pulling.{IsServed, PullsOn, CommittedIsPulled, AllServed, MarkedIsServed, AllPullOn, ChosenIsServed}
use Rattle.fr_run_outcomes.proofs.Copying.{peek_rises, peeks}
use Rattle.fr_run_outcomes.proofs.Counts.{below_all}
use Rattle.fr_run_outcomes.proofs.Going.{stands, goes_further, log_still_up}
use Rattle.fr_run_outcomes.proofs.Hearing.{no_storage_gone}
use Rattle.fr_run_outcomes.proofs.Left.{all_left, left_further, none_changed, others_further, left_state, left_latest, left_few, own_generation, state_kept, not_refused, rises, peek_leaves, fold_same}
use Rattle.fr_run_outcomes.proofs.Lists.{in_range}

-- ---- two turns

-- what a storage server is told that asks a log for what comes next
abbrev pub told_by : Config → List Turn → ℕ → ℕ → ℕ → PeekedContent
told_by c h e i tag = peek_of (log_at c h e i) tag (storage_at c h tag).store.applied 100

abbrev pub asks : Config → List Turn → ℕ → ℕ → ℕ → Turn
asks c h e i tag = LogTurn (node.Storage tag) e i (Peek e tag (storage_at c h tag).store.applied 100) (Peeked (told_by c h e i tag))

abbrev pub hears : Config → List Turn → ℕ → ℕ → ℕ → Turn
hears c h e i tag = StorageHeard tag (node.Log e i) (tell.Log (Peeked (told_by c h e i tag))) None (peeked_fault (storage_at c h tag) e (told_by c h e i tag))

-- each log stays
pub log_same : (c : Config) (h : List Turn) (e i tag x j : ℕ) → log_at c (hears c h e i tag ∷ asks c h e i tag ∷ h) x j ≡ log_at c h x j
log_same c h e i tag x j = go ((e == x) && (i == j))
  where
    go : (b : Bool) → cond b (next_of (log_at c h x j) (Peek e tag (storage_at c h tag).store.applied 100)) (log_at c h x j) ≡ log_at c h x j
    go true = peek_leaves (log_at c h x j) e tag (storage_at c h tag).store.applied 100
    go false = refl

pub other_same : (c : Config) (h : List Turn) (e i tag u : ℕ) → (u ≡ tag → ⊥) → storage_at c (hears c h e i tag ∷ asks c h e i tag ∷ h) u ≡ storage_at c h u
other_same c h e i tag u other = ap (λ y. cond y (storage_hear None (storage_at c h u) (node.Log e i) (tell.Log (Peeked (told_by c h e i tag)))) (storage_at c h u)) (ne_eqb tag u (λ is. other (sym is)))

-- so do the versions that they hold
least_left : (c : Config) (h later : List Turn) → LeavesChosen c h later → ((e i : ℕ) → log_at c later e i ≡ log_at c h e i) → (x : ℕ) → least_durable c later x ≡ least_durable c h x
least_left c h later k logs x =
    fold_same (λ v j. min v (durable_of (log_at c later x j))) (λ v j. min v (durable_of (log_at c h x j))) (range_with_len 0 (logs_at c later x))
    (durable_of (log_at c later x 0)) (durable_of (log_at c h x 0)) (ap durable_of (logs x 0)) (λ v j. ap (λ l. min v (durable_of l)) (logs x j))
    ∙ ap (λ o. fold (λ v j. min v (durable_of (log_at c h x j))) (durable_of (log_at c h x 0)) (range_with_len 0 (cond (x == first_epoch) c.m (logs_in (plan_in o))))) (k.recoverers x)

-- ---- the way

-- a moment at which a storage server keeps the state of the latest epoch, whose logs all hold this version
record IsPulling (c : Config) (e tag target : ℕ) (h : List Turn) : Type 0 where
  run : IsRun c h
  latest : IsLatest c h e
  few : AreFewLost c h e
  keeps : (storage_at c h tag).state ≡ state_of c h e
  least : least_durable c h e ≡ target

record PullsSo (c : Config) (e tag target : ℕ) (h : List Turn) (low : ℕ) : Type 0 where
  later : List Turn
  goes_on : (b : ℕ) → GoesOn c b h later
  leaves : LeavesChosen c h later
  others : LeavesOthers c h later tag
  pulling : IsPulling c e tag target later
  applied : low ≤ (storage_at c later tag).store.applied

-- what holds of the nodes
pub record PullRules : Type 0 where
  pub laws : Laws
  pub retrievable : CommittedIsRetrievable
  pub storages : StoragesFollow
  pub applied : PeekedApplied

-- one answer more, of a log that has what comes next
pull_from : PullRules → (c : Config) (h : List Turn) → IsConfig c → (e tag target : ℕ) → tag < length c.begins → IsPulling c e tag target h → (got : IsRetrievable c h e tag ((storage_at c h tag).store.applied + 1))
    → PullsSo c e tag target h ((storage_at c h tag).store.applied + 1)
pull_from rules c h config e tag target inside k got = record {
  later = hears c h got.source.epoch got.log tag ∷ asks c h got.source.epoch got.log tag ∷ h;
  goes_on = λ b. record {
    more = hears c h got.source.epoch got.log tag ∷ asks c h got.source.epoch got.log tag ∷ [];
    is = refl;
    is_run = whole;
    own = All-cons (IsOwn b) (hears c h got.source.epoch got.log tag) (asks c h got.source.epoch got.log tag ∷ []) refl (All-cons (IsOwn b) (asks c h got.source.epoch got.log tag) [] tt (All-nil (IsOwn b)));
    low = λ j le. le;
  };
  leaves = leaves;
  others = record { logs = log_same c h got.source.epoch got.log tag; storages = other_same c h got.source.epoch got.log tag };
  pulling = record {
    run = whole;
    latest = left_latest c h (hears c h got.source.epoch got.log tag ∷ asks c h got.source.epoch got.log tag ∷ h) leaves e k.latest;
    few = left_few c h (hears c h got.source.epoch got.log tag ∷ asks c h got.source.epoch got.log tag ∷ h) leaves e k.few;
    keeps = ap (λ (s : StorageState). s.state) now ∙ state_kept (storage_at c h tag) got.source.epoch (told_by c h got.source.epoch got.log tag) ∙ k.keeps;
    least = least_left c h (hears c h got.source.epoch got.log tag ∷ asks c h got.source.epoch got.log tag ∷ h) leaves (log_same c h got.source.epoch got.log tag) e ∙ k.least;
  };
  applied = higher;
}
  where
    server : IsStorageOf c h tag (storage_at c h tag)
    server = rules.storages c h config k.run tag

    source : source_of (storage_at c h tag).state.gens ((storage_at c h tag).store.applied + 1) ≡ Some got.source
    source = ap (λ (s : CoordinatedState). source_of s.gens ((storage_at c h tag).store.applied + 1)) k.keeps ∙ got.is_source

    bounds : Contains (storage_at c h tag).state.gens got.source × (got.source.first ≤ (storage_at c h tag).store.applied + 1) × IfSome (end_of (storage_at c h tag).state.gens got.source.epoch) (λ n. (storage_at c h tag).store.applied + 1 ≤ n)
    bounds = (rules.laws.stores.source (storage_at c h tag).state.gens ((storage_at c h tag).store.applied + 1) got.source server.follows.state.ordered server.follows.state.limits).0 source

    own : generation_at c h got.source.epoch ≡ Some got.source
    own = own_generation rules.laws c h config k.run e k.latest.chosen got.source (subst (λ (s : CoordinatedState). Contains s.gens got.source) k.keeps bounds.0)

    name : IsNamed c h got.source.epoch got.log (log_at c h got.source.epoch got.log)
    name = log_named rules.laws.contents.nodes c h k.run got.source.epoch got.log got.there

    mine : name.generation ≡ got.source
    mine = (let two : Some name.generation ≡ Some got.source = sym name.of ∙ own in cc)

    holding : holds (log_at c h got.source.epoch got.log) tag ≡ true
    holding =
        ap (λ m. is_held tag m (log_at c h got.source.epoch got.log).k (log_at c h got.source.epoch got.log).index) (name.m ∙ ap (λ (g : LogGeneration). g.m) mine)
        ∙ ap (λ n. is_held tag got.source.m n (log_at c h got.source.epoch got.log).index) (name.k ∙ ap (λ (g : LogGeneration). g.k) mine)
        ∙ ap (is_held tag got.source.m got.source.k) name.index
        ∙ got.held

    starts : first_of (log_at c h got.source.epoch got.log).seed ≤ (storage_at c h tag).store.applied + 1
    starts = go (log_at c h got.source.epoch got.log).seed refl got.seeded
      where
        go : (o : Option SeedContent) → (log_at c h got.source.epoch got.log).seed ≡ o → is_some (log_at c h got.source.epoch got.log).seed ≡ true → first_of (log_at c h got.source.epoch got.log).seed ≤ (storage_at c h tag).store.applied + 1
        go None is some = absurd (true≢false (sym some ∙ ap is_some is))
        go (Some s) is some =
            let seed : IsSeedAt c h got.source.epoch s = subst (λ o. IfSome o (IsSeedAt c h got.source.epoch)) is (logs_know rules.laws.contents.nodes c h k.run got.source.epoch got.log got.there).seed in
            let two : Some seed.generation ≡ Some got.source = sym seed.of ∙ own in
            let one : seed.generation ≡ got.source = cc in
            let first : s.first ≡ got.source.first = seed.first ∙ ap (λ (g : LogGeneration). g.first) one in
            let low : first_of (log_at c h got.source.epoch got.log).seed ≡ s.first = ap first_of is in
            let below = got.first in
            omega (arith, first, low, below)

    tells : answer_of (log_at c h got.source.epoch got.log) (Peek got.source.epoch tag (storage_at c h tag).store.applied 100) ≡ Peeked (told_by c h got.source.epoch got.log tag)
    tells = peeks (log_at c h got.source.epoch got.log) got.source.epoch tag (storage_at c h tag).store.applied 100 name.epoch got.seeded holding starts false
        (le-ltb (storage_at c h tag).store.applied (popped_at (log_at c h got.source.epoch got.log).popped tag) (let left = got.left in omega (arith, left)))

    asking : IsRun c (asks c h got.source.epoch got.log tag ∷ h)
    asking = ((record { there = lt-ltb got.log (logs_at c h got.source.epoch) got.there; up = got.up }, inr (refl, inside), sym tells, omega arith), k.run)

    told : Told (asks c h got.source.epoch got.log tag ∷ h) (node.Log got.source.epoch got.log) (node.Storage tag) (tell.Log (Peeked (told_by c h got.source.epoch got.log tag)))
    told = inl (refl, refl, refl)

    whole : IsRun c (hears c h got.source.epoch got.log tag ∷ asks c h got.source.epoch got.log tag ∷ h)
    whole = ((record { actor = record { there = lt-ltb tag (length c.begins) inside; up = no_storage_gone c (asks c h got.source.epoch got.log tag ∷ h) asking tag }; told = told }, refl, tt), asking)

    leaves : LeavesChosen c h (hears c h got.source.epoch got.log tag ∷ asks c h got.source.epoch got.log tag ∷ h)
    leaves = record { cells = refl; recoverers = λ b. refl; lost = λ b. refl }

    now : storage_at c (hears c h got.source.epoch got.log tag ∷ asks c h got.source.epoch got.log tag ∷ h) tag ≡ after_peeked (storage_at c h tag) got.source.epoch (told_by c h got.source.epoch got.log tag)
    now = ap (λ y. cond y (storage_hear None (storage_at c h tag) (node.Log got.source.epoch got.log) (tell.Log (Peeked (told_by c h got.source.epoch got.log tag)))) (storage_at c h tag)) (eq-eqb tag tag refl)

    higher : (storage_at c h tag).store.applied + 1 ≤ (storage_at c (hears c h got.source.epoch got.log tag ∷ asks c h got.source.epoch got.log tag ∷ h) tag).store.applied
    higher =
        let is : (storage_at c (hears c h got.source.epoch got.log tag ∷ asks c h got.source.epoch got.log tag ∷ h) tag).store.applied
        ≡ max (reached_by (storage_at c h tag) got.source.epoch (told_by c h got.source.epoch got.log tag)) (target_of (storage_at c h tag) got.source.epoch (told_by c h got.source.epoch got.log tag))
        = ap (λ (s : StorageState). s.store.applied) now ∙ rules.applied (storage_at c h tag) got.source.epoch (told_by c h got.source.epoch got.log tag) (not_refused (storage_at c h tag) got.source (told_by c h got.source.epoch got.log tag) source refl) in
        let durable = got.durable in
        let up : (storage_at c h tag).store.applied < target_of (storage_at c h tag) got.source.epoch (told_by c h got.source.epoch got.log tag) =
        rises (storage_at c h tag).store.applied (told_by c h got.source.epoch got.log tag).upto (end_of (storage_at c h tag).state.gens got.source.epoch) bounds.2
        (peek_rises (log_at c h got.source.epoch got.log) tag (storage_at c h tag).store.applied 100 (omega (arith, durable))) in
        omega (arith, is, up)

pull_one : PullRules → (c : Config) (h : List Turn) → IsConfig c → (e tag target : ℕ) → tag < length c.begins → IsPulling c e tag target h → (storage_at c h tag).store.applied < target
    → PullsSo c e tag target h ((storage_at c h tag).store.applied + 1)
pull_one rules c h config e tag target inside k short =
    let floor = (rules.storages c h config k.run tag).follows.store.floor in
    let least = k.least in
    pull_from rules c h config e tag target inside k
    (rules.retrievable c h config k.run e k.latest k.few tag inside ((storage_at c h tag).store.applied + 1) (omega (arith, floor)) (omega (arith, short, least)))

-- as many answers as there are versions are enough
pull_further : PullRules → (c : Config) (h : List Turn) → IsConfig c → (e tag target : ℕ) → tag < length c.begins → IsPulling c e tag target h → (n : ℕ) → target ≤ (storage_at c h tag).store.applied + suc n
    → ((one : PullsSo c e tag target h ((storage_at c h tag).store.applied + 1)) → target ≤ (storage_at c one.later tag).store.applied + n → PullsSo c e tag target one.later target) → PullsSo c e tag target h target
pull_further rules c h config e tag target inside k n near more = go (nat_lt (storage_at c h tag).store.applied target) refl
  where
    further : (one : PullsSo c e tag target h ((storage_at c h tag).store.applied + 1)) → PullsSo c e tag target one.later target → PullsSo c e tag target h target
    further one rest = record {
      later = rest.later;
      goes_on = λ b. goes_further c b h one.later rest.later (one.goes_on b) (rest.goes_on b);
      leaves = left_further c h one.later rest.later one.leaves rest.leaves;
      others = others_further c h one.later rest.later tag one.others rest.others;
      pulling = rest.pulling;
      applied = rest.applied;
    }

    go : (b : Bool) → nat_lt (storage_at c h tag).store.applied target ≡ b → PullsSo c e tag target h target
    go false e' = record { later = h; goes_on = λ b. stands c b h k.run; leaves = all_left c h; others = none_changed c h tag; pulling = k; applied = ltb-false (storage_at c h tag).store.applied target e' }
    go true e' =
        let one = pull_one rules c h config e tag target inside k (ltb-true (storage_at c h tag).store.applied target e') in
        let high = one.applied in
        further one (more one (omega (arith, high, near)))

pull_all : PullRules → (c : Config) (h : List Turn) → IsConfig c → (e tag target : ℕ) → tag < length c.begins → IsPulling c e tag target h → (n : ℕ) → target ≤ (storage_at c h tag).store.applied + n → PullsSo c e tag target h target
pull_all rules c h config e tag target inside k zero near = record { later = h; goes_on = λ b. stands c b h k.run; leaves = all_left c h; others = none_changed c h tag; pulling = k; applied = omega (arith, near) }
pull_all rules c h config e tag target inside k (suc n) near =
    pull_further rules c h config e tag target inside k n near (λ one high. pull_all rules c one.later config e tag target inside one.pulling n high)

pub committed_is_pulled : PullRules → CommittedIsPulled
committed_is_pulled rules c h config run e latest few tag inside keeps = done (pull_all rules c h config e tag (least_durable c h e) inside (record { run = run; latest = latest; few = few; keeps = keeps; least = refl }) (least_durable c h e) (omega arith))
  where
    done : PullsSo c e tag (least_durable c h e) h (least_durable c h e) → PullsOn c h e tag
    done o = record {
      later = o.later;
      goes_on = o.goes_on;
      leaves = o.leaves;
      others = o.others;
      served = record { keeps = o.pulling.keeps; applied = (let high = o.applied in let least = o.pulling.least in omega (arith, high, least)) };
    }

-- ---- every storage server

-- what it has stays, while no log changes, nor it
still_served : (c : Config) (h later : List Turn) (e tag u : ℕ) → LeavesChosen c h later → LeavesOthers c h later tag → (u ≡ tag → ⊥) → IsServed c h e u → IsServed c later e u
still_served c h later e tag u k others other was =
    let same = others.storages u other in
    let least = least_left c h later k others.logs e in
    let version : (storage_at c later u).store.applied ≡ (storage_at c h u).store.applied = ap (λ (s : StorageState). s.store.applied) same in
    let high = was.applied in
    record { keeps = ap (λ (s : StorageState). s.state) same ∙ was.keeps ∙ sym (left_state c h later k e); applied = omega (arith, least, version, high) }

-- a moment at which a log has the latest epoch's mark, and fewer than k logs of each generation are lost
record IsMarked (c : Config) (b i : ℕ) (x : CoordinatedState) (h : List Turn) : Type 0 where
  run : IsRun c h
  latest : IsLatest c h b
  few : AreFewLost c h b
  up : IsUp c h (node.Log b i)
  marked : mark_among (log_at c h b i).pushes ≡ Some x

-- a server keeps no state of a greater epoch
never_greater : PullRules → (c : Config) (h : List Turn) → IsConfig c → IsRun c h → (b tag : ℕ) → IsLatest c h b → own_epoch (state_of c h b) < own_epoch (storage_at c h tag).state → ⊥
never_greater rules c h config run b tag latest less =
    let most = latest.greatest (own_epoch (storage_at c h tag).state) (rules.storages c h config run tag).chosen in
    let own = chosen_is_planned rules.laws.contents.nodes c h run b latest.chosen in
    let is : own_epoch (state_of c h b) ≡ b = planned_epoch rules.laws c h config run b own.0 own.1 in
    omega (arith, less, most, is)

serve_one : PullRules → MarkIsHeard → (c : Config) (h : List Turn) → IsConfig c → (b i : ℕ) (x : CoordinatedState) → IsMarked c b i x h → (tag : ℕ) → tag < length c.begins → PullsOn c h b tag
serve_one rules hearing c h config b i x k tag inside = heard (hearing c h config k.run b i x k.up k.marked tag inside)
  where
    heard : HearsOn c h b tag → PullsOn c h b tag
    heard o = pulled (committed_is_pulled rules c o.later config (o.goes_on b).is_run b now (left_few c h o.later o.leaves b k.few) tag inside
        (elim o.keeps [ inl same ↦ same | inr less ↦ absurd (never_greater rules c o.later config (o.goes_on b).is_run b tag now less) ]))
      where
        now : IsLatest c o.later b
        now = left_latest c h o.later o.leaves b k.latest

        pulled : PullsOn c o.later b tag → PullsOn c h b tag
        pulled p = record {
          later = p.later;
          goes_on = λ a. goes_further c a h o.later p.later (o.goes_on a) (p.goes_on a);
          leaves = left_further c h o.later p.later o.leaves p.leaves;
          others = others_further c h o.later p.later tag o.others p.others;
          served = p.served;
        }

record TagsServed (c : Config) (b i : ℕ) (x : CoordinatedState) (h : List Turn) (tags : List ℕ) : Type 0 where
  later : List Turn
  goes_on : (a : ℕ) → GoesOn c a h later
  leaves : LeavesChosen c h later
  marked : IsMarked c b i x later
  each : All (IsServed c later b) tags

serve_more : PullRules → MarkIsHeard → (c : Config) (h : List Turn) → IsConfig c → (b i : ℕ) (x : CoordinatedState) (tag : ℕ) (tags : List ℕ) → tag < length c.begins → TagsServed c b i x h tags → TagsServed c b i x h (tag ∷ tags)
serve_more rules hearing c h config b i x tag tags inside rest = more (serve_one rules hearing c rest.later config b i x rest.marked tag inside)
  where
    more : PullsOn c rest.later b tag → TagsServed c b i x h (tag ∷ tags)
    more p = record {
      later = p.later;
      goes_on = λ a. goes_further c a h rest.later p.later (rest.goes_on a) (p.goes_on a);
      leaves = left_further c h rest.later p.later rest.leaves p.leaves;
      marked = record {
        run = (p.goes_on b).is_run;
        latest = left_latest c rest.later p.later p.leaves b rest.marked.latest;
        few = left_few c rest.later p.later p.leaves b rest.marked.few;
        up = log_still_up rules.laws.contents.nodes c b rest.later p.later (p.goes_on b) b i rest.marked.up;
        marked = ap (λ (l : LogState). mark_among l.pushes) (p.others.logs b i) ∙ rest.marked.marked;
      };
      each = All-cons (IsServed c p.later b) tag tags p.served (All-weaker (IsServed c rest.later b) (IsServed c p.later b) kept tags rest.each);
    }
      where
        kept : (u : ℕ) → IsServed c rest.later b u → IsServed c p.later b u
        kept u was = elim (cases_eq u tag) [
          | inl same ↦ subst (IsServed c p.later b) (sym same) p.served
          | inr other ↦ still_served c rest.later p.later b tag u p.leaves p.others other was
        ]

serve_all : PullRules → MarkIsHeard → (c : Config) (h : List Turn) → IsConfig c → (b i : ℕ) (x : CoordinatedState) → IsMarked c b i x h → (tags : List ℕ) → All (λ t. t < length c.begins) tags → TagsServed c b i x h tags
serve_all rules hearing c h config b i x k [] inside = record { later = h; goes_on = λ a. stands c a h k.run; leaves = all_left c h; marked = k; each = All-nil (IsServed c h b) }
serve_all rules hearing c h config b i x k (t ∷ tags) inside =
    serve_more rules hearing c h config b i x t tags (All-head (λ u. u < length c.begins) t tags inside) (serve_all rules hearing c h config b i x k tags (All-tail (λ u. u < length c.begins) t tags inside))

pub marked_is_served : PullRules → MarkIsHeard → MarkedIsServed
marked_is_served rules hearing c h config run e i x latest few up mark =
    all (serve_all rules hearing c h config e i x (record { run = run; latest = latest; few = few; up = up; marked = mark }) (range_with_len 0 (length c.begins)) (below_all (length c.begins)))
  where
    all : TagsServed c e i x h (range_with_len 0 (length c.begins)) → AllServed c h e
    all k = record {
      later = k.later;
      goes_on = k.goes_on;
      leaves = k.leaves;
      each = λ tag inside. All-contains (IsServed c k.later e) (range_with_len 0 (length c.begins)) tag k.each (in_range (length c.begins) tag inside);
    }

pub chosen_is_served : PullRules → MarkIsHeld → MarkIsHeard → ChosenIsServed
chosen_is_served rules marking hearing c h config run b r at phase latest few i up running = marked (marking c h config run b r at phase i up running)
  where
    marked : MarksOn c h b i (state_of c h b) → AllPullOn c h b
    marked m = all (marked_is_served rules hearing c m.later config m.goes_on.is_run b i (state_of c h b) (left_latest c h m.later m.leaves b latest) (left_few c h m.later m.leaves b few) m.up m.marked)
      where
        all : AllServed c m.later b → AllPullOn c h b
        all k = record {
          later = k.later;
          goes_on = goes_further c b h m.later k.later m.goes_on (k.goes_on b);
          leaves = left_further c h m.later k.later m.leaves k.leaves;
          each = k.each;
        }
