-- A recovery comes to serve, and then the next batch is committed.
use Rattle.std.proofs.Common.{◌≡◌, ℕ, ◌+◌, ◌<◌, ◌≤◌, ◌^◌, true, cond, nat_lt, min, fold, ◌==◌, ◌||◌, map, List, [], ◌∷◌, ◌++◌, Option, None, Some, refl, sym, ◌∙◌, ap, subst, arith}
use Rattle.std.specs.List.{Contains, All, range_with_len}
use Rattle.std.proofs.lemmas.Bool.{and_from, lt-ltb, true≢false}
use Rattle.std.proofs.lemmas.List.Elements.{All-nil, All-cons, All-head, All-tail, All-weaker, All-contains}
use Rattle.fr_base.specs.declared.place.NodeId.TheVariants as node
use Rattle.fr_register.specs.Chosen.{IsMajority}
use Rattle.fr_register.specs.Poll.{Stamped}
use Rattle.fr_state.specs.Generations.{LogGeneration, CoordinatedState, IsCoordinatedState}
use Rattle.fr_state.specs.Reading.{reading}
use Rattle.fr_tags.specs.Placement.{covers}
use Rattle.fr_log.specs.Law.{AskIsChange}
use Rattle.fr_log.specs.LogState.{durable_of, mark_among}
use Rattle.fr_log.specs.Push.{PushContent}
use Rattle.fr_proxy.specs.Proxy.{takes_batch}
use Rattle.fr_epoch.specs.Change.{IsFound}
use Rattle.fr_epoch.specs.EndTally.{least_durable, rv_of}
use Rattle.fr_epoch.specs.Recoverer.{RecState, Parent, Plan, Chosen, is_written_in}
use Rattle.fr_epoch.specs.declared.reply.Reply.{Reply}
use Rattle.fr_run.specs.AskLaws.{SentIsAccounted}
use Rattle.fr_run.specs.Config.{Config, first_epoch, first_generation}
use Rattle.fr_run.specs.Nodes.{cell_at, rec_at, plan_in, generation_in, generation_at, mark_version, is_open_in, is_open, logs_in, logs_at, log_at}
use Rattle.fr_run.specs.ParentLaws.{ParentIsRead}
use Rattle.fr_run.specs.Run.{IsUp, IsRun}
use Rattle.fr_run.specs.StateLaws.{IsConfig, IsLeftAndMore}
use Rattle.fr_run.specs.States.{state_of}
use Rattle.fr_run.specs.Turn.{Turn}
use Rattle.fr_run.proofs.Cells.{Contains-here}
use Rattle.fr_run.proofs.Chosen.{generation_planned}
use Rattle.fr_run.proofs.Growth.{rec_is}
use Rattle.fr_run.proofs.Lines.{parent_is}
use Rattle.fr_run.proofs.States.{recoverers_have_states}
use Rattle.fr_run_headline.specs.Bounds.{HasReached}
use Rattle.fr_run_headline.specs.LogLaws.{StandsAt, RepliesStandStill, IsEndOf, EndIsOfReplies, tally}
use Rattle.fr_run_headline.specs.Logs.{IsOfEpoch, IsPlaced}
use Rattle.fr_run_headline.specs.Laws.{Laws}
use Rattle.fr_run_headline.specs.Numbers.{top_of, top_at}
use Rattle.fr_run_headline.proofs.Durables.{logs_within}
use Rattle.fr_run_headline.proofs.Ends.{none_cover}
use Rattle.fr_run_headline.proofs.Logs.{logs_are_own}
use Rattle.fr_run_headline.proofs.Tells.{reached_later, push_is_reached}
use Rattle.fr_run_outcomes.specs.Going.{GoesOn, LeavesChosen}
use Rattle.fr_run_outcomes.specs.Marking.{MarksOn, MarkIsHeld}
use Rattle.fr_run_outcomes.specs.Reading.{pair_at}
use Rattle.fr_run_outcomes.specs.Returning.{LowIsUnlocked, ServesOn, ServiceReturns}
use Rattle.fr_run_outcomes.proofs.Counts.{below_all}
use Rattle.fr_run_outcomes.proofs.Going.{stands, goes_further, still_up, log_still_up}
use Rattle.fr_run_outcomes.proofs.Lists.{in_range}
use Rattle.fr_run_outcomes.proofs.LockAnswers.{other_last}
use Rattle.fr_run_outcomes.proofs.Left.{left_latest, left_few}
use Rattle.fr_run_outcomes.proofs.Recovering.{no_log_gone, none_there}
use Rattle.fr_run_outcomes.proofs.Rooms.{durable_left}
use Rattle.fr_run_commits.specs.Committing.{IsServing, CommitsOn, NextIsCommitted}
use Rattle.fr_run_commits.specs.Returning.{HasRoomAfter, HasRoomFor, ReturnsOn, ServiceReturnsToCommits}
use Rattle.fr_run_commits.proofs.Fresh.{no_sequencer, no_proxy, none_numbered, still_new, new_takes}
use Rattle.fr_run_commits.proofs.Pushing.{left_further}

-- what holds of the nodes
pub record ReturnRules : Type 0 where
  pub laws : Laws
  pub changes : AskIsChange
  pub accounted : SentIsAccounted
  pub read : ParentIsRead
  pub ends : EndIsOfReplies
  pub replies : RepliesStandStill
  pub marking : MarkIsHeld
  pub returns : ServiceReturns
  pub unlocked : LowIsUnlocked
  pub commits : NextIsCommitted

-- ---- a log that has the mark

marked_push : (ps : List PushContent) (x : CoordinatedState) → mark_among ps ≡ Some x → (q : PushContent) × Contains ps q × (q.mark ≡ Some x)
marked_push [] x e = absurd (cc)
marked_push (q ∷ ps) x e = (q, Contains-here q ps, e)

-- has come to the mark's version
pub marked_reaches : Laws → (c : Config) (h : List Turn) → IsRun c h → (e i : ℕ) (g : LogGeneration) (x : CoordinatedState) → generation_at c h e ≡ Some g → i < logs_at c h e → mark_among (log_at c h e i).pushes ≡ Some x → HasReached c h e i (g.seeded_to + 1)
marked_reaches laws c h run e i g x of there mark = push_is_reached laws.contents.nodes c h run e i (g.seeded_to + 1) (record { there = there; push = held.0; held = held.1; at = placed.0 ∙ ap mark_version of })
  where
    held : (q : PushContent) × Contains (log_at c h e i).pushes q × (q.mark ≡ Some x)
    held = marked_push (log_at c h e i).pushes x mark

    placed : IsPlaced c h e (Some x) held.0
    placed = subst (λ o. IsPlaced c h e o held.0) held.2 (All-contains (IsOfEpoch c h e) (log_at c h e i).pushes held.0 (logs_are_own laws.contents.nodes c h run e i there).each held.1).placed

reached_more : Laws → (c : Config) (more h : List Turn) → IsRun c (more ++ h) → (e i v : ℕ) → HasReached c h e i v → HasReached c (more ++ h) e i v
reached_more laws c [] h run e i v k = k
reached_more laws c (t ∷ more) h run e i v k = reached_later laws.contents.nodes c (more ++ h) t run.1 run.0 e i v (reached_more laws c more h run.1 e i v k)

still_reached : Laws → (c : Config) (b : ℕ) (h later : List Turn) → GoesOn c b h later → (e i v : ℕ) → HasReached c h e i v → HasReached c later e i v
still_reached laws c b h later k e i v reached = subst (λ l. HasReached c l e i v) k.is (reached_more laws c k.more h (subst (IsRun c) (sym k.is) k.is_run) e i v reached)

-- ---- every log comes to have it

-- a moment at which a ballot is chosen and its recoverer knows it, and no cell of a majority promised more
record IsMarking (c : Config) (b : ℕ) (r : RecState) (g : LogGeneration) (who : List ℕ) (h : List Turn) : Type 0 where
  run : IsRun c h
  at : rec_at c h b ≡ Some r
  phase : r.phase ≡ Chosen
  of : generation_at c h b ≡ Some g
  low : All (λ i. (cell_at c h i).promised ≤ b) who
  logs : (i : ℕ) → i < logs_at c h b → IsUp c h (node.Log b i)

record AllMarked (c : Config) (b : ℕ) (r : RecState) (g : LogGeneration) (who : List ℕ) (h : List Turn) (logs : List ℕ) : Type 0 where
  later : List Turn
  goes_on : GoesOn c b h later
  leaves : LeavesChosen c h later
  marking : IsMarking c b r g who later
  each : All (λ i. HasReached c later b i (g.seeded_to + 1)) logs

left_logs : (c : Config) (h later : List Turn) → LeavesChosen c h later → (b : ℕ) → logs_at c later b ≡ logs_at c h b
left_logs c h later k b = ap (λ o. cond (b == first_epoch) c.m (logs_in (plan_in o))) (k.recoverers b)

left_generation : (c : Config) (h later : List Turn) → LeavesChosen c h later → (b : ℕ) → generation_at c later b ≡ generation_at c h b
left_generation c h later k b = ap (λ o. cond (b == first_epoch) (Some (first_generation c)) (generation_in (plan_in o))) (k.recoverers b)

still_marking : ReturnRules → (c : Config) (b : ℕ) (r : RecState) (g : LogGeneration) (who : List ℕ) (h later : List Turn) → GoesOn c b h later → LeavesChosen c h later → IsMarking c b r g who h → IsMarking c b r g who later
still_marking rules c b r g who h later on leaves k = record {
  run = on.is_run;
  at = leaves.recoverers b ∙ k.at;
  phase = k.phase;
  of = left_generation c h later leaves b ∙ k.of;
  low = All-weaker (λ i. (cell_at c h i).promised ≤ b) (λ i. (cell_at c later i).promised ≤ b) on.low who k.low;
  logs = λ i below. log_still_up rules.laws.contents.nodes c b h later on b i (k.logs i (subst (λ n. i < n) (left_logs c h later leaves b) below));
}

mark_more : ReturnRules → (c : Config) → IsConfig c → (b : ℕ) (r : RecState) (g : LogGeneration) (who : List ℕ) → IsMajority c.cells who → (h : List Turn) (i : ℕ) (logs : List ℕ) → i < logs_at c h b → AllMarked c b r g who h logs → AllMarked c b r g who h (i ∷ logs)
mark_more rules c config b r g who majority h i logs below rest = more (rules.marking c rest.later config rest.marking.run b r rest.marking.at rest.marking.phase i (rest.marking.logs i there) (rules.unlocked c rest.later config rest.marking.run b r rest.marking.at who majority rest.marking.low i there))
  where
    there : i < logs_at c rest.later b
    there = subst (λ n. i < n) (sym (left_logs c h rest.later rest.leaves b)) below

    more : MarksOn c rest.later b i (state_of c rest.later b) → AllMarked c b r g who h (i ∷ logs)
    more m = record {
      later = m.later;
      goes_on = goes_further c b h rest.later m.later rest.goes_on m.goes_on;
      leaves = left_further c h rest.later m.later rest.leaves m.leaves;
      marking = now;
      each = All-cons (λ j. HasReached c m.later b j (g.seeded_to + 1)) i logs
          (marked_reaches rules.laws c m.later m.goes_on.is_run b i g (state_of c rest.later b) now.of (subst (λ n. i < n) (sym (left_logs c rest.later m.later m.leaves b)) there) m.marked)
          (All-weaker (λ j. HasReached c rest.later b j (g.seeded_to + 1)) (λ j. HasReached c m.later b j (g.seeded_to + 1)) (λ j k. still_reached rules.laws c b rest.later m.later m.goes_on b j (g.seeded_to + 1) k) logs rest.each);
    }
      where
        now : IsMarking c b r g who m.later
        now = still_marking rules c b r g who rest.later m.later m.goes_on m.leaves rest.marking

mark_all : ReturnRules → (c : Config) → IsConfig c → (b : ℕ) (r : RecState) (g : LogGeneration) (who : List ℕ) → IsMajority c.cells who → (h : List Turn) → IsMarking c b r g who h → (logs : List ℕ) → All (λ i. i < logs_at c h b) logs → AllMarked c b r g who h logs
mark_all rules c config b r g who majority h k [] below = record {
  later = h;
  goes_on = stands c b h k.run;
  leaves = record { cells = refl; recoverers = λ x. refl; lost = λ x. refl };
  marking = k;
  each = All-nil (λ i. HasReached c h b i (g.seeded_to + 1));
}
mark_all rules c config b r g who majority h k (i ∷ logs) below =
    mark_more rules c config b r g who majority h i logs (All-head (λ j. j < logs_at c h b) i logs below) (mark_all rules c config b r g who majority h k logs (All-tail (λ j. j < logs_at c h b) i logs below))

-- ---- room

fold_below : (v : ℕ) (rs : List Reply) → fold (λ w (q : Reply). min w q.durable) v rs ≤ v
fold_below v [] = omega arith
fold_below v (q ∷ rs) = let k = fold_below (min v q.durable) rs in omega (arith, k)

-- of replies that cover there is one that is not below the end
some_low : (m k : ℕ) (rs : List Reply) → covers m k (map (λ (x : Reply). x.log) rs) ≡ true → (x : Reply) × Contains rs x × (least_durable rs ≤ x.durable)
some_low m k [] covered = absurd (true≢false (sym covered ∙ none_cover m k))
some_low m k (x ∷ rs) covered = (x, Contains-here x rs, fold_below x.durable rs)

with_less : (n d step : ℕ) → d + 1 + step < n → d + 1 < n
with_less n d step less = omega (arith, less)

with_low : (n seeded rv durable d step : ℕ) → seeded ≡ rv → rv ≤ durable → durable ≡ d → d + 1 + step < n → seeded + 1 + step < n
with_low n seeded rv durable d step a b e less = omega (arith, a, b, e, less)

at_least_one : (n d step : ℕ) → 1 ≤ step → d + 1 + step < n → 1 < n
at_least_one n d step some less = omega (arith, some, less)

-- the version of the new mark, and one that a step gives after it
seed_room : ReturnRules → (c : Config) (h later : List Turn) → IsConfig c → (b cell step : ℕ) → GoesOn c b h later → (r : RecState) (q : Plan) → rec_at c later b ≡ Some r → r.plan ≡ Some q → r.reads.greatest ≡ pair_at c h cell → HasRoomFor c h cell step
    → q.generation.seeded_to + 1 + step < 2 ^ 62
seed_room rules c h later config b cell step on r q at plan found room =
    with_low (2 ^ 62) q.generation.seeded_to (rv_of (tally r)) low.0.durable (durable_of (log_at c h parent.last.epoch low.0.log)) step end.seeded_to low.2
    (sym stood.durable_is ∙ durable_left rules.laws.contents.nodes rules.changes rules.accounted c b h later on parent.last.epoch low.0.log (other_last rules.laws.contents.nodes c later config on.is_run b r parent at is))
    (own.versions low.0.log inside)
  where
    states : IsCoordinatedState q.state × ((p : Parent) × (r.parent ≡ Some p) × IsLeftAndMore p q)
    states = (recoverers_have_states rules.laws.contents.nodes c later config on.is_run b r at).plan q plan

    parent : Parent
    parent = states.1.0

    is : r.parent ≡ Some parent
    is = states.1.1

    read : IsFound r parent.state parent.last
    read = rules.read c later on.is_run b r parent at is

    own : HasRoomAfter c h step parent.state parent.last
    own = room parent.state parent.last (ap (λ (s : Stamped). reading s.value) (sym found) ∙ read.value) read.last

    end : IsEndOf r q
    end = rules.ends c later on.is_run b r q at plan

    low : (x : Reply) × Contains (tally r).replies x × (rv_of (tally r) ≤ x.durable)
    low = some_low (tally r).m (tally r).k (tally r).replies end.covered

    stood : StandsAt c later parent.last.epoch low.0.log low.0.durable low.0.known
    stood = All-contains (λ (x : Reply). StandsAt c later parent.last.epoch x.log x.durable x.known) (tally r).replies low.0 (rules.replies c later on.is_run b r parent at is) low.1

    inside : low.0.log < parent.last.m
    inside =
        let within = logs_within c later parent.last.epoch parent.last (parent_is rules.laws.contents.nodes c later config on.is_run b r parent at is).generation in
        let there = stood.there in
        omega (arith, within, there)

-- ---- service

pub service_returns : ReturnRules → ServiceReturnsToCommits
service_returns rules c h config run b shape none may is_shape first others majority low below left p step batch inside some high room = by o.recoverer.plan refl ((rec_is rules.laws.contents.nodes c o.later o.goes_on.is_run b o.recoverer o.at).kept.come_by.chosen o.chosen)
  where
    o : ServesOn c h b first
    o = rules.returns c h config run b shape none may is_shape first others majority low below left (λ s g is last. record { gens = (room s g is last).gens; versions = λ i l. with_less (2 ^ 62) (durable_of (log_at c h g.epoch i)) step ((room s g is last).versions i l) })

    by : (plan : Option Plan) → o.recoverer.plan ≡ plan → is_written_in plan o.recoverer.seeded ≡ true → ReturnsOn c h b p step batch
    by None is written = absurd (true≢false (sym written))
    by (Some q) is written = record { serves = marked.later; goes_on = on; serving = serving; commits = commits }
      where
        of : generation_at c o.later b ≡ Some q.generation
        of = generation_planned rules.laws.contents.nodes c o.later o.goes_on.is_run b o.recoverer o.at q is

        start : IsMarking c b o.recoverer q.generation (first ∷ others) o.later
        start = record {
          run = o.goes_on.is_run;
          at = o.at;
          phase = o.chosen;
          of = of;
          low = All-weaker (λ i. (cell_at c h i).promised ≤ b) (λ i. (cell_at c o.later i).promised ≤ b) o.goes_on.low (first ∷ others) low;
          logs = λ i there. record { there = lt-ltb i (logs_at c o.later b) there; up = still_up c b h o.later o.goes_on (node.Log b i) (no_log_gone rules.laws.contents.nodes c h run b i (none_there c h b i may none)) };
        }

        marked : AllMarked c b o.recoverer q.generation (first ∷ others) o.later (range_with_len 0 (logs_at c o.later b))
        marked = mark_all rules c config b o.recoverer q.generation (first ∷ others) majority o.later start (range_with_len 0 (logs_at c o.later b)) (below_all (logs_at c o.later b))

        on : GoesOn c b h marked.later
        on = goes_further c b h o.later marked.later o.goes_on marked.goes_on

        opened : is_open c marked.later b ≡ true
        opened = ap (λ x. (b == first_epoch) || is_open_in x) (marked.leaves.recoverers b) ∙ o.opened

        top : top_at c marked.later b ≡ q.generation.seeded_to + 1
        top = ap (top_of (mark_version (generation_at c marked.later b))) (none_numbered rules.laws.contents.nodes c b h marked.later run on may none) ∙ ap mark_version marked.marking.of

        room_left : q.generation.seeded_to + 1 + step < 2 ^ 62
        room_left = seed_room rules c h marked.later config b first step on o.recoverer q marked.marking.at is o.found room

        serving : IsServing c marked.later b
        serving = record {
          latest = left_latest c o.later marked.later marked.leaves b o.latest;
          opened = opened;
          sequencer = record { there = opened; up = still_up c b h marked.later on (node.Sequencer b) (no_sequencer rules.laws.contents.nodes c h run b may none) };
          logs = marked.marking.logs;
          running = λ i there. rules.unlocked c marked.later config marked.marking.run b o.recoverer marked.marking.at (first ∷ others) majority marked.marking.low i there;
          whole = λ i there. (
              let reached = All-contains (λ j. HasReached c marked.later b j (q.generation.seeded_to + 1)) (range_with_len 0 (logs_at c o.later b)) i marked.each (in_range (logs_at c o.later b) i (subst (λ n. i < n) (left_logs c o.later marked.later marked.leaves b) there)) in
              let durable = reached.durable in
              omega (arith, top, durable));
        }

        commits : CommitsOn c marked.later b p step batch
        commits = rules.commits c marked.later config on.is_run b serving (left_few c o.later marked.later marked.leaves b o.few) p step batch
            (record { there = and_from (is_open c marked.later b) (nat_lt p c.proxies) opened (lt-ltb p c.proxies inside); up = still_up c b h marked.later on (node.Proxy b p) (no_proxy rules.laws.contents.nodes c h run b p may none) })
            (ap takes_batch (still_new rules.laws.contents.nodes c b p h marked.later run on may none) ∙ new_takes c (generation_at c marked.later b) b p (at_least_one (2 ^ 62) q.generation.seeded_to step some room_left))
            some high (subst (λ v. v + step < 2 ^ 62) (sym top) room_left)
