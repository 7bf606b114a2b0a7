-- Seeding takes one round.
use Rattle.std.proofs.Common.{◌≡◌, ℕ, ◌<◌, Bool, true, false, cond, not, nat_lt, ◌==◌, ◌&&◌, ◌||◌, List, [], ◌∷◌, ◌++◌, length, Some, inl, inr, ◌⊎◌, refl, sym, ◌∙◌, ap, subst, arith}
use Rattle.std.specs.List.{Contains, range_with_len}
use Rattle.std.proofs.lemmas.Bool.{eq-eqb, lt-ltb, ltb-true, ltb-false}
use Rattle.std.proofs.lemmas.List.Folds.{list_any-append}
use Rattle.fr_base.specs.declared.place.NodeId.TheVariants as node
use Rattle.fr_log.specs.Step.{answer_of}
use Rattle.fr_log.specs.declared.ask.LogAsk.TheVariants.{Seed}
use Rattle.fr_log.specs.declared.ask.LogTell.TheVariants.{Seeded}
use Rattle.fr_ask.specs.declared.ask.Ask.TheVariants as ask
use Rattle.fr_ask.specs.declared.tell.Tell.{Tell}
use Rattle.fr_ask.specs.declared.tell.Tell.TheVariants as tell
use Rattle.fr_tail.specs.Tail.{is_complete, seed_for}
use Rattle.fr_epoch.specs.Recoverer.{RecState, Plan, Copying, Writing, is_copied_in, is_copied, is_written}
use Rattle.fr_epoch.specs.Words.{Word, OfLog, IsSeeded, Nothing, word_of, is_in, is_newly_seeded, heed_in, heed_seeded}
use Rattle.fr_epoch.specs.Hear.{with_seeded, after_heed, after_hear}
use Rattle.fr_epoch.specs.Asks.{left, seeds_of, peeks_of, pending, pending_in, phase_number}
use Rattle.fr_epoch.specs.Change.{Change, Stands, LosesReads, Reads, Finds, Locks, LosesLocks, Plans, Copies, Seeds, SeedsAll, Writes, LosesWrites, Chooses, Marks}
use Rattle.fr_epoch.specs.Law.{RecGrows}
use Rattle.fr_run.specs.AskLaws.{SenderAccounts}
use Rattle.fr_run.specs.Config.{Config}
use Rattle.fr_run.specs.Turn.{Turn}
use Rattle.fr_run.specs.Nodes.{rec_at, logs_at, log_at}
use Rattle.fr_run.specs.Run.{IsRun}
use Rattle.fr_run.specs.Laws.{Laws}
use Rattle.fr_run.proofs.Accounts.{sent_is_accounted}
use Rattle.fr_run.proofs.Growth.{rec_is}
use Rattle.fr_run_outcomes.proofs.Lists.{left_has, map_has}
use Rattle.fr_run_outcomes.proofs.Asked.{in_more}
use Rattle.fr_run_outcomes.proofs.Counts.{full_is_long}
use Rattle.fr_run_outcomes.proofs.Waiting.{copying_lacks}
use Rattle.fr_run_outcomes.proofs.Seeding.{seed_answered}
use Rattle.fr_run_rounds.specs.Rounds.{WasAnswered, HearsAnswer}
use Rattle.fr_run_rounds.specs.Ending.{SeedingIsOneRound}
use Rattle.fr_run_rounds.proofs.Along.{holds_at, Keeps, keeps_by, along, both_keep, through, run_back, IsFrom, from_change, from_keeps, phase_copying}
use Rattle.fr_run_rounds.proofs.Found.{copying_plan, LogAnswer, log_answer}

-- ---- a log that is seeded

-- a log is seeded, or all are
abbrev SeedDone : ℕ → RecState → Type 0
SeedDone i r = (is_in r.seeded i ≡ true) ⊎ IsFrom 3 r

seeds_kept : (j : ℕ) (r : RecState) (w : Word) (n : RecState) → Change r w n → is_in r.seeded j ≡ true → is_in n.seeded j ≡ true
seeds_kept j r w n Stands e = e
seeds_kept j r w n (LosesReads i t y heard) e = e
seeds_kept j r w n (Reads i t heard) e = e
seeds_kept j r w n (Finds i t s g heard found) e = e
seeds_kept j r w n (Locks p end i d f ps heard) e = e
seeds_kept j r w n (LosesLocks p end i d f ps y heard) e = e
seeds_kept j r w n (Plans p end i d f ps s heard fixed) e = e
seeds_kept j r w n (Copies parent p i peeked given) e = e
seeds_kept j r w n (Seeds p i new not_yet) e = in_more r.seeded i j e
seeds_kept j r w n (SeedsAll p i new all) e = in_more r.seeded i j e
seeds_kept j r w n (Writes i t heard) e = e
seeds_kept j r w n (LosesWrites i t y heard) e = e
seeds_kept j r w n (Chooses i t heard m) e = e
seeds_kept j r w n (Marks p i new) e = e

done_kept : (j : ℕ) (r : RecState) (w : Word) (n : RecState) → Change r w n → SeedDone j r → SeedDone j n
done_kept j r w n change (inl e) = inl (seeds_kept j r w n change e)
done_kept j r w n change (inr up) = inr (from_change 3 r w n change up)

-- a plan whose copy is complete stands
pub whole_keeps : Laws → (c : Config) (b : ℕ) (q : Plan) → is_complete q.tail ≡ true → Keeps c b (λ r. r.plan ≡ Some q)
whole_keeps laws c b q copied h run r from u at told k =
    let grows : RecGrows r (after_hear r from u) = laws.rec_grows r from u (rec_is laws c h run b r at).kept.come_by in
    grows.copied (ap is_copied_in k ∙ copied) ∙ k

or_last : (b : Bool) → (b || (true || false)) ≡ true
or_last true = refl
or_last false = refl

in_last : (logs : List ℕ) (i : ℕ) → is_in (logs ++ i ∷ []) i ≡ true
in_last logs i = list_any-append (λ other. other == i) logs (i ∷ []) ∙ ap (λ x. is_in logs i || (x || false)) (eq-eqb i i refl) ∙ or_last (is_in logs i)

-- that a log is seeded is heard
hears : (r : RecState) (q : Plan) (b i : ℕ) → r.phase ≡ Copying → r.plan ≡ Some q → r.ballot ≡ b → is_complete q.tail ≡ true → i < q.generation.m → SeedDone i (after_hear r (node.Log b i) (tell.Log Seeded))
hears r q b i phase plan own copied below = go (is_in r.seeded i) refl
  where
    is : (x : Bool) → is_newly_seeded r q b i ≡ x → after_hear r (node.Log b i) (tell.Log Seeded) ≡ after_heed r (cond x (IsSeeded q i) Nothing)
    is x e = ap (after_heed r) (
        ap (λ ph. heed_in ph r (OfLog b i Seeded)) phase
        ∙ ap (λ o. heed_seeded r o b i) plan
        ∙ ap (λ y. cond y (IsSeeded q i) Nothing) e)

    newly : (x : Bool) → is_in r.seeded i ≡ x → is_newly_seeded r q b i ≡ not x
    newly x e =
        ap (λ y. (y && nat_lt i q.generation.m) && (is_copied r && not (is_in r.seeded i))) (eq-eqb b r.ballot (sym own))
        ∙ ap (λ y. y && (is_copied r && not (is_in r.seeded i))) (lt-ltb i q.generation.m below)
        ∙ ap (λ y. y && not (is_in r.seeded i)) (ap is_copied_in plan ∙ copied)
        ∙ ap not e

    more : (x : Bool) → SeedDone i (cond x (record (with_seeded r i) { phase = Writing }) (with_seeded r i))
    more true = inr (omega arith)
    more false = inl (in_last r.seeded i)

    go : (x : Bool) → is_in r.seeded i ≡ x → SeedDone i (after_hear r (node.Log b i) (tell.Log Seeded))
    go true e = subst (SeedDone i) (sym (is false (newly true e))) (inl e)
    go false e = subst (SeedDone i) (sym (is true (newly false e))) (more (is_written (with_seeded r i)))

-- ---- the round

seed_asked : (r : RecState) (q : Plan) (i : ℕ) → r.phase ≡ Copying → r.plan ≡ Some q → is_complete q.tail ≡ true → i < q.generation.m → is_in r.seeded i ≡ false
    → Contains (pending r) (node.Log r.ballot i, ask.Log (Seed (seed_for q.tail r.ballot q.generation.m q.generation.k i)))
seed_asked r q i phase plan copied below fresh =
    subst (λ xs. Contains xs (node.Log r.ballot i, ask.Log (Seed (seed_for q.tail r.ballot q.generation.m q.generation.k i)))) (sym is)
    (map_has (λ j. (node.Log r.ballot j, ask.Log (Seed (seed_for q.tail r.ballot q.generation.m q.generation.k j)))) (left q.generation.m (is_in r.seeded)) i (left_has q.generation.m (is_in r.seeded) i below fresh))
  where
    is : pending r ≡ seeds_of r (Some q)
    is =
        ap (λ ph. pending_in ph r) phase
        ∙ ap (λ x. cond x (seeds_of r r.plan) (peeks_of r r.parent r.plan (range_with_len 0 (length r.begins)))) (ap is_copied_in plan ∙ copied)
        ∙ ap (seeds_of r) plan

pub seeding_is_one_round : Laws → SeedingIsOneRound
seeding_is_one_round laws c h turns config run b answers round r n at phase copied there told still = finish
  where
    run_start : IsRun c h
    run_start = run_back c turns h run

    q : (q : Plan) × (r.plan ≡ Some q)
    q = copying_plan laws c h run_start b r at phase

    whole : is_complete q.0.tail ≡ true
    whole = sym (ap is_copied_in q.1) ∙ copied

    plan_last : n.plan ≡ Some q.0
    plan_last = holds_at (rec_at c (turns ++ h) b) (λ x. x.plan ≡ Some q.0) (along c b (λ x. x.plan ≡ Some q.0) (whole_keeps laws c b q.0 whole) turns h run r at q.1) n there

    ballot : (l : List Turn) → IsRun c l → (m : RecState) → rec_at c l b ≡ Some m → m.ballot ≡ b
    ballot l run_l m here = (rec_is laws c l run_l b m here).ballot

    keeps : (i : ℕ) → Keeps c b (SeedDone i)
    keeps i = keeps_by laws c b (SeedDone i) (λ s w m come_by change k. done_kept i s w m change k)

    ended : (i : ℕ) → SeedDone i n → is_in n.seeded i ≡ true
    ended i (inl e) = e
    ended i (inr up) = absurd (let two : phase_number n.phase ≡ 2 = ap phase_number still in omega (arith, up, two))

    -- a log that answers tells that it is seeded
    says : (mid : List Turn) → IsRun c mid → (m : RecState) → rec_at c mid b ≡ Some m → m.plan ≡ Some q.0 → (i : ℕ) (u : Tell) → WasAnswered c mid b (node.Log b i) (ask.Log (Seed (seed_for q.0.tail b q.0.generation.m q.0.generation.k i))) u → u ≡ tell.Log Seeded
    says mid run_mid m here plan i u answered = given (sent_is_accounted laws c answer.past answer.run (node.Recoverer b) (node.Log b i) (ask.Log (Seed (seed_for q.0.tail b q.0.generation.m q.0.generation.k i))) answer.sent)
      where
        answer : LogAnswer c mid b b i (Seed (seed_for q.0.tail b q.0.generation.m q.0.generation.k i)) u
        answer = log_answer c mid run_mid b b i (Seed (seed_for q.0.tail b q.0.generation.m q.0.generation.k i)) u answered

        inside : i < logs_at c answer.past b
        inside = ltb-true i (logs_at c answer.past b) answer.up.there

        given : SenderAccounts c answer.past (node.Recoverer b) (node.Log b i) (ask.Log (Seed (seed_for q.0.tail b q.0.generation.m q.0.generation.k i))) → u ≡ tell.Log Seeded
        given (s, past, (own, had, (x, planned, low, is))) =
            let mine : s.ballot ≡ b = ballot answer.past answer.run s past in
            answer.is ∙ ap tell.Log (
            ap (λ y. answer_of (log_at c answer.past b i) (Seed y)) (is ∙ ap (λ y. seed_for x.tail y x.generation.m x.generation.k i) mine)
            ∙ seed_answered laws c answer.past answer.run b s x past planned i inside)

    brings : (i : ℕ) → i < q.0.generation.m → (mid : List Turn) (m : RecState) (u : Tell) → IsRun c mid → rec_at c mid b ≡ Some m → IsFrom 2 m → m.plan ≡ Some q.0
        → WasAnswered c mid b (node.Log b i) (ask.Log (Seed (seed_for q.0.tail b q.0.generation.m q.0.generation.k i))) u → SeedDone i (after_hear m (node.Log b i) u)
    brings i below mid m u run_mid here low plan answered = go (nat_lt (phase_number m.phase) 3) refl
      where
        go : (x : Bool) → nat_lt (phase_number m.phase) 3 ≡ x → SeedDone i (after_hear m (node.Log b i) u)
        go true e =
            subst (λ x. SeedDone i (after_hear m (node.Log b i) x)) (sym (says mid run_mid m here plan i u answered))
            (hears m q.0 b i (phase_copying m.phase low (ltb-true (phase_number m.phase) 3 e)) plan (ballot mid run_mid m here) whole below)
        go false e = inr (from_change 3 m (word_of (node.Log b i) u) (after_hear m (node.Log b i) u) (laws.rec_change m (node.Log b i) u) (ltb-false (phase_number m.phase) 3 e))

    each : (i : ℕ) → i < q.0.generation.m → is_in n.seeded i ≡ true
    each i below = ended i (go (is_in r.seeded i) refl)
      where
        heeds : answers (node.Log r.ballot i) ≡ true
        heeds = subst (λ x. answers (node.Log x i) ≡ true) (ballot (turns ++ h) run n there ∙ sym (ballot h run_start r at)) (told q.0 plan_last i below)

        start : IsFrom 2 r
        start = (let two : phase_number r.phase ≡ 2 = ap phase_number phase in omega (arith, two))

        heard : is_in r.seeded i ≡ false → HearsAnswer c h turns b (node.Log b i) (ask.Log (Seed (seed_for q.0.tail b q.0.generation.m q.0.generation.k i)))
        heard e =
            subst (λ x. HearsAnswer c h turns b (node.Log x i) (ask.Log (Seed (seed_for q.0.tail x q.0.generation.m q.0.generation.k i)))) (ballot h run_start r at)
            (round r at (node.Log r.ballot i) (ask.Log (Seed (seed_for q.0.tail r.ballot q.0.generation.m q.0.generation.k i))) (seed_asked r q.0 i phase q.1 whole below e) heeds)

        go : (x : Bool) → is_in r.seeded i ≡ x → SeedDone i n
        go true e = holds_at (rec_at c (turns ++ h) b) (SeedDone i) (along c b (SeedDone i) (keeps i) turns h run r at (inl e)) n there
        go false e =
            holds_at (rec_at c (turns ++ h) b) (SeedDone i)
            (through c b h turns (node.Log b i) (ask.Log (Seed (seed_for q.0.tail b q.0.generation.m q.0.generation.k i))) run (heard e) r at
            (λ x. IsFrom 2 x × (x.plan ≡ Some q.0)) (SeedDone i) (both_keep c b (IsFrom 2) (λ x. x.plan ≡ Some q.0) (from_keeps laws c b 2) (whole_keeps laws c b q.0 whole)) (keeps i) (start, q.1)
            (λ mid m u run_mid here said answered k. brings i below mid m u run_mid here k.0 k.1 answered))
            n there

    finish : ⊥
    finish =
        let short = copying_lacks laws c (turns ++ h) run b n there still q.0 plan_last in
        let long = full_is_long n.seeded q.0.generation.m (λ i l. each i l) in
        omega (arith, short, long)
