-- Each log that a recoverer counts as seeded is, so the logs of each epoch that is written are seeded.
use Rattle.std.proofs.Common.{◌≡◌, ℕ, ◌<◌, ◌≤◌, Bool, true, false, cond, ◌==◌, ◌||◌, List, [], ◌∷◌, ◌++◌, Option, None, Some, inl, inr, refl, sym, ◌∙◌, ap, subst, arith}
use Rattle.std.specs.List.{All, IsDistinct}
use Rattle.std.specs.Prelude.{IfSome, IsSome, is_some}
use Rattle.std.proofs.lemmas.Bool.{eqb-true}
use Rattle.std.proofs.lemmas.List.Elements.{All-nil, All-push, All-head, All-tail, All-weaker}
use Rattle.fr_base.specs.declared.place.NodeId.{NodeId}
use Rattle.fr_base.specs.declared.place.NodeId.TheVariants as node
use Rattle.fr_register.specs.declared.ask.CellAsk.TheVariants.{Write}
use Rattle.fr_state.specs.Generations.{IsGeneration, last_of}
use Rattle.fr_log.specs.declared.ask.LogTell.TheVariants.{Seeded}
use Rattle.fr_ask.specs.declared.tell.Tell.{Tell}
use Rattle.fr_ask.specs.declared.tell.Tell.TheVariants as tell
use Rattle.fr_tail.specs.Tail.{is_complete}
use Rattle.fr_epoch.specs.Recoverer.{RecState, Plan, is_written_in}
use Rattle.fr_epoch.specs.Hear as rec
use Rattle.fr_epoch.specs.Words.{word_of, is_in}
use Rattle.fr_epoch.specs.Change.{IsNewlySeeded, Change, Stands, LosesReads, Reads, Finds, Locks, LosesLocks, Plans, Copies, Seeds, SeedsAll, Writes, LosesWrites, Chooses, Marks}
use Rattle.fr_epoch.specs.WriteLaw.{AreSeeded}
use Rattle.fr_run.specs.Config.{Config, first_epoch, first_generation}
use Rattle.fr_run.specs.Turn.{Turn, Told}
use Rattle.fr_run.specs.Nodes.{rec_at, plan_in, plan_at, logs_in, logs_at, log_at}
use Rattle.fr_run.specs.Run.{IsTurn, IsRun}
use Rattle.fr_run.specs.Laws.{Laws}
use Rattle.fr_run.specs.States.{line_of}
use Rattle.fr_run.specs.StateLaws.{IsConfig}
use Rattle.fr_run.proofs.ByTurn.{rec_by_turn}
use Rattle.fr_run.proofs.Growth.{rec_is, log_grows}
use Rattle.fr_run.proofs.Accounts.{cell_ask_is_own}
use Rattle.fr_run.proofs.States.{last_is, last_more}
use Rattle.fr_run.proofs.Lines.{plan_line, lines_within}
use Rattle.fr_run.proofs.Chosen.{other_epoch, generation_planned, chosen_is_written}
use Rattle.fr_run_headline.specs.Bounds.{IsSeededLog}
use Rattle.fr_run_headline.specs.SeededLaws.{IsSeededEpoch, CountedIsSeeded, AllCountedIsSeeded, WritingIsSeeded, SentIsSeeded, ChosenIsSeeded}
use Rattle.fr_run_headline.proofs.Locks.{of_log}
use Rattle.fr_run_headline.proofs.Marks.{seeded_is_seeded, seeded_later}
use Rattle.fr_run_headline.proofs.Transport.{seeded_is_durable}

-- ---- what a recoverer counts

-- the logs that a recoverer counts as seeded are logs of its generation, each once, and seeded
pub record HasCounted (c : Config) (h : List Turn) (b : ℕ) (r : RecState) : Type 0 where
  pub are : AreSeeded r.plan r.seeded
  pub each : All (IsSeededLog c h b) r.seeded

-- one more log that told so
one_more : Laws → (c : Config) (h : List Turn) → IsRun c h → (b : ℕ) (from : NodeId) (t : Tell) → Told h from (node.Recoverer b) t → (r : RecState) → r.ballot ≡ b → All (IsSeededLog c h b) r.seeded → (p : Plan) (i : ℕ)
    → IsNewlySeeded r (word_of from t) p i → All (IsSeededLog c h b) (r.seeded ++ i ∷ [])
one_more laws c h run b from t told r own all p i is =
    let says = is.word in
    let w = of_log from t r.ballot i Seeded says in
    let heard : Told h (node.Log r.ballot i) (node.Recoverer b) (tell.Log Seeded) = subst (λ x. Told h (node.Log r.ballot i) (node.Recoverer b) x) w.said (subst (λ x. Told h x (node.Recoverer b) t) w.sender told) in
    All-push (IsSeededLog c h b) r.seeded i all (subst (λ x. IsSeededLog c h x i) own (seeded_is_seeded laws c h run r.ballot i (node.Recoverer b) heard))

change : Laws → (c : Config) (h : List Turn) → IsRun c h → (b : ℕ) (from : NodeId) (t : Tell) → Told h from (node.Recoverer b) t → (r : RecState) → r.ballot ≡ b → All (IsSeededLog c h b) r.seeded → (n : RecState) → Change r (word_of from t) n
    → All (IsSeededLog c h b) n.seeded
change laws c h run b from t told r own k n Stands = k
change laws c h run b from t told r own k n (LosesReads i u why is) = k
change laws c h run b from t told r own k n (Reads i u is) = k
change laws c h run b from t told r own k n (Finds i u s g heard is) = k
change laws c h run b from t told r own k n (Locks p end i durable known popped is) = k
change laws c h run b from t told r own k n (LosesLocks p end i durable known popped why is) = k
change laws c h run b from t told r own k n (Plans p end i durable known popped s heard is) = k
change laws c h run b from t told r own k n (Copies parent p i peeked is) = k
change laws c h run b from t told r own k n (Seeds p i is w) = one_more laws c h run b from t told r own k p i is
change laws c h run b from t told r own k n (SeedsAll p i is w) = one_more laws c h run b from t told r own k p i is
change laws c h run b from t told r own k n (Writes i u is) = k
change laws c h run b from t told r own k n (LosesWrites i u why is) = k
change laws c h run b from t told r own k n (Chooses i u is m) = k
change laws c h run b from t told r own k n (Marks p i is) = k

lift : Laws → (c : Config) (h : List Turn) (t : Turn) → IsRun c h → IsTurn c h t → (b : ℕ) (o : Option RecState) → IfSome o (HasCounted c h b) → IfSome o (HasCounted c (t ∷ h) b)
lift laws c h t run is b None k = tt
lift laws c h t run is b (Some r) k = record { are = k.are; each = All-weaker (IsSeededLog c h b) (IsSeededLog c (t ∷ h) b) (λ i s. seeded_later laws c h t run is b i s) r.seeded k.each }

none_distinct : IsDistinct {K = ℕ} (λ a b. a == b) []
unfolding IsDistinct
none_distinct = tt

have_counted : Laws → (c : Config) (h : List Turn) → IsRun c h → (b : ℕ) → IfSome (rec_at c h b) (HasCounted c h b)
have_counted laws c [] run b = tt
have_counted laws c (t ∷ h) run b =
    rec_by_turn c h t run.0 b (λ o. IfSome o (HasCounted c (t ∷ h) b)) (lift laws c h t run.1 run.0 b (rec_at c h b) (have_counted laws c h run.1 b))
    (λ shape none may is. record { are = record { none = λ e. refl; below = λ p e. absurd (cc); distinct = none_distinct }; each = All-nil (IsSeededLog c (t ∷ h) b) })
    (λ r from u at told.
    let k : HasCounted c h b r = subst (λ o. IfSome o (HasCounted c h b)) at (have_counted laws c h run.1 b) in
    let own = rec_is laws c h run.1 b r at in
    lift laws c h t run.1 run.0 b (Some (rec.after_hear r from u))
    (record { are = laws.rec_seeded r from u own.kept.come_by k.are; each = change laws c h run.1 b from u told r own.ballot k.each (rec.after_hear r from u) (laws.rec_change r from u) }))

has_counted : Laws → (c : Config) (h : List Turn) → IsRun c h → (b : ℕ) (r : RecState) → rec_at c h b ≡ Some r → HasCounted c h b r
has_counted laws c h run b r at = subst (λ o. IfSome o (HasCounted c h b)) at (have_counted laws c h run b)

found : (P : ℕ → Type 0) (xs : List ℕ) (i : ℕ) → All P xs → is_in xs i ≡ true → P i
found P [] i all e = absurd (cc)
found P (x ∷ xs) i all e = go (λ k. found P xs i (All-tail P x xs all) k) (x == i) refl e
  where
    go : (is_in xs i ≡ true → P i) → (s : Bool) → (x == i) ≡ s → (s || is_in xs i) ≡ true → P i
    go rest true k j = subst P (eqb-true x i k) (All-head P x xs all)
    go rest false k j = rest j

pub counted_is_seeded : Laws → CountedIsSeeded
counted_is_seeded laws c h run b r at i e = found (IsSeededLog c h b) r.seeded i (has_counted laws c h run b r at).each e

-- ---- epochs

-- a generation that is planned is within its limits
planned_within : Laws → (c : Config) (h : List Turn) → IsConfig c → IsRun c h → (b : ℕ) (r : RecState) → rec_at c h b ≡ Some r → (q : Plan) → r.plan ≡ Some q → IsGeneration q.generation
planned_within laws c h config run b r at q planned =
    let k = plan_line laws c h config run b r q at planned in
    last_is IsGeneration (line_of c h b) q.generation (ap last_of k.line ∙ last_more (line_of c h k.parent.last.epoch) q.generation) (lines_within laws c h config run b q.generation (generation_planned laws c h run b r at q planned)).0

-- an epoch has none of its logs, or all
logs_are : Laws → (c : Config) (h : List Turn) → IsRun c h → (b : ℕ) (r : RecState) → rec_at c h b ≡ Some r → (q : Plan) → r.plan ≡ Some q → 0 < logs_at c h b → logs_at c h b ≡ q.generation.m
logs_are laws c h run b r at q planned some = same ∙ go (is_complete q.tail) (subst (λ n. 0 < n) same some)
  where
    same : logs_at c h b ≡ logs_in (Some q)
    same = ap (λ s. cond s c.m (logs_in (plan_at c h b))) (other_epoch laws c h run b r at) ∙ ap (λ o. logs_in (plan_in o)) at ∙ ap logs_in planned

    go : (s : Bool) → 0 < cond s q.generation.m 0 → cond s q.generation.m 0 ≡ q.generation.m
    go true k = refl
    go false k = absurd (omega (arith, k))

pub all_counted_is_seeded : Laws → AllCountedIsSeeded
all_counted_is_seeded laws c h config run b r q at planned all =
    let own = planned_within laws c h config run b r at q planned in
    let m : 1 ≤ q.generation.m = (let a = own.k_low in let b = own.k_high in omega (arith, a, b)) in
    let of = generation_planned laws c h run b r at q planned in
    let one : IsSeededLog c h b 0 = counted_is_seeded laws c h run b r at 0 (all 0 (omega (arith, m))) in
    let there = one.there in
    let logs = logs_are laws c h run b r at q planned there in
    let seeded : (i : ℕ) → i < logs_at c h b → IsSome (log_at c h b i).seed = λ i l. (counted_is_seeded laws c h run b r at i (all i (subst (λ n. i < n) logs l))).seeded in
    record {
      generation = q.generation;
      of = of;
      some = m;
      logs = logs;
      seeded = seeded;
      durable = λ i l. seeded_is_durable laws c h run b q.generation of i l (seeded i l);
    }

pub writing_is_seeded : Laws → WritingIsSeeded
writing_is_seeded laws c h config run b r at written = go r.plan refl written
  where
    go : (o : Option Plan) → r.plan ≡ o → is_written_in o r.seeded ≡ true → IsSeededEpoch c h b
    go None planned w = absurd (cc)
    go (Some q) planned w = all_counted_is_seeded laws c h config run b r q at planned (λ i l. laws.all_seeded r q planned (has_counted laws c h run b r at).are written i l)

pub sent_is_seeded : Laws → SentIsSeeded
sent_is_seeded laws c h config run from to b x sent =
    let own = cell_ask_is_own laws c h run from to (Write b x) sent in
    let k = own.accounts in
    subst (IsSeededEpoch c h) (sym k.0) (writing_is_seeded laws c h config run own.recoverer.ballot own.recoverer own.at k.1)

-- the logs of the first epoch are seeded from the start
first_seeded : Laws → (c : Config) (h : List Turn) → IsRun c h → (i : ℕ) → i < c.m → IsSome (log_at c h first_epoch i).seed
first_seeded laws c [] run i l = refl
first_seeded laws c (t ∷ h) run i l =
    let before = first_seeded laws c h run.1 i l in
    ap is_some ((log_grows laws c h t run.1 run.0 first_epoch i l).seed before) ∙ before

pub first_is_seeded : Laws → (c : Config) (h : List Turn) → IsConfig c → IsRun c h → IsSeededEpoch c h first_epoch
first_is_seeded laws c h config run = record {
  generation = first_generation c;
  of = refl;
  some = let a = config.k_low in let b = config.k_high in omega (arith, a, b);
  logs = refl;
  seeded = λ i l. first_seeded laws c h run i l;
  durable = λ i l. omega arith;
}

pub chosen_is_seeded : Laws → ChosenIsSeeded
chosen_is_seeded laws c h config run e chosen = elim (chosen_is_written laws c h run e chosen) [
  | inl first ↦ subst (IsSeededEpoch c h) (sym first) (first_is_seeded laws c h config run)
  | inr k ↦ writing_is_seeded laws c h config run e k.recoverer k.at k.written
]
