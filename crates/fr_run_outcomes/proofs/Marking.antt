-- A log of a chosen epoch that was not locked takes the mark, if it has none yet.
use Rattle.std.proofs.Common.{◌≡◌, ℕ, ◌+◌, ◌<◌, Bool, true, false, cond, not, nat_lt, max, ◌==◌, ◌||◌, List, [], ◌∷◌, ◌++◌, Option, None, Some, inl, refl, sym, ◌∙◌, ap, subst, arith}
use Rattle.std.specs.Prelude.{IfSome, is_some, is_none, fold}
use Rattle.std.specs.List.{Contains, All, list_any}
use Rattle.std.proofs.lemmas.Bool.{eq-eqb, le-ltb, ltb-true, true≢false}
use Rattle.std.proofs.lemmas.List.Elements.{All-nil, All-push, All-cons, All-head, All-weaker, All-contains}
use Rattle.fr_base.specs.declared.place.NodeId.{NodeId}
use Rattle.fr_base.specs.declared.place.NodeId.TheVariants as node
use Rattle.fr_state.specs.Generations.{LogGeneration, CoordinatedState}
use Rattle.fr_log.specs.declared.ask.LogAsk.{LogAsk}
use Rattle.fr_log.specs.declared.ask.LogAsk.TheVariants.{Push}
use Rattle.fr_log.specs.declared.ask.LogRefusal.TheVariants.{WrongEpoch, Unseeded, Stopped, Stale, Gap}
use Rattle.fr_log.specs.declared.ask.LogTell.TheVariants.{Held}
use Rattle.fr_log.specs.Change.{LogChange, Stands, Seeds, Holds, Stops, Pops}
use Rattle.fr_log.specs.Law.{AskIsChange}
use Rattle.fr_log.specs.Left.{left_push}
use Rattle.fr_log.specs.LogState.{LogState, seeded_to_of, durable_of, is_push_held, mark_among}
use Rattle.fr_log.specs.Push.{PushContent, is_one_push}
use Rattle.fr_log.specs.Refusal.{new_push_refusal, push_refusal}
use Rattle.fr_log.specs.Seed.{SeedContent}
use Rattle.fr_log.specs.Step.{answer_of, next_of, next_unless, granted_next}
use Rattle.fr_ask.specs.declared.ask.Ask.TheVariants as ask
use Rattle.fr_ask.specs.declared.tell.Tell.{Tell}
use Rattle.fr_ask.specs.declared.tell.Tell.TheVariants as tell
use Rattle.fr_epoch.specs.Recoverer.{RecState, Plan, Chosen, is_written_in, mark_of}
use Rattle.fr_epoch.specs.Words.{is_in, word_of}
use Rattle.fr_epoch.specs.Hear.{after_hear}
use Rattle.fr_epoch.specs.Change as rec
use Rattle.fr_epoch.specs.Change.{IsNewlyMarked, Change, LosesReads, Reads, Finds, Locks, LosesLocks, Plans, Copies, SeedsAll, Writes, LosesWrites, Chooses, Marks}
use Rattle.fr_epoch.specs.Asks.{left, marks_of, pending, pending_in}
use Rattle.fr_run.specs.Config.{Config}
use Rattle.fr_run.specs.Turn.{Turn, LogTurn, Sent, Told}
use Rattle.fr_run.specs.Nodes.{rec_at, generation_at, mark_version, logs_at, log_at, new_log_in}
use Rattle.fr_run.specs.Run.{IsUp, IsTurn, IsRun}
use Rattle.fr_run.specs.States.{state_of}
use Rattle.fr_run.specs.Laws.{Laws}
use Rattle.fr_run.proofs.ByTurn.{rec_by_turn}
use Rattle.fr_run.proofs.Cells.{Contains-none}
use Rattle.fr_run.proofs.Chosen.{state_planned, generation_planned}
use Rattle.fr_run.proofs.Growth.{rec_is, log_stays}
use Rattle.fr_run_headline.specs.BoundLaws.{HeldIsThere}
use Rattle.fr_run_headline.specs.Bounds.{HasPushAt, IsMarkOf}
use Rattle.fr_run_headline.specs.LogLaws.{LogsAreOwn}
use Rattle.fr_run_headline.specs.Logs.{IsSeedOf}
use Rattle.fr_run_headline.specs.SeededLaws.{IsSeededEpoch, WritingIsSeeded}
use Rattle.fr_run_headline.proofs.Locks.{of_log}
use Rattle.fr_run_headline.proofs.LogRule.{log_holds}
use Rattle.fr_run_headline.proofs.Marks.{logs_are_marked}
use Rattle.fr_run_headline.proofs.Named.{log_named}
use Rattle.fr_run_headline.proofs.Tells.{has_push_later}
use Rattle.fr_run_outcomes.specs.Pending.{PendingIsSent}
use Rattle.fr_run_outcomes.specs.Going.{IsOwn, GoesOn}
use Rattle.fr_run_outcomes.specs.Marking.{MarksOn, MarkIsHeld}
use Rattle.fr_run_outcomes.proofs.Lists.{map_has, left_has}
use Rattle.fr_run_outcomes.proofs.Counts.{Contains-from_among}
use Rattle.fr_run_outcomes.proofs.Going.{stands, log_still_up}
use Rattle.fr_run_outcomes.proofs.LockAnswers.{some_not_none}

-- ---- the first push of a log is a mark

abbrev FirstIsMark : List PushContent → Type 0
FirstIsMark [] = Unit {0}
FirstIsMark (p ∷ ps) = is_some p.mark ≡ true

-- before its first push a log holds what it was seeded to
durable_before : (l : LogState) → l.pushes ≡ [] → durable_of l ≡ seeded_to_of l.seed
durable_before l empty = ap (fold (λ version (p : PushContent). max version p.version) (seeded_to_of l.seed)) empty

grown : (ps : List PushContent) (p : PushContent) → FirstIsMark ps → (ps ≡ [] → is_some p.mark ≡ true) → FirstIsMark (ps ++ p ∷ [])
grown [] p k first = first refl
grown (q ∷ qs) p k first = k

first_stays : (l : LogState) (a : LogAsk) (n : LogState) → LogChange l a n → FirstIsMark l.pushes → FirstIsMark n.pushes
first_stays l a n Stands k = k
first_stays l a n (Seeds s at is) k = k
first_stays l a n (Holds p at is) k = grown l.pushes p k (λ empty. is.first_mark (durable_before l empty))
first_stays l a n (Stops at some) k = k
first_stays l a n (Pops tag through at is) k = k

first_made : (e i : ℕ) (o : Option Plan) → FirstIsMark (new_log_in o e i).pushes
first_made e i None = tt
first_made e i (Some p) = tt

first_marks : Laws → AskIsChange → (c : Config) (h : List Turn) → IsRun c h → (e i : ℕ) → i < logs_at c h e → FirstIsMark (log_at c h e i).pushes
first_marks laws changes c = log_holds laws c (λ h e i l. FirstIsMark l.pushes) (record {
  starts = λ i. refl;
  made = λ h run e i o at other below. first_made e i o;
  lasts = λ h t run is e i below l k. k;
  takes = λ h run e i below k from a came. first_stays (log_at c h e i) a (next_of (log_at c h e i) a) (changes (log_at c h e i) a) k;
})

-- so a log that has a push has its epoch's mark first
pub has_mark : Laws → AskIsChange → (c : Config) (h : List Turn) → IsRun c h → (e i : ℕ) → i < logs_at c h e → (p : PushContent) (ps : List PushContent) → (log_at c h e i).pushes ≡ p ∷ ps → mark_among (log_at c h e i).pushes ≡ Some (state_of c h e)
has_mark laws changes c h run e i there p ps is = ap mark_among is ∙ go p.mark refl
  where
    some : is_some p.mark ≡ true
    some = subst FirstIsMark is (first_marks laws changes c h run e i there)

    all : All (λ (q : PushContent). IfSome q.mark (IsMarkOf c h e)) (p ∷ ps)
    all = subst (All (λ (q : PushContent). IfSome q.mark (IsMarkOf c h e))) is (logs_are_marked laws c h run e i there)

    go : (o : Option CoordinatedState) → p.mark ≡ o → p.mark ≡ Some (state_of c h e)
    go None e' = absurd (true≢false (sym some ∙ ap is_some e'))
    go (Some x) e' = (let mark : IsMarkOf c h e x = subst (λ o. IfSome o (IsMarkOf c h e)) e' (All-head (λ (q : PushContent). IfSome q.mark (IsMarkOf c h e)) p ps all) in e' ∙ ap Some mark.state)

-- ---- a log that a recoverer counts as marked has a push

abbrev HasPush : Config → List Turn → ℕ → ℕ → Type 0
HasPush c h b i = (v : ℕ) × HasPushAt c h b i v

one_more : HeldIsThere → (c : Config) (h : List Turn) → IsRun c h → (b : ℕ) (from : NodeId) (t : Tell) → Told h from (node.Recoverer b) t → (r : RecState) → r.ballot ≡ b → All (HasPush c h b) r.marked → (p : Plan) (i : ℕ)
    → IsNewlyMarked r (word_of from t) p i → All (HasPush c h b) (r.marked ++ i ∷ [])
one_more held c h run b from t told r own all p i is =
    let says = is.word in
    let w = of_log from t r.ballot i (Held (p.generation.seeded_to + 1)) says in
    let heard : Told h (node.Log r.ballot i) (node.Recoverer b) (tell.Log (Held (p.generation.seeded_to + 1))) =
    subst (λ x. Told h (node.Log r.ballot i) (node.Recoverer b) x) w.said (subst (λ x. Told h x (node.Recoverer b) t) w.sender told) in
    let there : HasPush c h r.ballot i = (p.generation.seeded_to + 1, held c h run r.ballot i (node.Recoverer b) (p.generation.seeded_to + 1) heard) in
    All-push (HasPush c h b) r.marked i all (subst (λ x. HasPush c h x i) own there)

change : HeldIsThere → (c : Config) (h : List Turn) → IsRun c h → (b : ℕ) (from : NodeId) (t : Tell) → Told h from (node.Recoverer b) t → (r : RecState) → r.ballot ≡ b → All (HasPush c h b) r.marked → (n : RecState) → Change r (word_of from t) n
    → All (HasPush c h b) n.marked
change held c h run b from t told r own k n rec.Stands = k
change held c h run b from t told r own k n (LosesReads i u why is) = k
change held c h run b from t told r own k n (Reads i u is) = k
change held c h run b from t told r own k n (Finds i u s g heard is) = k
change held c h run b from t told r own k n (Locks p end i durable known popped is) = k
change held c h run b from t told r own k n (LosesLocks p end i durable known popped why is) = k
change held c h run b from t told r own k n (Plans p end i durable known popped s heard is) = k
change held c h run b from t told r own k n (Copies parent p i peeked is) = k
change held c h run b from t told r own k n (rec.Seeds p i is w) = k
change held c h run b from t told r own k n (SeedsAll p i is w) = k
change held c h run b from t told r own k n (Writes i u is) = k
change held c h run b from t told r own k n (LosesWrites i u why is) = k
change held c h run b from t told r own k n (Chooses i u is m) = k
change held c h run b from t told r own k n (Marks p i is) = one_more held c h run b from t told r own k p i is

lift : Laws → (c : Config) (h : List Turn) (t : Turn) → IsRun c h → IsTurn c h t → (b : ℕ) (o : Option RecState) → IfSome o (λ (x : RecState). All (HasPush c h b) x.marked) → IfSome o (λ (x : RecState). All (HasPush c (t ∷ h) b) x.marked)
lift laws c h t run is b None k = tt
lift laws c h t run is b (Some r) k = All-weaker (HasPush c h b) (HasPush c (t ∷ h) b) (λ i s. (s.0, has_push_later laws c h t run is b i s.0 s.1)) r.marked k

have_marked : Laws → HeldIsThere → (c : Config) (h : List Turn) → IsRun c h → (b : ℕ) → IfSome (rec_at c h b) (λ (x : RecState). All (HasPush c h b) x.marked)
have_marked laws held c [] run b = tt
have_marked laws held c (t ∷ h) run b =
    rec_by_turn c h t run.0 b (λ o. IfSome o (λ (x : RecState). All (HasPush c (t ∷ h) b) x.marked)) (lift laws c h t run.1 run.0 b (rec_at c h b) (have_marked laws held c h run.1 b))
    (λ shape none may is. All-nil (HasPush c (t ∷ h) b))
    (λ r from u at told.
    let k : All (HasPush c h b) r.marked = subst (λ o. IfSome o (λ (x : RecState). All (HasPush c h b) x.marked)) at (have_marked laws held c h run.1 b) in
    lift laws c h t run.1 run.0 b (Some (after_hear r from u)) (change held c h run.1 b from u told r (rec_is laws c h run.1 b r at).ballot k (after_hear r from u) (laws.rec_change r from u)))

-- so one without a push does not count
not_counted : Laws → HeldIsThere → (c : Config) (h : List Turn) → IsRun c h → (b : ℕ) (r : RecState) → rec_at c h b ≡ Some r → (i : ℕ) → (log_at c h b i).pushes ≡ [] → is_in r.marked i ≡ false
not_counted laws held c h run b r at i empty = go (is_in r.marked i) refl
  where
    all : All (HasPush c h b) r.marked
    all = subst (λ o. IfSome o (λ (x : RecState). All (HasPush c h b) x.marked)) at (have_marked laws held c h run b)

    go : (x : Bool) → is_in r.marked i ≡ x → x ≡ false
    go false e = refl
    go true e = (let k : HasPush c h b i = All-contains (HasPush c h b) r.marked i all (Contains-from_among r.marked i e) in absurd (Contains-none (subst (λ ps. Contains ps k.1.push) empty k.1.held)))

-- ---- a log takes the mark

unheld : (l : LogState) (p : PushContent) → l.pushes ≡ [] → is_push_held l p ≡ false
unheld l p empty = ap (list_any (λ (q : PushContent). is_one_push (left_push l.popped p) (left_push l.popped q))) empty

new_granted : (l : LogState) (q : Plan) → l.stopped ≡ false → durable_of l ≡ seeded_to_of l.seed → q.generation.seeded_to ≡ seeded_to_of l.seed → new_push_refusal l (mark_of q) ≡ None
new_granted l q running before same =
    ap (λ x. cond x (Some Stopped) (cond (nat_lt q.generation.seeded_to (durable_of l) || not (q.generation.seeded_to == seeded_to_of l.seed)) (Some Stale) (cond (nat_lt (durable_of l) q.generation.seeded_to) (Some (Gap (durable_of l))) None))) running
    ∙ ap (λ x. cond (x || not (q.generation.seeded_to == seeded_to_of l.seed)) (Some Stale) (cond (nat_lt (durable_of l) q.generation.seeded_to) (Some (Gap (durable_of l))) None))
    (le-ltb q.generation.seeded_to (durable_of l) (omega (arith, before, same)))
    ∙ ap (λ x. cond (not x) (Some Stale) (cond (nat_lt (durable_of l) q.generation.seeded_to) (Some (Gap (durable_of l))) None)) (eq-eqb q.generation.seeded_to (seeded_to_of l.seed) same)
    ∙ ap (λ x. cond x (Some (Gap (durable_of l))) None) (le-ltb (durable_of l) q.generation.seeded_to (omega (arith, before, same)))

takes_mark : (l : LogState) (q : Plan) → q.generation.epoch ≡ l.epoch → is_some l.seed ≡ true → l.pushes ≡ [] → l.stopped ≡ false → q.generation.seeded_to ≡ seeded_to_of l.seed
    → next_of l (Push (mark_of q)) ≡ record l { pushes = l.pushes ++ mark_of q ∷ [] }
takes_mark l q own seeded empty running same = ap (λ o. next_unless o l (granted_next l (Push (mark_of q)))) granted ∙ ap (λ x. cond x l (record l { pushes = l.pushes ++ mark_of q ∷ [] })) (unheld l (mark_of q) empty)
  where
    granted : push_refusal l (mark_of q) ≡ None
    granted =
        ap (λ x. cond (not x) (Some WrongEpoch) (cond (is_none l.seed) (Some Unseeded) (cond (is_push_held l (mark_of q)) None (new_push_refusal l (mark_of q))))) (eq-eqb q.generation.epoch l.epoch own)
        ∙ ap (λ x. cond x (Some Unseeded) (cond (is_push_held l (mark_of q)) None (new_push_refusal l (mark_of q)))) (some_not_none l.seed seeded)
        ∙ ap (λ x. cond x None (new_push_refusal l (mark_of q))) (unheld l (mark_of q) empty)
        ∙ new_granted l q running (durable_before l empty) same

-- ---- one turn

-- what holds of the nodes
pub record MarkRules : Type 0 where
  pub laws : Laws
  pub changes : AskIsChange
  pub sent : PendingIsSent
  pub held : HeldIsThere
  pub own : LogsAreOwn
  pub seeded : WritingIsSeeded

mark_sent : MarkRules → (c : Config) (h : List Turn) → IsRun c h → (b : ℕ) (r : RecState) (q : Plan) → rec_at c h b ≡ Some r → r.phase ≡ Chosen → r.plan ≡ Some q → (i : ℕ) → i < q.generation.m → is_in r.marked i ≡ false
    → Sent h (node.Recoverer b) (node.Log b i) (ask.Log (Push (mark_of q)))
mark_sent rules c h run b r q at phase plan i below fresh =
    subst (λ x. Sent h (node.Recoverer b) (node.Log x i) (ask.Log (Push (mark_of q)))) (rec_is rules.laws c h run b r at).ballot
    (rules.sent c h run b r at (node.Log r.ballot i) (ask.Log (Push (mark_of q)))
    (subst (λ xs. Contains xs (node.Log r.ballot i, ask.Log (Push (mark_of q)))) (sym is)
    (map_has (λ j. (node.Log r.ballot j, ask.Log (Push (mark_of q)))) (left q.generation.m (is_in r.marked)) i (left_has q.generation.m (is_in r.marked) i below fresh))))
  where
    is : pending r ≡ marks_of r (Some q)
    is = ap (λ ph. pending_in ph r) phase ∙ ap (marks_of r) plan

-- what a log of a plan's generation was seeded to is what the plan says
same_end : MarkRules → (c : Config) (h : List Turn) → IsRun c h → (b : ℕ) (r : RecState) (q : Plan) → rec_at c h b ≡ Some r → r.plan ≡ Some q → (i : ℕ) → i < logs_at c h b → is_some (log_at c h b i).seed ≡ true
    → q.generation.seeded_to ≡ seeded_to_of (log_at c h b i).seed
same_end rules c h run b r q at plan i there some = go (log_at c h b i).seed refl some
  where
    own : IfSome (log_at c h b i).seed (IsSeedOf c h b)
    own = (rules.own c h run b i there).seeded

    version : mark_version (generation_at c h b) ≡ q.generation.seeded_to + 1
    version = ap mark_version (generation_planned rules.laws c h run b r at q plan)

    go : (o : Option SeedContent) → (log_at c h b i).seed ≡ o → is_some o ≡ true → q.generation.seeded_to ≡ seeded_to_of (log_at c h b i).seed
    go None is some = absurd (true≢false (sym some))
    go (Some s) is some =
        let k : s.seeded_to + 1 ≡ mark_version (generation_at c h b) = subst (λ o. IfSome o (IsSeedOf c h b)) is own in
        let e : seeded_to_of (log_at c h b i).seed ≡ s.seeded_to = ap seeded_to_of is in
        omega (arith, k, e, version)

-- the turn in which the recoverer's mark comes to a log
abbrev pushed : Config → List Turn → ℕ → ℕ → Plan → Turn
pushed c h b i q = LogTurn (node.Recoverer b) b i (Push (mark_of q)) (answer_of (log_at c h b i) (Push (mark_of q)))

marks : MarkRules → (c : Config) (h : List Turn) → IsRun c h → (b : ℕ) (r : RecState) (q : Plan) → rec_at c h b ≡ Some r → r.phase ≡ Chosen → r.plan ≡ Some q → IsSeededEpoch c h b → (i : ℕ) → IsUp c h (node.Log b i)
    → (log_at c h b i).stopped ≡ false → MarksOn c h b i (state_of c h b)
marks rules c h run b r q at phase plan epoch i up running = go (log_at c h b i).pushes refl
  where
    there : i < logs_at c h b
    there = ltb-true i (logs_at c h b) up.there

    below : i < q.generation.m
    below =
        let two : Some epoch.generation ≡ Some q.generation = sym epoch.of ∙ generation_planned rules.laws c h run b r at q plan in
        let one : epoch.generation ≡ q.generation = cc in
        let many : logs_at c h b ≡ q.generation.m = epoch.logs ∙ ap (λ (g : LogGeneration). g.m) one in
        omega (arith, many, there)

    epoch_is : q.generation.epoch ≡ (log_at c h b i).epoch
    epoch_is = ((rec_is rules.laws c h run b r at).kept.plan q plan).epoch ∙ (rec_is rules.laws c h run b r at).ballot ∙ sym (log_named rules.laws c h run b i there).epoch

    asked : (log_at c h b i).pushes ≡ [] → IsRun c (pushed c h b i q ∷ h)
    asked empty = ((up, inl (mark_sent rules c h run b r q at phase plan i below (not_counted rules.laws rules.held c h run b r at i empty)), refl, tt), run)

    further : IsRun c (pushed c h b i q ∷ h) → GoesOn c b h (pushed c h b i q ∷ h)
    further whole = record {
      more = pushed c h b i q ∷ [];
      is = refl;
      is_run = whole;
      own = All-cons (IsOwn b) (pushed c h b i q) [] refl (All-nil (IsOwn b));
      low = λ j le. le;
    }

    now : (log_at c h b i).pushes ≡ [] → (whole : IsRun c (pushed c h b i q ∷ h)) → mark_among (log_at c (pushed c h b i q ∷ h) b i).pushes ≡ Some (state_of c h b)
    now empty whole =
        let takes = takes_mark (log_at c h b i) q epoch_is (epoch.seeded i there) empty running (same_end rules c h run b r q at plan i there (epoch.seeded i there)) in
        let is : log_at c (pushed c h b i q ∷ h) b i ≡ next_of (log_at c h b i) (Push (mark_of q)) = log_stays rules.laws c h (pushed c h b i q) run whole.0 b i there ∙ rw (eq-eqb b b refl, eq-eqb i i refl) refl in
        ap (λ (l : LogState). mark_among l.pushes) (is ∙ takes) ∙ ap (λ ps. mark_among (ps ++ mark_of q ∷ [])) empty ∙ ap Some (sym (state_planned rules.laws c h run b r at q plan))

    go : (ps : List PushContent) → (log_at c h b i).pushes ≡ ps → MarksOn c h b i (state_of c h b)
    go (p ∷ ps) is = record { later = h; goes_on = stands c b h run; leaves = record { cells = refl; recoverers = λ a. refl; lost = λ a. refl }; up = up; marked = has_mark rules.laws rules.changes c h run b i there p ps is }
    go [] empty = record {
      later = pushed c h b i q ∷ h;
      goes_on = further (asked empty);
      leaves = record { cells = refl; recoverers = λ a. refl; lost = λ a. refl };
      up = log_still_up rules.laws c b h (pushed c h b i q ∷ h) (further (asked empty)) b i up;
      marked = now empty (asked empty);
    }

pub mark_is_held : MarkRules → MarkIsHeld
mark_is_held rules c h config run b r at phase i up running = go r.plan refl written
  where
    written : is_written_in r.plan r.seeded ≡ true
    written = (rec_is rules.laws c h run b r at).kept.come_by.chosen phase

    go : (o : Option Plan) → r.plan ≡ o → is_written_in o r.seeded ≡ true → MarksOn c h b i (state_of c h b)
    go None plan e = absurd (true≢false (sym e))
    go (Some q) plan e = marks rules c h run b r q at phase plan (rules.seeded c h config run b r at written) i up running
