-- A log that told to be seeded is seeded, and a state that a log told as its mark is that of its open epoch.
use Rattle.std.proofs.Common.{◌≡◌, ℕ, ◌<◌, Bool, true, false, cond, ◌==◌, List, [], ◌∷◌, Option, None, Some, inl, inr, ◌⊎◌, refl, sym, ◌∙◌, ap, subst}
use Rattle.std.specs.Prelude.{IfSome, is_some}
use Rattle.std.specs.List.{All}
use Rattle.std.specs.Option.{option_map}
use Rattle.std.proofs.lemmas.Bool.{eq-eqb, eqb-true, ltb-true, or_right}
use Rattle.std.proofs.lemmas.List.Elements.{All-nil, All-push, All-head, All-weaker}
use Rattle.fr_base.specs.declared.place.NodeId.{NodeId}
use Rattle.fr_base.specs.declared.place.NodeId.TheVariants as node
use Rattle.fr_state.specs.Generations.{CoordinatedState}
use Rattle.fr_log.specs.declared.ask.LogAsk.{LogAsk}
use Rattle.fr_log.specs.declared.ask.LogAsk.TheVariants.{Push}
use Rattle.fr_log.specs.declared.ask.LogTell.{LogTell}
use Rattle.fr_log.specs.declared.ask.LogTell.TheVariants as ltell
use Rattle.fr_log.specs.Left.{left_seed}
use Rattle.fr_log.specs.Push.{PushContent}
use Rattle.fr_log.specs.Seed.{SeedContent}
use Rattle.fr_log.specs.LogState.{LogState, mark_among}
use Rattle.fr_log.specs.Step.{next_of, mark_answer}
use Rattle.fr_ask.specs.declared.ask.Ask.TheVariants as ask
use Rattle.fr_ask.specs.declared.tell.Tell.TheVariants as tell
use Rattle.fr_epoch.specs.Recoverer.{Plan}
use Rattle.fr_run.specs.Config.{Config, first_epoch, first_state, first_mark}
use Rattle.fr_run.specs.Turn.{Turn, Begun, CellTurn, LogTurn, SeqTurn, Submitted, ProxyHeard, RecHeard, StorageHeard, Gone, Crashed, Sent, TellsBy, Told}
use Rattle.fr_run.specs.Nodes.{rec_at, plan_in, plan_at, is_chosen_phase, is_open_in, is_open, logs_at, log_at, new_log_in}
use Rattle.fr_run.specs.Run.{IsTurn, IsRun, StorageMayAsk}
use Rattle.fr_run.specs.States.{state_in, state_of}
use Rattle.fr_run_headline.specs.Bounds.{IsSeededLog, IsMarkOf}
use Rattle.fr_run.specs.Laws.{Laws}
use Rattle.fr_run.specs.AskLaws.{SenderAccounts}
use Rattle.fr_run.proofs.Growth.{rec_is, open_stays, open_generation, log_stays, log_grows}
use Rattle.fr_run.proofs.Chosen.{state_lasts}
use Rattle.fr_run.proofs.Accounts.{sent_is_accounted}
use Rattle.fr_run_headline.proofs.LogChanges.{log_change}
use Rattle.fr_run_headline.proofs.Logs.{logs_stay, no_push}
use Rattle.fr_run_headline.proofs.LogRule.{IsLogRule, log_holds}

-- ---- a rule for what a log told: it is so when it is told, and later on

pub told_turn : (c : Config) (P : List Turn → Type 0) (e i : ℕ) (to : NodeId) (u : LogTell) → ((h : List Turn) (t : Turn) → IsRun c h → IsTurn c h t → P h → P (t ∷ h))
    → ((h : List Turn) (a : LogAsk) → IsRun c h → IsTurn c h (LogTurn to e i a u) → P (LogTurn to e i a u ∷ h)) → (h : List Turn) → IsRun c h → Told h (node.Log e i) to (tell.Log u) → P h
told_turn c P e i to u lasts says [] run k = absurd k
told_turn c P e i to u lasts says (t ∷ h) run (inr k) = lasts h t run.1 run.0 (told_turn c P e i to u lasts says h run.1 k)
told_turn c P e i to u lasts says (t ∷ h) run (inl k) = now t run.0 k
  where
    now : (t : Turn) → IsTurn c h t → TellsBy t (node.Log e i) to (tell.Log u) → P (t ∷ h)
    now (Begun b shape asks) is k = absurd k
    now (CellTurn from j a v) is (at, own, same) = let d : node.Cell j ≡ node.Log e i = at in absurd (cc)
    now (LogTurn from x j a v) is (at, own, same) =
        let d : x ≡ e = cc in
        let f : j ≡ i = cc in
        let w : v ≡ u = cc in
        let turn : LogTurn from x j a v ≡ LogTurn to e i a u = ap (λ y. LogTurn y x j a v) own ∙ (ap (λ y. LogTurn to y j a v) d ∙ (ap (λ y. LogTurn to e y a v) f ∙ ap (LogTurn to e i a) w)) in
        subst (λ y. P (y ∷ h)) (sym turn) (says h a run.1 (subst (IsTurn c h) turn is))
    now (SeqTurn from x a v) is (at, own, same) = let d : node.Sequencer x ≡ node.Log e i = at in absurd (cc)
    now (Submitted x p step batch asks) is k = absurd k
    now (ProxyHeard x p from v outcome asks) is k = absurd k
    now (RecHeard b from v asks) is k = absurd k
    now (StorageHeard tag from v taken fault) is k = absurd k
    now (Gone who) is k = absurd k
    now (Crashed who) is k = absurd k

-- whoever it told it to
pub told_holds : (c : Config) (P : List Turn → Type 0) (e i : ℕ) (to : NodeId) (u : LogTell) → ((h : List Turn) (t : Turn) → IsRun c h → IsTurn c h t → P h → P (t ∷ h))
    → ((h : List Turn) (from : NodeId) (a : LogAsk) → IsRun c h → IsTurn c h (LogTurn from e i a u) → P (LogTurn from e i a u ∷ h)) → (h : List Turn) → IsRun c h → Told h (node.Log e i) to (tell.Log u) → P h
told_holds c P e i to u lasts says = told_turn c P e i to u lasts (λ h a run is. says h to a run is)

-- ---- Seeded

pub seeded_later : Laws → (c : Config) (h : List Turn) (t : Turn) → IsRun c h → IsTurn c h t → (e i : ℕ) → IsSeededLog c h e i → IsSeededLog c (t ∷ h) e i
seeded_later laws c h t run is e i k = record {
  there = subst (λ n. i < n) (sym (logs_stay laws c h t run is e i k.there)) k.there;
  seeded = ap is_some ((log_grows laws c h t run is e i k.there).seed k.seeded) ∙ k.seeded;
}

-- a log that has something left of a seed has one
some_seed : (f : SeedContent → SeedContent) (o : Option SeedContent) (s : SeedContent) → option_map f o ≡ Some s → is_some o ≡ true
some_seed f None s e = absurd (cc)
some_seed f (Some x) s e = refl

pub seeded_is_seeded : Laws → (c : Config) (h : List Turn) → IsRun c h → (e i : ℕ) (to : NodeId) → Told h (node.Log e i) to (tell.Log ltell.Seeded) → IsSeededLog c h e i
seeded_is_seeded laws c h run e i to = told_holds c (λ h. IsSeededLog c h e i) e i to ltell.Seeded (λ h t run is k. seeded_later laws c h t run is e i k) now h run
  where
    now : (h : List Turn) (from : NodeId) (a : LogAsk) → IsRun c h → IsTurn c h (LogTurn from e i a ltell.Seeded) → IsSeededLog c (LogTurn from e i a ltell.Seeded ∷ h) e i
    now h from a run is =
        let l = log_at c h e i in
        let below : i < logs_at c h e = ltb-true i (logs_at c h e) is.0.there in
        let after : log_at c (LogTurn from e i a ltell.Seeded ∷ h) e i ≡ next_of l a = log_stays laws c h (LogTurn from e i a ltell.Seeded) run is e i below ∙ rw (eq-eqb e e refl, eq-eqb i i refl) refl in
        record {
          there = subst (λ n. i < n) (sym (logs_stay laws c h (LogTurn from e i a ltell.Seeded) run is e i below)) below;
          seeded = ap (λ (x : LogState). is_some x.seed) after ∙ (let told = laws.log_answers l a ltell.Seeded (sym is.2) in some_seed (left_seed (next_of l a).popped) (next_of l a).seed (left_seed (next_of l a).popped told.seed) told.after);
        }

-- ---- marks

-- the state of an open epoch stays
state_stays : Laws → (c : Config) (h : List Turn) (t : Turn) → IsRun c h → IsTurn c h t → (e : ℕ) → is_open c h e ≡ true → state_of c (t ∷ h) e ≡ state_of c h e
state_stays laws c h t run is e op = (let g = open_generation laws c h run e op in (state_lasts laws c h t run is e g.generation g.is).1)

mark_later : Laws → (c : Config) (h : List Turn) (t : Turn) → IsRun c h → IsTurn c h t → (e : ℕ) (o : Option CoordinatedState) → IfSome o (IsMarkOf c h e) → IfSome o (IsMarkOf c (t ∷ h) e)
mark_later laws c h t run is e None k = tt
mark_later laws c h t run is e (Some x) k = record { opened = open_stays laws c h t run is e k.opened; state = k.state ∙ sym (state_stays laws c h t run is e k.opened) }

-- the mark of a push that was sent is the state of its epoch
sent_mark : Laws → (c : Config) (h : List Turn) → IsRun c h → (from : NodeId) (e i : ℕ) (q : PushContent) → Sent h from (node.Log e i) (ask.Log (Push q)) → IfSome q.mark (IsMarkOf c h e)
sent_mark laws c h run from e i q s = go from (sent_is_accounted laws c h run from (node.Log e i) (ask.Log (Push q)) s)
  where
    go : (from : NodeId) → SenderAccounts c h from (node.Log e i) (ask.Log (Push q)) → IfSome q.mark (IsMarkOf c h e)
    go (node.Cell j) k = absurd k
    go (node.Log x j) k = absurd k
    go (node.Sequencer x) k = absurd k
    go (node.Proxy x p) (op, (own, (l, unmarked))) = subst (λ o. IfSome o (IsMarkOf c h e)) (sym unmarked) tt
    go (node.Recoverer b) (r, at, (own, chosen, copied, (p, planned, l, is))) =
        let rec = rec_is laws c h run b r at in
        let e' : e ≡ b = own ∙ rec.ballot in
        let opened : is_open c h b ≡ true = or_right (b == first_epoch) (is_open_in (rec_at c h b)) (ap is_open_in at ∙ ap is_chosen_phase chosen) in
        let mark : IsMarkOf c h b p.state = record { opened = opened; state = pick (b == first_epoch) refl rec.other (ap plan_in at ∙ planned) } in
        subst (λ y. IfSome q.mark (IsMarkOf c h y)) (sym e') (subst (λ (y : PushContent). IfSome y.mark (IsMarkOf c h b)) (sym is) mark)
      where
        pick : (s : Bool) → (b == first_epoch) ≡ s → (b ≡ first_epoch → ⊥) → plan_at c h b ≡ Some p → p.state ≡ cond s (first_state c) (state_in c (plan_at c h b))
        pick true k other m = absurd (other (eqb-true b first_epoch k))
        pick false k other m = sym (ap (state_in c) m)
    go (node.Storage t) k = absurd k

abbrev AreMarked : Config → List Turn → ℕ → LogState → Type 0
AreMarked c h e l = All (λ (q : PushContent). IfSome q.mark (IsMarkOf c h e)) l.pushes

asked : Laws → (c : Config) (h : List Turn) → IsRun c h → (e i : ℕ) (l : LogState) → AreMarked c h e l → (from : NodeId) (a : LogAsk) → Sent h from (node.Log e i) (ask.Log a) ⊎ StorageMayAsk c h from a → AreMarked c h e (next_of l a)
asked laws c h run e i l k from a came =
    log_change (AreMarked c h e) l a k (λ s at none. k) (λ q at took. All-push (λ (q : PushContent). IfSome q.mark (IsMarkOf c h e)) l.pushes q k (push q at came)) k (λ ps. k)
  where
    push : (q : PushContent) → a ≡ Push q → Sent h from (node.Log e i) (ask.Log a) ⊎ StorageMayAsk c h from a → IfSome q.mark (IsMarkOf c h e)
    push q at (inl sent) = sent_mark laws c h run from e i q (subst (λ x. Sent h from (node.Log e i) (ask.Log x)) at sent)
    push q at (inr may) = absurd (no_push c h from q (subst (StorageMayAsk c h from) at may))

made : (c : Config) (h : List Turn) (e i : ℕ) (o : Option Plan) → AreMarked c h e (new_log_in o e i)
made c h e i None = All-nil (λ (q : PushContent). IfSome q.mark (IsMarkOf c h e))
made c h e i (Some p) = All-nil (λ (q : PushContent). IfSome q.mark (IsMarkOf c h e))

rule : Laws → (c : Config) → IsLogRule c (λ h e i l. AreMarked c h e l)
rule laws c = record {
  starts = λ i. All-push (λ (q : PushContent). IfSome q.mark (IsMarkOf c [] first_epoch)) [] (first_mark c) (All-nil (λ (q : PushContent). IfSome q.mark (IsMarkOf c [] first_epoch))) (record { opened = refl; state = refl });
  made = λ h run e i o at other l. made c h e i o;
  lasts = λ h t run is e i below l k. All-weaker (λ (q : PushContent). IfSome q.mark (IsMarkOf c h e)) (λ (q : PushContent). IfSome q.mark (IsMarkOf c (t ∷ h) e)) (λ q j. mark_later laws c h t run is e q.mark j) l.pushes k;
  takes = λ h run e i below k from a came. asked laws c h run e i (log_at c h e i) k from a came;
}

pub logs_are_marked : Laws → (c : Config) (h : List Turn) → IsRun c h → (e i : ℕ) → i < logs_at c h e → AreMarked c h e (log_at c h e i)
logs_are_marked laws c = log_holds laws c (λ h e i l. AreMarked c h e l) (rule laws c)

-- what is true of each mark is true of the first
among : (P : CoordinatedState → Type 0) (ps : List PushContent) (x : CoordinatedState) → mark_among ps ≡ Some x → All (λ (q : PushContent). IfSome q.mark P) ps → P x
among P [] x e all = absurd (cc)
among P (p ∷ ps) x e all = subst (λ o. IfSome o P) e (All-head (λ (q : PushContent). IfSome q.mark P) p ps all)

pub marked_is_state : Laws → (c : Config) (h : List Turn) → IsRun c h → (e i : ℕ) (to : NodeId) (x : CoordinatedState) → Told h (node.Log e i) to (tell.Log (mark_answer (Some x))) → IsMarkOf c h e x
marked_is_state laws c h run e i to x =
    told_holds c (λ h. IsMarkOf c h e x) e i to (mark_answer (Some x)) (λ h t run is k. mark_later laws c h t run is e (Some x) k) now h run
  where
    now : (h : List Turn) (from : NodeId) (a : LogAsk) → IsRun c h → IsTurn c h (LogTurn from e i a (mark_answer (Some x))) → IsMarkOf c (LogTurn from e i a (mark_answer (Some x)) ∷ h) e x
    now h from a run is =
        let below : i < logs_at c h e = ltb-true i (logs_at c h e) is.0.there in
        mark_later laws c h (LogTurn from e i a (mark_answer (Some x))) run is e (Some x) (among (IsMarkOf c h e) (log_at c h e i).pushes x (laws.log_answers (log_at c h e i) a (mark_answer (Some x)) (sym is.2)).mark (logs_are_marked laws c h run e i below))
