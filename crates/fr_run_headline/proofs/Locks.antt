-- What a log told at a lock is so for good.
use Rattle.std.proofs.Common.{◌≡◌, ℕ, ◌<◌, Bool, true, false, cond, nat_lt, ◌&&◌, not, List, [], ◌∷◌, ◌++◌, Option, None, Some, inl, inr, refl, sym, ◌∙◌, ap, subst}
use Rattle.std.specs.List.{All}
use Rattle.std.specs.Prelude.{IfSome, IsTrue, is_some}
use Rattle.std.proofs.lemmas.Bool.{eq-eqb, ltb-true}
use Rattle.std.proofs.lemmas.List.Elements.{All-nil, All-push, All-weaker}
use Rattle.fr_base.specs.declared.place.NodeId.{NodeId}
use Rattle.fr_base.specs.declared.place.NodeId.TheVariants as node
use Rattle.fr_log.specs.declared.ask.LogAsk.{LogAsk}
use Rattle.fr_log.specs.declared.ask.LogAsk.TheVariants.{Lock}
use Rattle.fr_log.specs.declared.ask.LogTell.{LogTell}
use Rattle.fr_log.specs.declared.popped.PoppedTag.{PoppedTag}
use Rattle.fr_log.specs.declared.ask.LogTell.TheVariants as ltell
use Rattle.fr_log.specs.LogState.{LogState, durable_of, known_of}
use Rattle.fr_log.specs.Step.{answer_of, next_of}
use Rattle.fr_ask.specs.declared.tell.Tell.{Tell}
use Rattle.fr_ask.specs.declared.tell.Tell.TheVariants as tell
use Rattle.fr_epoch.specs.declared.reply.Reply.{Reply}
use Rattle.fr_epoch.specs.EndTally.{EndState, with_reply, has_replied}
use Rattle.fr_epoch.specs.Recoverer.{RecState, Parent}
use Rattle.fr_epoch.specs.Hear as rec
use Rattle.fr_epoch.specs.Words.{OfLog, word_of}
use Rattle.fr_epoch.specs.Change.{replied, IsReplied, Change, Stands, LosesReads, Reads, Finds, Locks, LosesLocks, Plans, Copies, Seeds, SeedsAll, Writes, LosesWrites, Chooses, Marks}
use Rattle.fr_run.specs.Config.{Config}
use Rattle.fr_run.specs.Turn.{Turn, Begun, CellTurn, LogTurn, SeqTurn, Submitted, ProxyHeard, RecHeard, StorageHeard, Gone, Crashed, TellsBy, Told}
use Rattle.fr_run.specs.Nodes.{rec_at, logs_at, log_at}
use Rattle.fr_run.specs.Run.{IsTurn, IsRun}
use Rattle.fr_run.specs.Laws.{Laws}
use Rattle.fr_run_headline.specs.LogLaws.{tally, tally_in, StandsAt, LockedStandsStill, RepliesStandStill}
use Rattle.fr_run.proofs.ByTurn.{rec_by_turn}
use Rattle.fr_run.proofs.Growth.{log_stays, log_grows}
use Rattle.fr_run_headline.proofs.Logs.{logs_stay}

-- ---- logs

-- a log that is stopped stands still
pub stands_later : Laws → (c : Config) (h : List Turn) (t : Turn) → IsRun c h → IsTurn c h t → (e i durable known : ℕ) → StandsAt c h e i durable known → StandsAt c (t ∷ h) e i durable known
stands_later laws c h t run is e i durable known k =
    let g = log_grows laws c h t run is e i k.there in
    let still = g.still k.seeded k.stopped in
    record {
      there = subst (λ n. i < n) (sym (logs_stay laws c h t run is e i k.there)) k.there;
      seeded = ap is_some (g.seed k.seeded) ∙ k.seeded;
      stopped = g.stopped k.stopped;
      durable_is = still.durable ∙ k.durable_is;
      known_is = still.known ∙ k.known_is;
    }

-- a log that is locked now stands still from now on
locked_now : Laws → (c : Config) (h : List Turn) (from : NodeId) (e i : ℕ) (a : LogAsk) (t : LogTell) → IsRun c h → IsTurn c h (LogTurn from e i a t) → (durable known : ℕ) (popped : List PoppedTag) → t ≡ ltell.Locked durable known popped
    → StandsAt c (LogTurn from e i a t ∷ h) e i durable known
locked_now laws c h from e i a t run is durable known popped says =
    let l = log_at c h e i in
    let below = ltb-true i (logs_at c h e) is.0.there in
    let ask = (laws.log_answers l a (ltell.Locked durable known popped) (sym is.2 ∙ says)).ask in
    let lock : answer_of l (Lock l.epoch) ≡ ltell.Locked durable known popped = subst (λ x. answer_of l x ≡ ltell.Locked durable known popped) ask (sym is.2 ∙ says) in
    let told = laws.locked_stopped l l.epoch durable known popped lock in
    let still = laws.nothing_raises l (Lock l.epoch) told.3 refl in
    let now : log_at c (LogTurn from e i a t ∷ h) e i ≡ next_of l (Lock l.epoch) =
    log_stays laws c h (LogTurn from e i a t) run is e i below ∙ (rw (eq-eqb e e refl, eq-eqb i i refl) (ap (next_of l) ask)) in
    let g = log_grows laws c h (LogTurn from e i a t) run is e i below in
    record {
      there = subst (λ n. i < n) (sym (logs_stay laws c h (LogTurn from e i a t) run is e i below)) below;
      seeded = ap is_some (g.seed told.3) ∙ told.3;
      stopped = subst (λ (x : LogState). IsTrue x.stopped) (sym now) told.4;
      durable_is = ap durable_of now ∙ (still.durable ∙ sym told.0);
      known_is = ap known_of now ∙ (still.known ∙ sym told.1);
    }

pub locked_stands_still : Laws → LockedStandsStill
locked_stands_still laws c [] run e i to durable known popped k = absurd k
locked_stands_still laws c (t ∷ h) run e i to durable known popped (inr k) = stands_later laws c h t run.1 run.0 e i durable known (locked_stands_still laws c h run.1 e i to durable known popped k)
locked_stands_still laws c (t ∷ h) run e i to durable known popped (inl k) = now t run.0 k
  where
    now : (t : Turn) → IsTurn c h t → TellsBy t (node.Log e i) to (tell.Log (ltell.Locked durable known popped)) → StandsAt c (t ∷ h) e i durable known
    now (Begun b shape asks) is k = absurd k
    now (CellTurn from j a u) is (at, own, says) = let d : node.Cell j ≡ node.Log e i = at in absurd (cc)
    now (LogTurn from x j a u) is (at, own, says) =
        let d : x ≡ e = cc in
        let f : j ≡ i = cc in
        let v : u ≡ ltell.Locked durable known popped = cc in
        subst (λ y. StandsAt c (LogTurn from x j a u ∷ h) e y durable known) f (subst (λ y. StandsAt c (LogTurn from x j a u ∷ h) y j durable known) d (locked_now laws c h from x j a u run.1 is durable known popped v))
    now (SeqTurn from x a u) is (at, own, says) = let d : node.Sequencer x ≡ node.Log e i = at in absurd (cc)
    now (Submitted x p step batch asks) is k = absurd k
    now (ProxyHeard x p from u outcome asks) is k = absurd k
    now (RecHeard b from u asks) is k = absurd k
    now (StorageHeard tag from u taken fault) is k = absurd k
    now (Gone who) is k = absurd k
    now (Crashed who) is k = absurd k

-- ---- replies

-- each reply that was heard is so for good
abbrev pub AllStand : Config → List Turn → RecState → Type 0
AllStand c h r = (p : Parent) → r.parent ≡ Some p → All (λ x. StandsAt c h p.last.epoch x.log x.durable x.known) (tally r).replies

-- a word of a log is a tell that the log gave
pub record IsLogWord (from : NodeId) (t : Tell) (e i : ℕ) (told : LogTell) : Type 0 where
  pub sender : from ≡ node.Log e i
  pub said : t ≡ tell.Log told

pub of_log : (from : NodeId) (t : Tell) (e i : ℕ) (told : LogTell) → word_of from t ≡ OfLog e i told → IsLogWord from t e i told
of_log (node.Cell j) (tell.Cell u) e i told k = absurd (cc)
of_log (node.Cell j) (tell.Log u) e i told k = absurd (cc)
of_log (node.Cell j) (tell.Seq u) e i told k = absurd (cc)
of_log (node.Log x j) (tell.Cell u) e i told k = absurd (cc)
of_log (node.Log x j) (tell.Log u) e i told k = let a : x ≡ e = cc in let b : j ≡ i = cc in let d : u ≡ told = cc in record { sender = ap (λ y. node.Log y j) a ∙ ap (node.Log e) b; said = ap tell.Log d }
of_log (node.Log x j) (tell.Seq u) e i told k = absurd (cc)
of_log (node.Sequencer x) t e i told k = absurd (cc)
of_log (node.Proxy x p) t e i told k = absurd (cc)
of_log (node.Recoverer b) t e i told k = absurd (cc)
of_log (node.Storage tag) t e i told k = absurd (cc)

-- one more reply
one_more : (P : Reply → Type 0) (s : EndState) (x : Reply) → All P s.replies → P x → All P (with_reply s x).replies
one_more P s x all new = go (nat_lt x.log s.m && not (has_replied s x.log))
  where
    go : (b : Bool) → All P (cond b (record s { replies = s.replies ++ x ∷ [] }) s).replies
    go true = All-push P s.replies x all new
    go false = all

pub has_replied_too : Laws → (c : Config) (h : List Turn) → IsRun c h → (b : ℕ) (from : NodeId) (t : Tell) → Told h from (node.Recoverer b) t → (r : RecState) → AllStand c h r → (p : Parent) (end : EndState) (i durable known : ℕ) (popped : List PoppedTag) → IsReplied r (word_of from t) p end i durable known popped
    → (q : Parent) → r.parent ≡ Some q → All (λ x. StandsAt c h q.last.epoch x.log x.durable x.known) (replied end i durable known).replies
has_replied_too laws c h run b from t told r k p end i durable known popped is q e =
    let says = is.word in
    let w = of_log from t p.last.epoch i (ltell.Locked durable known popped) says in
    let heard : Told h (node.Log p.last.epoch i) (node.Recoverer b) (tell.Log (ltell.Locked durable known popped)) =
    subst (λ x. Told h (node.Log p.last.epoch i) (node.Recoverer b) x) w.said (subst (λ x. Told h x (node.Recoverer b) t) w.sender told) in
    let stands = locked_stands_still laws c h run p.last.epoch i (node.Recoverer b) durable known popped heard in
    let same : Some p ≡ Some q = sym is.parent ∙ e in
    let before : All (λ x. StandsAt c h q.last.epoch x.log x.durable x.known) end.replies = subst (λ o. All (λ x. StandsAt c h q.last.epoch x.log x.durable x.known) (tally_in o).replies) is.tally (k q e) in
    let d : p ≡ q = cc in
    one_more (λ x. StandsAt c h q.last.epoch x.log x.durable x.known) end (record { log = i; durable = durable; known = known }) before (subst (λ (y : Parent). StandsAt c h y.last.epoch i durable known) d stands)

change : Laws → (c : Config) (h : List Turn) → IsRun c h → (b : ℕ) (from : NodeId) (t : Tell) → Told h from (node.Recoverer b) t → (r : RecState) → rec_at c h b ≡ Some r → AllStand c h r → (n : RecState) → Change r (word_of from t) n → AllStand c h n
change laws c h run b from t told r at k n Stands = k
change laws c h run b from t told r at k n (LosesReads i u why is) = k
change laws c h run b from t told r at k n (Reads i u is) = k
change laws c h run b from t told r at k n (Finds i u s g heard is) = λ p e. All-nil (λ x. StandsAt c h p.last.epoch x.log x.durable x.known)
change laws c h run b from t told r at k n (Locks p end i durable known popped is) = has_replied_too laws c h run b from t told r k p end i durable known popped is
change laws c h run b from t told r at k n (LosesLocks p end i durable known popped why is) = has_replied_too laws c h run b from t told r k p end i durable known popped is
change laws c h run b from t told r at k n (Plans p end i durable known popped s heard is) = has_replied_too laws c h run b from t told r k p end i durable known popped heard
change laws c h run b from t told r at k n (Copies parent p i peeked is) = k
change laws c h run b from t told r at k n (Seeds p i is w) = k
change laws c h run b from t told r at k n (SeedsAll p i is w) = k
change laws c h run b from t told r at k n (Writes i u is) = k
change laws c h run b from t told r at k n (LosesWrites i u why is) = k
change laws c h run b from t told r at k n (Chooses i u is m) = k
change laws c h run b from t told r at k n (Marks p i is) = k

later : Laws → (c : Config) (h : List Turn) (t : Turn) → IsRun c h → IsTurn c h t → (o : Option RecState) → IfSome o (AllStand c h) → IfSome o (AllStand c (t ∷ h))
later laws c h t run is None k = tt
later laws c h t run is (Some r) k = λ p e. All-weaker (λ x. StandsAt c h p.last.epoch x.log x.durable x.known) (λ x. StandsAt c (t ∷ h) p.last.epoch x.log x.durable x.known)
    (λ x s. stands_later laws c h t run is p.last.epoch x.log x.durable x.known s) (tally r).replies (k p e)

pub all_stand : Laws → (c : Config) (h : List Turn) → IsRun c h → (b : ℕ) → IfSome (rec_at c h b) (AllStand c h)
all_stand laws c [] run b = tt
all_stand laws c (t ∷ h) run b =
    rec_by_turn c h t run.0 b (λ o. IfSome o (AllStand c (t ∷ h))) (later laws c h t run.1 run.0 (rec_at c h b) (all_stand laws c h run.1 b)) (λ shape none may is p e. absurd (cc)) (λ r from u at told.
    later laws c h t run.1 run.0 (Some (rec.after_hear r from u)) (change laws c h run.1 b from u told r at (subst (λ o. IfSome o (AllStand c h)) at (all_stand laws c h run.1 b)) (rec.after_hear r from u) (laws.rec_change r from u)))

pub replies_stand_still : Laws → RepliesStandStill
replies_stand_still laws c h run b r p at e = (let k : AllStand c h r = subst (λ o. IfSome o (AllStand c h)) at (all_stand laws c h run b) in k p e)
