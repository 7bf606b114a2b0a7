-- A recovery that is chosen is the latest, no log of it is locked or lost, so it comes to serve.
use Rattle.std.proofs.Common.{◌≡◌, ℕ, drop, ◌<◌, ◌≤◌, Bool, true, false, cond, nat_lt, ◌==◌, ◌||◌, map, filter, List, [], ◌∷◌, length, Option, None, Some, inl, inr, ◌⊎◌, refl, sym, ◌∙◌, ap, subst, arith}
use Rattle.std.specs.Prelude.{is_some}
use Rattle.std.specs.List.{Contains, All, range_with_len}
use Rattle.std.specs.Option.{option_map}
use Rattle.std.proofs.lemmas.Bool.{eq-eqb, lt-ltb, or_right, true≢false}
use Rattle.std.proofs.lemmas.List.Elements.{All-nil, All-cons, All-append, All-drop, All-weaker}
use Rattle.fr_base.specs.declared.place.NodeId.{NodeId}
use Rattle.fr_base.specs.declared.place.NodeId.TheVariants as node
use Rattle.fr_register.specs.Chosen.{IsMajority}
use Rattle.fr_register.specs.History.{promise_turn, written_turn}
use Rattle.fr_register.specs.Poll.{Stamped}
use Rattle.fr_register.specs.Tally.{is_heard}
use Rattle.fr_register.specs.declared.ask.CellAsk.TheVariants.{Read, Write}
use Rattle.fr_register.proofs.Majorities.{shared}
use Rattle.fr_state.specs.Generations.{CoordinatedState, IsCoordinatedState}
use Rattle.fr_state.specs.Reading.{reading}
use Rattle.fr_state.specs.Spelling.{spelling}
use Rattle.fr_tags.specs.Placement.{is_held, log_count, is_among}
use Rattle.fr_log.specs.declared.ask.LogAsk.{LogAsk}
use Rattle.fr_log.specs.declared.ask.LogAsk.TheVariants.{Seed, Push, Lock, Peek}
use Rattle.fr_log.specs.declared.ask.LogTell.{LogTell}
use Rattle.fr_log.specs.declared.ask.LogTell.TheVariants as ltell
use Rattle.fr_log.specs.Change.{LogChange, Stands, Seeds, Holds, Stops, Pops}
use Rattle.fr_log.specs.Law.{AskIsChange}
use Rattle.fr_log.specs.LogState.{LogState}
use Rattle.fr_log.specs.Step.{next_of}
use Rattle.fr_ask.specs.declared.ask.Ask.{Ask}
use Rattle.fr_ask.specs.declared.ask.Ask.TheVariants as ask
use Rattle.fr_ask.specs.declared.tell.Tell.{Tell}
use Rattle.fr_tail.specs.Tail.{part_at, seed_for}
use Rattle.fr_epoch.specs.EndTally.{EndState, has_replied}
use Rattle.fr_epoch.specs.Recoverer.{RecState, Phase, Parent, Plan, Reading, Locking, Copying, Writing, Chosen, Lost, new_recoverer, is_copied, is_written_in, mark_of}
use Rattle.fr_epoch.specs.Words.{Word, OfCell, OfLog, Other, is_in, word_of}
use Rattle.fr_epoch.specs.Hear.{after_hear}
use Rattle.fr_epoch.specs.Asks.{left, locks_of, peeks_of_tag, peeks_of, seeds_of, writes_of, marks_of, pending_in, pending, has_moved, reached_in, next_peeks, peeks_in, new_asks}
use Rattle.fr_run.specs.Config.{Config, first_epoch}
use Rattle.fr_run.specs.Turn.{Turn, Begun, CellTurn, LogTurn, SeqTurn, Submitted, ProxyHeard, RecHeard, StorageHeard, Gone, Crashed, Sent, actor_of, asks_of, cell_turns}
use Rattle.fr_run.specs.Nodes.{cell_at, rec_at, is_chosen_phase, is_open_in, is_open, logs_at, log_at, new_log_in}
use Rattle.fr_run.specs.Run.{IsUp, IsTurn, MayBegin, IsRun, StorageMayAsk}
use Rattle.fr_run.specs.AskLaws.{SenderAccounts, SentIsAccounted}
use Rattle.fr_run.specs.CellLaws.{CellsAreOrdered}
use Rattle.fr_run.specs.ChosenLaws.{FirstIsLeast, OpenIsChosen}
use Rattle.fr_run.specs.Laws.{Laws}
use Rattle.fr_run.specs.LineLaws.{ParentIsPlanned}
use Rattle.fr_run.specs.ParentLaws.{ParentIsGreatest, ParentIsRead, parent_at}
use Rattle.fr_run.specs.StateLaws.{IsConfig, RecoverersHaveStates, IsLeftAndMore}
use Rattle.fr_run.specs.States.{pair_of, IsChosenEpoch, IsLatest}
use Rattle.fr_run.proofs.Cells.{Contains-none}
use Rattle.fr_run.proofs.Chosen.{state_planned}
use Rattle.fr_run.proofs.Growth.{rec_is, rec_grows}
use Rattle.fr_run.proofs.States.{last_is}
use Rattle.fr_run_headline.specs.Retrievable.{lost_logs, AreFewLost}
use Rattle.fr_run_headline.specs.SeededLaws.{IsSeededEpoch, WritingIsSeeded}
use Rattle.fr_run_headline.proofs.LogRule.{log_holds}
use Rattle.fr_run_outcomes.specs.Locking.{IsFewLost}
use Rattle.fr_run_outcomes.specs.Recovering.{RecoversOn, RecoveryEnds}
use Rattle.fr_run_outcomes.specs.Pulling.{AllPullOn, ChosenIsServed}
use Rattle.fr_run_outcomes.specs.Returning.{HasEachLeft, LowIsUnlocked, ServesOn, ServiceReturns, ServiceReturnsOrIsFull}
use Rattle.fr_run_outcomes.proofs.Lists.{map_from, flat_from}
use Rattle.fr_run_outcomes.proofs.Counts.{count_by-range, count_short}
use Rattle.fr_run_outcomes.proofs.Going.{goes_further, still_up}
use Rattle.fr_run_outcomes.proofs.Lose.{still_lost, none_lost}
use Rattle.fr_run_outcomes.proofs.Left.{left_latest, left_few}
use Rattle.fr_run_outcomes.proofs.Recovering.{no_log_gone, none_there}

-- what holds of the nodes
pub record ReturnRules : Type 0 where
  pub laws : Laws
  pub changes : AskIsChange
  pub accounted : SentIsAccounted
  pub order : CellsAreOrdered
  pub least : FirstIsLeast
  pub opened : OpenIsChosen
  pub greatest : ParentIsGreatest
  pub read : ParentIsRead
  pub planned : ParentIsPlanned
  pub states : RecoverersHaveStates
  pub seeded : WritingIsSeeded
  pub recovers : RecoveryEnds
  pub served : ChosenIsServed

-- ---- the latest

abbrev AreLow : Config → List Turn → ℕ → List ℕ → Type 0
AreLow c h b who = All (λ i. (cell_at c h i).promised ≤ b) who

is_latest : ReturnRules → (c : Config) (h : List Turn) → IsRun c h → (b : ℕ) → IsChosenEpoch c h b → (who : List ℕ) → IsMajority c.cells who → AreLow c h b who → IsLatest c h b
is_latest rules c h run b chosen who majority low = record { chosen = chosen; greatest = λ d k. go d k }
  where
    both : (d : ℕ) → (i : ℕ) × ((cell_at c h i).promised ≤ b) × Contains (cell_turns h) (written_turn i (pair_of c h d)) → d ≤ b
    both d k =
        let cell = rules.order c h run k.0 in
        let took = cell.took (pair_of c h d) k.2 in
        let within = cell.within in
        let le = k.1 in
        omega (arith, took, within, le)

    go : (d : ℕ) → IsChosenEpoch c h d → d ≤ b
    go d (inl start) = (let is : d ≡ first_epoch = ap (λ (p : Stamped). p.ballot) start in let at_least = rules.least c h run b chosen in omega (arith, is, at_least))
    go d (inr w) = both d (shared c.cells (λ i. (cell_at c h i).promised ≤ b) (λ i. Contains (cell_turns h) (written_turn i (pair_of c h d))) who w.who majority w.majority low w.each)

-- ---- locks

-- a recoverer whose parent's last generation is that of an epoch
record EndsEpoch (c : Config) (h : List Turn) (a e : ℕ) : Type 0 where
  recoverer : RecState
  at : rec_at c h a ≡ Some recoverer
  parent : Parent
  is : recoverer.parent ≡ Some parent
  last : parent.last.epoch ≡ e

-- so it is with each one that asks for a lock
abbrev LocksFor : RecState → ℕ → Type 0
LocksFor n e = (p : Parent) × (n.parent ≡ Some p) × (p.last.epoch ≡ e)

abbrev lock_to : ℕ → ℕ → ℕ → NodeId × Ask
lock_to e i x = (node.Log e i, ask.Log (Lock x))

not_a_cell : (f : ℕ → Ask) (xs : List ℕ) (e i x : ℕ) → Contains (map (λ j. (node.Cell j, f j)) xs) (lock_to e i x) → ⊥
not_a_cell f xs e i x k = (let found = map_from (λ j. (node.Cell j, f j)) xs (lock_to e i x) k in let d : node.Cell found.0 ≡ node.Log e i = ap (λ (s : NodeId × Ask). s.0) found.2 in absurd (cc))

-- asks that are no locks
not_a_lock : (to : ℕ → NodeId) (f : ℕ → LogAsk) (xs : List ℕ) (e i x : ℕ) → ((j : ℕ) → f j ≡ Lock x → ⊥) → Contains (map (λ j. (to j, ask.Log (f j))) xs) (lock_to e i x) → ⊥
not_a_lock to f xs e i x never k =
    let found = map_from (λ j. (to j, ask.Log (f j))) xs (lock_to e i x) k in
    let d : ask.Log (f found.0) ≡ ask.Log (Lock x) = ap (λ (s : NodeId × Ask). s.1) found.2 in
    never found.0 cc

no_peek : (n : RecState) (p : Parent) (q : Plan) (tag e i x : ℕ) → Contains (peeks_of_tag n p q tag) (lock_to e i x) → ⊥
no_peek n p q tag e i x k = go (nat_lt (part_at q.tail tag).reached q.tail.rv) k
  where
    go : (b : Bool) → Contains (cond b (map (λ j. (node.Log p.last.epoch j, ask.Log (Peek p.last.epoch tag (part_at q.tail tag).reached 100))) (filter (λ j. is_held tag q.tail.m q.tail.k j) q.tail.responders)) []) (lock_to e i x) → ⊥
    go true k = not_a_lock (λ j. node.Log p.last.epoch j) (λ j. Peek p.last.epoch tag (part_at q.tail tag).reached 100) (filter (λ j. is_held tag q.tail.m q.tail.k j) q.tail.responders) e i x (λ j d. absurd (cc)) k
    go false k = Contains-none k

no_peeks : (n : RecState) (o : Option Parent) (q : Option Plan) (tags : List ℕ) (e i x : ℕ) → Contains (peeks_of n o q tags) (lock_to e i x) → ⊥
no_peeks n None q tags e i x k = Contains-none k
no_peeks n (Some p) None tags e i x k = Contains-none k
no_peeks n (Some p) (Some q) tags e i x k = (let found = flat_from (peeks_of_tag n p q) tags (lock_to e i x) k in no_peek n p q found.0 e i x found.2)

in_phase : (n : RecState) (ph : Phase) (e i x : ℕ) → Contains (pending_in ph n) (lock_to e i x) → LocksFor n e
in_phase n Reading e i x k = absurd (not_a_cell (λ j. ask.Cell (Read n.ballot)) (left n.reads.poll.cells (is_heard n.reads.poll)) e i x k)
in_phase n Locking e i x k = locked n.parent refl n.end k
  where
    locked : (o : Option Parent) → n.parent ≡ o → (end : Option EndState) → Contains (locks_of o end) (lock_to e i x) → LocksFor n e
    locked None is end k = absurd (Contains-none k)
    locked (Some p) is None k = absurd (Contains-none k)
    locked (Some p) is (Some end) k =
        let found = map_from (λ j. (node.Log p.last.epoch j, ask.Log (Lock p.last.epoch))) (left p.last.m (has_replied end)) (lock_to e i x) k in
        let d : node.Log p.last.epoch found.0 ≡ node.Log e i = ap (λ (s : NodeId × Ask). s.0) found.2 in
        (p, is, cc)
in_phase n Copying e i x k = copying (is_copied n) k
  where
    seeds : (o : Option Plan) → Contains (seeds_of n o) (lock_to e i x) → ⊥
    seeds None k = Contains-none k
    seeds (Some p) k = not_a_lock (λ j. node.Log n.ballot j) (λ j. Seed (seed_for p.tail n.ballot p.generation.m p.generation.k j)) (left p.generation.m (is_in n.seeded)) e i x (λ j d. absurd (cc)) k

    copying : (b : Bool) → Contains (cond b (seeds_of n n.plan) (peeks_of n n.parent n.plan (range_with_len 0 (length n.begins)))) (lock_to e i x) → LocksFor n e
    copying true k = absurd (seeds n.plan k)
    copying false k = absurd (no_peeks n n.parent n.plan (range_with_len 0 (length n.begins)) e i x k)
in_phase n Writing e i x k = absurd (writes n.plan k)
  where
    writes : (o : Option Plan) → Contains (writes_of n o) (lock_to e i x) → ⊥
    writes None k = Contains-none k
    writes (Some p) k = not_a_cell (λ j. ask.Cell (Write n.ballot (spelling p.state))) (left n.writes.poll.cells (is_heard n.writes.poll)) e i x k
in_phase n Chosen e i x k = absurd (marks n.plan k)
  where
    marks : (o : Option Plan) → Contains (marks_of n o) (lock_to e i x) → ⊥
    marks None k = Contains-none k
    marks (Some p) k = not_a_lock (λ j. node.Log n.ballot j) (λ j. Push (mark_of p)) (left p.generation.m (is_in n.marked)) e i x (λ j d. absurd (cc)) k
in_phase n (Lost why) e i x k = absurd (Contains-none k)

after_peek : (r n : RecState) (t : LogTell) (e i x : ℕ) → Contains (next_peeks r n t) (lock_to e i x) → ⊥
after_peek r n (ltell.Peeked peeked) e i x k = go (nat_lt (reached_in r.plan peeked.tag) (reached_in n.plan peeked.tag)) k
  where
    go : (b : Bool) → Contains (cond b (peeks_of n n.parent n.plan (peeked.tag ∷ [])) []) (lock_to e i x) → ⊥
    go true k = no_peeks n n.parent n.plan (peeked.tag ∷ []) e i x k
    go false k = Contains-none k
after_peek r n ltell.Seeded e i x k = Contains-none k
after_peek r n (ltell.Held v) e i x k = Contains-none k
after_peek r n (ltell.Locked durable known popped) e i x k = Contains-none k
after_peek r n (ltell.Marked s) e i x k = Contains-none k
after_peek r n (ltell.Popped through) e i x k = Contains-none k
after_peek r n (ltell.Refused why) e i x k = Contains-none k

in_peeks : (ph : Phase) (r n : RecState) (w : Word) (e i x : ℕ) → Contains (peeks_in ph r n w) (lock_to e i x) → ⊥
in_peeks Reading r n w e i x k = Contains-none k
in_peeks Locking r n w e i x k = Contains-none k
in_peeks Copying r n (OfCell j t) e i x k = Contains-none k
in_peeks Copying r n (OfLog y j t) e i x k = after_peek r n t e i x k
in_peeks Copying r n Other e i x k = Contains-none k
in_peeks Writing r n w e i x k = Contains-none k
in_peeks Chosen r n w e i x k = Contains-none k
in_peeks (Lost why) r n w e i x k = Contains-none k

new_lock : (r : RecState) (from : NodeId) (t : Tell) (e i x : ℕ) → Contains (new_asks r from t) (lock_to e i x) → LocksFor (after_hear r from t) e
new_lock r from t e i x k = go (has_moved r (after_hear r from t)) k
  where
    go : (b : Bool) → Contains (cond b (pending (after_hear r from t)) (peeks_in r.phase r (after_hear r from t) (word_of from t))) (lock_to e i x) → LocksFor (after_hear r from t) e
    go true k = in_phase (after_hear r from t) (after_hear r from t).phase e i x k
    go false k = absurd (in_peeks r.phase r (after_hear r from t) (word_of from t) e i x k)

lock_ends : Laws → (c : Config) (h : List Turn) → IsRun c h → (a e i x : ℕ) → Sent h (node.Recoverer a) (node.Log e i) (ask.Log (Lock x)) → EndsEpoch c h a e
lock_ends laws c [] run a e i x s = absurd s
lock_ends laws c (t ∷ h) run a e i x (inr s) =
    let k = lock_ends laws c h run.1 a e i x s in
    let g = rec_grows laws c h t run.1 run.0 a k.recoverer k.at in
    record { recoverer = g.later; at = g.is; parent = k.parent; is = g.grows.parent (ap is_some k.is) ∙ k.is; last = k.last }
lock_ends laws c (t ∷ h) run a e i x (inl (by, k)) = now t run.0 by k
  where
    now : (t : Turn) → IsTurn c h t → actor_of t ≡ node.Recoverer a → Contains (asks_of t) (lock_to e i x) → EndsEpoch c (t ∷ h) a e
    now (Begun b shape sends) is by k = (let l = in_phase (new_recoverer b c.cells c.begins shape) Reading e i x (subst (λ xs. Contains xs (lock_to e i x)) is.3 k) in let d : None ≡ Some l.0 = l.1 in absurd (cc))
    now (CellTurn from j y u) is by k = absurd (Contains-none k)
    now (LogTurn from y j z u) is by k = absurd (Contains-none k)
    now (SeqTurn from y z u) is by k = absurd (Contains-none k)
    now (Submitted y p step batch sends) is by k = (let d : node.Proxy y p ≡ node.Recoverer a = by in absurd (cc))
    now (ProxyHeard y p from u outcome sends) is by k = (let d : node.Proxy y p ≡ node.Recoverer a = by in absurd (cc))
    now (RecHeard b from u sends) is by k =
        let d : node.Recoverer b ≡ node.Recoverer a = by in
        let same : b ≡ a = cc in
        let l = new_lock is.1.0 from u e i x (subst (λ xs. Contains xs (lock_to e i x)) is.1.2 k) in
        let there : rec_at c (RecHeard b from u sends ∷ h) b ≡ Some (after_hear is.1.0 from u) = rw (eq-eqb b b refl) (ap (λ o. option_map (λ s. after_hear s from u) o) is.1.1) in
        record { recoverer = after_hear is.1.0 from u; at = ap (rec_at c (RecHeard b from u sends ∷ h)) (sym same) ∙ there; parent = l.0; is = l.1; last = l.2 }
    now (StorageHeard tag from u taken fault) is by k = absurd (Contains-none k)
    now (Gone who) is by k = absurd (Contains-none k)
    now (Crashed who) is by k = absurd (Contains-none k)

-- ---- who locked a log

stop_change : (l : LogState) (a : LogAsk) (n : LogState) → LogChange l a n → n.stopped ≡ true → (l.stopped ≡ true) ⊎ (a ≡ Lock l.epoch)
stop_change l a n Stands k = inl k
stop_change l a n (Seeds s at is) k = inl k
stop_change l a n (Holds p at is) k = inl k
stop_change l a n (Stops at some) k = inr at
stop_change l a n (Pops tag through at is) k = inl k

abbrev StoppedBy : List Turn → ℕ → ℕ → LogState → Type 0
StoppedBy h e i l = l.stopped ≡ true → (a : ℕ) × (x : ℕ) × Sent h (node.Recoverer a) (node.Log e i) (ask.Log (Lock x))

lock_sender : (c : Config) (h : List Turn) (from : NodeId) (e i x : ℕ) → SenderAccounts c h from (node.Log e i) (ask.Log (Lock x)) → (a : ℕ) × (from ≡ node.Recoverer a)
lock_sender c h (node.Cell j) e i x k = absurd k
lock_sender c h (node.Log y j) e i x k = absurd k
lock_sender c h (node.Sequencer y) e i x k = absurd k
lock_sender c h (node.Proxy y p) e i x k = absurd k.1.1
lock_sender c h (node.Recoverer a) e i x k = (a, refl)
lock_sender c h (node.Storage t) e i x k = absurd k

no_server : (c : Config) (h : List Turn) (from : NodeId) (x : ℕ) → StorageMayAsk c h from (Lock x) → ⊥
no_server c h (node.Cell j) x k = k
no_server c h (node.Log y j) x k = k
no_server c h (node.Sequencer y) x k = k
no_server c h (node.Proxy y p) x k = k
no_server c h (node.Recoverer a) x k = k
no_server c h (node.Storage t) x k = k

stop_made : (h : List Turn) (e i : ℕ) (o : Option Plan) → StoppedBy h e i (new_log_in o e i)
stop_made h e i None k = absurd (true≢false (sym k))
stop_made h e i (Some p) k = absurd (true≢false (sym k))

stop_takes : ReturnRules → (c : Config) (h : List Turn) → IsRun c h → (e i : ℕ) (l : LogState) → StoppedBy h e i l → (from : NodeId) (a : LogAsk) → Sent h from (node.Log e i) (ask.Log a) ⊎ StorageMayAsk c h from a → StoppedBy h e i (next_of l a)
stop_takes rules c h run e i l k from a came s = elim (stop_change l a (next_of l a) (rules.changes l a) s) [ inl before ↦ k before | inr lock ↦ by lock came ]
  where
    by : a ≡ Lock l.epoch → Sent h from (node.Log e i) (ask.Log a) ⊎ StorageMayAsk c h from a → (b : ℕ) × (x : ℕ) × Sent h (node.Recoverer b) (node.Log e i) (ask.Log (Lock x))
    by lock (inl sent) =
        let own : Sent h from (node.Log e i) (ask.Log (Lock l.epoch)) = subst (λ y. Sent h from (node.Log e i) (ask.Log y)) lock sent in
        let who = lock_sender c h from e i l.epoch (rules.accounted c h run from (node.Log e i) (ask.Log (Lock l.epoch)) own) in
        (who.0, l.epoch, subst (λ y. Sent h y (node.Log e i) (ask.Log (Lock l.epoch))) who.1 own)
    by lock (inr may) = absurd (no_server c h from l.epoch (subst (StorageMayAsk c h from) lock may))

stopped_by : ReturnRules → (c : Config) (h : List Turn) → IsRun c h → (e i : ℕ) → i < logs_at c h e → StoppedBy h e i (log_at c h e i)
stopped_by rules c = log_holds rules.laws c (λ h e i l. StoppedBy h e i l) (record {
  starts = λ i k. absurd (true≢false (sym k));
  made = λ h run e i o at other below. stop_made h e i o;
  lasts = λ h t run is e i below l k s. (let m = k s in (m.0, m.1, inr m.2));
  takes = λ h run e i below k from a came. stop_takes rules c h run e i (log_at c h e i) k from a came;
})

-- while no cell of a majority promised more than a ballot, no log of its epoch is locked
pub unlocked : ReturnRules → LowIsUnlocked
unlocked rules c h config run b r at who majority low i there = go (log_at c h b i).stopped refl
  where
    never : (a : ℕ) × (x : ℕ) × Sent h (node.Recoverer a) (node.Log b i) (ask.Log (Lock x)) → ⊥
    never k = elim (rules.planned c h config run k.0 ends.recoverer ends.parent ends.at ends.is) [
      | inl first ↦ (rec_is rules.laws c h run b r at).other (sym ends.last ∙ first)
      | inr below ↦ (let less = below.below in let last = ends.last in let le = most in omega (arith, less, last, le))
    ]
      where
        ends : EndsEpoch c h k.0 b
        ends = lock_ends rules.laws c h run k.0 b i k.1 k.2

        most : k.0 ≤ b
        most =
            let read = (rules.greatest c h run k.0 ends.recoverer ends.parent ends.at ends.is).read in
            let one = shared c.cells (λ j. (cell_at c h j).promised ≤ b) (λ j. (q : Stamped) × Contains (cell_turns h) (promise_turn j k.0 q) × (q.ballot ≤ (parent_at c h k.0).ballot)) who read.who majority read.majority low read.each in
            let high = (rules.order c h run one.0).promised k.0 one.2.0 one.2.1 in
            let le = one.1 in
            omega (arith, high, le)

    go : (x : Bool) → (log_at c h b i).stopped ≡ x → x ≡ false
    go false e = refl
    go true e = absurd (never (stopped_by rules c h run b i there e))

-- ---- few are lost

few_left : ReturnRules → (c : Config) (h : List Turn) → IsConfig c → IsRun c h → (b first : ℕ) → MayBegin b → rec_at c h b ≡ None → HasEachLeft c h first → (o : RecoversOn c h b first) → (q : Plan) → o.recoverer.plan ≡ Some q → AreFewLost c o.later b
few_left rules c h config run b first may none left o q plan =
    subst (All (IsFewLost o.later)) (ap (λ (s : CoordinatedState). s.gens) (sym (state_planned rules.laws c o.later o.goes_on.is_run b o.recoverer o.at q plan ∙ more.is)))
    (All-append (IsFewLost o.later) (drop more.number states.1.0.state.gens) (q.generation ∷ []) (All-drop (IsFewLost o.later) more.number states.1.0.state.gens before) (All-cons (IsFewLost o.later) q.generation [] own (All-nil (IsFewLost o.later))))
  where
    states : IsCoordinatedState q.state × ((p : Parent) × (o.recoverer.parent ≡ Some p) × IsLeftAndMore p q)
    states = (rules.states c o.later config o.goes_on.is_run b o.recoverer o.at).plan q plan

    more : IsLeftAndMore states.1.0 q
    more = states.1.2

    -- what is left of what was read
    before : All (IsFewLost o.later) states.1.0.state.gens
    before =
        let read = rules.read c o.later o.goes_on.is_run b o.recoverer states.1.0 o.at states.1.1 in
        All-weaker (IsFewLost h) (IsFewLost o.later) (λ g less. subst (λ xs. log_count g.m xs < g.k) (sym (still_lost c b h o.later o.goes_on g.epoch)) less) states.1.0.state.gens
        (left states.1.0.state (ap (λ (s : Stamped). reading s.value) (sym o.found) ∙ read.value))

    -- and the new generation, of which none is
    own : IsFewLost o.later q.generation
    own =
        let rec = rec_is rules.laws c o.later o.goes_on.is_run b o.recoverer o.at in
        let epoch : q.generation.epoch ≡ b = (rec.kept.plan q plan).epoch ∙ rec.ballot in
        let lost : lost_logs o.later q.generation.epoch ≡ [] = ap (lost_logs o.later) epoch ∙ still_lost c b h o.later o.goes_on b ∙ none_lost h b (λ i. no_log_gone rules.laws c h run b i (none_there c h b i may none)) in
        let zero' : log_count q.generation.m (lost_logs o.later q.generation.epoch) ≡ log_count q.generation.m [] = ap (log_count q.generation.m) lost in
        let same = count_by-range (is_among []) q.generation.m in
        let short = count_short [] q.generation.m in
        let some = (rec.kept.generation q plan).k_low in
        omega (arith, zero', same, short, some)

-- ---- service

-- after a recovery
serves_after : ReturnRules → (c : Config) (h : List Turn) → IsConfig c → IsRun c h → (b : ℕ) → rec_at c h b ≡ None → MayBegin b → (first : ℕ) (others : List ℕ) → IsMajority c.cells (first ∷ others) → AreLow c h b (first ∷ others) → HasEachLeft c h first
    → RecoversOn c h b first → ServesOn c h b first
serves_after rules c h config run b none may first others majority low left recovered = by recovered.recoverer.plan refl written
  where
    still_low : AreLow c recovered.later b (first ∷ others)
    still_low = All-weaker (λ i. (cell_at c h i).promised ≤ b) (λ i. (cell_at c recovered.later i).promised ≤ b) recovered.goes_on.low (first ∷ others) low

    written : is_written_in recovered.recoverer.plan recovered.recoverer.seeded ≡ true
    written = (rec_is rules.laws c recovered.later recovered.goes_on.is_run b recovered.recoverer recovered.at).kept.come_by.chosen recovered.chosen

    opened : is_open c recovered.later b ≡ true
    opened = or_right (b == first_epoch) (is_open_in (rec_at c recovered.later b)) (ap is_open_in recovered.at ∙ ap is_chosen_phase recovered.chosen)

    latest : IsLatest c recovered.later b
    latest = is_latest rules c recovered.later recovered.goes_on.is_run b (rules.opened c recovered.later recovered.goes_on.is_run b opened) (first ∷ others) majority still_low

    epoch : IsSeededEpoch c recovered.later b
    epoch = rules.seeded c recovered.later config recovered.goes_on.is_run b recovered.recoverer recovered.at written

    there : 0 < logs_at c recovered.later b
    there = (let logs = epoch.logs in let some = epoch.some in omega (arith, logs, some))

    up : IsUp c recovered.later (node.Log b 0)
    up = record { there = lt-ltb 0 (logs_at c recovered.later b) there; up = still_up c b h recovered.later recovered.goes_on (node.Log b 0) (no_log_gone rules.laws c h run b 0 (none_there c h b 0 may none)) }

    pulled : AreFewLost c recovered.later b → AllPullOn c recovered.later b → ServesOn c h b first
    pulled few k = record {
      later = k.later;
      goes_on = goes_further c b h recovered.later k.later recovered.goes_on k.goes_on;
      recoverer = recovered.recoverer;
      at = k.leaves.recoverers b ∙ recovered.at;
      found = recovered.found;
      chosen = recovered.chosen;
      latest = left_latest c recovered.later k.later k.leaves b latest;
      opened = ap (λ o. (b == first_epoch) || is_open_in o) (k.leaves.recoverers b) ∙ opened;
      few = left_few c recovered.later k.later k.leaves b few;
      each = k.each;
    }

    by : (o : Option Plan) → recovered.recoverer.plan ≡ o → is_written_in o recovered.recoverer.seeded ≡ true → ServesOn c h b first
    by None plan e = absurd (true≢false (sym e))
    by (Some q) plan e = pulled (few_left rules c h config run b first may none left recovered q plan)
        (rules.served c recovered.later config recovered.goes_on.is_run b recovered.recoverer recovered.at recovered.chosen latest (few_left rules c h config run b first may none left recovered q plan) 0 up
        (unlocked rules c recovered.later config recovered.goes_on.is_run b recovered.recoverer recovered.at (first ∷ others) majority still_low 0 there))

pub returns_or_is_full : ReturnRules → ServiceReturnsOrIsFull
returns_or_is_full rules c h config run b shape none may is_shape first others majority low below left =
    elim (rules.recovers c h config run b shape none may is_shape first others majority low below (λ s g read last. last_is (IsFewLost h) s.gens g last (left s read))) [
      | inl recovered ↦ inl (serves_after rules c h config run b none may first others majority low left recovered)
      | inr fills ↦ inr fills
    ]

pub service_returns : ReturnRules → ServiceReturns
service_returns rules c h config run b shape none may is_shape first others majority low below left room = elim (returns_or_is_full rules c h config run b shape none may is_shape first others majority low below left) [
  | inl serves ↦ serves
  | inr fills ↦ absurd (fills.full room)
]
