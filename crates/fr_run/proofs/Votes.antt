-- What the recoverers of a run heard while they wrote: each cell that they count took what they wrote.
use Rattle.std.proofs.Common.{◌≡◌, ℕ, List, [], ◌∷◌, Option, None, Some, refl, sym, ◌∙◌, ap, subst}
use Rattle.std.specs.List.{Contains}
use Rattle.std.specs.Prelude.{IfSome}
use Rattle.fr_base.specs.declared.place.NodeId.{NodeId}
use Rattle.fr_base.specs.declared.place.NodeId.TheVariants as node
use Rattle.fr_register.specs.declared.ask.CellAsk.TheVariants.{Write}
use Rattle.fr_register.specs.declared.ask.CellTell.{CellTell}
use Rattle.fr_register.specs.declared.ask.CellTell.TheVariants.{Written}
use Rattle.fr_register.specs.declared.poll.Progress.TheVariants.{Majority}
use Rattle.fr_register.specs.Cell.{answer_of}
use Rattle.fr_register.specs.Poll.{Stamped, WriteState}
use Rattle.fr_register.specs.Tally.{new_write, hear_write, progress_of}
use Rattle.fr_register.specs.Heard.{Heard}
use Rattle.fr_register.specs.Made.{IsToldToWrite}
use Rattle.fr_register.specs.Faithful.{IsFaithfulWrite}
use Rattle.fr_state.specs.Spelling.{spelling}
use Rattle.fr_ask.specs.declared.ask.Ask.TheVariants as ask
use Rattle.fr_ask.specs.declared.tell.Tell.{Tell}
use Rattle.fr_ask.specs.declared.tell.Tell.TheVariants as tell
use Rattle.fr_tail.specs.Tail.{after_hear as after_peeked}
use Rattle.fr_epoch.specs.Recoverer.{RecState, Phase, Plan, Chosen}
use Rattle.fr_epoch.specs.Hear as rec
use Rattle.fr_epoch.specs.Words.{Word, word_of}
use Rattle.fr_epoch.specs.Change.{IsVoted, Change, Stands, LosesReads, Reads, Finds, Locks, LosesLocks, Plans, Copies, Seeds, SeedsAll, Writes, LosesWrites, Chooses, Marks}
use Rattle.fr_epoch.specs.Law.{AccountsForCell, IsRecoverer}
use Rattle.fr_run.specs.Config.{Config, first_cell}
use Rattle.fr_run.specs.Turn.{Turn, Sent, Told, cell_turns}
use Rattle.fr_run.specs.Nodes.{rec_at}
use Rattle.fr_run.specs.Run.{IsTurn, IsRun}
use Rattle.fr_run.specs.Laws.{Laws}
use Rattle.fr_run.proofs.ByTurn.{rec_by_turn}
use Rattle.fr_run.proofs.Growth.{rec_is}
use Rattle.fr_run.proofs.Accounts.{cell_ask_is_own}
use Rattle.fr_run.proofs.Cells.{cell_did, cells_by_turn, cells_have_history, told_by_cell, answered}
use Rattle.fr_run.proofs.Register.{cell_told, not_written}

-- the pair that a ballot writes by its plan
abbrev pub pair_in : ℕ → Plan → Stamped
pair_in b q = record { ballot = b; value = spelling q.state }

-- what is known of a tally of writes: it heard nothing before there is a plan, then only cells that took the plan's state; and a majority where the state is chosen
pub record HasVotes (c : Config) (h : List Turn) (b : ℕ) (phase : Phase) (plan : Option Plan) (writes : WriteState) : Type 0 where
  pub unplanned : plan ≡ None → writes ≡ new_write c.cells b
  pub planned : (q : Plan) → plan ≡ Some q → IsFaithfulWrite c.cells (cell_turns h) (pair_in b q) writes
  pub majority : phase ≡ Chosen → progress_of writes.poll ≡ Majority

abbrev pub HasHeardVotes : Config → List Turn → ℕ → RecState → Type 0
HasHeardVotes c h b r = HasVotes c h b r.phase r.plan r.writes

-- ---- one tell

-- what a recoverer of a ballot writes is its plan's state
is_planned : (c : Config) (h : List Turn) (b : ℕ) (r : RecState) → rec_at c h b ≡ Some r → (q : Plan) → r.plan ≡ Some q → (s : RecState) → rec_at c h s.ballot ≡ Some s → (x : List ℕ) → AccountsForCell s (Write b x) → x ≡ spelling q.state
is_planned c h b r at q planned s own x (ballot, written, (p, plan, is)) =
    let here : rec_at c h b ≡ Some s = ap (rec_at c h) ballot ∙ own in
    let same : Some s ≡ Some r = sym here ∙ at in
    let d : s ≡ r = cc in
    let plans : Some p ≡ Some q = sym plan ∙ (ap (λ (y : RecState). y.plan) d ∙ planned) in
    let f : p ≡ q = cc in
    is ∙ ap (λ (y : Plan). spelling y.state) f

-- a Written that a cell told to a recoverer answers the write of what the recoverer plans
vote_is_turn : Laws → (c : Config) (h : List Turn) → IsRun c h → (b i : ℕ) (u : CellTell) → Told h (node.Cell i) (node.Recoverer b) (tell.Cell u) → (r : RecState) → rec_at c h b ≡ Some r → (q : Plan) → r.plan ≡ Some q
    → IsToldToWrite (cell_turns h) (pair_in b q) (record { cell = i; tell = u })
vote_is_turn laws c h run b i u told r at q planned says =
    let k = told_by_cell c h run i (node.Recoverer b) (Written b) (subst (λ x. Told h (node.Cell i) (node.Recoverer b) (tell.Cell x)) says told) in
    let a = answered (first_cell c) (cell_turns h) (cells_have_history c h run) (cell_did i k.asked (Written b)) k.turn in
    let answer : answer_of a.state k.asked ≡ Written b = sym a.answer in
    let w = laws.written_answers a.state k.asked b answer in
    let sent : Sent h (node.Recoverer b) (node.Cell i) (ask.Cell (Write b w.value)) = subst (λ x. Sent h (node.Recoverer b) (node.Cell i) (ask.Cell x)) w.ask k.sent in
    let own = cell_ask_is_own laws c h run (node.Recoverer b) (node.Cell i) (Write b w.value) sent in
    let value = is_planned c h b r at q planned own.recoverer own.at w.value own.accounts in
    subst (λ v. Contains (cell_turns h) (cell_did i (Write b v) (Written b))) value (subst (λ x. Contains (cell_turns h) (cell_did i x (Written b))) w.ask k.turn)

-- one more tell of a cell
one_more : Laws → (c : Config) (h : List Turn) → IsRun c h → (b : ℕ) (from : NodeId) (t : Tell) → Told h from (node.Recoverer b) t → (r : RecState) → rec_at c h b ≡ Some r → HasHeardVotes c h b r → (i : ℕ) (u : CellTell)
    → IsVoted r (word_of from t) i u → (q : Plan) → r.plan ≡ Some q → IsFaithfulWrite c.cells (cell_turns h) (pair_in b q) (hear_write r.writes i u)
one_more laws c h run b from t told r at k i u is q e =
    let says = is.word in
    let x : Heard = record { cell = i; tell = u } in
    laws.write_hears c.cells (cell_turns h) (pair_in b q) r.writes x (vote_is_turn laws c h run b i u (cell_told h b from t i u told says) r at q e) (k.planned q e)

-- one that writes has a plan
no_vote : (r : RecState) (w : Word) (i : ℕ) (u : CellTell) → IsRecoverer r → IsVoted r w i u → r.plan ≡ None → ⊥
no_vote r w i u come_by is e = not_written r.plan r.seeded e (come_by.writing is.phase)

change : Laws → (c : Config) (h : List Turn) → IsRun c h → (b : ℕ) (from : NodeId) (t : Tell) → Told h from (node.Recoverer b) t → (r : RecState) → rec_at c h b ≡ Some r → IsRecoverer r → HasHeardVotes c h b r
    → (n : RecState) → Change r (word_of from t) n → HasHeardVotes c h b n
change laws c h run b from t told r at come_by k n Stands = k
change laws c h run b from t told r at come_by k n (LosesReads i u why is) = record { unplanned = k.unplanned; planned = k.planned; majority = λ e. absurd (cc) }
change laws c h run b from t told r at come_by k n (Reads i u is) = k
change laws c h run b from t told r at come_by k n (Finds i u s g heard is) = record { unplanned = k.unplanned; planned = k.planned; majority = λ e. absurd (cc) }
change laws c h run b from t told r at come_by k n (Locks p end i durable known popped is) = k
change laws c h run b from t told r at come_by k n (LosesLocks p end i durable known popped why is) = record { unplanned = k.unplanned; planned = k.planned; majority = λ e. absurd (cc) }
change laws c h run b from t told r at come_by k n (Plans p end i durable known popped s heard is) = record {
  unplanned = λ e. absurd (cc);
  planned = λ q e. subst (IsFaithfulWrite c.cells (cell_turns h) (pair_in b q)) (sym (k.unplanned (come_by.locking heard.phase))) (laws.new_write c.cells (cell_turns h) (pair_in b q));
  majority = λ e. absurd (cc);
}
change laws c h run b from t told r at come_by k n (Copies parent p i peeked is) = record {
  unplanned = λ e. absurd (cc);
  planned = λ q e. (
      let m : Plan = record { state = p.state; generation = p.generation; tail = after_peeked p.tail i peeked.tag peeked } in
      let d : m ≡ q = cc in
      subst (λ (x : Plan). IsFaithfulWrite c.cells (cell_turns h) (pair_in b x) r.writes) d (k.planned p is.plan));
  majority = k.majority;
}
change laws c h run b from t told r at come_by k n (Seeds p i is w) = k
change laws c h run b from t told r at come_by k n (SeedsAll p i is w) = record { unplanned = k.unplanned; planned = k.planned; majority = λ e. absurd (cc) }
change laws c h run b from t told r at come_by k n (Writes i u is) = record {
  unplanned = λ e. absurd (no_vote r (word_of from t) i u come_by is e);
  planned = one_more laws c h run b from t told r at k i u is;
  majority = λ e. (let d = sym is.phase ∙ e in absurd (cc));
}
change laws c h run b from t told r at come_by k n (LosesWrites i u why is) = record {
  unplanned = λ e. absurd (no_vote r (word_of from t) i u come_by is e);
  planned = one_more laws c h run b from t told r at k i u is;
  majority = λ e. absurd (cc);
}
change laws c h run b from t told r at come_by k n (Chooses i u is m) = record {
  unplanned = λ e. absurd (no_vote r (word_of from t) i u come_by is e);
  planned = one_more laws c h run b from t told r at k i u is;
  majority = λ e. m;
}
change laws c h run b from t told r at come_by k n (Marks p i is) = k

-- ---- runs

later : Laws → (c : Config) (h : List Turn) (t : Turn) → IsTurn c h t → (b : ℕ) (o : Option RecState) → IfSome o (HasHeardVotes c h b) → IfSome o (HasHeardVotes c (t ∷ h) b)
later laws c h t is b None k = tt
later laws c h t is b (Some r) k = record {
  unplanned = k.unplanned;
  planned = λ q e. cells_by_turn c h t is (λ ts. IsFaithfulWrite c.cells ts (pair_in b q) r.writes) (k.planned q e)
      (λ from i a told same own. laws.write_stays c.cells (cell_turns h) (cell_did i a told) (pair_in b q) r.writes (k.planned q e));
  majority = k.majority;
}

have_votes : Laws → (c : Config) (h : List Turn) → IsRun c h → (b : ℕ) → IfSome (rec_at c h b) (HasHeardVotes c h b)
have_votes laws c [] run b = tt
have_votes laws c (t ∷ h) run b =
    rec_by_turn c h t run.0 b (λ o. IfSome o (HasHeardVotes c (t ∷ h) b)) (later laws c h t run.0 b (rec_at c h b) (have_votes laws c h run.1 b))
    (λ shape none may is. record { unplanned = λ e. refl; planned = λ q e. absurd (cc); majority = λ e. absurd (cc) })
    (λ r from u at told.
    let k : HasHeardVotes c h b r = subst (λ o. IfSome o (HasHeardVotes c h b)) at (have_votes laws c h run.1 b) in
    later laws c h t run.0 b (Some (rec.after_hear r from u)) (change laws c h run.1 b from u told r at (rec_is laws c h run.1 b r at).kept.come_by k (rec.after_hear r from u) (laws.rec_change r from u)))

-- a recoverer's tally of writes counts cells that took what it plans
pub has_votes : Laws → (c : Config) (h : List Turn) → IsRun c h → (b : ℕ) (r : RecState) → rec_at c h b ≡ Some r → HasHeardVotes c h b r
has_votes laws c h run b r at = subst (λ o. IfSome o (HasHeardVotes c h b)) at (have_votes laws c h run b)
