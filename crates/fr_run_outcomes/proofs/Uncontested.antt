-- A recoverer that no cell refused is not outballoted.
use Rattle.std.proofs.Common.{◌≡◌, ℕ, ◌+◌, ◌^◌, Bool, true, false, cond, nat_lt, nat_le, ◌==◌, ◌++◌, List, [], ◌∷◌, Option, None, Some, inl, inr, refl, sym, ◌∙◌, ap, subst}
use Rattle.std.specs.Prelude.{IfSome, Result, Ok, Err}
use Rattle.fr_base.specs.declared.place.NodeId.{NodeId}
use Rattle.fr_base.specs.declared.place.NodeId.TheVariants as node
use Rattle.fr_register.specs.Poll.{ReadState, WriteState}
use Rattle.fr_register.specs.Tally.{is_majority, is_wanted, with_heard, progress_from, progress_of, hear_read, take_read, hear_write, take_write}
use Rattle.fr_register.specs.declared.ask.CellTell.{CellTell}
use Rattle.fr_register.specs.declared.ask.CellTell.TheVariants as ctell
use Rattle.fr_register.specs.declared.poll.Progress.TheVariants as poll
use Rattle.fr_state.specs.Generations.{LogGeneration, CoordinatedState, last_of}
use Rattle.fr_state.specs.Order.{extended}
use Rattle.fr_state.specs.Reading.{reading}
use Rattle.fr_state.specs.declared.fault.StateDecodeFault.{StateDecodeFault}
use Rattle.fr_state.specs.declared.fault.StateFault.{StateFault}
use Rattle.fr_state.specs.declared.fault.StateFault.TheVariants as fault
use Rattle.fr_ask.specs.declared.tell.Tell.{Tell}
use Rattle.fr_ask.specs.declared.tell.Tell.TheVariants as tell
use Rattle.fr_epoch.specs.EndTally.{EndState, is_covered, pev_of, rv_of}
use Rattle.fr_epoch.specs.Hear.{lost, with_last, with_parent, after_reads, with_read, with_lock, with_plan, after_reply, left_of, next_generation, with_write, after_writes, after_heed, after_hear}
use Rattle.fr_epoch.specs.Change.{replied, Change, Stands, LosesReads, Reads, Finds, Locks, LosesLocks, Plans, Copies, Seeds, SeedsAll, Writes, LosesWrites, Chooses, Marks}
use Rattle.fr_epoch.specs.Recoverer.{RecState, Phase, Parent, Reading, Locking, Copying, Writing, Chosen, Lost}
use Rattle.fr_epoch.specs.Words.{Word, OfCell, word_of, heed}
use Rattle.fr_epoch.specs.declared.why.LostWhy.{LostWhy}
use Rattle.fr_epoch.specs.declared.why.LostWhy.TheVariants as why
use Rattle.fr_run.specs.AskLaws.{SentIsAccounted}
use Rattle.fr_run.specs.Config.{Config}
use Rattle.fr_run.specs.Laws.{Laws}
use Rattle.fr_run.specs.Nodes.{rec_at}
use Rattle.fr_run.specs.Run.{IsRun}
use Rattle.fr_run.specs.Turn.{Turn, Begun, Told}
use Rattle.fr_run.proofs.ByTurn.{rec_by_turn}
use Rattle.fr_run.proofs.Register.{cell_told}
use Rattle.fr_run_outcomes.specs.Lost.{NoCellHasTwoValues, LostOnlySo}
use Rattle.fr_run_outcomes.specs.Uncontested.{UncontestedHasNoRoom}
use Rattle.fr_run_outcomes.proofs.Lost.{heed_reading, heed_writing, heed_locking}
use Rattle.fr_run_outcomes.proofs.LowPromises.{NoneRefused, none_refused}

-- ---- tallies

-- a tell that ends no tally
record Grants (u : CellTell) : Type 0 where
  unrefused : (p : ℕ) → u ≡ ctell.Refused p → ⊥
  one : u ≡ ctell.TwoValues → ⊥

take_read_free : (t : ReadState) (i : ℕ) (u : CellTell) → Grants u → t.poll.refusal ≡ None → (take_read t i u).poll.refusal ≡ None
take_read_free t i (ctell.Promise w v) g none = none
take_read_free t i (ctell.Written b) g none = none
take_read_free t i (ctell.Refused p) g none = absurd (g.unrefused p refl)
take_read_free t i ctell.TwoValues g none = absurd (g.one refl)

read_free : (t : ReadState) (i : ℕ) (u : CellTell) → Grants u → t.poll.refusal ≡ None → (hear_read t i u).poll.refusal ≡ None
read_free t i u g none = go (is_wanted t.poll i)
  where
    go : (b : Bool) → (cond b (take_read t i u) t).poll.refusal ≡ None
    go true = take_read_free t i u g none
    go false = none

take_write_free : (t : WriteState) (i : ℕ) (u : CellTell) → Grants u → t.poll.refusal ≡ None → (take_write t i u).poll.refusal ≡ None
take_write_free t i (ctell.Promise w v) g none = none
take_write_free t i (ctell.Written b) g none = go (b == t.ballot)
  where
    go : (x : Bool) → (cond x (record t { poll = with_heard t.poll i }) t).poll.refusal ≡ None
    go true = none
    go false = none
take_write_free t i (ctell.Refused p) g none = absurd (g.unrefused p refl)
take_write_free t i ctell.TwoValues g none = absurd (g.one refl)

write_free : (t : WriteState) (i : ℕ) (u : CellTell) → Grants u → t.poll.refusal ≡ None → (hear_write t i u).poll.refusal ≡ None
write_free t i u g none = go (is_wanted t.poll i)
  where
    go : (b : Bool) → (cond b (take_write t i u) t).poll.refusal ≡ None
    go true = take_write_free t i u g none
    go false = none

-- ---- recoverers

record IsFree (r : RecState) : Type 0 where
  reads : r.reads.poll.refusal ≡ None
  writes : r.writes.poll.refusal ≡ None
  phase : r.phase ≡ Lost why.Outballoted → ⊥

other_phase : (r : RecState) (ph : Phase) → r.phase ≡ ph → (ph ≡ Lost why.Outballoted → ⊥) → r.phase ≡ Lost why.Outballoted → ⊥
other_phase r ph is never e = never (sym is ∙ e)

last_phase : (r : RecState) (s : CoordinatedState) (o : Option LogGeneration) → (with_last r s o).phase ≡ Lost why.Outballoted → ⊥
last_phase r s None e = (let d : Lost why.BadState ≡ Lost why.Outballoted = e in absurd (cc))
last_phase r s (Some g) e = (let d : Locking ≡ Lost why.Outballoted = e in absurd (cc))

parent_phase : (r : RecState) (o : Result CoordinatedState StateDecodeFault) → (with_parent r o).phase ≡ Lost why.Outballoted → ⊥
parent_phase r (Ok s) e = last_phase r s (last_of s.gens) e
parent_phase r (Err f) e = (let d : Lost why.BadState ≡ Lost why.Outballoted = e in absurd (cc))

last_same : (r : RecState) (s : CoordinatedState) (o : Option LogGeneration) → ((with_last r s o).reads ≡ r.reads) × ((with_last r s o).writes ≡ r.writes)
last_same r s None = (refl, refl)
last_same r s (Some g) = (refl, refl)

parent_same : (r : RecState) (o : Result CoordinatedState StateDecodeFault) → ((with_parent r o).reads ≡ r.reads) × ((with_parent r o).writes ≡ r.writes)
parent_same r (Ok s) = last_same r s (last_of s.gens)
parent_same r (Err f) = (refl, refl)

reads_free : (r : RecState) (u : CellTell) → r.phase ≡ Reading → r.reads.poll.refusal ≡ None → r.writes.poll.refusal ≡ None → IsFree (after_reads r u (progress_of r.reads.poll))
reads_free r u phase none other = subst (λ o. IsFree (after_reads r u (progress_from r.reads.poll o))) (sym none) (go (is_majority r.reads.poll))
  where
    go : (b : Bool) → IsFree (after_reads r u (cond b poll.Majority poll.Waiting))
    go true =
        let same = parent_same r (reading r.reads.greatest.value) in
        record { reads = ap (λ (t : ReadState). t.poll.refusal) same.0 ∙ none; writes = ap (λ (t : WriteState). t.poll.refusal) same.1 ∙ other; phase = parent_phase r (reading r.reads.greatest.value) }
    go false = record { reads = none; writes = other; phase = other_phase r Reading phase (λ e. absurd (cc)) }

writes_free : (r : RecState) (u : CellTell) → r.phase ≡ Writing → r.reads.poll.refusal ≡ None → r.writes.poll.refusal ≡ None → IsFree (after_writes r u (progress_of r.writes.poll))
writes_free r u phase none other = subst (λ o. IsFree (after_writes r u (progress_from r.writes.poll o))) (sym other) (go (is_majority r.writes.poll))
  where
    go : (b : Bool) → IsFree (after_writes r u (cond b poll.Majority poll.Waiting))
    go true = record { reads = none; writes = other; phase = λ e. (let d : Chosen ≡ Lost why.Outballoted = e in absurd (cc)) }
    go false = record { reads = none; writes = other; phase = other_phase r Writing phase (λ e. absurd (cc)) }

free_lost : (r : RecState) (w : LostWhy) → r.reads.poll.refusal ≡ None → r.writes.poll.refusal ≡ None → (w ≡ why.Outballoted → ⊥) → IsFree (lost r w)
free_lost r w none other never = record { reads = none; writes = other; phase = λ e. (let k : Lost w ≡ Lost why.Outballoted = e in let d : w ≡ why.Outballoted = cc in never d) }

plan_free : (r : RecState) (p : Parent) (end : EndState) (o : Result CoordinatedState StateFault) → r.phase ≡ Locking → r.reads.poll.refusal ≡ None → r.writes.poll.refusal ≡ None → IsFree (with_plan r p end o)
plan_free r p end (Ok s) phase none other = record { reads = none; writes = other; phase = λ e. (let d : Copying ≡ Lost why.Outballoted = e in absurd (cc)) }
plan_free r p end (Err fault.NotLater) phase none other = free_lost r why.NotLater none other (λ d. absurd (cc))
plan_free r p end (Err fault.TooMany) phase none other = free_lost r why.TooMany none other (λ d. absurd (cc))
plan_free r p end (Err fault.Memory) phase none other = record { reads = none; writes = other; phase = other_phase r Locking phase (λ e. absurd (cc)) }

reply_free : (r : RecState) (p : Parent) (end : EndState) → r.phase ≡ Locking → r.reads.poll.refusal ≡ None → r.writes.poll.refusal ≡ None → IsFree (after_reply r p (Some end))
reply_free r p end phase none other = go (is_covered end) (nat_lt (rv_of end) (pev_of end)) (nat_le (2 ^ 62) (rv_of end + 1))
  where
    go : (x a b : Bool) → IsFree (cond x (cond a (lost r why.Inconsistent) (cond b (lost r why.Spent) (with_plan r p end (extended (left_of r p) (next_generation r p end))))) r)
    go false a b = record { reads = none; writes = other; phase = other_phase r Locking phase (λ e. absurd (cc)) }
    go true true b = free_lost r why.Inconsistent none other (λ d. absurd (cc))
    go true false true = free_lost r why.Spent none other (λ d. absurd (cc))
    go true false false = plan_free r p end (extended (left_of r p) (next_generation r p end)) phase none other

change_free : (r : RecState) (w : Word) → ((i : ℕ) (u : CellTell) → w ≡ OfCell i u → Grants u) → IsFree r → (n : RecState) → Change r w n → n ≡ after_heed r (heed r w) → IsFree n
change_free r w grants k n Stands is = k
change_free r w grants k n (LosesReads i t y heard) is =
    subst IsFree (sym (is ∙ ap (after_heed r) (heed_reading r w i t heard))) (reads_free (with_read r i t) t heard.phase (read_free r.reads i t (grants i t heard.word) k.reads) k.writes)
change_free r w grants k n (Reads i t heard) is =
    record { reads = read_free r.reads i t (grants i t heard.word) k.reads; writes = k.writes; phase = k.phase }
change_free r w grants k n (Finds i t s g heard found) is =
    record { reads = read_free r.reads i t (grants i t heard.word) k.reads; writes = k.writes; phase = λ e. (let d : Locking ≡ Lost why.Outballoted = e in absurd (cc)) }
change_free r w grants k n (Locks p end i d f ps heard) is = record { reads = k.reads; writes = k.writes; phase = k.phase }
change_free r w grants k n (LosesLocks p end i d f ps y heard) is =
    subst IsFree (sym (is ∙ ap (after_heed r) (heed_locking r w p end i d f ps heard))) (reply_free (with_lock r end i d f ps) p (replied end i d f) heard.phase k.reads k.writes)
change_free r w grants k n (Plans p end i d f ps s heard fixed) is = record { reads = k.reads; writes = k.writes; phase = λ e. (let d : Copying ≡ Lost why.Outballoted = e in absurd (cc)) }
change_free r w grants k n (Copies parent p i peeked given) is = record { reads = k.reads; writes = k.writes; phase = k.phase }
change_free r w grants k n (Seeds p i new not_yet) is = record { reads = k.reads; writes = k.writes; phase = k.phase }
change_free r w grants k n (SeedsAll p i new all) is = record { reads = k.reads; writes = k.writes; phase = λ e. (let d : Writing ≡ Lost why.Outballoted = e in absurd (cc)) }
change_free r w grants k n (Writes i t heard) is =
    record { reads = k.reads; writes = write_free r.writes i t (grants i t heard.word) k.writes; phase = k.phase }
change_free r w grants k n (LosesWrites i t y heard) is =
    subst IsFree (sym (is ∙ ap (after_heed r) (heed_writing r w i t heard))) (writes_free (with_write r i t) t heard.phase k.reads (write_free r.writes i t (grants i t heard.word) k.writes))
change_free r w grants k n (Chooses i t heard m) is =
    record { reads = k.reads; writes = write_free r.writes i t (grants i t heard.word) k.writes; phase = λ e. (let d : Chosen ≡ Lost why.Outballoted = e in absurd (cc)) }
change_free r w grants k n (Marks p i new) is = record { reads = k.reads; writes = k.writes; phase = k.phase }

-- ---- runs

free_on : Laws → NoCellHasTwoValues → (c : Config) (t : Turn) (h : List Turn) → IsRun c (t ∷ h) → (b : ℕ) → NoneRefused h b → IfSome (rec_at c h b) IsFree → IfSome (rec_at c (t ∷ h) b) IsFree
free_on laws two c t h run b none before =
    rec_by_turn c h t run.0 b (λ o. IfSome o IsFree) before (λ shape unbegun may is. record { reads = refl; writes = refl; phase = λ e. (let d : Reading ≡ Lost why.Outballoted = e in absurd (cc)) })
    (λ r from u at told. change_free r (word_of from u) (λ i x word. grants from u told i x word) (subst (λ o. IfSome o IsFree) at before) (after_hear r from u) (laws.rec_change r from u) refl)
  where
    grants : (from : NodeId) (u : Tell) → Told h from (node.Recoverer b) u → (i : ℕ) (x : CellTell) → word_of from u ≡ OfCell i x → Grants x
    grants from u told i x word =
        let here : Told h (node.Cell i) (node.Recoverer b) (tell.Cell x) = cell_told h b from u i x told word in
        record {
          unrefused = λ p same. none i p (subst (λ y. Told h (node.Cell i) (node.Recoverer b) (tell.Cell y)) same here);
          one = λ same. two c h run.1 i (node.Recoverer b) (subst (λ y. Told h (node.Cell i) (node.Recoverer b) (tell.Cell y)) same here);
        }

each_is_free : Laws → NoCellHasTwoValues → (c : Config) (h : List Turn) → IsRun c h → (b : ℕ) → NoneRefused h b → IfSome (rec_at c h b) IsFree
each_is_free laws two c [] run b none = tt
each_is_free laws two c (t ∷ h) run b none = free_on laws two c t h run b (λ i p told. none i p (inr told)) (each_is_free laws two c h run.1 b (λ i p told. none i p (inr told)))

pub uncontested_has_no_room : Laws → SentIsAccounted → NoCellHasTwoValues → LostOnlySo → UncontestedHasNoRoom
uncontested_has_no_room laws accounted two only c h more b shape asks config run low low_asks r w at is = elim (only c (more ++ Begun b shape asks ∷ h) config run b r w at is) [
  | inl out ↦ absurd (free.phase (is ∙ ap Lost out))
  | inr room ↦ elim room [ inl many ↦ inl (is ∙ ap Lost many) | inr spent ↦ inr (is ∙ ap Lost spent) ]
]
  where
    free : IsFree r
    free = subst (λ o. IfSome o IsFree) at (each_is_free laws two c (more ++ Begun b shape asks ∷ h) run b (none_refused laws accounted c h more b shape asks run low low_asks))
