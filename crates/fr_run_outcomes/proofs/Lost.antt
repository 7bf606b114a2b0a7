-- A recoverer is lost only as outballoted, for want of room in the list, or for want of versions.
use Rattle.std.proofs.Common.{◌≡◌, ℕ, ◌+◌, ◌≤◌, ◌⊎◌, ◌^◌, Bool, true, false, cond, nat_lt, nat_le, List, [], ◌∷◌, ◌++◌, length, None, Some, inl, inr, refl, sym, ◌∙◌, ap, subst, arith}
use Rattle.std.specs.Prelude.{Result, Ok, Err}
use Rattle.std.specs.List.{Contains}
use Rattle.std.proofs.lemmas.Bool.{eq-eqb}
use Rattle.fr_base.specs.declared.place.NodeId.{NodeId}
use Rattle.fr_base.specs.declared.place.NodeId.TheVariants as node
use Rattle.fr_register.specs.Poll.{Stamped, ReadState}
use Rattle.fr_register.specs.Tally.{hear_read, progress_of}
use Rattle.fr_register.specs.Heard.{read_tally}
use Rattle.fr_register.specs.History as register
use Rattle.fr_register.specs.Chosen.{IsKept, IsHeldBy, IsReadByMajority}
use Rattle.fr_register.specs.declared.ask.CellTell.{CellTell}
use Rattle.fr_register.specs.declared.ask.CellTell.TheVariants as ctell
use Rattle.fr_register.specs.declared.poll.Progress.{Progress}
use Rattle.fr_register.specs.declared.poll.Progress.TheVariants as poll
use Rattle.fr_state.specs.Generations.{LogGeneration, CoordinatedState, IsCoordinatedState, AreOrdered, last_of}
use Rattle.fr_state.specs.Order.{extended}
use Rattle.fr_state.specs.Reading.{reading}
use Rattle.fr_state.specs.Spelling.{spelling}
use Rattle.fr_state.specs.Laws.{NotLaterIsExact}
use Rattle.fr_state.specs.declared.fault.StateDecodeFault.{StateDecodeFault}
use Rattle.fr_state.specs.declared.fault.StateFault.{StateFault}
use Rattle.fr_state.specs.declared.fault.StateFault.TheVariants as fault
use Rattle.fr_ask.specs.declared.tell.Tell.{Tell}
use Rattle.fr_ask.specs.declared.tell.Tell.TheVariants as tell
use Rattle.fr_epoch.specs.EndTally.{EndState, is_covered, pev_of, rv_of}
use Rattle.fr_epoch.specs.Recoverer.{RecState, Phase, Parent, Reading, Locking, Copying, Writing, Chosen, Lost, new_recoverer}
use Rattle.fr_log.specs.declared.popped.PoppedTag.{PoppedTag}
use Rattle.fr_epoch.specs.Words.{Word, OfCell, Nothing, Promised, Replied, Voted, word_of, heed, heed_in, heed_locked}
use Rattle.fr_epoch.specs.Change.{Change, Stands, LosesReads, Reads, Finds, Locks, LosesLocks, Plans, Copies, Seeds, SeedsAll, Writes, LosesWrites, Chooses, Marks, IsPromised, IsReplied, IsVoted, replied}
use Rattle.fr_epoch.specs.Hear.{lost, why_of, with_last, with_parent, after_reads, with_read, with_plan, ended, after_reply, with_lock, left_of, next_generation, after_writes, with_write, after_heed, after_hear}
use Rattle.fr_epoch.specs.declared.why.LostWhy.{LostWhy}
use Rattle.fr_epoch.specs.declared.why.LostWhy.TheVariants as why
use Rattle.fr_run.specs.Config.{Config, first_cell, first_state}
use Rattle.fr_run.specs.Turn.{Turn, Told, cell_turns}
use Rattle.fr_run.specs.Nodes.{rec_at}
use Rattle.fr_run.specs.Run.{IsRun}
use Rattle.fr_run.specs.StateLaws.{IsConfig}
use Rattle.fr_run.specs.Laws.{Laws}
use Rattle.fr_run.proofs.ByTurn.{rec_by_turn}
use Rattle.fr_run.proofs.Cells.{cells_have_history, first_within, written_is_state}
use Rattle.fr_run.proofs.Register.{HasRead, has_found, reads_more, cell_told}
use Rattle.fr_run.proofs.States.{first_is, recoverers_have_states}
use Rattle.fr_run_headline.specs.LogLaws.{tally_in, tally}
use Rattle.fr_run_headline.specs.SeededLaws.{ChosenIsSeeded, WritingIsSeeded}
use Rattle.fr_run_headline.specs.Order.{NeverInconsistent}
use Rattle.fr_run_outcomes.specs.Lost.{NoCellHasTwoValues, LostOnlySo}
use Rattle.fr_run_outcomes.proofs.Later.{next_is_later}

-- ---- reasons

-- the reasons that a recoverer may have, and that its replies are at odds, of which another law says that they never are
abbrev IsReason : LostWhy → Type 0
IsReason why.Outballoted = Unit {0}
IsReason why.BadState = ⊥
IsReason why.NotLater = ⊥
IsReason why.TooMany = Unit {0}
IsReason why.TwoValues = ⊥
IsReason why.Inconsistent = Unit {0}
IsReason why.Spent = Unit {0}

abbrev IsFair : Phase → Type 0
IsFair Reading = Unit {0}
IsFair Locking = Unit {0}
IsFair Copying = Unit {0}
IsFair Writing = Unit {0}
IsFair Chosen = Unit {0}
IsFair (Lost w) = IsReason w

abbrev Fair : RecState → Type 0
Fair r = IsFair r.phase

-- ---- one hear

told_why : (r : RecState) (u : CellTell) → (u ≡ ctell.TwoValues → ⊥) → Fair (lost r (why_of u))
told_why r (ctell.Promise w v) never = tt
told_why r (ctell.Written b) never = tt
told_why r (ctell.Refused b) never = tt
told_why r ctell.TwoValues never = absurd (never refl)

-- what is read is a state, which has a last generation
found_last : (r : RecState) (s : CoordinatedState) → 1 ≤ length s.gens → Fair (with_last r s (last_of s.gens))
found_last r s some = go s.gens some
  where
    go : (gens : List LogGeneration) → 1 ≤ length gens → Fair (with_last r s (last_of gens))
    go [] l = absurd (omega (arith, l))
    go (g ∷ []) l = tt
    go (g ∷ h ∷ gens) l = go (h ∷ gens) (omega arith)

reads_fair : (r : RecState) (u : CellTell) (o : Progress) → progress_of r.reads.poll ≡ o → Fair r → (u ≡ ctell.TwoValues → ⊥)
    → (progress_of r.reads.poll ≡ poll.Majority → (s : CoordinatedState) × (reading r.reads.greatest.value ≡ Ok s) × (1 ≤ length s.gens)) → Fair (after_reads r u o)
reads_fair r u poll.Waiting e fair never found = fair
reads_fair r u poll.Majority e fair never found =
    let k = found e in
    subst (λ (o : Result CoordinatedState StateDecodeFault). Fair (with_parent r o)) (sym k.1) (found_last r k.0 k.2)
reads_fair r u (poll.Lost promised) e fair never found = told_why r u never

writes_fair : (r : RecState) (u : CellTell) (o : Progress) → Fair r → (u ≡ ctell.TwoValues → ⊥) → Fair (after_writes r u o)
writes_fair r u poll.Waiting fair never = fair
writes_fair r u poll.Majority fair never = tt
writes_fair r u (poll.Lost promised) fair never = told_why r u never

-- a plan whose generation is not later
record IsNotLater (r : RecState) (p : Parent) (end : EndState) (n : RecState) : Type 0 where
  is : n ≡ lost r why.NotLater
  covered : is_covered end ≡ true
  fault : extended (left_of r p) (next_generation r p end) ≡ Err fault.NotLater

plan_fair : (r : RecState) (p : Parent) (end : EndState) → is_covered end ≡ true → (o : Result CoordinatedState StateFault) → extended (left_of r p) (next_generation r p end) ≡ o → Fair r
    → Fair (with_plan r p end o) ⊎ IsNotLater r p end (with_plan r p end o)
plan_fair r p end cov (Ok s) e fair = inl tt
plan_fair r p end cov (Err fault.NotLater) e fair = inr (record { is = refl; covered = cov; fault = e })
plan_fair r p end cov (Err fault.TooMany) e fair = inl tt
plan_fair r p end cov (Err fault.Memory) e fair = inl fair

abbrev IsFairOrNotLater : RecState → Parent → EndState → RecState → Type 0
IsFairOrNotLater r p end n = Fair n ⊎ IsNotLater r p end n

reply_fair : (r : RecState) (p : Parent) (end : EndState) → Fair r → Fair (after_reply r p (Some end)) ⊎ IsNotLater r p end (after_reply r p (Some end))
reply_fair r p end fair = go (is_covered end) refl
  where
    spent : is_covered end ≡ true → (b : Bool) → IsFairOrNotLater r p end (cond b (lost r why.Spent) (with_plan r p end (extended (left_of r p) (next_generation r p end))))
    spent e true = inl tt
    spent e false = plan_fair r p end e (extended (left_of r p) (next_generation r p end)) refl fair

    odds : is_covered end ≡ true → (b : Bool)
        → IsFairOrNotLater r p end (cond b (lost r why.Inconsistent) (cond (nat_le (2 ^ 62) (rv_of end + 1)) (lost r why.Spent) (with_plan r p end (extended (left_of r p) (next_generation r p end)))))
    odds e true = inl tt
    odds e false = spent e (nat_le (2 ^ 62) (rv_of end + 1))

    go : (b : Bool) → is_covered end ≡ b → IsFairOrNotLater r p end (cond b (ended r p end) r)
    go true e = odds e (nat_lt (rv_of end) (pev_of end))
    go false e = inl fair

-- ---- what is heard

-- what a tell of a cell is while the recoverer reads
pub heed_reading : (r : RecState) (w : Word) (i : ℕ) (u : CellTell) → IsPromised r w i u → heed r w ≡ Promised i u
heed_reading r w i u k = ap (λ ph. heed_in ph r w) k.phase ∙ ap (heed_in Reading r) k.word

pub heed_writing : (r : RecState) (w : Word) (i : ℕ) (u : CellTell) → IsVoted r w i u → heed r w ≡ Voted i u
heed_writing r w i u k = ap (λ ph. heed_in ph r w) k.phase ∙ ap (heed_in Writing r) k.word

pub heed_locking : (r : RecState) (w : Word) (p : Parent) (end : EndState) (i d f : ℕ) (ps : List PoppedTag) → IsReplied r w p end i d f ps → heed r w ≡ Replied p end i d f ps
heed_locking r w p end i d f ps k =
    ap (λ ph. heed_in ph r w) k.phase
    ∙ ap (heed_in Locking r) k.word
    ∙ ap (λ o. heed_locked o r.end p.last.epoch i d f ps) k.parent
    ∙ ap (λ o. heed_locked (Some p) o p.last.epoch i d f ps) k.tally
    ∙ ap (λ b. cond b (Replied p end i d f ps) Nothing) (eq-eqb p.last.epoch p.last.epoch refl)

-- the greatest pair of a read majority spells a state
read_state : Laws → (c : Config) (h : List Turn) → IsConfig c → IsRun c h → (b : ℕ) (reads : ReadState) → HasRead c h b reads → progress_of reads.poll ≡ poll.Majority
    → (s : CoordinatedState) × (reading reads.greatest.value ≡ Ok s) × (1 ≤ length s.gens)
read_state laws c h config run b reads k majority = held kept.holds
  where
    own : IsReadByMajority c.cells (cell_turns h) b (read_tally c.cells b k.heard).greatest
    own = laws.read_majority c.cells b (cell_turns h) k.heard k.told (subst (λ (s : ReadState). progress_of s.poll ≡ poll.Majority) k.is majority)

    kept : IsKept (first_cell c) (cell_turns h) own.found.0 b reads.greatest
    kept =
        laws.promises_kept (first_cell c) (cell_turns h) own.found.0 b reads.greatest (first_within c) (cells_have_history c h run)
        (subst (λ (s : ReadState). Contains (cell_turns h) (register.promise_turn own.found.0 b s.greatest)) (sym k.is) own.found.1)

    spelled : (s : CoordinatedState) → IsCoordinatedState s → reads.greatest.value ≡ spelling s → (s : CoordinatedState) × (reading reads.greatest.value ≡ Ok s) × (1 ≤ length s.gens)
    spelled s within is = (s, ap reading is ∙ laws.spelled_is_read s within, within.some)

    held : IsHeldBy (first_cell c) (cell_turns h) own.found.0 reads.greatest → (s : CoordinatedState) × (reading reads.greatest.value ≡ Ok s) × (1 ≤ length s.gens)
    held (inl start) = spelled (first_state c) (first_is c config) (ap (λ (s : Stamped). s.value) start)
    held (inr w) =
        let k = written_is_state laws c h run reads.greatest (record { cell = own.found.0; tell = _; comes = w }) in
        let s = recoverers_have_states laws c h config run reads.greatest.ballot k.recoverer k.at in
        spelled k.plan.state (s.plan k.plan k.planned).0 k.value

-- ---- each way in which a recoverer changes

-- what the cells and the logs of a run never let happen
record Rules (c : Config) : Type 0 where
  laws : Laws
  config : IsConfig c
  two : NoCellHasTwoValues
  chosen : ChosenIsSeeded
  writing : WritingIsSeeded
  exact : NotLaterIsExact

no_two : (c : Config) → Rules c → (h : List Turn) → IsRun c h → (b : ℕ) (from : NodeId) (u : Tell) → Told h from (node.Recoverer b) u → (i : ℕ) (x : CellTell) → word_of from u ≡ OfCell i x → x ≡ ctell.TwoValues → ⊥
no_two c k h run b from u told i x word is =
    k.two c h run i (node.Recoverer b) (subst (λ y. Told h (node.Cell i) (node.Recoverer b) (tell.Cell y)) is (cell_told h b from u i x told word))

-- no plan is not later
not_later : (c : Config) → Rules c → (h : List Turn) → IsRun c h → (b : ℕ) (n : RecState) → rec_at c h b ≡ Some n → (r : RecState) (p : Parent) (end : EndState) → r.parent ≡ Some p → r.end ≡ Some end → IsNotLater r p end n → ⊥
not_later c k h run b n at r p end parent tallied late =
    let there : rec_at c h b ≡ Some (lost r why.NotLater) = at ∙ ap Some late.is in
    let same : tally (lost r why.NotLater) ≡ end = ap (λ o. tally_in o) tallied in
    let ordered = next_is_later k.laws k.chosen k.writing c h k.config run b (lost r why.NotLater) p there parent (ap is_covered same ∙ late.covered) in
    (k.exact (left_of r p) (next_generation r p end)).0 late.fault
    (subst (λ (x : EndState). AreOrdered ((left_of r p).gens ++ next_generation r p x ∷ [])) same ordered)

change_fair : (c : Config) → Rules c → (t : Turn) (h : List Turn) → IsRun c (t ∷ h) → (b : ℕ) (from : NodeId) (u : Tell) → Told h from (node.Recoverer b) u → (r : RecState) → rec_at c h b ≡ Some r → Fair r
    → (n : RecState) → Change r (word_of from u) n → n ≡ after_heed r (heed r (word_of from u)) → rec_at c (t ∷ h) b ≡ Some n → Fair n
change_fair c k t h run b from u told r at fair n Stands is there = fair
change_fair c k t h run b from u told r at fair n (LosesReads i x w heard) is there =
    let reads = reads_more k.laws c h run.1 b i x r.reads (cell_told h b from u i x told heard.word) (has_found k.laws c h run.1 b r at).reads in
    subst Fair (sym (is ∙ ap (after_heed r) (heed_reading r (word_of from u) i x heard)))
    (reads_fair (with_read r i x) x (progress_of (with_read r i x).reads.poll) refl fair (no_two c k h run.1 b from u told i x heard.word) (read_state k.laws c h k.config run.1 b (hear_read r.reads i x) reads))
change_fair c k t h run b from u told r at fair n (Reads i x heard) is there = fair
change_fair c k t h run b from u told r at fair n (Finds i x s g heard found) is there = tt
change_fair c k t h run b from u told r at fair n (Locks p end i d f ps heard) is there = fair
change_fair c k t h run b from u told r at fair n (LosesLocks p end i d f ps w heard) is there =
    let now : n ≡ after_reply (with_lock r end i d f ps) p (Some (replied end i d f)) = is ∙ ap (after_heed r) (heed_locking r (word_of from u) p end i d f ps heard) in
    subst Fair (sym now) (elim (reply_fair (with_lock r end i d f ps) p (replied end i d f) fair) [
      | inl good ↦ good
      | inr late ↦ absurd (not_later c k (t ∷ h) run b (after_reply (with_lock r end i d f ps) p (Some (replied end i d f))) (there ∙ ap Some now) (with_lock r end i d f ps) p (replied end i d f) heard.parent refl late)
    ])
change_fair c k t h run b from u told r at fair n (Plans p end i d f ps s heard ended) is there = tt
change_fair c k t h run b from u told r at fair n (Copies parent p i peeked given) is there = fair
change_fair c k t h run b from u told r at fair n (Seeds p i seeded w) is there = fair
change_fair c k t h run b from u told r at fair n (SeedsAll p i seeded w) is there = tt
change_fair c k t h run b from u told r at fair n (Writes i x heard) is there = fair
change_fair c k t h run b from u told r at fair n (LosesWrites i x w heard) is there =
    subst Fair (sym (is ∙ ap (after_heed r) (heed_writing r (word_of from u) i x heard)))
    (writes_fair (with_write r i x) x (progress_of (with_write r i x).writes.poll) fair (no_two c k h run.1 b from u told i x heard.word))
change_fair c k t h run b from u told r at fair n (Chooses i x heard m) is there = tt
change_fair c k t h run b from u told r at fair n (Marks p i marked) is there = fair

-- ---- every run

each_is_fair : (c : Config) → Rules c → (h : List Turn) → IsRun c h → (b : ℕ) (n : RecState) → rec_at c h b ≡ Some n → Fair n
each_is_fair c k [] run b n at = absurd (let d : None ≡ Some n = at in cc)
each_is_fair c k (t ∷ h) run b n at = rec_by_turn c h t run.0 b (λ o. o ≡ Some n → Fair n)
    (λ before. each_is_fair c k h run.1 b n before)
    (λ shape none may shaped is. (let first : new_recoverer b c.cells c.begins shape ≡ n = cc in subst Fair first tt))
    (λ r from u before told is. (
    let same : after_hear r from u ≡ n = cc in
    subst Fair same (change_fair c k t h run b from u told r before (each_is_fair c k h run.1 b r before) (after_hear r from u) (k.laws.rec_change r from u) refl (at ∙ ap Some (sym same)))))
    at

reason : (w : LostWhy) → IsReason w → (w ≡ why.Inconsistent → ⊥) → (w ≡ why.Outballoted) ⊎ ((w ≡ why.TooMany) ⊎ (w ≡ why.Spent))
reason why.Outballoted k never = inl refl
reason why.BadState k never = absurd k
reason why.NotLater k never = absurd k
reason why.TooMany k never = inr (inl refl)
reason why.TwoValues k never = absurd k
reason why.Inconsistent k never = absurd (never refl)
reason why.Spent k never = inr (inr refl)

pub lost_only_so : Laws → NoCellHasTwoValues → ChosenIsSeeded → WritingIsSeeded → NotLaterIsExact → NeverInconsistent → LostOnlySo
lost_only_so laws two chosen writing exact never c h config run b r w at is =
    let k : Rules c = record { laws = laws; config = config; two = two; chosen = chosen; writing = writing; exact = exact } in
    reason w (subst IsFair is (each_is_fair c k h run b r at)) (λ odds. never c h run b r at (is ∙ ap Lost odds))
