-- Reading takes one round.
use Rattle.std.proofs.Common.{◌≡◌, ℕ, ◌<◌, Bool, true, false, cond, nat_lt, List, [], ◌∷◌, ◌++◌, Option, None, Some, inl, inr, ◌⊎◌, refl, sym, ◌∙◌, ap, subst, arith}
use Rattle.std.specs.Prelude.{IfSome, Result, Ok, Err}
use Rattle.std.specs.List.{Contains}
use Rattle.std.proofs.lemmas.Bool.{le-ltb, lt-ltb, ltb-true, ltb-false}
use Rattle.std.proofs.lemmas.List.Elements.{All-contains}
use Rattle.fr_base.specs.declared.place.NodeId.TheVariants as node
use Rattle.fr_register.specs.Cell as register
use Rattle.fr_register.specs.Tally.{new_read, progress_of, is_heard, hear_read}
use Rattle.fr_register.specs.declared.ask.CellAsk.{CellAsk}
use Rattle.fr_register.specs.declared.ask.CellAsk.TheVariants.{Read}
use Rattle.fr_register.specs.declared.ask.CellTell.{CellTell}
use Rattle.fr_register.specs.declared.poll.Progress.{Progress}
use Rattle.fr_register.specs.declared.poll.Progress.TheVariants as poll
use Rattle.fr_state.specs.Generations.{LogGeneration, CoordinatedState, last_of}
use Rattle.fr_state.specs.Reading.{reading}
use Rattle.fr_state.specs.declared.fault.StateDecodeFault.{StateDecodeFault}
use Rattle.fr_tags.specs.CoverLaw.{DistinctLogsCount}
use Rattle.fr_ask.specs.declared.ask.Ask.TheVariants as ask
use Rattle.fr_ask.specs.declared.tell.Tell.{Tell}
use Rattle.fr_ask.specs.declared.tell.Tell.TheVariants as tell
use Rattle.fr_epoch.specs.Recoverer.{RecState, Phase, Reading, Locking, Copying, Writing, Chosen, Lost}
use Rattle.fr_epoch.specs.Words.{Word, OfCell, word_of, heed, heed_in}
use Rattle.fr_epoch.specs.Hear.{with_read, with_last, with_parent, after_reads, after_heed, after_hear}
use Rattle.fr_epoch.specs.Asks.{left, pending, pending_in, phase_number}
use Rattle.fr_epoch.specs.Change.{Change, Stands, LosesReads, Reads, Finds, Locks, LosesLocks, Plans, Copies, Seeds, SeedsAll, Writes, LosesWrites, Chooses, Marks}
use Rattle.fr_run.specs.Config.{Config}
use Rattle.fr_run.specs.Turn.{Turn}
use Rattle.fr_run.specs.Nodes.{cell_at, rec_at}
use Rattle.fr_run.specs.Run.{IsRun}
use Rattle.fr_run.specs.Laws.{Laws}
use Rattle.fr_run.proofs.ByTurn.{rec_by_turn}
use Rattle.fr_run_outcomes.proofs.Asked.{read_more, read_cells}
use Rattle.fr_run_outcomes.proofs.Lists.{left_has, map_has}
use Rattle.fr_run_outcomes.proofs.Counts.{Contains-from_among}
use Rattle.fr_run_rounds.specs.Rounds.{WasAnswered}
use Rattle.fr_run_rounds.specs.Ending.{ReadingIsOneRound}
use Rattle.fr_run_rounds.proofs.Along.{holds_at, Keeps, keeps_by, along, through, run_back, IsFrom, from_change, phase_reading}
use Rattle.fr_run_rounds.proofs.Tallies.{read_heard, waits_short}

-- ---- a tally of a recoverer that reads waits

abbrev pub ReadsIn : ℕ → RecState → Type 0
ReadsIn cells r = r.phase ≡ Reading → (progress_of r.reads.poll ≡ poll.Waiting) × (r.reads.poll.cells ≡ cells)

last_reads : (r : RecState) (s : CoordinatedState) (o : Option LogGeneration) → (with_last r s o).phase ≡ Reading → ⊥
last_reads r s None e = (let d : Lost _ ≡ Reading = e in absurd (cc))
last_reads r s (Some g) e = (let d : Locking ≡ Reading = e in absurd (cc))

parent_reads : (r : RecState) (o : Result CoordinatedState StateDecodeFault) → (with_parent r o).phase ≡ Reading → ⊥
parent_reads r (Ok s) e = last_reads r s (last_of s.gens) e
parent_reads r (Err f) e = (let d : Lost _ ≡ Reading = e in absurd (cc))

read_left : (r : RecState) (t : CellTell) (o : Progress) → progress_of r.reads.poll ≡ o → (after_reads r t o).phase ≡ Reading → progress_of r.reads.poll ≡ poll.Waiting
read_left r t poll.Waiting e is = e
read_left r t poll.Majority e is = absurd (parent_reads r (reading r.reads.greatest.value) is)
read_left r t (poll.Lost promised) e is = (let d : Lost _ ≡ Reading = is in absurd (cc))

other_phase : (r : RecState) (ph : Phase) → r.phase ≡ ph → (ph ≡ Reading → ⊥) → r.phase ≡ Reading → ⊥
other_phase r ph is never e = never (sym is ∙ e)

change_reads : (cells : ℕ) (r : RecState) (w : Word) (n : RecState) → Change r w n → n ≡ after_heed r (heed r w) → ReadsIn cells r → ReadsIn cells n
change_reads cells r w n Stands is k = k
change_reads cells r w n (LosesReads i t y heard) is k = λ e. (let d : Lost y ≡ Reading = e in absurd (cc))
change_reads cells r w n (Reads i t heard) is k = λ e. (read_left (with_read r i t) t (progress_of (with_read r i t).reads.poll) refl now, read_cells r.reads i t ∙ (k heard.phase).1)
  where
    now : (after_reads (with_read r i t) t (progress_of (with_read r i t).reads.poll)).phase ≡ Reading
    now = ap (λ (x : RecState). x.phase) (sym (is ∙ ap (after_heed r) (ap (λ ph. heed_in ph r w) heard.phase ∙ ap (heed_in Reading r) heard.word))) ∙ heard.phase
change_reads cells r w n (Finds i t s g heard found) is k = λ e. (let d : Locking ≡ Reading = e in absurd (cc))
change_reads cells r w n (Locks p end i d f ps heard) is k = λ e. absurd (other_phase r Locking heard.phase (λ x. absurd (cc)) e)
change_reads cells r w n (LosesLocks p end i d f ps y heard) is k = λ e. (let d : Lost y ≡ Reading = e in absurd (cc))
change_reads cells r w n (Plans p end i d f ps s heard fixed) is k = λ e. (let d : Copying ≡ Reading = e in absurd (cc))
change_reads cells r w n (Copies parent p i peeked given) is k = λ e. absurd (other_phase r Copying given.phase (λ x. absurd (cc)) e)
change_reads cells r w n (Seeds p i new not_yet) is k = λ e. absurd (other_phase r Copying new.phase (λ x. absurd (cc)) e)
change_reads cells r w n (SeedsAll p i new all) is k = λ e. (let d : Writing ≡ Reading = e in absurd (cc))
change_reads cells r w n (Writes i t heard) is k = λ e. absurd (other_phase r Writing heard.phase (λ x. absurd (cc)) e)
change_reads cells r w n (LosesWrites i t y heard) is k = λ e. (let d : Lost y ≡ Reading = e in absurd (cc))
change_reads cells r w n (Chooses i t heard m) is k = λ e. (let d : Chosen ≡ Reading = e in absurd (cc))
change_reads cells r w n (Marks p i new) is k = λ e. absurd (other_phase r Chosen new.phase (λ x. absurd (cc)) e)

new_waits : (cells b : ℕ) → progress_of (new_read cells b).poll ≡ poll.Waiting
new_waits cells b = ap (λ x. cond x poll.Majority poll.Waiting) (le-ltb cells 0 (omega arith))

have_read : Laws → (c : Config) (h : List Turn) → IsRun c h → (b : ℕ) → IfSome (rec_at c h b) (ReadsIn c.cells)
have_read laws c [] run b = tt
have_read laws c (t ∷ h) run b =
    rec_by_turn c h t run.0 b (λ o. IfSome o (ReadsIn c.cells)) (have_read laws c h run.1 b) (λ shape none may is e. (new_waits c.cells b, refl))
    (λ r from u at told. change_reads c.cells r (word_of from u) (after_hear r from u) (laws.rec_change r from u) refl (subst (λ o. IfSome o (ReadsIn c.cells)) at (have_read laws c h run.1 b)))

pub reading_waits : Laws → (c : Config) (h : List Turn) → IsRun c h → (b : ℕ) (r : RecState) → rec_at c h b ≡ Some r → ReadsIn c.cells r
reading_waits laws c h run b r at = subst (λ o. IfSome o (ReadsIn c.cells)) at (have_read laws c h run b)

-- ---- a cell that is heard

-- a cell is heard, or all is read
abbrev ReadDone : ℕ → RecState → Type 0
ReadDone i r = (is_heard r.reads.poll i ≡ true) ⊎ IsFrom 1 r

reads_kept : (j : ℕ) (r : RecState) (w : Word) (n : RecState) → Change r w n → is_heard r.reads.poll j ≡ true → is_heard n.reads.poll j ≡ true
reads_kept j r w n Stands e = e
reads_kept j r w n (LosesReads i t y heard) e = read_more r.reads i t j e
reads_kept j r w n (Reads i t heard) e = read_more r.reads i t j e
reads_kept j r w n (Finds i t s g heard found) e = read_more r.reads i t j e
reads_kept j r w n (Locks p end i d f ps heard) e = e
reads_kept j r w n (LosesLocks p end i d f ps y heard) e = e
reads_kept j r w n (Plans p end i d f ps s heard fixed) e = e
reads_kept j r w n (Copies parent p i peeked given) e = e
reads_kept j r w n (Seeds p i new not_yet) e = e
reads_kept j r w n (SeedsAll p i new all) e = e
reads_kept j r w n (Writes i t heard) e = e
reads_kept j r w n (LosesWrites i t y heard) e = e
reads_kept j r w n (Chooses i t heard m) e = e
reads_kept j r w n (Marks p i new) e = e

done_kept : (j : ℕ) (r : RecState) (w : Word) (n : RecState) → Change r w n → ReadDone j r → ReadDone j n
done_kept j r w n change (inl e) = inl (reads_kept j r w n change e)
done_kept j r w n change (inr up) = inr (from_change 1 r w n change up)

last_from : (r : RecState) (s : CoordinatedState) (o : Option LogGeneration) → IsFrom 1 (with_last r s o)
last_from r s None = omega arith
last_from r s (Some g) = omega arith

parent_from : (r : RecState) (o : Result CoordinatedState StateDecodeFault) → IsFrom 1 (with_parent r o)
parent_from r (Ok s) = last_from r s (last_of s.gens)
parent_from r (Err f) = omega arith

hears : (r : RecState) (i : ℕ) (u : CellTell) → r.phase ≡ Reading → is_heard (hear_read r.reads i u).poll i ≡ true → ReadDone i (after_hear r (node.Cell i) (tell.Cell u))
hears r i u phase heard =
    subst (ReadDone i) (sym (ap (λ ph. after_heed r (heed_in ph r (OfCell i u))) phase)) (go (progress_of (with_read r i u).reads.poll))
  where
    go : (o : Progress) → ReadDone i (after_reads (with_read r i u) u o)
    go poll.Waiting = inl heard
    go poll.Majority = inr (parent_from (with_read r i u) (reading (with_read r i u).reads.greatest.value))
    go (poll.Lost promised) = inr (omega arith)

-- ---- answers of cells

pub cell_answer : (c : Config) (h : List Turn) (b i : ℕ) (a : CellAsk) (u : Tell) → WasAnswered c h b (node.Cell i) (ask.Cell a) u → (l : List Turn) × (u ≡ tell.Cell (register.answer_of (cell_at c l i) a))
cell_answer c [] b i a u k = absurd k
cell_answer c (t ∷ h) b i a u (inl k) = (h, k.1)
cell_answer c (t ∷ h) b i a u (inr k) = cell_answer c h b i a u k

-- ---- the round

read_asked : (r : RecState) (cells i : ℕ) → r.phase ≡ Reading → r.reads.poll.cells ≡ cells → i < cells → is_heard r.reads.poll i ≡ false → Contains (pending r) (node.Cell i, ask.Cell (Read r.ballot))
read_asked r cells i phase same below fresh =
    subst (λ xs. Contains xs (node.Cell i, ask.Cell (Read r.ballot))) (sym (ap (λ ph. pending_in ph r) phase))
    (map_has (λ j. (node.Cell j, ask.Cell (Read r.ballot))) (left r.reads.poll.cells (is_heard r.reads.poll)) i
    (left_has r.reads.poll.cells (is_heard r.reads.poll) i (omega (arith, same, below)) fresh))

pub reading_is_one_round : Laws → DistinctLogsCount → ReadingIsOneRound
reading_is_one_round laws counts c h turns config run b answers round told r n at phase there still =
    waits_short counts n.reads.poll c.cells told.cells (waits still).1 (waits still).0 told.majority
    (λ i among. each i (All-contains (λ j. j < c.cells) told.cells i told.majority.below (Contains-from_among told.cells i among)) (All-contains (λ j. answers (node.Cell j) ≡ true) told.cells i told.each (Contains-from_among told.cells i among)))
  where
    waits : ReadsIn c.cells n
    waits = reading_waits laws c (turns ++ h) run b n there

    keeps : (i : ℕ) → Keeps c b (ReadDone i)
    keeps i = keeps_by laws c b (ReadDone i) (λ s w m come_by change k. done_kept i s w m change k)

    ended : (i : ℕ) → ReadDone i n → is_heard n.reads.poll i ≡ true
    ended i (inl e) = e
    ended i (inr up) = absurd (let zero : phase_number n.phase ≡ 0 = ap phase_number still in omega (arith, up, zero))

    brings : (i : ℕ) → i < c.cells → (mid : List Turn) (m : RecState) (u : Tell) → IsRun c mid → rec_at c mid b ≡ Some m → WasAnswered c mid b (node.Cell i) (ask.Cell (Read r.ballot)) u → ReadDone i (after_hear m (node.Cell i) u)
    brings i below mid m u run_mid here answered = go (nat_lt (phase_number m.phase) 1) refl
      where
        past : (l : List Turn) × (u ≡ tell.Cell (register.answer_of (cell_at c l i) (Read r.ballot)))
        past = cell_answer c mid b i (Read r.ballot) u answered

        go : (x : Bool) → nat_lt (phase_number m.phase) 1 ≡ x → ReadDone i (after_hear m (node.Cell i) u)
        go true e =
            let reads = phase_reading m.phase (ltb-true (phase_number m.phase) 1 e) in
            let k = reading_waits laws c mid run_mid b m here reads in
            let cells = k.1 in
            subst (λ x. ReadDone i (after_hear m (node.Cell i) x)) (sym past.1)
            (hears m i (register.answer_of (cell_at c past.0 i) (Read r.ballot)) reads (read_heard m.reads i (cell_at c past.0 i) r.ballot (lt-ltb i m.reads.poll.cells (omega (arith, cells, below))) k.0))
        go false e = inr (from_change 1 m (word_of (node.Cell i) u) (after_hear m (node.Cell i) u) (laws.rec_change m (node.Cell i) u) (ltb-false (phase_number m.phase) 1 e))

    each : (i : ℕ) → i < c.cells → answers (node.Cell i) ≡ true → is_heard n.reads.poll i ≡ true
    each i below heeds = ended i (go (is_heard r.reads.poll i) refl)
      where
        go : (x : Bool) → is_heard r.reads.poll i ≡ x → ReadDone i n
        go true e = holds_at (rec_at c (turns ++ h) b) (ReadDone i) (along c b (ReadDone i) (keeps i) turns h run r at (inl e)) n there
        go false e =
            let k = reading_waits laws c h (run_back c turns h run) b r at phase in
            holds_at (rec_at c (turns ++ h) b) (ReadDone i)
            (through c b h turns (node.Cell i) (ask.Cell (Read r.ballot)) run (round r at (node.Cell i) (ask.Cell (Read r.ballot)) (read_asked r c.cells i phase k.1 below e) heeds) r at
            (IsFrom 0) (ReadDone i) (λ l run_l s from u here said low. omega arith) (keeps i) (omega arith)
            (λ mid m u run_mid here said answered low. brings i below mid m u run_mid here answered))
            n there
