-- Writing takes one round.
use Rattle.std.proofs.Common.{◌≡◌, ℕ, ◌<◌, Bool, true, false, nat_lt, List, ◌++◌, Option, None, Some, inl, inr, ◌⊎◌, refl, sym, ◌∙◌, ap, subst, arith}
use Rattle.std.specs.List.{Contains}
use Rattle.std.proofs.lemmas.Bool.{lt-ltb, ltb-true, ltb-false, true≢false}
use Rattle.std.proofs.lemmas.List.Elements.{All-contains}
use Rattle.fr_base.specs.declared.place.NodeId.TheVariants as node
use Rattle.fr_register.specs.Cell as register
use Rattle.fr_register.specs.Tally.{progress_of, is_heard, hear_write}
use Rattle.fr_register.specs.declared.ask.CellAsk.TheVariants.{Write}
use Rattle.fr_register.specs.declared.ask.CellTell.{CellTell}
use Rattle.fr_register.specs.declared.poll.Progress.{Progress}
use Rattle.fr_register.specs.declared.poll.Progress.TheVariants as poll
use Rattle.fr_state.specs.Spelling.{spelling}
use Rattle.fr_tags.specs.CoverLaw.{DistinctLogsCount}
use Rattle.fr_ask.specs.declared.ask.Ask.TheVariants as ask
use Rattle.fr_ask.specs.declared.tell.Tell.{Tell}
use Rattle.fr_ask.specs.declared.tell.Tell.TheVariants as tell
use Rattle.fr_epoch.specs.Recoverer.{RecState, Plan, Writing, is_written_in}
use Rattle.fr_epoch.specs.Words.{Word, OfCell, word_of, heed_in}
use Rattle.fr_epoch.specs.Hear.{with_write, after_writes, after_heed, after_hear}
use Rattle.fr_epoch.specs.Asks.{left, writes_of, pending, pending_in, phase_number}
use Rattle.fr_epoch.specs.Change.{Change, Stands, LosesReads, Reads, Finds, Locks, LosesLocks, Plans, Copies, Seeds, SeedsAll, Writes, LosesWrites, Chooses, Marks}
use Rattle.fr_run.specs.Turn.{Turn}
use Rattle.fr_run.specs.Nodes.{cell_at, rec_at}
use Rattle.fr_run.specs.Run.{IsRun}
use Rattle.fr_run.specs.Laws.{Laws}
use Rattle.fr_run.proofs.Growth.{rec_is}
use Rattle.fr_run_outcomes.proofs.Asked.{write_more}
use Rattle.fr_run_outcomes.proofs.Lists.{left_has, map_has}
use Rattle.fr_run_outcomes.proofs.Counts.{Contains-from_among}
use Rattle.fr_run_outcomes.proofs.Waiting.{WritesIn, writing_waits}
use Rattle.fr_run_rounds.specs.Rounds.{WasAnswered}
use Rattle.fr_run_rounds.specs.Ending.{WritingIsOneRound}
use Rattle.fr_run_rounds.proofs.Along.{holds_at, Keeps, keeps_by, along, through, run_back, IsFrom, from_change, from_keeps, phase_writing}
use Rattle.fr_run_rounds.proofs.Tallies.{write_heard, waits_short}
use Rattle.fr_run_rounds.proofs.ReadRound.{cell_answer}

-- ---- a cell that is heard

-- a cell is heard, or all is written
abbrev VoteDone : ℕ → RecState → Type 0
VoteDone i r = (is_heard r.writes.poll i ≡ true) ⊎ IsFrom 4 r

votes_kept : (j : ℕ) (r : RecState) (w : Word) (n : RecState) → Change r w n → is_heard r.writes.poll j ≡ true → is_heard n.writes.poll j ≡ true
votes_kept j r w n Stands e = e
votes_kept j r w n (LosesReads i t y heard) e = e
votes_kept j r w n (Reads i t heard) e = e
votes_kept j r w n (Finds i t s g heard found) e = e
votes_kept j r w n (Locks p end i d f ps heard) e = e
votes_kept j r w n (LosesLocks p end i d f ps y heard) e = e
votes_kept j r w n (Plans p end i d f ps s heard fixed) e = e
votes_kept j r w n (Copies parent p i peeked given) e = e
votes_kept j r w n (Seeds p i new not_yet) e = e
votes_kept j r w n (SeedsAll p i new all) e = e
votes_kept j r w n (Writes i t heard) e = write_more r.writes i t j e
votes_kept j r w n (LosesWrites i t y heard) e = write_more r.writes i t j e
votes_kept j r w n (Chooses i t heard m) e = write_more r.writes i t j e
votes_kept j r w n (Marks p i new) e = e

done_kept : (j : ℕ) (r : RecState) (w : Word) (n : RecState) → Change r w n → VoteDone j r → VoteDone j n
done_kept j r w n change (inl e) = inl (votes_kept j r w n change e)
done_kept j r w n change (inr up) = inr (from_change 4 r w n change up)

hears : (r : RecState) (i : ℕ) (u : CellTell) → r.phase ≡ Writing → is_heard (hear_write r.writes i u).poll i ≡ true → VoteDone i (after_hear r (node.Cell i) (tell.Cell u))
hears r i u phase heard =
    subst (VoteDone i) (sym (ap (λ ph. after_heed r (heed_in ph r (OfCell i u))) phase)) (go (progress_of (with_write r i u).writes.poll))
  where
    go : (o : Progress) → VoteDone i (after_writes (with_write r i u) u o)
    go poll.Waiting = inl heard
    go poll.Majority = inr (omega arith)
    go (poll.Lost promised) = inr (omega arith)

-- ---- the round

write_asked : (r : RecState) (q : Plan) (cells i : ℕ) → r.phase ≡ Writing → r.plan ≡ Some q → r.writes.poll.cells ≡ cells → i < cells → is_heard r.writes.poll i ≡ false → Contains (pending r) (node.Cell i, ask.Cell (Write r.ballot (spelling q.state)))
write_asked r q cells i phase plan same below fresh =
    subst (λ xs. Contains xs (node.Cell i, ask.Cell (Write r.ballot (spelling q.state)))) (sym (ap (λ ph. pending_in ph r) phase ∙ ap (writes_of r) plan))
    (map_has (λ j. (node.Cell j, ask.Cell (Write r.ballot (spelling q.state)))) (left r.writes.poll.cells (is_heard r.writes.poll)) i
    (left_has r.writes.poll.cells (is_heard r.writes.poll) i (omega (arith, same, below)) fresh))

-- one that writes has a plan
planned : (r : RecState) → (o : Option Plan) → r.plan ≡ o → is_written_in o r.seeded ≡ true → (q : Plan) × (r.plan ≡ Some q)
planned r None plan e = absurd (true≢false (sym e))
planned r (Some q) plan e = (q, plan)

pub writing_is_one_round : Laws → DistinctLogsCount → WritingIsOneRound
writing_is_one_round laws counts c h turns config run b answers round told r n at phase there still =
    waits_short counts n.writes.poll c.cells told.cells waits.1 waits.0 told.majority
    (λ i among. each i (All-contains (λ j. j < c.cells) told.cells i told.majority.below (Contains-from_among told.cells i among)) (All-contains (λ j. answers (node.Cell j) ≡ true) told.cells i told.each (Contains-from_among told.cells i among)))
  where
    waits : WritesIn c.cells b Writing n.writes
    waits = writing_waits laws c (turns ++ h) run b n there still

    run_start : IsRun c h
    run_start = run_back c turns h run

    plan : (q : Plan) × (r.plan ≡ Some q)
    plan = planned r r.plan refl ((rec_is laws c h run_start b r at).kept.come_by.writing phase)

    keeps : (i : ℕ) → Keeps c b (VoteDone i)
    keeps i = keeps_by laws c b (VoteDone i) (λ s w m come_by change k. done_kept i s w m change k)

    ended : (i : ℕ) → VoteDone i n → is_heard n.writes.poll i ≡ true
    ended i (inl e) = e
    ended i (inr up) = absurd (let three : phase_number n.phase ≡ 3 = ap phase_number still in omega (arith, up, three))

    brings : (i : ℕ) → i < c.cells → (mid : List Turn) (m : RecState) (u : Tell) → IsRun c mid → rec_at c mid b ≡ Some m → IsFrom 3 m → WasAnswered c mid b (node.Cell i) (ask.Cell (Write r.ballot (spelling plan.0.state))) u → VoteDone i (after_hear m (node.Cell i) u)
    brings i below mid m u run_mid here low answered = go (nat_lt (phase_number m.phase) 4) refl
      where
        past : (l : List Turn) × (u ≡ tell.Cell (register.answer_of (cell_at c l i) (Write r.ballot (spelling plan.0.state))))
        past = cell_answer c mid b i (Write r.ballot (spelling plan.0.state)) u answered

        go : (x : Bool) → nat_lt (phase_number m.phase) 4 ≡ x → VoteDone i (after_hear m (node.Cell i) u)
        go true e =
            let writes = phase_writing m.phase low (ltb-true (phase_number m.phase) 4 e) in
            let k = writing_waits laws c mid run_mid b m here writes in
            let cells = k.1 in
            let own : r.ballot ≡ m.writes.ballot = (rec_is laws c h run_start b r at).ballot ∙ sym k.2 in
            subst (λ x. VoteDone i (after_hear m (node.Cell i) x)) (sym (past.1 ∙ ap (λ x. tell.Cell (register.answer_of (cell_at c past.0 i) (Write x (spelling plan.0.state)))) own))
            (hears m i (register.answer_of (cell_at c past.0 i) (Write m.writes.ballot (spelling plan.0.state))) writes (write_heard m.writes i (cell_at c past.0 i) (spelling plan.0.state) (lt-ltb i m.writes.poll.cells (omega (arith, cells, below))) k.0))
        go false e = inr (from_change 4 m (word_of (node.Cell i) u) (after_hear m (node.Cell i) u) (laws.rec_change m (node.Cell i) u) (ltb-false (phase_number m.phase) 4 e))

    each : (i : ℕ) → i < c.cells → answers (node.Cell i) ≡ true → is_heard n.writes.poll i ≡ true
    each i below heeds = ended i (go (is_heard r.writes.poll i) refl)
      where
        start : IsFrom 3 r
        start = (let three : phase_number r.phase ≡ 3 = ap phase_number phase in omega (arith, three))

        go : (x : Bool) → is_heard r.writes.poll i ≡ x → VoteDone i n
        go true e = holds_at (rec_at c (turns ++ h) b) (VoteDone i) (along c b (VoteDone i) (keeps i) turns h run r at (inl e)) n there
        go false e =
            let k = writing_waits laws c h run_start b r at phase in
            holds_at (rec_at c (turns ++ h) b) (VoteDone i)
            (through c b h turns (node.Cell i) (ask.Cell (Write r.ballot (spelling plan.0.state))) run
            (round r at (node.Cell i) (ask.Cell (Write r.ballot (spelling plan.0.state))) (write_asked r plan.0 c.cells i phase plan.1 k.1 below e) heeds) r at
            (IsFrom 3) (VoteDone i) (from_keeps laws c b 3) (keeps i) start
            (λ mid m u run_mid here said answered low. brings i below mid m u run_mid here low answered))
            n there
