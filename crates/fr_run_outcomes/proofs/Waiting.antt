-- A recoverer that has what its phase waits for has left the phase.
use Rattle.std.proofs.Common.{◌≡◌, ℕ, ◌+◌, ◌*◌, ◌<◌, ◌^◌, Bool, true, false, cond, nat_lt, nat_le, ◌==◌, ◌&&◌, List, [], ◌∷◌, ◌++◌, length, Option, None, Some, refl, sym, ◌∙◌, ap, subst, arith}
use Rattle.std.specs.Prelude.{IfSome, Result, Ok, Err}
use Rattle.std.specs.List.{IsDistinct}
use Rattle.std.proofs.lemmas.Bool.{leb-false, le-ltb}
use Rattle.fr_register.specs.Poll.{WriteState}
use Rattle.fr_register.specs.Tally.{new_write, progress_of, is_wanted, with_heard, take_write, hear_write}
use Rattle.fr_register.specs.declared.ask.CellTell.{CellTell}
use Rattle.fr_register.specs.declared.ask.CellTell.TheVariants as ctell
use Rattle.fr_register.specs.declared.poll.Progress.{Progress}
use Rattle.fr_register.specs.declared.poll.Progress.TheVariants as poll
use Rattle.fr_state.specs.Generations.{LogGeneration, CoordinatedState, last_of}
use Rattle.fr_state.specs.Order.{extended, is_ordered}
use Rattle.fr_state.specs.Reading.{reading}
use Rattle.fr_state.specs.declared.fault.StateDecodeFault.{StateDecodeFault}
use Rattle.fr_state.specs.declared.fault.StateFault.{StateFault}
use Rattle.fr_state.specs.declared.fault.StateFault.TheVariants as fault
use Rattle.fr_tail.specs.Tail.{is_complete, after_hear as after_peeked}
use Rattle.fr_epoch.specs.EndTally.{EndState, is_covered, pev_of, rv_of}
use Rattle.fr_epoch.specs.Recoverer.{RecState, Phase, Parent, Plan, Reading, Locking, Copying, Writing, Chosen, Lost, is_copied_in, is_written, is_written_in}
use Rattle.fr_epoch.specs.Words.{Word, Heed, Nothing, Promised, Replied, Given, IsSeeded, Voted, IsMarked, word_of, heed, heed_in}
use Rattle.fr_epoch.specs.Hear.{lost, with_last, with_parent, after_reads, with_read, with_lock, with_plan, ended, after_reply, left_of, next_generation, with_seeded, with_write, after_writes, after_heed, after_hear}
use Rattle.fr_epoch.specs.Change.{Change, Stands, LosesReads, Reads, Finds, Locks, LosesLocks, Plans, Copies, Seeds, SeedsAll, Writes, LosesWrites, Chooses, Marks}
use Rattle.fr_epoch.specs.declared.why.LostWhy.TheVariants as why
use Rattle.fr_epoch.specs.Law.{IsRecoverer}
use Rattle.fr_epoch.specs.WriteLaw.{AreSeeded}
use Rattle.fr_epoch.specs.Kept.{IsKept}
use Rattle.fr_run.specs.Config.{Config}
use Rattle.fr_run.specs.Turn.{Turn}
use Rattle.fr_run.specs.Nodes.{rec_at}
use Rattle.fr_run.specs.Run.{IsRun}
use Rattle.fr_run.specs.Laws.{Laws}
use Rattle.fr_run.proofs.ByTurn.{rec_by_turn}
use Rattle.fr_run.proofs.Growth.{rec_is}
use Rattle.fr_run_headline.specs.LogLaws.{tally}
use Rattle.fr_run_headline.proofs.Ends.{none_cover}
use Rattle.fr_run_outcomes.proofs.Asked.{write_cells}

-- ---- what extends a state

-- it never answers `Memory`
pub never_memory : (s : CoordinatedState) (g : LogGeneration) → extended s g ≡ Err fault.Memory → ⊥
never_memory s g = go (is_ordered (s.gens ++ g ∷ [])) (nat_lt (length s.gens) 64)
  where
    go : (a b : Bool) → cond a (cond b (Ok (record s { gens = s.gens ++ g ∷ [] })) (Err fault.TooMany)) (Err fault.NotLater) ≡ Err fault.Memory → ⊥
    go true true e = absurd (cc)
    go true false e = (let d : fault.TooMany ≡ fault.Memory = cc in absurd (cc))
    go false b e = (let d : fault.NotLater ≡ fault.Memory = cc in absurd (cc))

-- ---- locking

-- one that locks has too few replies
abbrev WaitsForReplies : RecState → Type 0
WaitsForReplies r = r.phase ≡ Locking → is_covered (tally r) ≡ false

not_lost : (r : RecState) (w : _) → WaitsForReplies (lost r w)
not_lost r w e = (let d : Lost w ≡ Locking = e in absurd (cc))

last_waits : (r : RecState) (s : CoordinatedState) (o : Option LogGeneration) → WaitsForReplies (with_last r s o)
last_waits r s None = not_lost r _
last_waits r s (Some g) = λ e. none_cover g.m g.k

parent_waits : (r : RecState) (o : Result CoordinatedState StateDecodeFault) → WaitsForReplies (with_parent r o)
parent_waits r (Ok s) = last_waits r s (last_of s.gens)
parent_waits r (Err f) = not_lost r _

reads_wait : (r : RecState) (t : CellTell) (o : Progress) → WaitsForReplies r → WaitsForReplies (after_reads r t o)
reads_wait r t poll.Waiting k = k
reads_wait r t poll.Majority k = parent_waits r (reading r.reads.greatest.value)
reads_wait r t (poll.Lost promised) k = not_lost r _

writes_wait : (r : RecState) (t : CellTell) (o : Progress) → WaitsForReplies r → WaitsForReplies (after_writes r t o)
writes_wait r t poll.Waiting k = k
writes_wait r t poll.Majority k = λ e. (let d : Chosen ≡ Locking = e in absurd (cc))
writes_wait r t (poll.Lost promised) k = not_lost r _

plan_waits : (r : RecState) (p : Parent) (end : EndState) (o : Result CoordinatedState StateFault) → (o ≡ Err fault.Memory → ⊥) → WaitsForReplies (with_plan r p end o)
plan_waits r p end (Ok s) never = λ e. (let d : Copying ≡ Locking = e in absurd (cc))
plan_waits r p end (Err fault.NotLater) never = not_lost r _
plan_waits r p end (Err fault.TooMany) never = not_lost r _
plan_waits r p end (Err fault.Memory) never = absurd (never refl)

ended_waits : (r : RecState) (p : Parent) (end : EndState) → WaitsForReplies (ended r p end)
ended_waits r p end = odds (nat_lt (rv_of end) (pev_of end)) (nat_le (2 ^ 62) (rv_of end + 1))
  where
    odds : (a b : Bool) → WaitsForReplies (cond a (lost r why.Inconsistent) (cond b (lost r why.Spent) (with_plan r p end (extended (left_of r p) (next_generation r p end)))))
    odds true b = not_lost r why.Inconsistent
    odds false true = not_lost r why.Spent
    odds false false = plan_waits r p end (extended (left_of r p) (next_generation r p end)) (never_memory (left_of r p) (next_generation r p end))

reply_waits : (r : RecState) (p : Parent) (end : EndState) → tally r ≡ end → WaitsForReplies (after_reply r p (Some end))
reply_waits r p end same = go (is_covered end) refl
  where
    go : (b : Bool) → is_covered end ≡ b → WaitsForReplies (cond b (ended r p end) r)
    go true e = ended_waits r p end
    go false e = λ k. ap is_covered same ∙ e

heed_waits : (r : RecState) (x : Heed) → WaitsForReplies r → WaitsForReplies (after_heed r x)
heed_waits r Nothing k = k
heed_waits r (Promised i t) k = reads_wait (with_read r i t) t (progress_of (with_read r i t).reads.poll) k
heed_waits r (Replied p end i durable known popped) k = reply_waits (with_lock r end i durable known popped) p _ refl
heed_waits r (Given p i peeked) k = k
heed_waits r (IsSeeded p i) k = go (is_written (with_seeded r i))
  where
    go : (b : Bool) → WaitsForReplies (cond b (record (with_seeded r i) { phase = Writing }) (with_seeded r i))
    go true = λ e. (let d : Writing ≡ Locking = e in absurd (cc))
    go false = k
heed_waits r (Voted i t) k = writes_wait (with_write r i t) t (progress_of (with_write r i t).writes.poll) k
heed_waits r (IsMarked p i) k = k

have_waited : (c : Config) (h : List Turn) → IsRun c h → (b : ℕ) → IfSome (rec_at c h b) WaitsForReplies
have_waited c [] run b = tt
have_waited c (t ∷ h) run b =
    rec_by_turn c h t run.0 b (λ o. IfSome o WaitsForReplies) (have_waited c h run.1 b) (λ shape none may is e. (let d : Reading ≡ Locking = e in absurd (cc)))
    (λ r from u at told. heed_waits r (heed r (word_of from u)) (subst (λ o. IfSome o WaitsForReplies) at (have_waited c h run.1 b)))

pub locking_waits : (c : Config) (h : List Turn) → IsRun c h → (b : ℕ) (r : RecState) → rec_at c h b ≡ Some r → r.phase ≡ Locking → is_covered (tally r) ≡ false
locking_waits c h run b r at = subst (λ o. IfSome o WaitsForReplies) at (have_waited c h run b)

-- ---- copying and seeding

-- of one that copies or seeds some new log is not seeded
abbrev LacksOne : RecState → Type 0
LacksOne r = r.phase ≡ Copying → (q : Plan) → r.plan ≡ Some q → length r.seeded < q.generation.m

-- ---- writing

-- one that does not write yet has a new tally, and one that writes waits
abbrev pub WritesIn : ℕ → ℕ → Phase → WriteState → Type 0
WritesIn cells b Reading w = w ≡ new_write cells b
WritesIn cells b Locking w = w ≡ new_write cells b
WritesIn cells b Copying w = w ≡ new_write cells b
WritesIn cells b Writing w = (progress_of w.poll ≡ poll.Waiting) × (w.poll.cells ≡ cells) × (w.ballot ≡ b)
WritesIn cells b Chosen w = (w ≡ w)
WritesIn cells b (Lost why) w = (w ≡ w)

write_left : (cells b : ℕ) (r : RecState) (t : CellTell) (o : Progress) → progress_of r.writes.poll ≡ o → r.phase ≡ Writing → (after_writes r t o).phase ≡ Writing → progress_of r.writes.poll ≡ poll.Waiting
write_left cells b r t poll.Waiting e was is = e
write_left cells b r t poll.Majority e was is = (let d : Chosen ≡ Writing = is in absurd (cc))
write_left cells b r t (poll.Lost promised) e was is = (let d : Lost _ ≡ Writing = is in absurd (cc))

write_ballot : (t : WriteState) (i : ℕ) (u : CellTell) → (hear_write t i u).ballot ≡ t.ballot
write_ballot t i u = go u (is_wanted t.poll i)
  where
    written : (b : Bool) → (cond b (record t { poll = with_heard t.poll i }) t).ballot ≡ t.ballot
    written true = refl
    written false = refl

    go : (u : CellTell) (b : Bool) → (cond b (take_write t i u) t).ballot ≡ t.ballot
    go u false = refl
    go (ctell.Promise w v) true = refl
    go (ctell.Written b) true = written (b == t.ballot)
    go (ctell.Refused promised) true = refl
    go ctell.TwoValues true = refl

none_waits : (cells b : ℕ) → progress_of (new_write cells b).poll ≡ poll.Waiting
none_waits cells b = ap (λ x. cond x poll.Majority poll.Waiting) (le-ltb cells (2 * 0) (omega arith))

none_distinct : IsDistinct {K = ℕ} (λ a b. a == b) []
unfolding IsDistinct
none_distinct = tt

-- a new tally waits
new_waits : (cells b : ℕ) (w : WriteState) → w ≡ new_write cells b → WritesIn cells b Writing w
new_waits cells b w e = subst (WritesIn cells b Writing) (sym e) (none_waits cells b, refl, refl)

-- so does one that heard one vote more, if its recoverer still writes
voted_waits : (cells b : ℕ) (r : RecState) (i : ℕ) (t : CellTell) → r.phase ≡ Writing → (after_writes (with_write r i t) t (progress_of (with_write r i t).writes.poll)).phase ≡ Writing → WritesIn cells b Writing r.writes → WritesIn cells b Writing (with_write r i t).writes
voted_waits cells b r i t was is k = (
  write_left cells b (with_write r i t) t (progress_of (with_write r i t).writes.poll) refl was is,
  write_cells r.writes i t ∙ k.1,
  write_ballot r.writes i t ∙ k.2,
)

-- the logs that count as seeded are logs of the new generation, each once
are_seeded : Laws → (c : Config) (h : List Turn) → IsRun c h → (b : ℕ) (r : RecState) → rec_at c h b ≡ Some r → AreSeeded r.plan r.seeded
are_seeded laws c h run b r at = subst (λ o. IfSome o (λ (x : RecState). AreSeeded x.plan x.seeded)) at (go h run)
  where
    go : (h : List Turn) → IsRun c h → IfSome (rec_at c h b) (λ (x : RecState). AreSeeded x.plan x.seeded)
    go [] run = tt
    go (t ∷ h) run =
        rec_by_turn c h t run.0 b (λ o. IfSome o (λ (x : RecState). AreSeeded x.plan x.seeded)) (go h run.1)
        (λ shape none may is. record { none = λ e. refl; below = λ p e. absurd (cc); distinct = none_distinct })
        (λ s from u at told. laws.rec_seeded s from u (rec_is laws c h run.1 b s at).kept.come_by (subst (λ o. IfSome o (λ (x : RecState). AreSeeded x.plan x.seeded)) at (go h run.1)))

-- each of the two is kept by a change
record Waits (cells b : ℕ) (r : RecState) : Type 0 where
  lacks : LacksOne r
  writes : WritesIn cells b r.phase r.writes

more_lacks : (m n : ℕ) → nat_le m n ≡ false → n < m
more_lacks m n e = leb-false m n e

still_lacks : (r : RecState) (p : Plan) (i : ℕ) → r.plan ≡ Some p → is_complete p.tail ≡ true → is_written (with_seeded r i) ≡ false → (q : Plan) → r.plan ≡ Some q → length (r.seeded ++ i ∷ []) < q.generation.m
still_lacks r p i plan copied not_yet q same =
    let two : Some p ≡ Some q = sym plan ∙ same in
    let d : p ≡ q = cc in
    let said : (is_complete p.tail && nat_le p.generation.m (length (r.seeded ++ i ∷ []))) ≡ false = sym (ap (λ o. is_written_in o (r.seeded ++ i ∷ [])) plan) ∙ not_yet in
    subst (λ (x : Plan). length (r.seeded ++ i ∷ []) < x.generation.m) d (more_lacks p.generation.m (length (r.seeded ++ i ∷ [])) (sym (ap (λ x. x && nat_le p.generation.m (length (r.seeded ++ i ∷ []))) copied) ∙ said))

change_waits : (cells b : ℕ) (r : RecState) (w : Word) → IsRecoverer r → AreSeeded r.plan r.seeded → Waits cells b r → (n : RecState) → Change r w n → n ≡ after_heed r (heed r w) → IsKept n → Waits cells b n
change_waits cells b r w come_by seeded k n Stands is kept = k
change_waits cells b r w come_by seeded k n (LosesReads i t y heard) is kept = record { lacks = λ e. (let d : Lost y ≡ Copying = e in absurd (cc)); writes = refl }
change_waits cells b r w come_by seeded k n (Reads i t heard) is kept = record { lacks = λ e. k.lacks e; writes = k.writes }
change_waits cells b r w come_by seeded k n (Finds i t s g heard found) is kept = record { lacks = λ e. (let d : Locking ≡ Copying = e in absurd (cc)); writes = subst (λ ph. WritesIn cells b ph r.writes) heard.phase k.writes }
change_waits cells b r w come_by seeded k n (Locks p end i durable known popped heard) is kept = record { lacks = λ e. (let d : Locking ≡ Copying = sym heard.phase ∙ e in absurd (cc)); writes = k.writes }
change_waits cells b r w come_by seeded k n (LosesLocks p end i durable known popped y heard) is kept = record { lacks = λ e. (let d : Lost y ≡ Copying = e in absurd (cc)); writes = refl }
change_waits cells b r w come_by seeded k n (Plans p end i durable known popped s heard fixed) is kept = record {
  lacks = λ e q at. (
      let none = seeded.none (come_by.locking heard.phase) in
      let limits = kept.generation q at in
      let some = limits.k_low in
      let fits = limits.k_high in
      let zero = ap (λ (xs : List ℕ). length xs) none in
      omega (arith, some, fits, zero));
  writes = subst (λ ph. WritesIn cells b ph r.writes) heard.phase k.writes;
}
change_waits cells b r w come_by seeded k n (Copies parent p i peeked given) is kept = record {
  lacks = λ e q at. (
      let m : Plan = record { state = p.state; generation = p.generation; tail = after_peeked p.tail i peeked.tag peeked } in
      let two : Some m ≡ Some q = at in
      let d : m ≡ q = cc in
      subst (λ (x : Plan). length r.seeded < x.generation.m) d (k.lacks given.phase p given.plan));
  writes = k.writes;
}
change_waits cells b r w come_by seeded k n (Seeds p i new not_yet) is kept = record {
  lacks = λ e. still_lacks r p i new.plan (sym (ap is_copied_in new.plan) ∙ new.copied) not_yet;
  writes = k.writes;
}
change_waits cells b r w come_by seeded k n (SeedsAll p i new all) is kept = record {
  lacks = λ e. (let d : Writing ≡ Copying = e in absurd (cc));
  writes = new_waits cells b r.writes (subst (λ ph. WritesIn cells b ph r.writes) new.phase k.writes);
}
change_waits cells b r w come_by seeded k n (Writes i t heard) is kept = record {
  lacks = λ e. (let d : Writing ≡ Copying = sym heard.phase ∙ e in absurd (cc));
  writes = subst (λ ph. WritesIn cells b ph (with_write r i t).writes) (sym heard.phase) (voted_waits cells b r i t heard.phase now (subst (λ ph. WritesIn cells b ph r.writes) heard.phase k.writes));
}
  where
    now : (after_writes (with_write r i t) t (progress_of (with_write r i t).writes.poll)).phase ≡ Writing
    now = ap (λ (x : RecState). x.phase) (sym (is ∙ ap (after_heed r) (ap (λ ph. heed_in ph r w) heard.phase ∙ ap (heed_in Writing r) heard.word))) ∙ heard.phase
change_waits cells b r w come_by seeded k n (LosesWrites i t y heard) is kept = record { lacks = λ e. (let d : Lost y ≡ Copying = e in absurd (cc)); writes = refl }
change_waits cells b r w come_by seeded k n (Chooses i t heard m) is kept = record { lacks = λ e. (let d : Chosen ≡ Copying = e in absurd (cc)); writes = refl }
change_waits cells b r w come_by seeded k n (Marks p i new) is kept = record { lacks = λ e. k.lacks e; writes = k.writes }

have_all_waited : Laws → (c : Config) (h : List Turn) → IsRun c h → (b : ℕ) → IfSome (rec_at c h b) (Waits c.cells b)
have_all_waited laws c [] run b = tt
have_all_waited laws c (t ∷ h) run b =
    rec_by_turn c h t run.0 b (λ o. IfSome o (Waits c.cells b)) (have_all_waited laws c h run.1 b)
    (λ shape none may is. record { lacks = λ e. (let d : Reading ≡ Copying = e in absurd (cc)); writes = refl })
    (λ r from u at told.
    let own = rec_is laws c h run.1 b r at in
    change_waits c.cells b r (word_of from u) own.kept.come_by (are_seeded laws c h run.1 b r at) (subst (λ o. IfSome o (Waits c.cells b)) at (have_all_waited laws c h run.1 b)) (after_hear r from u) (laws.rec_change r from u) refl (laws.rec_kept r from u own.kept))

pub copying_lacks : Laws → (c : Config) (h : List Turn) → IsRun c h → (b : ℕ) (r : RecState) → rec_at c h b ≡ Some r → r.phase ≡ Copying → (q : Plan) → r.plan ≡ Some q → length r.seeded < q.generation.m
copying_lacks laws c h run b r at = (let k : Waits c.cells b r = subst (λ o. IfSome o (Waits c.cells b)) at (have_all_waited laws c h run b) in k.lacks)

pub writing_waits : Laws → (c : Config) (h : List Turn) → IsRun c h → (b : ℕ) (r : RecState) → rec_at c h b ≡ Some r → r.phase ≡ Writing → WritesIn c.cells b Writing r.writes
writing_waits laws c h run b r at is = (let k : Waits c.cells b r = subst (λ o. IfSome o (Waits c.cells b)) at (have_all_waited laws c h run b) in subst (λ ph. WritesIn c.cells b ph r.writes) is k.writes)
