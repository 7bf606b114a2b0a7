-- Why a recoverer is lost for want of room, and what the replies that it heard showed popped.
use Rattle.std.proofs.Common.{◌≡◌, ℕ, ◌+◌, ◌^◌, Bool, true, false, cond, nat_lt, nat_le, List, [], ◌∷◌, ◌++◌, length, Option, None, Some, inl, inr, refl, sym, ◌∙◌, ap, subst}
use Rattle.std.specs.Prelude.{IfSome, Result, Ok, Err}
use Rattle.std.specs.List.{Contains}
use Rattle.std.proofs.lemmas.List.Elements.{Contains-append_left, Contains-append_right, Contains-append_cases}
use Rattle.fr_base.specs.declared.place.NodeId.{NodeId}
use Rattle.fr_base.specs.declared.place.NodeId.TheVariants as node
use Rattle.fr_register.specs.Tally.{progress_of}
use Rattle.fr_register.specs.declared.ask.CellTell.{CellTell}
use Rattle.fr_register.specs.declared.ask.CellTell.TheVariants as ctell
use Rattle.fr_register.specs.declared.poll.Progress.{Progress}
use Rattle.fr_register.specs.declared.poll.Progress.TheVariants as poll
use Rattle.fr_state.specs.Generations.{LogGeneration, CoordinatedState, last_of}
use Rattle.fr_state.specs.Order.{extended}
use Rattle.fr_state.specs.Reading.{reading}
use Rattle.fr_state.specs.declared.fault.StateDecodeFault.{StateDecodeFault}
use Rattle.fr_state.specs.declared.fault.StateFault.{StateFault}
use Rattle.fr_state.specs.declared.fault.StateFault.TheVariants as fault
use Rattle.fr_log.specs.declared.popped.PoppedTag.{PoppedTag}
use Rattle.fr_log.specs.declared.ask.LogTell.TheVariants as ltell
use Rattle.fr_ask.specs.declared.tell.Tell.{Tell}
use Rattle.fr_ask.specs.declared.tell.Tell.TheVariants as tell
use Rattle.fr_epoch.specs.declared.reply.Reply.{Reply}
use Rattle.fr_epoch.specs.declared.why.LostWhy.{LostWhy}
use Rattle.fr_epoch.specs.declared.why.LostWhy.TheVariants as why
use Rattle.fr_epoch.specs.EndTally.{EndState, counts, is_covered, pev_of, rv_of}
use Rattle.fr_epoch.specs.Recoverer.{RecState, Phase, Parent, Reading, Locking, Copying, Writing, Chosen, Lost, new_recoverer}
use Rattle.fr_epoch.specs.Words.{Word, word_of, heed}
use Rattle.fr_epoch.specs.Hear.{lost, why_of, with_last, with_parent, after_reads, with_read, with_lock, with_plan, ended, after_reply, left_of, next_generation, plan_of, with_tail, with_seeded, with_write, with_marked, after_writes, after_heed, after_hear}
use Rattle.fr_epoch.specs.Change.{replied, IsReplied, Change, Stands, LosesReads, Reads, Finds, Locks, LosesLocks, Plans, Copies, Seeds, SeedsAll, Writes, LosesWrites, Chooses, Marks}
use Rattle.fr_run.specs.Config.{Config}
use Rattle.fr_run.specs.Turn.{Turn, Told}
use Rattle.fr_run.specs.Nodes.{rec_at}
use Rattle.fr_run.specs.Run.{IsRun}
use Rattle.fr_run.specs.Laws.{Laws}
use Rattle.fr_run.proofs.ByTurn.{rec_by_turn}
use Rattle.fr_run.proofs.Cells.{Contains-none, Contains-cases}
use Rattle.fr_run_headline.specs.LogLaws.{tally, tally_in}
use Rattle.fr_run_headline.proofs.Locks.{of_log}
use Rattle.fr_run_outcomes.proofs.LockAnswers.{too_many}
use Rattle.fr_run_outcomes.proofs.Lost.{heed_reading, heed_writing, heed_locking}
use Rattle.fr_run_outcomes.proofs.Waiting.{never_memory}

-- ---- for what reason

-- replies that cover leave a list without room for one more generation
pub record IsFull (r : RecState) : Type 0 where
  pub parent : Parent
  pub parent_is : r.parent ≡ Some parent
  pub covered : is_covered (tally r) ≡ true
  pub full : nat_lt (length (left_of r parent).gens) 64 ≡ false

-- or no version for the mark of one
pub record IsSpent (r : RecState) : Type 0 where
  pub parent : Parent
  pub parent_is : r.parent ≡ Some parent
  pub covered : is_covered (tally r) ≡ true
  pub spent : nat_le (2 ^ 62) (rv_of (tally r) + 1) ≡ true

pub record HasReason (r : RecState) : Type 0 where
  pub many : r.phase ≡ Lost why.TooMany → IsFull r
  pub spent : r.phase ≡ Lost why.Spent → IsSpent r

-- nothing is claimed of one that is not lost, or lost otherwise
other_phase : (r : RecState) (ph : Phase) → r.phase ≡ ph → ((w : LostWhy) → ph ≡ Lost w → ⊥) → HasReason r
other_phase r ph is never = record { many = λ e. absurd (never why.TooMany (sym is ∙ e)); spent = λ e. absurd (never why.Spent (sym is ∙ e)) }

other_reason : (r : RecState) (w : LostWhy) → (w ≡ why.TooMany → ⊥) → (w ≡ why.Spent → ⊥) → HasReason (lost r w)
other_reason r w many spent = record {
  many = λ e. (let k : Lost w ≡ Lost why.TooMany = e in let d : w ≡ why.TooMany = cc in absurd (many d));
  spent = λ e. (let k : Lost w ≡ Lost why.Spent = e in let d : w ≡ why.Spent = cc in absurd (spent d));
}

reads_on : (w : LostWhy) → Reading ≡ Lost w → ⊥
reads_on w e = absurd (cc)

locks_on : (w : LostWhy) → Locking ≡ Lost w → ⊥
locks_on w e = absurd (cc)

copies_on : (w : LostWhy) → Copying ≡ Lost w → ⊥
copies_on w e = absurd (cc)

writes_on : (w : LostWhy) → Writing ≡ Lost w → ⊥
writes_on w e = absurd (cc)

chosen_on : (w : LostWhy) → Chosen ≡ Lost w → ⊥
chosen_on w e = absurd (cc)

-- ---- one hear

of_cell : (r : RecState) (u : CellTell) → HasReason (lost r (why_of u))
of_cell r (ctell.Promise w v) = other_reason r why.Outballoted (λ e. absurd (cc)) (λ e. absurd (cc))
of_cell r (ctell.Written b) = other_reason r why.Outballoted (λ e. absurd (cc)) (λ e. absurd (cc))
of_cell r (ctell.Refused b) = other_reason r why.Outballoted (λ e. absurd (cc)) (λ e. absurd (cc))
of_cell r ctell.TwoValues = other_reason r why.TwoValues (λ e. absurd (cc)) (λ e. absurd (cc))

bad_state : (r : RecState) → HasReason (lost r why.BadState)
bad_state r = other_reason r why.BadState (λ e. absurd (cc)) (λ e. absurd (cc))

last_found : (r : RecState) (s : CoordinatedState) (o : Option LogGeneration) → HasReason (with_last r s o)
last_found r s None = bad_state r
last_found r s (Some g) = other_phase (with_last r s (Some g)) Locking refl locks_on

parent_found : (r : RecState) (o : Result CoordinatedState StateDecodeFault) → HasReason (with_parent r o)
parent_found r (Ok s) = last_found r s (last_of s.gens)
parent_found r (Err f) = bad_state r

reads_reason : (r : RecState) (u : CellTell) (o : Progress) → r.phase ≡ Reading → HasReason (after_reads r u o)
reads_reason r u poll.Waiting phase = other_phase r Reading phase reads_on
reads_reason r u poll.Majority phase = parent_found r (reading r.reads.greatest.value)
reads_reason r u (poll.Lost promised) phase = of_cell r u

writes_reason : (r : RecState) (u : CellTell) (o : Progress) → r.phase ≡ Writing → HasReason (after_writes r u o)
writes_reason r u poll.Waiting phase = other_phase r Writing phase writes_on
writes_reason r u poll.Majority phase = other_phase (after_writes r u poll.Majority) Chosen refl chosen_on
writes_reason r u (poll.Lost promised) phase = of_cell r u

plan_reason : (r : RecState) (p : Parent) (end : EndState) → r.parent ≡ Some p → tally r ≡ end → is_covered end ≡ true → (o : Result CoordinatedState StateFault) → extended (left_of r p) (next_generation r p end) ≡ o
    → HasReason (with_plan r p end o)
plan_reason r p end parent same covered (Ok s) e = other_phase (with_plan r p end (Ok s)) Copying refl copies_on
plan_reason r p end parent same covered (Err fault.NotLater) e = other_reason r why.NotLater (λ d. absurd (cc)) (λ d. absurd (cc))
plan_reason r p end parent same covered (Err fault.TooMany) e = record {
  many = λ d. record { parent = p; parent_is = parent; covered = ap is_covered same ∙ covered; full = too_many (left_of r p) (next_generation r p end) e };
  spent = λ d. (let k : Lost why.TooMany ≡ Lost why.Spent = d in absurd (cc));
}
plan_reason r p end parent same covered (Err fault.Memory) e = absurd (never_memory (left_of r p) (next_generation r p end) e)

ended_reason : (r : RecState) (p : Parent) (end : EndState) → r.parent ≡ Some p → tally r ≡ end → is_covered end ≡ true → HasReason (ended r p end)
ended_reason r p end parent same covered = odds (nat_lt (rv_of end) (pev_of end)) (nat_le (2 ^ 62) (rv_of end + 1)) refl
  where
    odds : (a b : Bool) → nat_le (2 ^ 62) (rv_of end + 1) ≡ b → HasReason (cond a (lost r why.Inconsistent) (cond b (lost r why.Spent) (with_plan r p end (extended (left_of r p) (next_generation r p end)))))
    odds true b e = other_reason r why.Inconsistent (λ d. absurd (cc)) (λ d. absurd (cc))
    odds false true e = record {
      many = λ d. (let k : Lost why.Spent ≡ Lost why.TooMany = d in absurd (cc));
      spent = λ d. record { parent = p; parent_is = parent; covered = ap is_covered same ∙ covered; spent = ap (λ (x : EndState). nat_le (2 ^ 62) (rv_of x + 1)) same ∙ e };
    }
    odds false false e = plan_reason r p end parent same covered (extended (left_of r p) (next_generation r p end)) refl

reply_reason : (r : RecState) (p : Parent) (end : EndState) → r.parent ≡ Some p → r.phase ≡ Locking → tally r ≡ end → HasReason (after_reply r p (Some end))
reply_reason r p end parent phase same = go (is_covered end) refl
  where
    go : (b : Bool) → is_covered end ≡ b → HasReason (cond b (ended r p end) r)
    go true e = ended_reason r p end parent same e
    go false e = other_phase r Locking phase locks_on

-- ---- each way in which a recoverer changes

change_reason : (r : RecState) (w : Word) (n : RecState) → Change r w n → n ≡ after_heed r (heed r w) → HasReason r → HasReason n
change_reason r w n Stands is k = k
change_reason r w n (LosesReads i t y heard) is k =
    subst HasReason (sym (is ∙ ap (after_heed r) (heed_reading r w i t heard))) (reads_reason (with_read r i t) t (progress_of (with_read r i t).reads.poll) heard.phase)
change_reason r w n (Reads i t heard) is k = other_phase (with_read r i t) Reading heard.phase reads_on
change_reason r w n (Finds i t s g heard found) is k = other_phase (with_last (with_read r i t) s (Some g)) Locking refl locks_on
change_reason r w n (Locks p end i d f ps heard) is k = other_phase (with_lock r end i d f ps) Locking heard.phase locks_on
change_reason r w n (LosesLocks p end i d f ps y heard) is k =
    subst HasReason (sym (is ∙ ap (after_heed r) (heed_locking r w p end i d f ps heard))) (reply_reason (with_lock r end i d f ps) p (replied end i d f) heard.parent heard.phase refl)
change_reason r w n (Plans p end i d f ps s heard fixed) is k = other_phase (record (with_lock r end i d f ps) { phase = Copying; plan = Some (plan_of r p (replied end i d f) s) }) Copying refl copies_on
change_reason r w n (Copies parent p i peeked given) is k = other_phase (with_tail r p i peeked) Copying given.phase copies_on
change_reason r w n (Seeds p i new not_yet) is k = other_phase (with_seeded r i) Copying new.phase copies_on
change_reason r w n (SeedsAll p i new all) is k = other_phase (record (with_seeded r i) { phase = Writing }) Writing refl writes_on
change_reason r w n (Writes i t heard) is k = other_phase (with_write r i t) Writing heard.phase writes_on
change_reason r w n (LosesWrites i t y heard) is k =
    subst HasReason (sym (is ∙ ap (after_heed r) (heed_writing r w i t heard))) (writes_reason (with_write r i t) t (progress_of (with_write r i t).writes.poll) heard.phase)
change_reason r w n (Chooses i t heard m) is k = other_phase (record (with_write r i t) { phase = Chosen }) Chosen refl chosen_on
change_reason r w n (Marks p i new) is k = other_phase (with_marked r i) Chosen new.phase chosen_on

have_reasons : Laws → (c : Config) (h : List Turn) → IsRun c h → (b : ℕ) → IfSome (rec_at c h b) HasReason
have_reasons laws c [] run b = tt
have_reasons laws c (t ∷ h) run b =
    rec_by_turn c h t run.0 b (λ o. IfSome o HasReason) (have_reasons laws c h run.1 b) (λ shape none may is. other_phase (new_recoverer b c.cells c.begins shape) Reading refl reads_on)
    (λ r from u at told. change_reason r (word_of from u) (after_hear r from u) (laws.rec_change r from u) refl (subst (λ o. IfSome o HasReason) at (have_reasons laws c h run.1 b)))

pub has_reason : Laws → (c : Config) (h : List Turn) → IsRun c h → (b : ℕ) (r : RecState) → rec_at c h b ≡ Some r → HasReason r
has_reason laws c h run b r at = subst (λ o. IfSome o HasReason) at (have_reasons laws c h run b)

-- ---- what replies showed

-- a log told a recoverer this reply, and what that showed popped is among what was shown
pub record IsShown (h : List Turn) (b e : ℕ) (shown : List PoppedTag) (x : Reply) : Type 0 where
  pub popped : List PoppedTag
  pub told : Told h (node.Log e x.log) (node.Recoverer b) (tell.Log (ltell.Locked x.durable x.known popped))
  pub each : (y : PoppedTag) → Contains popped y → Contains shown y

abbrev pub AreShown : List Turn → ℕ → RecState → Type 0
AreShown h b r = (p : Parent) → r.parent ≡ Some p → (x : Reply) → Contains (tally r).replies x → IsShown h b p.last.epoch r.shown x

-- one more reply
one_more : (h : List Turn) (b : ℕ) (from : NodeId) (t : Tell) → Told h from (node.Recoverer b) t → (r : RecState) → AreShown h b r → (p : Parent) (end : EndState) (i d f : ℕ) (ps : List PoppedTag) → IsReplied r (word_of from t) p end i d f ps
    → (q : Parent) → r.parent ≡ Some q → (x : Reply) → Contains (replied end i d f).replies x → IsShown h b q.last.epoch (with_lock r end i d f ps).shown x
one_more h b from t told r k p end i d f ps is q e = go (counts end i)
  where
    same : p ≡ q
    same = (let two : Some p ≡ Some q = sym is.parent ∙ e in cc)

    heard : Told h (node.Log p.last.epoch i) (node.Recoverer b) (tell.Log (ltell.Locked d f ps))
    heard =
        let w = of_log from t p.last.epoch i (ltell.Locked d f ps) is.word in
        subst (λ y. Told h (node.Log p.last.epoch i) (node.Recoverer b) y) w.said (subst (λ y. Told h y (node.Recoverer b) t) w.sender told)

    before : (x : Reply) → Contains end.replies x → IsShown h b q.last.epoch r.shown x
    before x has = k q e x (subst (λ (s : EndState). Contains s.replies x) (sym (ap tally_in is.tally)) has)

    go : (s : Bool) → (x : Reply) → Contains (cond s (record end { replies = end.replies ++ record { log = i; durable = d; known = f } ∷ [] }) end).replies x → IsShown h b q.last.epoch (cond s (r.shown ++ ps) r.shown) x
    go false x has = before x has
    go true x has = elim (Contains-append_cases end.replies (record { log = i; durable = d; known = f } ∷ []) x has) [
      | inl old ↦ (let j = before x old in record { popped = j.popped; told = j.told; each = λ y there. Contains-append_left r.shown ps y (j.each y there) })
      | inr own ↦ elim (Contains-cases (record { log = i; durable = d; known = f }) [] x own) [
        | inl now ↦ subst (IsShown h b q.last.epoch (r.shown ++ ps)) now
            (record { popped = ps; told = subst (λ (y : Parent). Told h (node.Log y.last.epoch i) (node.Recoverer b) (tell.Log (ltell.Locked d f ps))) same heard; each = λ y there. Contains-append_right r.shown ps y there })
        | inr none ↦ absurd (Contains-none none)
      ]
    ]

change_shown : (h : List Turn) (b : ℕ) (from : NodeId) (t : Tell) → Told h from (node.Recoverer b) t → (r : RecState) → AreShown h b r → (n : RecState) → Change r (word_of from t) n → AreShown h b n
change_shown h b from t told r k n Stands = k
change_shown h b from t told r k n (LosesReads i u y is) = k
change_shown h b from t told r k n (Reads i u is) = k
change_shown h b from t told r k n (Finds i u s g heard is) = λ p e x has. absurd (Contains-none has)
change_shown h b from t told r k n (Locks p end i d f ps is) = one_more h b from t told r k p end i d f ps is
change_shown h b from t told r k n (LosesLocks p end i d f ps y is) = one_more h b from t told r k p end i d f ps is
change_shown h b from t told r k n (Plans p end i d f ps s heard is) = one_more h b from t told r k p end i d f ps heard
change_shown h b from t told r k n (Copies parent p i peeked is) = k
change_shown h b from t told r k n (Seeds p i is w) = k
change_shown h b from t told r k n (SeedsAll p i is w) = k
change_shown h b from t told r k n (Writes i u is) = k
change_shown h b from t told r k n (LosesWrites i u y is) = k
change_shown h b from t told r k n (Chooses i u is m) = k
change_shown h b from t told r k n (Marks p i is) = k

shown_later : (h : List Turn) (t : Turn) (b : ℕ) (o : Option RecState) → IfSome o (AreShown h b) → IfSome o (AreShown (t ∷ h) b)
shown_later h t b None k = tt
shown_later h t b (Some r) k = λ p e x has. (let j = k p e x has in record { popped = j.popped; told = inr j.told; each = j.each })

have_shown : Laws → (c : Config) (h : List Turn) → IsRun c h → (b : ℕ) → IfSome (rec_at c h b) (AreShown h b)
have_shown laws c [] run b = tt
have_shown laws c (t ∷ h) run b =
    rec_by_turn c h t run.0 b (λ o. IfSome o (AreShown (t ∷ h) b)) (shown_later h t b (rec_at c h b) (have_shown laws c h run.1 b)) (λ shape none may is p e x has. absurd (Contains-none has)) (λ r from u at told.
    shown_later h t b (Some (after_hear r from u)) (change_shown h b from u told r (subst (λ o. IfSome o (AreShown h b)) at (have_shown laws c h run.1 b)) (after_hear r from u) (laws.rec_change r from u)))

pub are_shown : Laws → (c : Config) (h : List Turn) → IsRun c h → (b : ℕ) (r : RecState) → rec_at c h b ≡ Some r → AreShown h b r
are_shown laws c h run b r at = subst (λ o. IfSome o (AreShown h b)) at (have_shown laws c h run b)
