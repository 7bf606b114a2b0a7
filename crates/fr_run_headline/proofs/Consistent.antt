-- No recoverer finds that a log knows a version to be committed that another one does not hold.
use Rattle.std.proofs.Common.{◌≡◌, ◌≢◌, ℕ, ◌+◌, ◌<◌, ◌^◌, Bool, true, false, cond, nat_lt, nat_le, ◌==◌, List, [], ◌∷◌, Option, None, Some, refl, sym, ◌∙◌, ap, subst, arith}
use Rattle.std.specs.Prelude.{Result, Ok, Err}
use Rattle.std.proofs.lemmas.Bool.{ltb-true}
use Rattle.fr_register.specs.Tally.{progress_of}
use Rattle.fr_register.specs.declared.ask.CellTell.{CellTell}
use Rattle.fr_register.specs.declared.ask.CellTell.TheVariants as ctell
use Rattle.fr_register.specs.declared.poll.Progress.{Progress}
use Rattle.fr_register.specs.declared.poll.Progress.TheVariants as poll
use Rattle.fr_state.specs.Generations.{LogGeneration, CoordinatedState, last_of}
use Rattle.fr_state.specs.Order.{extended}
use Rattle.fr_state.specs.Reading.{reading}
use Rattle.fr_state.specs.declared.fault.StateDecodeFault.{StateDecodeFault}
use Rattle.fr_state.specs.declared.fault.StateFault.{StateFault}
use Rattle.fr_state.specs.declared.fault.StateFault.TheVariants as fault
use Rattle.fr_log.specs.declared.ask.LogTell.TheVariants as ltell
use Rattle.fr_log.specs.declared.popped.PoppedTag.{PoppedTag}
use Rattle.fr_epoch.specs.EndTally.{EndState, is_covered, pev_of, rv_of}
use Rattle.fr_epoch.specs.Recoverer.{RecState, Phase, Parent, Plan, Reading, Locking, Copying, Writing, Chosen, Lost, is_written, new_recoverer}
use Rattle.fr_epoch.specs.Words.{Word, OfCell, OfLog, Other, Heed, Nothing, Promised, Replied, Given, IsSeeded, Voted, IsMarked, word_of, heed, heed_in, heed_locked, heed_peeked, heed_seeded, is_newly_seeded, heed_held, is_newly_marked}
use Rattle.fr_epoch.specs.Hear.{lost, why_of, with_last, with_parent, after_reads, with_read, with_plan, ended, after_reply, with_lock, left_of, next_generation, with_seeded, after_writes, with_write, after_heed, after_hear}
use Rattle.fr_epoch.specs.declared.why.LostWhy.TheVariants as why
use Rattle.fr_run.proofs.ByTurn.{rec_by_turn}
use Rattle.fr_run_headline.specs.LogLaws.{tally}
use Rattle.fr_run_headline.proofs.Orders.{replies_agree}
use Rattle.fr_run_headline.specs.Order.{NeverInconsistent}
use Rattle.fr_run_headline.specs.Laws.{Laws}

abbrev IsAtOdds : RecState → Type 0
IsAtOdds r = r.phase ≡ Lost why.Inconsistent

-- replies that cover, of which one knows what another does not hold
record AreAtOdds (n : RecState) : Type 0 where
  parent : Parent
  is : n.parent ≡ Some parent
  covered : is_covered (tally n) ≡ true
  above : rv_of (tally n) < pev_of (tally n)

-- ---- what a reply is to a recoverer

locked_parent : (o : Option Parent) (q : Option EndState) (e i d k : ℕ) (ps : List PoppedTag) (p : Parent) (end : EndState) (j f g : ℕ) (l : List PoppedTag) → heed_locked o q e i d k ps ≡ Replied p end j f g l → o ≡ Some p
locked_parent None q e i d k ps p end j f g l h = absurd (cc)
locked_parent (Some x) None e i d k ps p end j f g l h = absurd (cc)
locked_parent (Some x) (Some y) e i d k ps p end j f g l h = go (e == x.last.epoch) h
  where
    go : (b : Bool) → cond b (Replied x y i d k ps) Nothing ≡ Replied p end j f g l → Some x ≡ Some p
    go true h = let same : x ≡ p = cc in ap Some same
    go false h = absurd (cc)

peeked_no : (o : Option Parent) (q : Option Plan) (e i : ℕ) (peeked : _) (p : Parent) (end : EndState) (j f g : ℕ) (l : List PoppedTag) → heed_peeked o q e i peeked ≡ Replied p end j f g l → ⊥
peeked_no None q e i peeked p end j f g l h = absurd (cc)
peeked_no (Some x) None e i peeked p end j f g l h = absurd (cc)
peeked_no (Some x) (Some y) e i peeked p end j f g l h = go (e == x.last.epoch) h
  where
    go : (b : Bool) → cond b (Given y i peeked) Nothing ≡ Replied p end j f g l → ⊥
    go true h = absurd (cc)
    go false h = absurd (cc)

seeded_no : (r : RecState) (q : Option Plan) (e i : ℕ) (p : Parent) (end : EndState) (j f g : ℕ) (l : List PoppedTag) → heed_seeded r q e i ≡ Replied p end j f g l → ⊥
seeded_no r None e i p end j f g l h = absurd (cc)
seeded_no r (Some y) e i p end j f g l h = go (is_newly_seeded r y e i) h
  where
    go : (b : Bool) → cond b (IsSeeded y i) Nothing ≡ Replied p end j f g l → ⊥
    go true h = absurd (cc)
    go false h = absurd (cc)

held_no : (r : RecState) (q : Option Plan) (e i v : ℕ) (p : Parent) (end : EndState) (j f g : ℕ) (l : List PoppedTag) → heed_held r q e i v ≡ Replied p end j f g l → ⊥
held_no r None e i v p end j f g l h = absurd (cc)
held_no r (Some y) e i v p end j f g l h = go (is_newly_marked r y e i v) h
  where
    go : (b : Bool) → cond b (IsMarked y i) Nothing ≡ Replied p end j f g l → ⊥
    go true h = absurd (cc)
    go false h = absurd (cc)

replied_parent : (r : RecState) (ph : Phase) (w : Word) (p : Parent) (end : EndState) (j f g : ℕ) (l : List PoppedTag) → heed_in ph r w ≡ Replied p end j f g l → r.parent ≡ Some p
replied_parent r Reading (OfCell i t) p end j f g l h = absurd (cc)
replied_parent r Reading (OfLog e i t) p end j f g l h = absurd (cc)
replied_parent r Reading Other p end j f g l h = absurd (cc)
replied_parent r Locking (OfCell i t) p end j f g l h = absurd (cc)
replied_parent r Locking (OfLog e i (ltell.Locked d k ps)) p end j f g l h = locked_parent r.parent r.end e i d k ps p end j f g l h
replied_parent r Locking (OfLog e i t) p end j f g l h = absurd (cc)
replied_parent r Locking Other p end j f g l h = absurd (cc)
replied_parent r Copying (OfCell i t) p end j f g l h = absurd (cc)
replied_parent r Copying (OfLog e i ltell.Seeded) p end j f g l h = absurd (seeded_no r r.plan e i p end j f g l h)
replied_parent r Copying (OfLog e i (ltell.Peeked x)) p end j f g l h = absurd (peeked_no r.parent r.plan e i x p end j f g l h)
replied_parent r Copying (OfLog e i t) p end j f g l h = absurd (cc)
replied_parent r Copying Other p end j f g l h = absurd (cc)
replied_parent r Writing (OfCell i t) p end j f g l h = absurd (cc)
replied_parent r Writing (OfLog e i t) p end j f g l h = absurd (cc)
replied_parent r Writing Other p end j f g l h = absurd (cc)
replied_parent r Chosen (OfCell i t) p end j f g l h = absurd (cc)
replied_parent r Chosen (OfLog e i (ltell.Held v)) p end j f g l h = absurd (held_no r r.plan e i v p end j f g l h)
replied_parent r Chosen (OfLog e i t) p end j f g l h = absurd (cc)
replied_parent r Chosen Other p end j f g l h = absurd (cc)
replied_parent r (Lost y) w p end j f g l h = absurd (cc)

-- ---- one hear

told_why : (r : RecState) (u : CellTell) → IsAtOdds (lost r (why_of u)) → ⊥
told_why r (ctell.Promise w v) k = absurd (cc)
told_why r (ctell.Written b) k = absurd (cc)
told_why r (ctell.Refused b) k = absurd (cc)
told_why r ctell.TwoValues k = absurd (cc)

found_no : (r : RecState) (s : CoordinatedState) (o : Option LogGeneration) → IsAtOdds (with_last r s o) → ⊥
found_no r s None k = absurd (cc)
found_no r s (Some g) k = absurd (cc)

parent_no : (r : RecState) (o : Result CoordinatedState StateDecodeFault) → IsAtOdds (with_parent r o) → ⊥
parent_no r (Ok s) k = found_no r s (last_of s.gens) k
parent_no r (Err fault) k = absurd (cc)

reads_no : (r : RecState) (u : CellTell) (o : Progress) → (IsAtOdds r → ⊥) → IsAtOdds (after_reads r u o) → ⊥
reads_no r u poll.Waiting not_before k = not_before k
reads_no r u poll.Majority not_before k = parent_no r (reading r.reads.greatest.value) k
reads_no r u (poll.Lost promised) not_before k = told_why r u k

writes_no : (r : RecState) (u : CellTell) (o : Progress) → (IsAtOdds r → ⊥) → IsAtOdds (after_writes r u o) → ⊥
writes_no r u poll.Waiting not_before k = not_before k
writes_no r u poll.Majority not_before k = absurd (cc)
writes_no r u (poll.Lost promised) not_before k = told_why r u k

plan_no : (r : RecState) (p : Parent) (end : EndState) (o : Result CoordinatedState StateFault) → (IsAtOdds r → ⊥) → IsAtOdds (with_plan r p end o) → ⊥
plan_no r p end (Ok s) not_before k = absurd (cc)
plan_no r p end (Err fault.NotLater) not_before k = absurd (cc)
plan_no r p end (Err fault.TooMany) not_before k = absurd (cc)
plan_no r p end (Err fault.Memory) not_before k = not_before k

ended_odds : (r : RecState) (p : Parent) (end : EndState) → (IsAtOdds r → ⊥) → IsAtOdds (ended r p end) → (ended r p end ≡ lost r why.Inconsistent) × (rv_of end < pev_of end)
ended_odds r p end not_before k = go (nat_lt (rv_of end) (pev_of end)) refl k
  where
    spent : (b : Bool) → IsAtOdds (cond b (lost r why.Spent) (with_plan r p end (extended (left_of r p) (next_generation r p end)))) → ⊥
    spent true k = absurd (cc)
    spent false k = plan_no r p end (extended (left_of r p) (next_generation r p end)) not_before k

    go : (b : Bool) → nat_lt (rv_of end) (pev_of end) ≡ b
        → IsAtOdds (cond b (lost r why.Inconsistent) (cond (nat_le (2 ^ 62) (rv_of end + 1)) (lost r why.Spent) (with_plan r p end (extended (left_of r p) (next_generation r p end)))))
        → (cond b (lost r why.Inconsistent) (cond (nat_le (2 ^ 62) (rv_of end + 1)) (lost r why.Spent) (with_plan r p end (extended (left_of r p) (next_generation r p end)))) ≡ lost r why.Inconsistent) × (rv_of end < pev_of end)
    go true e k = (refl, ltb-true (rv_of end) (pev_of end) e)
    go false e k = absurd (spent (nat_le (2 ^ 62) (rv_of end + 1)) k)

reply_odds : (r : RecState) (p : Parent) (end : EndState) → r.parent ≡ Some p → r.end ≡ Some end → (IsAtOdds r → ⊥) → IsAtOdds (after_reply r p (Some end)) → AreAtOdds (after_reply r p (Some end))
reply_odds r p end parent is_end not_before k = go (is_covered end) refl k
  where
    go : (b : Bool) → is_covered end ≡ b → IsAtOdds (cond b (ended r p end) r) → AreAtOdds (cond b (ended r p end) r)
    go false e k = absurd (not_before k)
    go true e k =
        let o = ended_odds r p end not_before k in
        let here : tally r ≡ end = ap (λ (x : Option EndState). tally (record r { end = x })) is_end in
        subst AreAtOdds (sym o.0) (record { parent = p; is = parent; covered = ap is_covered here ∙ e; above = subst (λ (x : EndState). rv_of x < pev_of x) (sym here) o.1 })

hear_odds : (r : RecState) (w : Word) → (IsAtOdds r → ⊥) → IsAtOdds (after_heed r (heed r w)) → AreAtOdds (after_heed r (heed r w))
hear_odds r w not_before k = go (heed r w) refl k
  where
    seeded : (b : Bool) (n : RecState) → (IsAtOdds n → ⊥) → IsAtOdds (cond b (record n { phase = Writing }) n) → ⊥
    seeded true n not_then k = absurd (cc)
    seeded false n not_then k = not_then k

    go : (x : Heed) → heed r w ≡ x → IsAtOdds (after_heed r x) → AreAtOdds (after_heed r x)
    go Nothing e k = absurd (not_before k)
    go (Promised i u) e k = absurd (reads_no (with_read r i u) u (progress_of (with_read r i u).reads.poll) not_before k)
    go (Replied p end i d f ps) e k = reply_odds (with_lock r end i d f ps) p _ (replied_parent r r.phase w p end i d f ps e) refl not_before k
    go (Given p i peeked) e k = absurd (not_before k)
    go (IsSeeded p i) e k = absurd (seeded (is_written (with_seeded r i)) (with_seeded r i) not_before k)
    go (Voted i u) e k = absurd (writes_no (with_write r i u) u (progress_of (with_write r i u).writes.poll) not_before k)
    go (IsMarked p i) e k = absurd (not_before k)

-- ---- every run

pub never_inconsistent : Laws → NeverInconsistent
never_inconsistent laws c [] run b r at = absurd (let d : None ≡ Some r = at in cc)
never_inconsistent laws c (t ∷ h) run b n at = rec_by_turn c h t run.0 b (λ o. o ≡ Some n → n.phase ≢ Lost why.Inconsistent)
    (λ before. never_inconsistent laws c h run.1 b n before)
    (λ shape none may shaped is k. absurd (let first : new_recoverer b c.cells c.begins shape ≡ n = cc in let d = ap (λ (x : RecState). x.phase) first ∙ k in cc))
    (λ r from u before told is k. (
    let same : after_hear r from u ≡ n = cc in
    let odds = subst AreAtOdds same (hear_odds r (word_of from u) (never_inconsistent laws c h run.1 b r before) (ap (λ (x : RecState). x.phase) same ∙ k)) in
    let agree = replies_agree laws.contents.nodes c (t ∷ h) run b n odds.parent at odds.is odds.covered in
    let above = odds.above in
    absurd (omega (arith, agree, above))))
    at
