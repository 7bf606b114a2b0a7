-- Each hear of a recoverer is one of its changes.
use Rattle.std.proofs.Common.{◌≡◌, ℕ, ◌+◌, ◌^◌, ◌<◌, ◌≤◌, Bool, true, false, cond, nat_lt, nat_le, ◌==◌, ◌&&◌, not, List, Option, None, Some, refl, ◌∙◌, ap}
use Rattle.std.specs.Prelude.{Result, Ok, Err}
use Rattle.std.proofs.lemmas.Bool.{and_parts, eqb-true, ltb-false, ltb-true, leb-false, not-true}
use Rattle.fr_register.specs.Tally.{hear_read, hear_write, progress_of}
use Rattle.fr_register.specs.declared.ask.CellTell.{CellTell}
use Rattle.fr_register.specs.declared.poll.Progress.{Progress}
use Rattle.fr_register.specs.declared.poll.Progress.TheVariants as poll
use Rattle.fr_state.specs.Generations.{LogGeneration, CoordinatedState, last_of}
use Rattle.fr_state.specs.Order.{extended}
use Rattle.fr_state.specs.Reading.{reading}
use Rattle.fr_state.specs.declared.fault.StateDecodeFault.{StateDecodeFault}
use Rattle.fr_state.specs.declared.fault.StateFault.{StateFault}
use Rattle.fr_state.specs.declared.fault.StateFault.TheVariants as fault
use Rattle.fr_log.specs.declared.ask.LogTell.{LogTell}
use Rattle.fr_log.specs.declared.ask.LogTell.TheVariants as log
use Rattle.fr_log.specs.Peeked.{PeekedContent}
use Rattle.fr_epoch.specs.EndTally.{EndState, is_covered, pev_of, rv_of}
use Rattle.fr_epoch.specs.Recoverer.{RecState, Phase, Parent, Plan, Reading, Locking, Copying, Writing, Chosen, Lost, is_copied, is_written}
use Rattle.fr_log.specs.declared.popped.PoppedTag.{PoppedTag}
use Rattle.fr_epoch.specs.Words.{Word, OfCell, OfLog, Other, Nothing, Replied, Given, IsSeeded, IsMarked, is_in, word_of, heed_in, heed_locked, heed_lock, heed_peeked, heed_seeded, heed_copy, heed_held, heed_mark, is_newly_seeded, is_newly_marked}
use Rattle.fr_epoch.specs.Hear.{lost, why_of, with_last, with_parent, after_reads, with_read, with_plan, ended, after_reply, left_of, with_lock, next_generation, with_seeded, after_writes, with_write, after_heed}
use Rattle.fr_epoch.specs.declared.why.LostWhy.TheVariants as why
use Rattle.fr_epoch.specs.Change.{IsPromised, IsReplied, IsNewlySeeded, IsVoted, replied, Change, Stands, LosesReads, Reads, Finds, Locks, LosesLocks, Plans, Copies, Seeds, SeedsAll, Writes, LosesWrites, Chooses, Marks}
use Rattle.fr_epoch.specs.Law.{HearIsChange}

-- ---- reading

found : (r : RecState) (w : Word) (i : ℕ) (t : CellTell) → IsPromised r w i t → progress_of (hear_read r.reads i t).poll ≡ poll.Majority
    → (o : Result CoordinatedState StateDecodeFault) → reading (hear_read r.reads i t).greatest.value ≡ o → Change r w (with_parent (with_read r i t) o)
found r w i t at m (Err fault) e = LosesReads i t why.BadState at
found r w i t at m (Ok s) e = go (last_of s.gens) refl
  where
    go : (o : Option LogGeneration) → last_of s.gens ≡ o → Change r w (with_last (with_read r i t) s o)
    go None k = LosesReads i t why.BadState at
    go (Some g) k = Finds i t s g at (record { majority = m; value = e; last = k })

read : (r : RecState) (w : Word) (i : ℕ) (t : CellTell) → IsPromised r w i t
    → (o : Progress) → progress_of (hear_read r.reads i t).poll ≡ o → Change r w (after_reads (with_read r i t) t o)
read r w i t at poll.Waiting e = Reads i t at
read r w i t at poll.Majority e = found r w i t at e (reading (hear_read r.reads i t).greatest.value) refl
read r w i t at (poll.Lost promised) e = LosesReads i t (why_of t) at

-- ---- locking

planned : (r : RecState) (w : Word) (p : Parent) (end : EndState) (i durable known : ℕ) (popped : List PoppedTag) → IsReplied r w p end i durable known popped → is_covered (replied end i durable known) ≡ true
    → pev_of (replied end i durable known) ≤ rv_of (replied end i durable known) → rv_of (replied end i durable known) + 1 < 2 ^ 62
    → (o : Result CoordinatedState StateFault) → extended (left_of (with_lock r end i durable known popped) p) (next_generation r p (replied end i durable known)) ≡ o
    → Change r w (with_plan (with_lock r end i durable known popped) p (replied end i durable known) o)
planned r w p end i durable known popped at cov low high (Ok s) e = Plans p end i durable known popped s at (record { covered = cov; within = low; below = high; state = e })
planned r w p end i durable known popped at cov low high (Err fault.NotLater) e = LosesLocks p end i durable known popped why.NotLater at
planned r w p end i durable known popped at cov low high (Err fault.TooMany) e = LosesLocks p end i durable known popped why.TooMany at
planned r w p end i durable known popped at cov low high (Err fault.Memory) e = Locks p end i durable known popped at

reply : (r : RecState) (w : Word) (p : Parent) (end : EndState) (i durable known : ℕ) (popped : List PoppedTag) → IsReplied r w p end i durable known popped
    → Change r w (after_reply (with_lock r end i durable known popped) p (Some (replied end i durable known)))
reply r w p end i durable known popped at = go (is_covered (replied end i durable known)) refl
  where
    later : (b : Bool) → is_covered (replied end i durable known) ≡ true → pev_of (replied end i durable known) ≤ rv_of (replied end i durable known) → nat_le (2 ^ 62) (rv_of (replied end i durable known) + 1) ≡ b
        → Change r w (cond b (lost (with_lock r end i durable known popped) why.Spent) (with_plan (with_lock r end i durable known popped) p (replied end i durable known) (extended (left_of (with_lock r end i durable known popped) p) (next_generation r p (replied end i durable known)))))
    later true cov le e = LosesLocks p end i durable known popped why.Spent at
    later false cov le e = planned r w p end i durable known popped at cov le (leb-false (2 ^ 62) (rv_of (replied end i durable known) + 1) e) (extended (left_of (with_lock r end i durable known popped) p) (next_generation r p (replied end i durable known))) refl

    consistent : (b : Bool) → is_covered (replied end i durable known) ≡ true → nat_lt (rv_of (replied end i durable known)) (pev_of (replied end i durable known)) ≡ b
        → Change r w (cond b (lost (with_lock r end i durable known popped) why.Inconsistent) (cond (nat_le (2 ^ 62) (rv_of (replied end i durable known) + 1)) (lost (with_lock r end i durable known popped) why.Spent)
        (with_plan (with_lock r end i durable known popped) p (replied end i durable known) (extended (left_of (with_lock r end i durable known popped) p) (next_generation r p (replied end i durable known))))))
    consistent true cov e = LosesLocks p end i durable known popped why.Inconsistent at
    consistent false cov e = later (nat_le (2 ^ 62) (rv_of (replied end i durable known) + 1)) cov (ltb-false (rv_of (replied end i durable known)) (pev_of (replied end i durable known)) e) refl

    go : (b : Bool) → is_covered (replied end i durable known) ≡ b → Change r w (cond b (ended (with_lock r end i durable known popped) p (replied end i durable known)) (with_lock r end i durable known popped))
    go true e = consistent (nat_lt (rv_of (replied end i durable known)) (pev_of (replied end i durable known))) e refl
    go false e = Locks p end i durable known popped at

lock : (r : RecState) (w : Word) (e i durable known : ℕ) (popped : List PoppedTag) → r.phase ≡ Locking → w ≡ OfLog e i (log.Locked durable known popped) → (o : Option Parent) → r.parent ≡ o → (s : Option EndState) → r.end ≡ s
    → Change r w (after_heed r (heed_locked o s e i durable known popped))
lock r w e i durable known popped ph says None at s tally = Stands
lock r w e i durable known popped ph says (Some p) at None tally = Stands
lock r w e i durable known popped ph says (Some p) at (Some end) tally = go (e == p.last.epoch) refl
  where
    go : (b : Bool) → (e == p.last.epoch) ≡ b → Change r w (after_heed r (cond b (Replied p end i durable known popped) Nothing))
    go true k = reply r w p end i durable known popped (record { phase = ph; parent = at; tally = tally; word = says ∙ ap (λ x. OfLog x i (log.Locked durable known popped)) (eqb-true e p.last.epoch k) })
    go false k = Stands

locking : (r : RecState) (w : Word) (e i : ℕ) (t : LogTell) → r.phase ≡ Locking → w ≡ OfLog e i t → Change r w (after_heed r (heed_lock r e i t))
locking r w e i (log.Locked durable known popped) ph says = lock r w e i durable known popped ph says r.parent refl r.end refl
locking r w e i t ph says = Stands

-- ---- copying

copy : (r : RecState) (w : Word) (e i : ℕ) (peeked : PeekedContent) → r.phase ≡ Copying → w ≡ OfLog e i (log.Peeked peeked) → (o : Option Parent) → r.parent ≡ o → (q : Option Plan) → r.plan ≡ q
    → Change r w (after_heed r (heed_peeked o q e i peeked))
copy r w e i peeked ph says None at q plan = Stands
copy r w e i peeked ph says (Some parent) at None plan = Stands
copy r w e i peeked ph says (Some parent) at (Some p) plan = go (e == parent.last.epoch) refl
  where
    go : (b : Bool) → (e == parent.last.epoch) ≡ b → Change r w (after_heed r (cond b (Given p i peeked) Nothing))
    go true k = Copies parent p i peeked (record { phase = ph; parent_is = at; plan = plan; word = says ∙ ap (λ x. OfLog x i (log.Peeked peeked)) (eqb-true e parent.last.epoch k) })
    go false k = Stands

seed : (r : RecState) (w : Word) (e i : ℕ) → r.phase ≡ Copying → w ≡ OfLog e i log.Seeded → (q : Option Plan) → r.plan ≡ q → Change r w (after_heed r (heed_seeded r q e i))
seed r w e i ph says None at = Stands
seed r w e i ph says (Some p) at = go (is_newly_seeded r p e i) refl
  where
    all : IsNewlySeeded r w p i → (b : Bool) → is_written (with_seeded r i) ≡ b → Change r w (cond b (record (with_seeded r i) { phase = Writing }) (with_seeded r i))
    all new true k = SeedsAll p i new k
    all new false k = Seeds p i new k

    go : (b : Bool) → is_newly_seeded r p e i ≡ b → Change r w (after_heed r (cond b (IsSeeded p i) Nothing))
    go true k =
        let both = and_parts ((e == r.ballot) && nat_lt i p.generation.m) (is_copied r && not (is_in r.seeded i)) k in
        let own = and_parts (e == r.ballot) (nat_lt i p.generation.m) both.0 in
        let new = and_parts (is_copied r) (not (is_in r.seeded i)) both.1 in
        all (record { phase = ph; plan = at; word = says ∙ ap (λ x. OfLog x i log.Seeded) (eqb-true e r.ballot own.0); below = ltb-true i p.generation.m own.1; copied = new.0; first = not-true (is_in r.seeded i) new.1 })
        (is_written (with_seeded r i)) refl
    go false k = Stands

copying : (r : RecState) (w : Word) (e i : ℕ) (t : LogTell) → r.phase ≡ Copying → w ≡ OfLog e i t → Change r w (after_heed r (heed_copy r e i t))
copying r w e i log.Seeded ph says = seed r w e i ph says r.plan refl
copying r w e i (log.Peeked peeked) ph says = copy r w e i peeked ph says r.parent refl r.plan refl
copying r w e i t ph says = Stands

-- ---- writing, and chosen

write : (r : RecState) (w : Word) (i : ℕ) (t : CellTell) → IsVoted r w i t
    → (o : Progress) → progress_of (hear_write r.writes i t).poll ≡ o → Change r w (after_writes (with_write r i t) t o)
write r w i t at poll.Waiting e = Writes i t at
write r w i t at poll.Majority e = Chooses i t at e
write r w i t at (poll.Lost promised) e = LosesWrites i t (why_of t) at

held : (r : RecState) (w : Word) (e i version : ℕ) → r.phase ≡ Chosen → w ≡ OfLog e i (log.Held version) → (q : Option Plan) → r.plan ≡ q → Change r w (after_heed r (heed_held r q e i version))
held r w e i version ph says None at = Stands
held r w e i version ph says (Some p) at = go (is_newly_marked r p e i version) refl
  where
    go : (b : Bool) → is_newly_marked r p e i version ≡ b → Change r w (after_heed r (cond b (IsMarked p i) Nothing))
    go true k =
        let both = and_parts ((e == r.ballot) && nat_lt i p.generation.m) ((version == p.generation.seeded_to + 1) && not (is_in r.marked i)) k in
        let own = and_parts (e == r.ballot) (nat_lt i p.generation.m) both.0 in
        let new = and_parts (version == p.generation.seeded_to + 1) (not (is_in r.marked i)) both.1 in
        Marks p i (record {
          phase = ph;
          plan = at;
          word = says ∙ ap (λ x. OfLog x i (log.Held version)) (eqb-true e r.ballot own.0) ∙ ap (λ v. OfLog r.ballot i (log.Held v)) (eqb-true version (p.generation.seeded_to + 1) new.0);
          below = ltb-true i p.generation.m own.1;
          first = not-true (is_in r.marked i) new.1;
        })
    go false k = Stands

chosen : (r : RecState) (w : Word) (e i : ℕ) (t : LogTell) → r.phase ≡ Chosen → w ≡ OfLog e i t → Change r w (after_heed r (heed_mark r e i t))
chosen r w e i (log.Held version) ph says = held r w e i version ph says r.plan refl
chosen r w e i t ph says = Stands

-- ---- all phases

change : (r : RecState) (ph : Phase) → r.phase ≡ ph → (w : Word) → Change r w (after_heed r (heed_in ph r w))
change r Reading ph (OfCell i t) = read r (OfCell i t) i t (record { phase = ph; word = refl }) (progress_of (hear_read r.reads i t).poll) refl
change r Reading ph (OfLog e i t) = Stands
change r Reading ph Other = Stands
change r Locking ph (OfCell i t) = Stands
change r Locking ph (OfLog e i t) = locking r (OfLog e i t) e i t ph refl
change r Locking ph Other = Stands
change r Copying ph (OfCell i t) = Stands
change r Copying ph (OfLog e i t) = copying r (OfLog e i t) e i t ph refl
change r Copying ph Other = Stands
change r Writing ph (OfCell i t) = write r (OfCell i t) i t (record { phase = ph; word = refl }) (progress_of (hear_write r.writes i t).poll) refl
change r Writing ph (OfLog e i t) = Stands
change r Writing ph Other = Stands
change r Chosen ph (OfCell i t) = Stands
change r Chosen ph (OfLog e i t) = chosen r (OfLog e i t) e i t ph refl
change r Chosen ph Other = Stands
change r (Lost why) ph w = Stands

pub hear_is_change : HearIsChange
hear_is_change r from t = change r r.phase refl (word_of from t)
