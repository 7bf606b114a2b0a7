-- What a recoverer asks once the replies cover.
use Rattle.std.proofs.Common.{◌≡◌, ℕ, ◌+◌, ◌^◌, Bool, true, false, cond, nat_lt, nat_le, ◌==◌, List, [], ◌∷◌, ◌++◌, length, map, Option, None, Some, refl, sym, ap, ◌∙◌}
use Rattle.std.specs.Prelude.{Result, Ok, Err}
use Rattle.std.proofs.lemmas.Bool.{eqb-true}
use Rattle.fr_base.specs.declared.place.NodeId.{NodeId}
use Rattle.fr_base.specs.declared.place.NodeId.TheVariants as node
use Rattle.fr_state.specs.Generations.{LogGeneration, CoordinatedState}
use Rattle.fr_state.specs.Order.{extended, is_ordered}
use Rattle.fr_state.specs.declared.fault.StateFault.{StateFault}
use Rattle.fr_state.specs.declared.fault.StateFault.TheVariants as fault
use Rattle.fr_log.specs.Peeked.{PeekedContent}
use Rattle.fr_log.specs.declared.ask.LogTell.TheVariants as log
use Rattle.fr_ask.specs.declared.ask.Ask.{Ask}
use Rattle.fr_ask.specs.declared.tell.Tell.TheVariants as tell
use Rattle.fr_tail.specs.Tail.{is_complete, after_hear as after_peeked}
use Rattle.fr_epoch.specs.EndTally.{EndState, is_covered, pev_of, rv_of}
use Rattle.fr_epoch.specs.Recoverer.{RecState, Parent, Plan, Locking, Copying, Lost, is_copied}
use Rattle.fr_log.specs.declared.popped.PoppedTag.{PoppedTag}
use Rattle.fr_epoch.specs.Words.{Word, OfLog, Replied, Given, heed}
use Rattle.fr_epoch.specs.Hear.{ended, left_of, shown_with, after_heed, after_hear, with_plan}
use Rattle.fr_epoch.specs.Change.{replied}
use Rattle.fr_epoch.specs.Asks.{pending, peeks_in, has_moved, new_asks}
use Rattle.fr_epoch.specs.Drafting.{generation_after, drafted, draft_of, draft_in, draft_asks, with_draft, shown_of_end, shown_in}
use Rattle.fr_epoch.specs.Lists.{seed_ask, others}
use Rattle.fr_epoch.specs.Steps.{replied_in}
use Rattle.fr_epoch.specs.declared.why.LostWhy.{LostWhy}
use Rattle.fr_epoch.specs.declared.why.LostWhy.TheVariants as why

-- extending a state never answers `Memory`
never_memory : (s : CoordinatedState) (g : LogGeneration) → extended s g ≡ Err fault.Memory → ⊥
never_memory s g e = go (is_ordered (s.gens ++ g ∷ [])) (nat_lt (length s.gens) 64) e
  where
    go : (a b : Bool) → cond a (cond b (Ok (record s { gens = s.gens ++ g ∷ [] })) (Err fault.TooMany)) (Err fault.NotLater) ≡ Err fault.Memory → ⊥
    go true true e = absurd (cc)
    go true false e = absurd (cc)
    go false b e = absurd (cc)

-- the end that is fixed gives the plan, or the first reason against one
pub ended_is : (r : RecState) (p : Parent) (end : EndState) → ended r p end ≡ with_draft r (draft_of r.ballot r.shape (length r.begins) p end r.shown)
ended_is r p end = go (nat_lt (rv_of end) (pev_of end)) (nat_le (2 ^ 62) (rv_of end + 1)) (extended (left_of r p) (generation_after r.ballot r.shape p end)) refl
  where
    go : (a b : Bool) (o : Result CoordinatedState StateFault) → extended (left_of r p) (generation_after r.ballot r.shape p end) ≡ o
        → cond a (record r { phase = Lost why.Inconsistent }) (cond b (record r { phase = Lost why.Spent }) (with_plan r p end o))
        ≡ with_draft r (cond a (Err why.Inconsistent) (cond b (Err why.Spent) (drafted r.ballot r.shape (length r.begins) p end o)))
    go true b o e = refl
    go false true o e = refl
    go false false (Ok s) e = refl
    go false false (Err fault.NotLater) e = refl
    go false false (Err fault.TooMany) e = refl
    go false false (Err fault.Memory) e = absurd (never_memory (left_of r p) (generation_after r.ballot r.shape p end) e)

-- what it asks, by what it is then
asks_at : RecState → RecState → Word → List (NodeId × Ask)
asks_at r n w = cond (has_moved r n) (pending n) (peeks_in r.phase r n w)

-- it is planned, or lost: in both cases it has moved on
moved_on : (r : RecState) (q : Parent) (end : EndState) (shown : List PoppedTag) (w : Word) (o : Result Plan LostWhy) → r.phase ≡ Locking → r.parent ≡ Some q
    → asks_at r (with_draft (record r { end = Some end; shown = shown }) o) w ≡ draft_asks r.ballot q.last.epoch (length r.begins) r.seeded o
unfolding asks_at
moved_on r q end shown w (Err why) at parent = rw at refl
moved_on r q end shown w (Ok p) at parent = rw (at, parent) refl

-- a recoverer with these replies, and with what they showed
abbrev pub heard_with : RecState → EndState → List PoppedTag → RecState
heard_with r end shown = record r { end = Some end; shown = shown }

-- after a reply of a log of the parent's last generation, by whether the replies then cover
pub replied_is : (r : RecState) (e i durable known : ℕ) (popped : List PoppedTag) (end : EndState) → r.phase ≡ Locking → replied_in r.parent r.end e i durable known ≡ Some end
    → after_hear r (node.Log e i) (tell.Log (log.Locked durable known popped))
    ≡ cond (is_covered end) (with_draft (heard_with r end (shown_in r i popped)) (draft_in r.ballot r.shape (length r.begins) r.parent end (shown_in r i popped))) (heard_with r end (shown_in r i popped))
replied_is r e i durable known popped end at is = go r.parent refl r.end refl is
  where
    w : Word
    w = OfLog e i (log.Locked durable known popped)

    own : (q : Parent) (old : EndState) → r.parent ≡ Some q → r.end ≡ Some old → (b : Bool) → (e == q.last.epoch) ≡ b → cond b (Some (replied old i durable known)) None ≡ Some end
        → after_hear r (node.Log e i) (tell.Log (log.Locked durable known popped)) ≡ cond (is_covered end) (with_draft (heard_with r end (shown_with r.shown old i popped)) (draft_of r.ballot r.shape (length r.begins) q end (shown_with r.shown old i popped))) (heard_with r end (shown_with r.shown old i popped))
    own q old found tally false b_is k = absurd (cc)
    own q old found tally true b_is k =
        let same : replied old i durable known ≡ end = cc in
        let heeds : heed r w ≡ Replied q old i durable known popped = rw (at, found, tally, b_is) refl in
        ap (after_heed r) heeds
        ∙ ap (λ (x : EndState). cond (is_covered x) (ended (heard_with r x (shown_with r.shown old i popped)) q x) (heard_with r x (shown_with r.shown old i popped))) same
        ∙ ap (λ (x : RecState). cond (is_covered end) x (heard_with r end (shown_with r.shown old i popped))) (ended_is (heard_with r end (shown_with r.shown old i popped)) q end)

    go : (o : Option Parent) → r.parent ≡ o → (s : Option EndState) → r.end ≡ s → replied_in o s e i durable known ≡ Some end
        → after_hear r (node.Log e i) (tell.Log (log.Locked durable known popped))
        ≡ cond (is_covered end) (with_draft (heard_with r end (shown_of_end r s i popped)) (draft_in r.ballot r.shape (length r.begins) o end (shown_of_end r s i popped))) (heard_with r end (shown_of_end r s i popped))
    go None found s tally k = absurd (cc)
    go (Some q) found None tally k = absurd (cc)
    go (Some q) found (Some old) tally k = own q old found tally (e == q.last.epoch) refl k

pub covered_is : (r : RecState) (e i durable known : ℕ) (popped : List PoppedTag) (end : EndState) → r.phase ≡ Locking → replied_in r.parent r.end e i durable known ≡ Some end → is_covered end ≡ true
    → after_hear r (node.Log e i) (tell.Log (log.Locked durable known popped)) ≡ with_draft (heard_with r end (shown_in r i popped)) (draft_in r.ballot r.shape (length r.begins) r.parent end (shown_in r i popped))
covered_is r e i durable known popped end at is covered =
    replied_is r e i durable known popped end at is
    ∙ ap (λ b. cond b (with_draft (heard_with r end (shown_in r i popped)) (draft_in r.ballot r.shape (length r.begins) r.parent end (shown_in r i popped))) (heard_with r end (shown_in r i popped))) covered

pub planned_asks : (r : RecState) (e i durable known : ℕ) (popped : List PoppedTag) (end : EndState) → r.phase ≡ Locking → replied_in r.parent r.end e i durable known ≡ Some end → is_covered end ≡ true
    → new_asks r (node.Log e i) (tell.Log (log.Locked durable known popped)) ≡ draft_asks r.ballot e (length r.begins) r.seeded (draft_in r.ballot r.shape (length r.begins) r.parent end (shown_in r i popped))
unfolding asks_at
planned_asks r e i durable known popped end at is covered = go r.parent refl r.end refl is
  where
    w : Word
    w = OfLog e i (log.Locked durable known popped)

    shown : List PoppedTag
    shown = shown_in r i popped

    now : after_hear r (node.Log e i) (tell.Log (log.Locked durable known popped)) ≡ with_draft (heard_with r end shown) (draft_in r.ballot r.shape (length r.begins) r.parent end shown)
    now = covered_is r e i durable known popped end at is covered

    own : (q : Parent) → r.parent ≡ Some q → (b : Bool) → (e == q.last.epoch) ≡ b → (old : EndState) → cond b (Some (replied old i durable known)) None ≡ Some end
        → new_asks r (node.Log e i) (tell.Log (log.Locked durable known popped)) ≡ draft_asks r.ballot e (length r.begins) r.seeded (draft_of r.ballot r.shape (length r.begins) q end shown)
    own q found false b_is old k = absurd (cc)
    own q found true b_is old k =
        let epoch : e ≡ q.last.epoch = eqb-true e q.last.epoch b_is in
        ap (λ (x : RecState). asks_at r x w) (now ∙ ap (λ (o : Option Parent). with_draft (heard_with r end shown) (draft_in r.ballot r.shape (length r.begins) o end shown)) found)
        ∙ moved_on r q end shown w (draft_of r.ballot r.shape (length r.begins) q end shown) at found
        ∙ ap (λ v. draft_asks r.ballot v (length r.begins) r.seeded (draft_of r.ballot r.shape (length r.begins) q end shown)) (sym epoch)

    go : (o : Option Parent) → r.parent ≡ o → (s : Option EndState) → r.end ≡ s → replied_in o s e i durable known ≡ Some end
        → new_asks r (node.Log e i) (tell.Log (log.Locked durable known popped)) ≡ draft_asks r.ballot e (length r.begins) r.seeded (draft_in r.ballot r.shape (length r.begins) o end shown)
    go None found s tally k = absurd (cc)
    go (Some q) found None tally k = absurd (cc)
    go (Some q) found (Some old) tally k = own q found (e == q.last.epoch) refl old k

-- an answer that completes the copy: it seeds
pub completed_asks : (r : RecState) (e i : ℕ) (q : Parent) (p : Plan) (peeked : PeekedContent) → r.phase ≡ Copying → r.parent ≡ Some q → r.plan ≡ Some p → (e == q.last.epoch) ≡ true → is_complete p.tail ≡ false
    → is_complete (after_peeked p.tail i peeked.tag peeked) ≡ true
    → new_asks r (node.Log e i) (tell.Log (log.Peeked peeked)) ≡ map (seed_ask r.ballot (after_peeked p.tail i peeked.tag peeked) p.generation.m p.generation.k) (others p.generation.m r.seeded)
unfolding asks_at
completed_asks r e i q p peeked at found plan own before after =
    let w = OfLog e i (log.Peeked peeked) in
    let heeds : heed r w ≡ Given p i peeked = rw (at, found, plan, own) refl in
    let now : is_copied r ≡ false = rw plan before in
    ap (λ x. asks_at r (after_heed r x) w) heeds ∙ (rw (at, now, after) refl)
