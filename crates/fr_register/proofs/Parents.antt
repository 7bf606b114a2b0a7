-- The law of the register over what each ballot has read.
use Rattle.std.proofs.Common.{◌≡◌, ℕ, zero, suc, ◌<◌, ◌≤◌, List, sym, ◌∙◌, ap, subst, inl, inr, ◌⊎◌, arith}
use Rattle.std.specs.List.{Contains}
use Rattle.std.proofs.lemmas.Bool.{cases_order}
use Rattle.fr_register.specs.CellState.{CellState}
use Rattle.fr_register.specs.Poll.{Stamped}
use Rattle.fr_register.specs.History.{Turn, IsWritten, start_of, promise_turn, written_turn}
use Rattle.fr_register.specs.Chosen.{IsHeldBy, IsKept, IsWrittenByMajority, IsChosen, IsReadByMajority, Descends, itself, by_parent, IsReady, HasParents}
use Rattle.fr_register.specs.Law.{LaterDescends, ReadyDescends, StartIsLeast, OneIsChosen}
use Rattle.fr_register.specs.declared.ask.CellTell.TheVariants.{Written}
use Rattle.fr_register.proofs.Majorities.{shared}
use Rattle.fr_register.proofs.Histories.{promises_are_kept}

-- a pair that some cell can have: what the cells began with, or what a write brought
abbrev IsSource : CellState → List Turn → Stamped → Type 0
IsSource first turns p = (p ≡ start_of first) ⊎ IsWritten turns p

held_source : (first : CellState) (turns : List Turn) (i : ℕ) (p : Stamped) → IsHeldBy first turns i p → IsSource first turns p
held_source first turns i p (inl e) = inl e
held_source first turns i p (inr h) = inr (record { cell = i; tell = Written p.ballot; comes = h })

-- the promise that gave the pair of a read majority
found_kept : (n : ℕ) (first : CellState) (parent : ℕ → Stamped) (turns : List Turn) (b : ℕ) (q : Stamped) → HasParents n first parent turns → IsReadByMajority n turns b q → (i : ℕ) × IsKept first turns i b q
found_kept n first parent turns b q h r =
    (r.found.0, promises_are_kept first turns r.found.0 b q h.within h.history r.found.1)

-- what the proof uses of a chosen pair: it is no lower than the start, each later read majority saw it or a later write,
-- and no other pair has its ballot
record IsFixed (n : ℕ) (first : CellState) (parent : ℕ → Stamped) (turns : List Turn) (chosen : Stamped) : Type 0 where
  from_start : first.written ≤ chosen.ballot
  is_seen : (b : ℕ) (q : Stamped) → IsReadByMajority n turns b q → chosen.ballot < b → chosen.ballot ≤ q.ballot
  alone : (q : Stamped) → IsSource first turns q → q.ballot ≡ chosen.ballot → q ≡ chosen

-- the parent of a ballot that may write descends from a fixed pair of a lower ballot
descend : (n : ℕ) (first : CellState) (parent : ℕ → Stamped) (turns : List Turn) (chosen : Stamped) → HasParents n first parent turns → IsFixed n first parent turns chosen → (fuel b : ℕ) → b ≤ fuel → IsReady n first turns b (parent b) → chosen.ballot < b → Descends turns parent (parent b) chosen
descend n first parent turns chosen h fixed zero b d m l = absurd (omega (arith, d, l))
descend n first parent turns chosen h fixed (suc fuel) b d m l =
    let top = found_kept n first parent turns b (parent b) h m.read in
    let seen = fixed.is_seen b (parent b) m.read l in
    let source = held_source first turns top.0 (parent b) top.1.holds in
    elim (cases_order chosen.ballot (parent b).ballot) [
      | inl e ↦ subst (λ q. Descends turns parent (parent b) q) (fixed.alone (parent b) source (sym e)) itself
      | inr (inl less) ↦ elim source [
        | inl s ↦ let k = ap (λ (q : Stamped). q.ballot) s in absurd (omega (arith, k, less, fixed.from_start))
        | inr v ↦ by_parent v (descend n first parent turns chosen h fixed fuel (parent b).ballot (omega (arith, m.below, d)) (h.ready (parent b) v) less)
      ]
      | inr (inr more) ↦ absurd (omega (arith, seen, more))
    ]

-- the start is fixed
start_fixed : (n : ℕ) (first : CellState) (parent : ℕ → Stamped) (turns : List Turn) (chosen : Stamped) → HasParents n first parent turns → chosen ≡ start_of first → IsFixed n first parent turns chosen
start_fixed n first parent turns chosen h e =
    let k = ap (λ (q : Stamped). q.ballot) e in
    record {
      from_start = omega (arith, k);
      is_seen = λ b q r l. let top = found_kept n first parent turns b q h r in omega (arith, k, top.1.rises);
      alone = λ q s f. elim s [
        | inl g ↦ g ∙ sym e
        | inr w ↦ absurd ((h.ready q w).unused (f ∙ k))
      ];
    }

-- some cell of a majority took the pair
one_write : (n : ℕ) (turns : List Turn) (p : Stamped) → IsWrittenByMajority n turns p → IsWritten turns p
one_write n turns p ch =
    let P = λ (i : ℕ). Contains turns (written_turn i p) in
    let one = shared n P P ch.who ch.who ch.majority ch.majority ch.each ch.each in
    record { cell = one.0; tell = Written p.ballot; comes = one.1 }

-- what a majority has written is fixed
majority_fixed : (n : ℕ) (first : CellState) (parent : ℕ → Stamped) (turns : List Turn) (chosen : Stamped) → HasParents n first parent turns → IsWrittenByMajority n turns chosen → IsFixed n first parent turns chosen
majority_fixed n first parent turns chosen h ch =
    let P = λ (i : ℕ). Contains turns (written_turn i chosen) in
    let w = one_write n turns chosen ch in
    let m = h.ready chosen w in
    let top = found_kept n first parent turns chosen.ballot (parent chosen.ballot) h m.read in
    record {
      from_start = omega (arith, top.1.rises, top.1.below);
      is_seen = λ b q r l.
          let both = shared n P (λ i. (p : Stamped) × Contains turns (promise_turn i b p) × (p.ballot ≤ q.ballot)) ch.who r.who ch.majority r.majority ch.each r.each in
          let kept = promises_are_kept first turns both.0 b both.2.0 h.within h.history both.2.1 in
          let closed = kept.closed chosen both.1 l in
          omega (arith, closed, both.2.2);
      alone = λ q s f. elim s [
        | inl g ↦ absurd (m.unused (sym f ∙ ap (λ (q : Stamped). q.ballot) g))
        | inr v ↦ h.one_value q chosen v w f
      ];
    }

chosen_fixed : (n : ℕ) (first : CellState) (parent : ℕ → Stamped) (turns : List Turn) (chosen : Stamped) → HasParents n first parent turns → IsChosen n first turns chosen → IsFixed n first parent turns chosen
chosen_fixed n first parent turns chosen h (inl e) = start_fixed n first parent turns chosen h e
chosen_fixed n first parent turns chosen h (inr k) = majority_fixed n first parent turns chosen h k

pub ready_descends : ReadyDescends
ready_descends n first parent turns chosen b h ch m l =
    descend n first parent turns chosen h (chosen_fixed n first parent turns chosen h ch) b b (omega arith) m l

pub later_descends : LaterDescends
later_descends n first parent turns chosen later h ch w l =
    by_parent w (ready_descends n first parent turns chosen later.ballot h ch (h.ready later w) l)

pub start_is_least : StartIsLeast
start_is_least n first parent turns chosen h ch = (chosen_fixed n first parent turns chosen h ch).from_start

chosen_source : (n : ℕ) (first : CellState) (turns : List Turn) (p : Stamped) → IsChosen n first turns p → IsSource first turns p
chosen_source n first turns p (inl e) = inl e
chosen_source n first turns p (inr ch) = inr (one_write n turns p ch)

pub one_is_chosen : OneIsChosen
one_is_chosen n first parent turns p q h cp cq e =
    (chosen_fixed n first parent turns q h cq).alone p (chosen_source n first turns p cp) e
