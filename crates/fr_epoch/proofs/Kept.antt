-- What holds of every recoverer stays so.
use Rattle.std.proofs.Common.{◌≡◌, ◌+◌, ◌^◌, ◌<◌, ◌≤◌, Some, refl, sym, subst, arith}
use Rattle.std.specs.Prelude.{Option, None, Result, Ok, Err, OnOk, OnErr, IfSome}
use Rattle.fr_base.specs.Shape.{ShapeContent, IsShape}
use Rattle.fr_state.specs.Generations.{LogGeneration, IsGeneration}
use Rattle.fr_state.specs.Laws.{LastIsWithin}
use Rattle.fr_tail.specs.Tail.{TailState, after_hear as after_peeked}
use Rattle.fr_tail.specs.Law.{CompleteStays, HearKeepsEnds}
use Rattle.fr_epoch.specs.EndTally.{EndState, pev_of, rv_of}
use Rattle.fr_epoch.specs.Recoverer.{RecState, Parent, Plan}
use Rattle.fr_epoch.specs.Words.{Word, word_of}
use Rattle.fr_epoch.specs.Hear.{shape_after, plan_of, next_generation, with_read, after_hear}
use Rattle.fr_epoch.specs.Change.{replied, Change, Stands, LosesReads, Reads, Finds, Locks, LosesLocks, Plans, Copies, Seeds, SeedsAll, Writes, LosesWrites, Chooses, Marks}
use Rattle.fr_epoch.specs.Kept.{IsKept, NewIsKept, HearKeepsKept}
use Rattle.fr_epoch.proofs.Changes.{hear_is_change}
use Rattle.fr_epoch.proofs.Growth.{hear_leaves, hear_grows}
use Rattle.fr_epoch.proofs.Plans.{hear_leaves_plan}
use Rattle.fr_epoch.proofs.Parents.{read_last}

pub new_is_kept : NewIsKept
new_is_kept ballot cells begins shape low high is = record {
  low = low;
  high = high;
  shape = is;
  come_by = record {
    reading = λ e. refl;
    locking = λ e. refl;
    writing = λ e. absurd (cc);
    chosen = λ e. absurd (cc);
    parentless = λ e. refl;
    tallied = λ p e. absurd (cc);
  };
  plan = λ p e. absurd (cc);
  parent = λ p e. absurd (cc);
  generation = λ p e. absurd (cc);
}

-- the shape of the next generation is one
shape_is : (shape : Option ShapeContent) (g : LogGeneration) → IfSome shape IsShape → IsGeneration g → IsShape (shape_after shape g)
shape_is None g is k = record { k_low = k.k_low; k_high = k.k_high; m_high = k.m_high }
shape_is (Some s) g is k = is

-- the generation that a recoverer opens is within its limits
opened : (r : RecState) → IsKept r → (p : Parent) (end : EndState) → IsGeneration p.last → pev_of end ≤ rv_of end → rv_of end + 1 < 2 ^ 62 → IsGeneration (next_generation r p end)
opened r h p end g within below =
    let next = shape_is r.shape p.last h.shape g in
    record {
      epoch_low = h.low;
      epoch_high = h.high;
      k_low = next.k_low;
      k_high = next.k_high;
      m_high = next.m_high;
      first_low = omega arith;
      first_high = omega (arith, within, below);
      seeded_to_low = omega (arith, within);
      seeded_to_high = omega (arith, below);
    }

-- the parent's last generation
last_kept : LastIsWithin → (w : Word) (r n : RecState) → Change r w n → IsKept r → (q : Parent) → n.parent ≡ Some q → IsGeneration q.last
last_kept law w r n Stands h = h.parent
last_kept law w r n (LosesReads i t why at) h = h.parent
last_kept law w r n (Reads i t at) h = h.parent
last_kept law w r n (Finds i t s g at is) h = λ q e. (
    let p : Parent = record { state = s; last = g } in
    let d : p ≡ q = cc in
    subst (λ (x : Parent). IsGeneration x.last) d (read_last law (with_read r i t).reads.greatest.value s g is.value is.last))
last_kept law w r n (Locks p end i durable known popped at) h = h.parent
last_kept law w r n (LosesLocks p end i durable known popped why at) h = h.parent
last_kept law w r n (Plans p end i durable known popped s at is) h = h.parent
last_kept law w r n (Copies parent p i peeked at) h = h.parent
last_kept law w r n (Seeds p i at l) h = h.parent
last_kept law w r n (SeedsAll p i at l) h = h.parent
last_kept law w r n (Writes i t at) h = h.parent
last_kept law w r n (LosesWrites i t why at) h = h.parent
last_kept law w r n (Chooses i t at m) h = h.parent
last_kept law w r n (Marks p i at) h = h.parent

-- the generation of the plan
planned_kept : (w : Word) (r n : RecState) → Change r w n → IsKept r → (q : Plan) → n.plan ≡ Some q → IsGeneration q.generation
planned_kept w r n Stands h = h.generation
planned_kept w r n (LosesReads i t why at) h = h.generation
planned_kept w r n (Reads i t at) h = h.generation
planned_kept w r n (Finds i t s g at is) h = h.generation
planned_kept w r n (Locks p end i durable known popped at) h = h.generation
planned_kept w r n (LosesLocks p end i durable known popped why at) h = h.generation
planned_kept w r n (Plans p end i durable known popped s at is) h = λ q e. (
    let d : plan_of r p (replied end i durable known) s ≡ q = cc in
    subst (λ (x : Plan). IsGeneration x.generation) d (opened r h p (replied end i durable known) (h.parent p at.parent) is.within is.below))
planned_kept w r n (Copies parent p i peeked at) h = λ q e. (
    let t : TailState = after_peeked p.tail i peeked.tag peeked in
    let m : Plan = record { state = p.state; generation = p.generation; tail = t } in
    let d : m ≡ q = cc in
    subst (λ (x : Plan). IsGeneration x.generation) d (h.generation p at.plan))
planned_kept w r n (Seeds p i at l) h = h.generation
planned_kept w r n (SeedsAll p i at l) h = h.generation
planned_kept w r n (Writes i t at) h = h.generation
planned_kept w r n (LosesWrites i t why at) h = h.generation
planned_kept w r n (Chooses i t at m) h = h.generation
planned_kept w r n (Marks p i at) h = h.generation

pub hear_is_kept : CompleteStays → HearKeepsEnds → LastIsWithin → HearKeepsKept
hear_is_kept complete ends law r from t h =
    let n = after_hear r from t in
    let change = hear_is_change r from t in
    let grows = hear_grows complete r from t h.come_by in
    record {
      low = subst (λ b. 256 ≤ b) (sym grows.ballot) h.low;
      high = subst (λ b. b < 2 ^ 48) (sym grows.ballot) h.high;
      shape = subst (λ o. IfSome o IsShape) (sym grows.shape) h.shape;
      come_by = hear_leaves r from t h.come_by;
      plan = hear_leaves_plan ends r from t h.plan;
      parent = last_kept law (word_of from t) r n change h;
      generation = planned_kept (word_of from t) r n change h;
    }

-- heard or not
pub kept_either : {X E : Type 0} (o : Result X E) (r n a : RecState) → OnOk o (n ≡ a) → OnErr o (n ≡ r) → IsKept r → IsKept a → IsKept n
kept_either (Ok x) r n a ok err h k = subst IsKept (sym ok) k
kept_either (Err e) r n a ok err h k = subst IsKept (sym err) h
