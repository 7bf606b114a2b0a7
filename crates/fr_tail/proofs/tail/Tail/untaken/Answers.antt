use Rattle.std.proofs.Common.{◌≡◌, ℕ, ◌+◌, ◌<◌, ◌≤◌, length, set, ap, ap₂, ◌∙◌, sym, subst, refl, arith}
use Rattle.std.proofs.lemmas.List.{get_or_default, length-set}
use Rattle.fr_tags.specs.Placement.{is_held}
use Rattle.fr_tail.specs.Tail.{records_for, part_at, new_part}
use Rattle.fr_tail.specs.Merging.{taken_of, left_of}
use Rattle.fr_tail.proofs.Merge.{none_taken, take_all_of, take_none_of, rest_untaken}
use Rattle.fr_tail.proofs.tail.Tail.untaken.Goals as goal
use Rattle.fr_tail.proofs.tail.Tail.untaken.Goals.{then-not-is_held, else-not-is_held}

pub loop-number-init : goal.loop-number-init
loop-number-init c = record { size = refl; done = λ t less. absurd (omega (arith, less)); rest = λ t le. none_taken 32 t }

pub loop-number-preserved : goal.loop-number-preserved
loop-number-preserved c = elim c.if-not-is_held.branch [
  | then-not-is_held w ↦
      let n = c.loop-number.number in
      let other = ap (λ t. is_held t c.args.shape.m c.args.shape.k c.args.log) (sym c.tag_at.ensures) ∙ ap₂ (λ m k. is_held c.tag_at.result m k c.args.log) (sym c.m.ensures.value) (sym c.k.ensures.value) ∙ sym c.is_held.ensures ∙ w.if-not-is_held.true in
      let count = ap (λ s. length s.parts) c.self.view_is in
      let few = c.self.invariant.few in
      let size = c.loop-number.invariant.size in
      let here = c.loop-number-test.true in
      let upto = c.len-number-end.ensures in
      let below : n < length c.self.inside.parts.items = search (arith, here, upto) in
      let part = w.index.ensures ∙ get_or_default c.self.inside.parts.items n _ (new_part c.self.inside.pev) below ∙ ap (λ s. part_at s n) c.self.view_is in
      let taken = w.taken-is ∙ ap (λ rs. set c.loop-number.taken n (length rs)) (w.records.ensures ∙ ap (λ p. p.records) part) in
      record {
        done = subst (λ ts. (t : ℕ) → t < n + 1 → left_of c.args.self.now ts t ≡ records_for c.args.self.now c.args.shape.m c.args.shape.k c.args.log t) (sym taken)
            (take_all_of c.args.self.now c.args.shape.m c.args.shape.k c.args.log n c.loop-number.taken c.loop-number.invariant.done c.loop-number.invariant.rest (omega (arith, below, few, size)) other);
        size = ap length taken ∙ length-set c.loop-number.taken n _ ∙ size;
        rest = subst (λ ts. (t : ℕ) → n + 1 ≤ t → taken_of ts t ≡ 0) (sym taken) (rest_untaken n _ c.loop-number.taken c.loop-number.invariant.rest);
      }
  | else-not-is_held w ↦
      let n = c.loop-number.number in
      let own = ap (λ t. is_held t c.args.shape.m c.args.shape.k c.args.log) (sym c.tag_at.ensures) ∙ ap₂ (λ m k. is_held c.tag_at.result m k c.args.log) (sym c.m.ensures.value) (sym c.k.ensures.value) ∙ sym c.is_held.ensures ∙ w.if-not-is_held.false in
      record {
        done = subst (λ ts. (t : ℕ) → t < n + 1 → left_of c.args.self.now ts t ≡ records_for c.args.self.now c.args.shape.m c.args.shape.k c.args.log t) (sym w.taken-is)
            (take_none_of c.args.self.now c.args.shape.m c.args.shape.k c.args.log n c.loop-number.taken c.loop-number.invariant.done c.loop-number.invariant.rest own);
        size = ap length w.taken-is ∙ c.loop-number.invariant.size;
        rest = subst (λ ts. (t : ℕ) → n + 1 ≤ t → taken_of ts t ≡ 0) (sym w.taken-is) (λ t le. c.loop-number.invariant.rest t (omega (arith, le)));
      }
]
