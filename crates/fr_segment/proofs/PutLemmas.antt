-- What a crash leaves while bytes are put behind a gate.
use Rattle.std.proofs.Common.{◌≡◌, inl, ℕ, ◌+◌, ◌<◌, ◌≤◌, List, [], ◌∷◌, ◌++◌, length, get_or, take, drop, refl, sym, ap, ◌∙◌, subst, arith, append_assoc, length-append, take-append-drop}
use Rattle.std.proofs.lemmas.List.{length-take-le, length-take, length-drop, take-append-le, take-take, drop_at, take_at, drop-drop}
use Rattle.fr_record.specs.Disk.{Disk, MayLeave, IsDurable, Torn, written}
use Rattle.fr_segment.specs.Put.{IsAtGate, IsPut}
use Rattle.fr_segment.proofs.Crash.{torn_front, torn_end, torn_long}

-- what a read gives is one of the outcomes
pub content_left : (disk : Disk) → MayLeave disk disk.content
content_left disk = record { no_shorter = omega arith; no_longer = omega arith; same = λ i h kept. refl }

-- a device with the new bytes behind the gate
module _ (old : List ℕ) (gate : ℕ) (new : List ℕ) (within : gate + 1 < length old) where
  front_long : length (take (gate + 2) old) ≡ gate + 2
  front_long = length-take-le (gate + 2) old (omega (arith, within))

  pub staged_front : take gate (written old (gate + 2) new) ≡ take gate old
  staged_front =
      ap (λ l. take gate l) (append_assoc (take (gate + 2) old) new (drop (gate + 2 + length new) old))
      ∙ take-append-le gate (take (gate + 2) old) (new ++ drop (gate + 2 + length new) old) (omega (arith, front_long))
      ∙ take-take gate (gate + 2) old (omega arith)

  pub staged_end : drop (gate + 2) (written old (gate + 2) new) ≡ new ++ drop (gate + 2 + length new) old
  staged_end =
      ap (λ l. drop (gate + 2) l) (append_assoc (take (gate + 2) old) new (drop (gate + 2 + length new) old))
      ∙ drop_at (take (gate + 2) old) (new ++ drop (gate + 2 + length new) old) (gate + 2) front_long

  -- what has that front and that end has some two bytes at the gate
  pub at_gate : (left : List ℕ) → gate + 1 < length left → take gate left ≡ take gate (written old (gate + 2) new) → drop (gate + 2) left ≡ drop (gate + 2) (written old (gate + 2) new)
      → IsAtGate old gate (take 2 (drop gate left)) new left
  at_gate left long front end =
      let two = take 2 (drop gate left) in
      let rest = drop (gate + 2 + length new) old in
      let two_long : length two ≡ 2 = length-take-le 2 (drop gate left) (omega (arith, length-drop gate left, long)) in
      let same : gate + 2 ≡ gate + 2 = refl in
      let whole : drop gate left ≡ (two ++ new) ++ rest =
      sym (take-append-drop 2 (drop gate left)) ∙ ap (λ l. two ++ l) (drop-drop 2 gate left ∙ end ∙ staged_end) ∙ sym (append_assoc two new rest) in
      record {
        front = front ∙ staged_front;
        two_long = two_long;
        at = ap (λ l. take (2 + length new) l) whole ∙ take_at (two ++ new) rest (2 + length new) (omega (arith, length-append two new, two_long));
      }

-- after the first write a crash leaves the gate closed
pub behind_leaves : (old now : Disk) (gate n : ℕ) (new left : List ℕ) → gate + 1 < length old.content → IsDurable old → Torn (gate + 2) n old now → MayLeave now left → IsPut old.content gate new left
behind_leaves old now gate n new left within durable torn may = inl (torn_front (gate + 2) n old now left durable torn may (omega (arith, within)))

-- after the second it leaves some gate
pub gate_leaves : (first old now : Disk) (gate : ℕ) (new left : List ℕ) → gate + 1 < length first.content → old.content ≡ written first.content (gate + 2) new → length first.content ≤ length old.content
    → IsDurable old → Torn gate 2 old now → MayLeave now left → IsAtGate first.content gate (take 2 (drop gate left)) new left
gate_leaves first old now gate new left within is long durable torn may =
    at_gate first.content gate new within left (omega (arith, within, long, torn_long gate 2 old now left durable torn may))
    (torn_front gate 2 old now left durable torn may (omega (arith, within, long)) ∙ ap (λ l. take gate l) is)
    (torn_end gate 2 old now left durable torn may (omega (arith, within, long)) ∙ ap (λ l. drop (gate + 2) l) is)

-- and at the end the gate is open
pub opened : (first old now : Disk) (gate : ℕ) (new : List ℕ) → gate + 1 < length first.content → old.content ≡ written first.content (gate + 2) new → length first.content ≤ length old.content
    → IsDurable old → Torn gate 2 old now → now.content ≡ written old.content gate (1 ∷ 1 ∷ []) → IsAtGate first.content gate (1 ∷ 1 ∷ []) new now.content
opened first old now gate new within is long durable torn opens =
    let two : take 2 (drop gate now.content) ≡ 1 ∷ 1 ∷ [] =
    ap (λ l. take 2 (drop gate l)) (opens ∙ append_assoc (take gate old.content) (1 ∷ 1 ∷ []) (drop (gate + 2) old.content))
    ∙ ap (λ l. take 2 l) (drop_at (take gate old.content) (1 ∷ 1 ∷ drop (gate + 2) old.content) gate (length-take-le gate old.content (omega (arith, within, long)))) in
    subst (λ t. IsAtGate first.content gate t new now.content) two (gate_leaves first old now gate new now.content within is long durable torn (content_left now))
