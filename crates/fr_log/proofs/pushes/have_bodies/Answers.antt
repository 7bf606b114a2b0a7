use Rattle.std.proofs.Common.{rules, ◌≡◌, ◌+◌, ◌<◌, ◌≤◌, ◌&&◌, [], drop, sym, ◌∙◌, ap, subst, arith}
use Rattle.std.specs.Option.{option_copied}
use Rattle.std.specs.Cmp.Lexicographic.{pointwise}
use Rattle.std.proofs.lemmas.Bool.{eq-eqb, ne_eqb}
use Rattle.std.proofs.lemmas.List.{take_rest}
use Rattle.fr_mutation.specs.Equal.{is_same_batch}
use Rattle.fr_tags.specs.Bodies.{is_same_body}
use Rattle.fr_log.specs.Fields.{two}
use Rattle.fr_log.specs.Left.{popped_at, left_bodies, IsBodyLeftAtFirst}
use Rattle.fr_log.specs.Pushes.{batch_at}
use Rattle.fr_log.proofs.Shelves.{left_from, left_met, left_unmet, left_last, left_same, popped_skips, no_bodies, as_yes, as_no}
use Rattle.fr_log.proofs.pushes.have_bodies.Goals as goal
use Rattle.fr_log.proofs.pushes.have_bodies.Goals.{then-lt+in-Some+in-len1-up+else-from-number+else-ne, then-lt+in_default, else-lt, then-from-number-via-then-from-number, then-from-number-via-else-from-number+then-ne}

pub returns-in-empty : goal.returns-in-empty
returns-in-empty c =
    let here = c.loop-number-test.true in
    let high : popped_at c.args.popped.now c.loop-number.number < c.args.version = search rules in
    let some = ap (batch_at c.args.version) (sym c.index-shelves-number.is) ∙ sym c.in-Some.ensures in
    sym (left_unmet c.args.popped.now c.args.version c.loop-number.number c.args.shelves.now c.index-shelves-number.result c.in-Some.batch.now c.loop-number.left.now (omega (arith, here)) some high c.in-empty.len_below) ∙ c.loop-number.invariant.so_far

pub returns-then-from-number : goal.returns-then-from-number
returns-then-from-number c =
    let ps = c.args.popped.now in
    let v = c.args.version in
    let here = c.loop-number-test.true in
    let high : popped_at c.args.popped.now c.loop-number.number < c.args.version = search rules in
    let some = ap (batch_at v) (sym c.index-shelves-number.is) ∙ sym c.in-Some.ensures in
    let rest = pointwise is_same_body (left_bodies ps v (drop 1 c.loop-number.left.now)) (left_from ps v (c.loop-number.number + 1) c.args.shelves.now) in
    let next = left_met ps v c.loop-number.number c.args.shelves.now c.index-shelves-number.result c.in-Some.batch.now c.loop-number.left.now c.body-item.result (omega (arith, here)) some high c.loop-number.invariant.first c.in-len1-up.len_at_least c.body-item.is in
    elim c.then-from-number.branch [
      | then-from-number-via-then-from-number w ↦
          let other = ne_eqb c.body-item.result.tag c.loop-number.number (λ e. w.if-from-number.true (c.from.ensures ∙ c.get.ensures.value ∙ e)) in
          sym (next ∙ ap (λ t. (t && is_same_batch c.body-item.result.batch c.in-Some.batch.now) && rest) other) ∙ c.loop-number.invariant.so_far
      | then-from-number-via-else-from-number+then-ne w ↦
          let same = eq-eqb c.body-item.result.tag c.loop-number.number (sym c.get.ensures.value ∙ sym c.from.ensures ∙ w.if-from-number.false) in
          let other = as_no (is_same_batch c.body-item.result.batch c.in-Some.batch.now) w.if-ne.ensures in
          sym (next ∙ two (λ s t. (s && t) && rest) same other) ∙ c.loop-number.invariant.so_far
    ]

pub loop-number-preserved : goal.loop-number-preserved
loop-number-preserved c =
    let ps = c.args.popped.now in
    let v = c.args.version in
    let here = c.loop-number-test.true in
    let n = c.loop-number.number in
    elim c.if-lt.branch [
      | then-lt+in-Some+in-len1-up+else-from-number+else-ne w ↦
          let high : popped_at c.args.popped.now c.loop-number.number < c.args.version = search rules in
          let some = ap (batch_at v) (sym w.index-shelves-number.is) ∙ sym w.in-Some.ensures in
          let rest = pointwise is_same_body (left_bodies ps v (drop 1 c.loop-number.left.now)) (left_from ps v (n + 1) c.args.shelves.now) in
          let next = left_met ps v n c.args.shelves.now w.index-shelves-number.result w.in-Some.batch.now c.loop-number.left.now w.body-item.result (omega (arith, here)) some high c.loop-number.invariant.first w.in-len1-up.len_at_least w.body-item.is in
          let same = eq-eqb w.body-item.result.tag n (sym w.get.ensures.value ∙ sym w.from.ensures ∙ w.if-from-number.false) in
          let equal = as_yes (is_same_batch w.body-item.result.batch w.in-Some.batch.now) w.if-ne.ensures in
          let left : left_bodies ps v c.if-lt.left.now ≡ left_bodies ps v (drop 1 c.loop-number.left.now) =
          ap (λ l. left_bodies ps v l.now) w.left-is ∙ w.from_left-left-in-len1-up.ensures.same ∙ ap (left_bodies ps v) (take_rest c.loop-number.left.now 1) in
          record {
            so_far = ap (λ bs. pointwise is_same_body bs (left_from ps v (n + 1) c.args.shelves.now)) left
                ∙ sym (next ∙ two (λ s t. (s && t) && rest) same equal) ∙ c.loop-number.invariant.so_far;
            first = subst (λ l. IsBodyLeftAtFirst ps v l.now) (sym w.left-is) w.from_left-left-in-len1-up.ensures.first;
          }
      | then-lt+in_default w ↦
          let none = ap (batch_at v) (sym w.index-shelves-number.is) ∙ sym w.at.ensures ∙ ap option_copied w.in_default.is in
          record {
            so_far = ap (λ l. pointwise is_same_body (left_bodies ps v l.now) (left_from ps v (n + 1) c.args.shelves.now)) w.left-is
                ∙ ap (pointwise is_same_body (left_bodies ps v c.loop-number.left.now)) (sym (left_same ps v n c.args.shelves.now w.index-shelves-number.result (omega (arith, here)) none))
                ∙ c.loop-number.invariant.so_far;
            first = subst (λ l. IsBodyLeftAtFirst ps v l.now) (sym w.left-is) c.loop-number.invariant.first;
          }
      | else-lt w ↦
          let low : v ≤ popped_at ps n = search rules in
          record {
            so_far = ap (λ l. pointwise is_same_body (left_bodies ps v l.now) (left_from ps v (n + 1) c.args.shelves.now)) w.left-is
                ∙ ap (pointwise is_same_body (left_bodies ps v c.loop-number.left.now)) (sym (popped_skips ps v n c.args.shelves.now [] (omega (arith, here)) low))
                ∙ c.loop-number.invariant.so_far;
            first = subst (λ l. IsBodyLeftAtFirst ps v l.now) (sym w.left-is) c.loop-number.invariant.first;
          }
    ]

pub returns : goal.returns
returns c =
    let past = c.loop-number-test.false in
    c.is_empty.ensures ∙ left_last c.args.popped.now c.args.version c.loop-number.left.now c.loop-number.invariant.first
    ∙ ap (λ bs. pointwise is_same_body (left_bodies c.args.popped.now c.args.version c.loop-number.left.now) (left_bodies c.args.popped.now c.args.version bs)) (sym (no_bodies c.args.version c.loop-number.number c.args.shelves.now (omega (arith, past))))
    ∙ c.loop-number.invariant.so_far
