use Rattle.std.proofs.Common.{◌≡◌, ℕ, ◌++◌, List, Option, IfSome, length, ap, sym, subst, ◌∙◌, arith}
use Rattle.std.specs.Prelude.{is_some}
use Rattle.std.specs.List.Sorted.{IsStrictlySortedBy}
use Rattle.std.specs.Map.{lookup, keys_of}
use Rattle.std.specs.BTreeMap as tree
use Rattle.std.specs.BTreeMap.{is_at}
use Rattle.fr_base.specs.Bytes.{bytes_cmp}
use Rattle.fr_undo.specs.Plan.{acted, given, fate_of, taken_back, HasPlace}
use Rattle.fr_undo.proofs.TreeLemmas.{copied_sorted}
use Rattle.fr_undo.proofs.WriteLemmas.{found_first, found_rest, acted_step, still_step, back_step, places_step, fates_step, order_left, sorted_front, none_before}
use Rattle.fr_undo.proofs.write.give_all.Goals as goal

pub push_reserved-requires : goal.push_reserved-requires
push_reserved-requires c = let room = c.loop-key.invariant.room in let more = ap length c.in-Some.ensures.steps.0 in omega arith

pub loop-key-preserved : goal.loop-key-preserved
loop-key-preserved c =
    let e : List ℕ × Option (List ℕ) = (c.in-Some.key, c.in-Some.after) in
    let is = c.in-Some.ensures.steps.0 in
    let es = c.loop-key.key-iterator.rest.items in
    let rest = c.next.new.self.rest.items in
    let inv = c.loop-key.invariant in
    let contents = c.loop-key.contents in
    let contents' = c.give_one.new.contents in
    let held = tree.get bytes_cmp c.args.contents.now in
    let done = c.loop-key.fates.items in
    let fate = c.in_ok-fate.fate in
    let made = c.in_ok-fate.ensures.fate in
    let put = c.in_ok-fate.ensures.values in
    let all = λ (q : List ℕ). lookup (is_at (bytes_cmp q)) es in
    let left = λ (q : List ℕ). lookup (is_at (bytes_cmp q)) rest in
    let was = found_first es rest e is in
    let gone = found_rest es rest e is inv.sorted in
    let order = subst (λ (l : List (List ℕ × Option (List ℕ))). IsStrictlySortedBy bytes_cmp (keys_of done ++ keys_of l)) is (order_left held done es c.into_iter-key-iterator.result.rest.items inv.made inv.order) in
    let none = none_before done e.0 (keys_of rest) order in
    record {
      sorted = copied_sorted bytes_cmp es rest e is inv.sorted;
      order = inv.order;
      value = λ q. acted_step given all left contents contents' e.0 e.1 was gone put q ∙ inv.value q;
      still = still_step given all left contents contents' e.0 e.1 was gone put held inv.still;
      made = fates_step held done c.push_reserved.new.self.items es rest e fate is (made ∙ ap (λ v. fate_of v e.1) (inv.still e.0 (ap is_some was))) c.push_reserved.ensures.items ∙ inv.made;
      room = let room = inv.room in let more = ap length is in let long = c.push_reserved.ensures.len in let same = c.push_reserved.ensures.capacity in omega arith;
      back = λ q. subst (λ l. acted taken_back (lookup (is_at (bytes_cmp q)) l) (tree.get bytes_cmp contents' q) ≡ held q) (sym c.push_reserved.ensures.items) (back_step held contents contents' done e.0 e.1 fate none made put inv.back q);
      places = λ q. subst (λ l. IfSome (lookup (is_at (bytes_cmp q)) l) (λ f. HasPlace f (tree.get bytes_cmp contents' q))) (sym c.push_reserved.ensures.items) (places_step held contents contents' done e.0 e.1 fate none made put inv.places q);
    }

pub returns-in_err-fate-clause-order : goal.returns-in_err-fate-clause-order
returns-in_err-fate-clause-order c =
    let inv = c.loop-key.invariant in
    sorted_front (keys_of c.loop-key.fates.items) (keys_of c.loop-key.key-iterator.rest.items) (order_left (tree.get bytes_cmp c.args.contents.now) c.loop-key.fates.items c.loop-key.key-iterator.rest.items c.into_iter-key-iterator.result.rest.items inv.made inv.order)

pub returns-clause-order : goal.returns-clause-order
returns-clause-order c =
    let inv = c.loop-key.invariant in
    sorted_front (keys_of c.loop-key.fates.items) (keys_of c.loop-key.key-iterator.rest.items) (order_left (tree.get bytes_cmp c.args.contents.now) c.loop-key.fates.items c.loop-key.key-iterator.rest.items c.into_iter-key-iterator.result.rest.items inv.made inv.order)
