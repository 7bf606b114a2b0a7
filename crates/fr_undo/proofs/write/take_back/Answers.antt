use Rattle.std.proofs.Common.{ℕ, List, Option, IfSome, subst, ◌∙◌}
use Rattle.std.specs.Map.{lookup}
use Rattle.std.specs.BTreeMap as tree
use Rattle.std.specs.BTreeMap.{is_at}
use Rattle.fr_base.specs.Bytes.{bytes_cmp}
use Rattle.fr_undo.specs.declared.write.Fate.{Fate}
use Rattle.fr_undo.specs.Plan.{taken_back, HasPlace}
use Rattle.fr_undo.proofs.TreeLemmas.{copied_sorted}
use Rattle.fr_undo.proofs.WriteLemmas.{found_first, found_rest, acted_step, each_step}
use Rattle.fr_undo.proofs.write.take_back.Goals as goal

pub take_back_one-requires : goal.take_back_one-requires
take_back_one-requires c =
    let e : List ℕ × Fate = (c.in-Some.key, c.in-Some.fate) in
    subst (λ (o : Option Fate). IfSome o (λ fate. HasPlace fate (tree.get bytes_cmp c.loop-key.contents e.0))) (found_first c.loop-key.key-iterator.rest.items c.next.new.self.rest.items e c.in-Some.ensures.steps.0) (c.loop-key.invariant.places e.0)

pub loop-key-preserved : goal.loop-key-preserved
loop-key-preserved c =
    let e : List ℕ × Fate = (c.in-Some.key, c.in-Some.fate) in
    let is = c.in-Some.ensures.steps.0 in
    let es = c.loop-key.key-iterator.rest.items in
    let rest = c.next.new.self.rest.items in
    let inv = c.loop-key.invariant in
    let all = λ (q : List ℕ). lookup (is_at (bytes_cmp q)) es in
    let left = λ (q : List ℕ). lookup (is_at (bytes_cmp q)) rest in
    let was = found_first es rest e is in
    let gone = found_rest es rest e is inv.sorted in
    let put = c.take_back_one.ensures in
    record {
      sorted = copied_sorted bytes_cmp es rest e is inv.sorted;
      value = λ q. acted_step taken_back all left c.loop-key.contents c.take_back_one.new.contents e.0 e.1 was gone put q ∙ inv.value q;
      places = λ q. each_step taken_back all left c.loop-key.contents c.take_back_one.new.contents e.0 e.1 was gone put HasPlace q (inv.places q);
    }
