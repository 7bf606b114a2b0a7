use Rattle.std.proofs.Common.{ℕ, List, ◌∙◌}
use Rattle.std.specs.Map.{lookup}
use Rattle.std.specs.BTreeMap.{is_at}
use Rattle.fr_base.specs.Bytes.{bytes_cmp}
use Rattle.fr_undo.specs.declared.write.Fate.{Fate}
use Rattle.fr_undo.specs.Plan.{finished}
use Rattle.fr_undo.proofs.TreeLemmas.{copied_sorted}
use Rattle.fr_undo.proofs.WriteLemmas.{found_first, found_rest, acted_step}
use Rattle.fr_undo.proofs.unwind.finish_all.Goals as goal

pub loop-key-preserved : goal.loop-key-preserved
loop-key-preserved c =
    let e : List ℕ × Fate = (c.in-Some.key, c.in-Some.fate) in
    let is = c.in-Some.ensures.steps.0 in
    let es = c.loop-key.key-iterator.rest.items in
    let rest = c.next.new.self.rest.items in
    let inv = c.loop-key.invariant in
    let all = λ (q : List ℕ). lookup (is_at (bytes_cmp q)) es in
    let left = λ (q : List ℕ). lookup (is_at (bytes_cmp q)) rest in
    record {
      sorted = copied_sorted bytes_cmp es rest e is inv.sorted;
      value = λ q. acted_step finished all left c.loop-key.contents c.finish.new.contents e.0 e.1 (found_first es rest e is) (found_rest es rest e is inv.sorted) c.finish.ensures.values q ∙ inv.value q;
    }
