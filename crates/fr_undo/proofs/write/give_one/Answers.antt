use Rattle.std.proofs.Common.{◌≡◌, true, Some, ap, sym, ◌∙◌}
use Rattle.std.specs.BTreeMap as tree
use Rattle.fr_base.specs.Bytes.{bytes_cmp, bytes_eq}
use Rattle.fr_undo.proofs.WriteLemmas.{stays}
use Rattle.fr_undo.proofs.write.give_one.Goals as goal

pub returns-then-eq-clause-values : goal.returns-then-eq-clause-values
returns-then-eq-clause-values c =
    let contents = c.args.contents.now in
    let ends = c.contents-then-eq-1.given.1 (sym (rw c.in-Occupied.is at c.in_ok-entry.ensures.same_map)) in
    let same = rw c.in-Occupied.is at c.in_ok-entry.ensures.unchanged in
    let value = rw c.in-Occupied.is at c.in_ok-entry.ensures.value in
    let k = c.in_ok-copy.ensures in
    let holds : tree.get bytes_cmp contents c.args.key.now ≡ Some c.get.result.now = cc (value, c.get.ensures, k) in
    let one : bytes_eq c.get.result.now c.in-Some.value ≡ true = cc (c.eq.ensures, c.if-eq.true) in
    stays contents c.contents-then-eq-1.given.0 c.args.key.now c.in-Some.value c.get.result.now c.args.after c.in-Some.is holds one (ap (λ m. m.entries) ends ∙ same)
