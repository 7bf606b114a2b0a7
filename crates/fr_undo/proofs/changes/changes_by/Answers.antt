use Rattle.std.proofs.Common.{ℕ, List, Option, ◌∙◌}
use Rattle.std.specs.BTreeMap as tree
use Rattle.fr_base.specs.Bytes.{bytes_cmp}
use Rattle.fr_undo.proofs.TreeLemmas.{copied_sorted}
use Rattle.fr_undo.proofs.PlanLemmas.{changed_step}
use Rattle.fr_undo.proofs.changes.changes_by.Goals as goal

pub loop-key-preserved-in_ok-insert : goal.loop-key-preserved-in_ok-insert
loop-key-preserved-in_ok-insert c =
    let e : List ℕ × Option (List ℕ) = (c.in-Some.key, c.in-Some.after) in
    let is = c.in-Some.ensures.steps.0 in
    let inv = c.loop-key.invariant in
    let b = c.in_ok-before.ensures in
    record {
      sorted = copied_sorted bytes_cmp c.loop-key.key-iterator.rest.items c.next.new.self.rest.items e is inv.sorted;
      made = λ q. changed_step (tree.get bytes_cmp c.args.contents.now) c.loop-key.key-iterator.rest.items c.next.new.self.rest.items e c.loop-key.changes c.insert.new.self is inv.sorted (λ x. cc (c.in_ok-insert.ensures.updates.0 x, b)) q ∙ inv.made q;
    }

pub loop-key-preserved-in_ok-insert-2 : goal.loop-key-preserved-in_ok-insert-2
loop-key-preserved-in_ok-insert-2 c =
    let e : List ℕ × Option (List ℕ) = (c.in-Some.key, c.in-Some.after) in
    let is = c.in-Some.ensures.steps.0 in
    let inv = c.loop-key.invariant in
    let b = c.in_ok-before.ensures in
    record {
      sorted = copied_sorted bytes_cmp c.loop-key.key-iterator.rest.items c.next.new.self.rest.items e is inv.sorted;
      made = λ q. changed_step (tree.get bytes_cmp c.args.contents.now) c.loop-key.key-iterator.rest.items c.next.new.self.rest.items e c.loop-key.changes c.insert.new.self is inv.sorted (λ x. cc (c.in_ok-insert.ensures.updates.0 x, b)) q ∙ inv.made q;
    }

pub loop-key-preserved : goal.loop-key-preserved
loop-key-preserved c =
    let e : List ℕ × Option (List ℕ) = (c.in-Some.key, c.in-Some.after) in
    let is = c.in-Some.ensures.steps.0 in
    let inv = c.loop-key.invariant in
    let b = c.in_ok-before.ensures in
    record {
      sorted = copied_sorted bytes_cmp c.loop-key.key-iterator.rest.items c.next.new.self.rest.items e is inv.sorted;
      made = λ q. changed_step (tree.get bytes_cmp c.args.contents.now) c.loop-key.key-iterator.rest.items c.next.new.self.rest.items e c.loop-key.changes c.insert.new.self is inv.sorted (λ x. cc (c.in_ok-insert.ensures.updates.0 x, b)) q ∙ inv.made q;
    }
