use Rattle.std.proofs.Common.{ℕ, List, Option, sym, ap, ◌∙◌, arith}
use Rattle.std.specs.Option.{option_or}
use Rattle.std.specs.Map.{lookup}
use Rattle.std.specs.BTreeMap as tree
use Rattle.std.specs.BTreeMap.{is_at}
use Rattle.fr_base.specs.Bytes.{bytes_cmp, bytes_total, bytes_exact}
use Rattle.fr_undo.proofs.TreeLemmas.{copied_sorted, copied_step}
use Rattle.fr_undo.proofs.ListRows.{none_left}
use Rattle.fr_undo.proofs.plan.Plan.to_tree.Goals as goal

pub returns-clause-planned : goal.returns-clause-planned
returns-clause-planned c = λ q.
    let none = none_left c.loop-key.key-iterator.rest.items (let long = c.loop-key.key-iterator.rest.ok.0 in let end = c.in-None.ensures.steps.0 in omega arith) in
    sym (ap (λ es. option_or (lookup (is_at (bytes_cmp q)) es) (tree.get bytes_cmp c.loop-key.self.tree q)) none)
    ∙ c.loop-key.invariant.planned q

pub loop-key-preserved-in_ok-insert : goal.loop-key-preserved-in_ok-insert
loop-key-preserved-in_ok-insert c =
    let e : List ℕ × Option (List ℕ) = (c.in-Some.key, c.in-Some.after) in
    let inv = c.loop-key.invariant in
    let es = c.loop-key.key-iterator.rest.items in
    let rest = c.next.new.self.rest.items in
    let is = c.in-Some.ensures.steps.0 in
    record {
      list = inv.list;
      sorted = copied_sorted bytes_cmp es rest e is inv.sorted;
      planned = λ q. copied_step bytes_cmp bytes_total bytes_exact es rest e c.loop-key.self.tree c.insert.new.self is inv.sorted c.in_ok-insert.ensures.updates.0 q ∙ inv.planned q;
    }

pub loop-key-preserved-in_ok-insert-2 : goal.loop-key-preserved-in_ok-insert-2
loop-key-preserved-in_ok-insert-2 c =
    let e : List ℕ × Option (List ℕ) = (c.in-Some.key, c.in-Some.after) in
    let inv = c.loop-key.invariant in
    let es = c.loop-key.key-iterator.rest.items in
    let rest = c.next.new.self.rest.items in
    let is = c.in-Some.ensures.steps.0 in
    record {
      list = inv.list;
      sorted = copied_sorted bytes_cmp es rest e is inv.sorted;
      planned = λ q. copied_step bytes_cmp bytes_total bytes_exact es rest e c.loop-key.self.tree c.insert.new.self is inv.sorted c.in_ok-insert.ensures.updates.0 q ∙ inv.planned q;
    }

pub loop-key-preserved : goal.loop-key-preserved
loop-key-preserved c =
    let e : List ℕ × Option (List ℕ) = (c.in-Some.key, c.in-Some.after) in
    let inv = c.loop-key.invariant in
    let es = c.loop-key.key-iterator.rest.items in
    let rest = c.next.new.self.rest.items in
    let is = c.in-Some.ensures.steps.0 in
    record {
      list = inv.list;
      sorted = copied_sorted bytes_cmp es rest e is inv.sorted;
      planned = λ q. copied_step bytes_cmp bytes_total bytes_exact es rest e c.loop-key.self.tree c.insert.new.self is inv.sorted c.in_ok-insert.ensures.updates.0 q ∙ inv.planned q;
    }
