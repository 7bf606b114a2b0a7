use Rattle.std.proofs.Common.{◌≡◌, ℕ, ◌++◌, List, sym, ap, ◌∙◌, append-nil, length, deque_capacity, arith}
use Rattle.std.specs.Prelude.{is_some}
use Rattle.std.specs.Map.{lookup}
use Rattle.std.specs.BTreeMap as tree
use Rattle.std.specs.BTreeMap.{is_at}
use Rattle.fr_base.specs.Bytes.{bytes_cmp}
use Rattle.fr_undo.specs.declared.write.Fate.{Fate}
use Rattle.fr_undo.specs.Plan.{finished, row_left}
use Rattle.fr_undo.specs.Rows.{rows_left}
use Rattle.fr_undo.proofs.TreeLemmas.{copied_sorted}
use Rattle.fr_undo.proofs.WriteLemmas.{found_first, found_rest, acted_step, still_step}
use Rattle.fr_undo.proofs.ListRows.{left_step, room_step, none_left}
use Rattle.fr_undo.proofs.extend.settle.Goals as goal

pub put_row-requires : goal.put_row-requires
put_row-requires c = let room = c.loop-key.invariant.room in let more = ap length c.in-Some.ensures.steps.0 in omega arith

pub loop-key-preserved : goal.loop-key-preserved
loop-key-preserved c =
    let e : List ℕ × Fate = (c.in-Some.key, c.in-Some.fate) in
    let is = c.in-Some.ensures.steps.0 in
    let es = c.loop-key.key-iterator.rest.items in
    let rest = c.next.new.self.rest.items in
    let inv = c.loop-key.invariant in
    let held = tree.get bytes_cmp c.args.contents.now in
    let all = λ (q : List ℕ). lookup (is_at (bytes_cmp q)) es in
    let left = λ (q : List ℕ). lookup (is_at (bytes_cmp q)) rest in
    let was = found_first es rest e is in
    let gone = found_rest es rest e is inv.sorted in
    let put = c.finish-before.ensures.values in
    let rows = c.loop-key.rows.items in
    let rows' = c.put_row.new.rows.items in
    let row = c.finish-before.ensures.row ∙ ap (row_left e.1) (inv.still e.0 (ap is_some was)) in
    record {
      sorted = copied_sorted bytes_cmp es rest e is inv.sorted;
      value = λ q. acted_step finished all left c.loop-key.contents c.finish-before.new.contents e.0 e.1 was gone put q ∙ inv.value q;
      still = still_step finished all left c.loop-key.contents c.finish-before.new.contents e.0 e.1 was gone put held inv.still;
      rows = left_step c.args.version held rows rows' es rest e c.finish-before.result is c.put_row.ensures.rows row ∙ inv.rows;
      room = let fits = room_step c.args.version held rows rows' es rest e c.finish-before.result is c.put_row.ensures.rows (deque_capacity c.loop-key.rows) inv.room in let same = c.put_row.ensures.room in omega arith;
    }

pub returns-clause-rows : goal.returns-clause-rows
returns-clause-rows c =
    let held = tree.get bytes_cmp c.args.contents.now in
    let all : c.into_iter-key-iterator.result.rest.items ≡ c.args.fates.items = c.into_iter-key-iterator.ensures.into_iter_gives.0 in
    let none = none_left c.loop-key.key-iterator.rest.items (let long = c.loop-key.key-iterator.rest.ok.0 in let end = c.in-None.ensures.steps.0 in omega arith) in
    sym (append-nil c.loop-key.rows.items)
    ∙ sym (ap (λ es. c.loop-key.rows.items ++ rows_left c.args.version held es) none)
    ∙ c.loop-key.invariant.rows
    ∙ ap (λ es. c.args.rows.now.items ++ rows_left c.args.version held es) all
