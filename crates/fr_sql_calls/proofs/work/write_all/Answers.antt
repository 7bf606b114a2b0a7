use Rattle.std.proofs.Common.{ℕ, List, ap, sym, ◌∙◌}
use Rattle.std.specs.Map.{lookup}
use Rattle.std.specs.BTreeMap.{is_at}
use Rattle.sqlite.specs.Held.{state}
use Rattle.fr_base.specs.Bytes.{bytes_cmp}
use Rattle.fr_undo.specs.declared.changes.Change.{Change}
use Rattle.fr_undo.specs.Changes.{written_if}
use Rattle.fr_undo.proofs.TreeLemmas.{copied_sorted}
use Rattle.fr_undo.proofs.WriteLemmas.{found_first, found_rest}
use Rattle.fr_sql_rows.specs.Rows.{value_in}
use Rattle.fr_sql_calls.specs.Work.{differs}
use Rattle.fr_sql_calls.proofs.StepLemmas.{stays_then, nothing_then}
use Rattle.fr_sql_calls.proofs.WorkLemmas.{values_step, know_step, first_known}
use Rattle.fr_sql_calls.proofs.work.write_all.Goals as goal

pub write_one-requires-clause-known : goal.write_one-requires-clause-known
write_one-requires-clause-known g c =
    let e : List ℕ × Change = (c.in-Some.key.now, c.in-Some.change.now) in
    first_known _ e.1 _ (found_first c.loop-key.key-iterator c.next.new.self e c.in-Some.ensures.steps) (c.loop-key.invariant.know e.0)

pub loop-key-preserved : goal.loop-key-preserved
loop-key-preserved g c =
    let e : List ℕ × Change = (c.in-Some.key.now, c.in-Some.change.now) in
    let is = c.in-Some.ensures.steps in
    let es = c.loop-key.key-iterator in
    let rest = c.next.new.self in
    let inv = c.loop-key.invariant in
    let first = state g.S.Store c.args.tx.now.conn.now in
    let now = state g.S.Store c.loop-key.tx.conn.now in
    let next = state g.S.Store c.write_one.new.tx.conn.now in
    let made = c.in_ok-write_one.ensures in
    let all = λ (q : List ℕ). lookup (is_at (bytes_cmp q)) es in
    let left = λ (q : List ℕ). lookup (is_at (bytes_cmp q)) rest in
    let was = found_first es rest e is in
    let gone = found_rest es rest e is inv.sorted in
    record {
      can = tt;
      ends = tt;
      sorted = copied_sorted bytes_cmp es rest e is inv.sorted;
      same = c.write_one.ensures.same_reference ∙ inv.same;
      inside = made.inside;
      laid = made.ok.laid;
      stays = stays_then first now next inv.stays inv.inside.is_open c.write_one.ensures.stays;
      survives = nothing_then first now next inv.survives c.write_one.ensures.survives;
      know = λ q. know_step all left (value_in (now.now.trees 0)) (value_in (next.now.trees 0)) e.0 e.1 was gone made.ok.values q (inv.know q);
      values = λ q. values_step all left (value_in (now.now.trees 0)) (value_in (next.now.trees 0)) e.0 e.1 was gone made.ok.values q ∙ inv.values q;
      undo = made.ok.undo ∙ inv.undo;
      meta = made.ok.meta ∙ inv.meta;
    }

pub returns-clause-ok : goal.returns-clause-ok
returns-clause-ok g c =
    let inv = c.loop-key.invariant in
    let first = state g.S.Store c.args.tx.now.conn.now in
    let now = state g.S.Store c.loop-key.tx.conn.now in
    record {
      laid = inv.laid;
      values = λ q.
          sym (ap (λ (es : List (List ℕ × Change)). written_if differs (lookup (is_at (bytes_cmp q)) es) (value_in (now.now.trees 0) q)) c.in-None.ensures.steps.0)
          ∙ inv.values q
          ∙ ap (λ (es : List (List ℕ × Change)). written_if differs (lookup (is_at (bytes_cmp q)) es) (value_in (first.now.trees 0) q)) (c.into_iter-key-iterator.ensures.into_iter_gives ∙ c.iter-key-items.ensures.rest);
      undo = inv.undo;
      meta = inv.meta;
    }

pub returns-in_err-write_one-clause-stays : goal.returns-in_err-write_one-clause-stays
returns-in_err-write_one-clause-stays g c = stays_then (state g.S.Store c.args.tx.now.conn.now) (state g.S.Store c.loop-key.tx.conn.now) (state g.S.Store c.write_one.new.tx.conn.now) c.loop-key.invariant.stays c.loop-key.invariant.inside.is_open c.write_one.ensures.stays

pub returns-in_err-write_one-clause-survives : goal.returns-in_err-write_one-clause-survives
returns-in_err-write_one-clause-survives g c = nothing_then (state g.S.Store c.args.tx.now.conn.now) (state g.S.Store c.loop-key.tx.conn.now) (state g.S.Store c.write_one.new.tx.conn.now) c.loop-key.invariant.survives c.write_one.ensures.survives
