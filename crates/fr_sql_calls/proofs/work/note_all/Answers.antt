use Rattle.std.proofs.Common.{ℕ, List, Option, ap, sym, ◌∙◌}
use Rattle.std.specs.Prelude.{is_some, ◌==◌}
use Rattle.std.specs.Option.{option_or}
use Rattle.sqlite.specs.Held.{state}
use Rattle.fr_base.specs.Bytes.{bytes_cmp}
use Rattle.fr_undo.specs.declared.changes.Change.{Change}
use Rattle.fr_undo.proofs.TreeLemmas.{copied_sorted}
use Rattle.fr_undo.proofs.ChangeLemmas.{row_by, cond_none}
use Rattle.fr_undo.proofs.WriteLemmas.{found_first}
use Rattle.fr_sql_rows.specs.Rows.{before_in}
use Rattle.fr_sql_calls.proofs.StepLemmas.{stays_then, nothing_then}
use Rattle.fr_sql_calls.proofs.WorkLemmas.{rows_step, room_step}
use Rattle.fr_sql_calls.proofs.work.note_all.Goals as goal

pub note_one-requires-clause-absent : goal.note_one-requires-clause-absent
note_one-requires-clause-absent g c =
    let e : List ℕ × Change = (c.in-Some.key.now, c.in-Some.change.now) in
    c.loop-key.invariant.room c.in-Some.key.now (ap is_some (found_first c.loop-key.key-iterator c.next.new.self e c.in-Some.ensures.steps))

pub loop-key-preserved : goal.loop-key-preserved
loop-key-preserved g c =
    let e : List ℕ × Change = (c.in-Some.key.now, c.in-Some.change.now) in
    let is = c.in-Some.ensures.steps in
    let es = c.loop-key.key-iterator in
    let rest = c.next.new.self in
    let inv = c.loop-key.invariant in
    let first = state g.S.Store c.args.tx.now.conn.now in
    let now = state g.S.Store c.loop-key.tx.conn.now in
    let next = state g.S.Store c.note_one.new.tx.conn.now in
    let made = c.in_ok-more.ensures in
    record {
      can = tt;
      ends = tt;
      sorted = copied_sorted bytes_cmp es rest e is inv.sorted;
      same = c.note_one.ensures.same_reference ∙ inv.same;
      inside = made.inside;
      laid = made.ok.laid;
      stays = stays_then first now next inv.stays inv.inside.is_open c.note_one.ensures.stays;
      survives = nothing_then first now next inv.survives c.note_one.ensures.survives;
      room = room_step es rest e (before_in (now.now.trees 2)) (before_in (next.now.trees 2)) c.args.version is inv.sorted made.ok.rows inv.room;
      rows = λ p. rows_step es rest e (before_in (now.now.trees 2)) (before_in (next.now.trees 2)) c.args.version is inv.sorted made.ok.rows p ∙ inv.rows p;
      kv = made.ok.kv ∙ inv.kv;
      meta = made.ok.meta ∙ inv.meta;
      count = λ f. made.rows (inv.count f);
    }

pub returns-clause-ok : goal.returns-clause-ok
returns-clause-ok g c =
    let inv = c.loop-key.invariant in
    let first = state g.S.Store c.args.tx.now.conn.now in
    let now = state g.S.Store c.loop-key.tx.conn.now in
    let v = c.args.version in
    record {
      laid = inv.laid;
      kv = inv.kv;
      rows = λ p.
          sym (ap (λ (o : Option (Option (List ℕ))). option_or o (before_in (now.now.trees 2) p)) (cond_none (p.0 == v)))
          ∙ sym (ap (λ (es : List (List ℕ × Change)). option_or (row_by es v p) (before_in (now.now.trees 2) p)) c.in-None.ensures.steps.0)
          ∙ inv.rows p
          ∙ ap (λ (es : List (List ℕ × Change)). option_or (row_by es v p) (before_in (first.now.trees 2) p)) (c.into_iter-key-iterator.ensures.into_iter_gives ∙ c.iter-key-items.ensures.rest);
      meta = inv.meta;
    }

pub returns-in_err-more-clause-stays : goal.returns-in_err-more-clause-stays
returns-in_err-more-clause-stays g c = stays_then (state g.S.Store c.args.tx.now.conn.now) (state g.S.Store c.loop-key.tx.conn.now) (state g.S.Store c.note_one.new.tx.conn.now) c.loop-key.invariant.stays c.loop-key.invariant.inside.is_open c.note_one.ensures.stays

pub returns-in_err-more-clause-survives : goal.returns-in_err-more-clause-survives
returns-in_err-more-clause-survives g c = nothing_then (state g.S.Store c.args.tx.now.conn.now) (state g.S.Store c.loop-key.tx.conn.now) (state g.S.Store c.note_one.new.tx.conn.now) c.loop-key.invariant.survives c.note_one.ensures.survives
