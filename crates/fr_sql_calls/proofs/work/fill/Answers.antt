use Rattle.std.proofs.Common.{ap, sym, subst, ◌∙◌}
use Rattle.std.specs.FinMap as map
use Rattle.sqlite.specs.Held.{state}
use Rattle.fr_sql_rows.specs.Rows.{value_in, undo_in}
use Rattle.fr_sql_calls.specs.Work.{KnowChanged}
use Rattle.fr_sql_calls.proofs.StepLemmas.{stays_then, nothing_then}
use Rattle.fr_sql_calls.proofs.WorkLemmas.{does_all}
use Rattle.fr_sql_calls.proofs.work.fill.Goals as goal

pub write_all-requires-clause-know : goal.write_all-requires-clause-know
write_all-requires-clause-know g c = subst (λ rows. KnowChanged c.args.work.now.changes (value_in rows)) (sym c.in_ok-count.ensures.ok.kv) c.requires.fits.know

pub returns-in_err-write_all-clause-stays : goal.returns-in_err-write_all-clause-stays
returns-in_err-write_all-clause-stays g c =
    stays_then (state g.S.Store c.args.tx.now.conn.now) (state g.S.Store c.fill_rows.new.tx.conn.now) (state g.S.Store c.write_all.new.tx.conn.now) c.fill_rows.ensures.stays c.in_ok-count.ensures.inside.is_open c.write_all.ensures.stays

pub returns-in_err-write_all-clause-survives : goal.returns-in_err-write_all-clause-survives
returns-in_err-write_all-clause-survives g c =
    nothing_then (state g.S.Store c.args.tx.now.conn.now) (state g.S.Store c.fill_rows.new.tx.conn.now) (state g.S.Store c.write_all.new.tx.conn.now) c.fill_rows.ensures.survives c.write_all.ensures.survives

pub returns-in_err-fill_meta-clause-stays : goal.returns-in_err-fill_meta-clause-stays
returns-in_err-fill_meta-clause-stays g c =
    let a = state g.S.Store c.args.tx.now.conn.now in
    let b = state g.S.Store c.fill_rows.new.tx.conn.now in
    let d = state g.S.Store c.write_all.new.tx.conn.now in
    let e = state g.S.Store c.fill_meta.new.tx.conn.now in
    stays_then a d e (stays_then a b d c.fill_rows.ensures.stays c.in_ok-count.ensures.inside.is_open c.write_all.ensures.stays) c.in_ok-write_all.ensures.inside.is_open c.fill_meta.ensures.stays

pub returns-in_err-fill_meta-clause-survives : goal.returns-in_err-fill_meta-clause-survives
returns-in_err-fill_meta-clause-survives g c =
    let a = state g.S.Store c.args.tx.now.conn.now in
    let b = state g.S.Store c.fill_rows.new.tx.conn.now in
    let d = state g.S.Store c.write_all.new.tx.conn.now in
    let e = state g.S.Store c.fill_meta.new.tx.conn.now in
    nothing_then a d e (nothing_then a b d c.fill_rows.ensures.survives c.write_all.ensures.survives) c.fill_meta.ensures.survives

pub returns-clause-ok : goal.returns-clause-ok
returns-clause-ok g c =
    let a = state g.S.Store c.args.tx.now.conn.now in
    let b = state g.S.Store c.fill_rows.new.tx.conn.now in
    let d = state g.S.Store c.write_all.new.tx.conn.now in
    let e = state g.S.Store c.fill_meta.new.tx.conn.now in
    does_all c.args.work.now a.now b.now d.now e.now c.in_ok-count.ensures.ok c.in_ok-write_all.ensures.ok c.in_ok-fill_meta.ensures.ok

pub returns-clause-rows : goal.returns-clause-rows
returns-clause-rows g c = λ is.
    c.in_ok-count.ensures.rows is
    ∙ ap (λ rows. map.len (undo_in rows)) (sym (c.in_ok-fill_meta.ensures.ok.undo ∙ c.in_ok-write_all.ensures.ok.undo))

pub returns-clause-stays : goal.returns-clause-stays
returns-clause-stays g c =
    let a = state g.S.Store c.args.tx.now.conn.now in
    let b = state g.S.Store c.fill_rows.new.tx.conn.now in
    let d = state g.S.Store c.write_all.new.tx.conn.now in
    let e = state g.S.Store c.fill_meta.new.tx.conn.now in
    stays_then a d e (stays_then a b d c.fill_rows.ensures.stays c.in_ok-count.ensures.inside.is_open c.write_all.ensures.stays) c.in_ok-write_all.ensures.inside.is_open c.fill_meta.ensures.stays

pub returns-clause-survives : goal.returns-clause-survives
returns-clause-survives g c =
    let a = state g.S.Store c.args.tx.now.conn.now in
    let b = state g.S.Store c.fill_rows.new.tx.conn.now in
    let d = state g.S.Store c.write_all.new.tx.conn.now in
    let e = state g.S.Store c.fill_meta.new.tx.conn.now in
    nothing_then a d e (nothing_then a b d c.fill_rows.ensures.survives c.write_all.ensures.survives) c.fill_meta.ensures.survives
