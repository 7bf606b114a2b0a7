use Rattle.std.proofs.Common.{map, subst, pos, w64, to_z, of_z, ◌≡◌, ap, [], ◌∷◌, inl, sym, ◌∙◌}
use Rattle.sqlite.specs.declared.types.Value.TheVariants.{Int}
use Rattle.sqlite.specs.Held.{state}
use Rattle.sqlite.specs.State.{Shown}
use Rattle.fr_sql_rows.specs.Schema.{schema}
use Rattle.fr_sql_rows.specs.Rows.{shown_row, newest_first}
use Rattle.fr_sql_rows.proofs.TextLemmas.{above_text, above_plain}
use Rattle.fr_sql_rows.proofs.KvReads.{ok_then, at_ok}
use Rattle.fr_sql_rows.proofs.UndoReads.{shows_above}
use Rattle.fr_sql_rows.proofs.StepLemmas.{number_fits}
use Rattle.fr_undo.specs.State.{place_cmp}
use Rattle.std.specs.FinMap.{find}
use Rattle.std.specs.List.Sorted.{IsSorted}
use Rattle.fr_sql_rows.proofs.FaultLemmas.{keeps, queried, shown, survives_query}
use Rattle.fr_sql_rows.proofs.undo.above.Goals as goal

pub returns-in_err-rows-clause-keeps : goal.returns-in_err-rows-clause-keeps
returns-in_err-rows-clause-keeps g c =
    keeps _ _ c.requires.rest (queried (state g.S.Store c.args.conn.now) (state g.S.Store c.ask.new.conn) _ _ _ (c.in_err-rows.ensures.err (g.met.S.Backing.clean c.ask.new.conn.store)))

pub returns-in_err-rows-clause-survives : goal.returns-in_err-rows-clause-survives
returns-in_err-rows-clause-survives g c = survives_query _ _ above_text _ schema c.requires.laid.schema above_plain c.ask.ensures.survives

pub returns-clause-rows : goal.returns-clause-rows
returns-clause-rows g c =
    let old = state g.S.Store c.args.conn.now in
    let new = state g.S.Store c.ask.new.conn in
    let same : c.number_of.result ≡ pos c.args.version = c.number_of.ensures.value in
    let ran : Shown above_text (Int (to_z w64 (of_z w64 (pos c.args.version))) ∷ []) old new c.in_ok-rows.rows.items = rw same at (rw c.params-to_sql.ensures at (c.in_ok-rows.ensures.ok (g.met.S.Backing.clean c.ask.new.conn.store))) in
    let made = shows_above old new c.args.version c.in_ok-rows.rows.items c.requires.laid (rw (number_fits c.args.version c.number_of.ensures.below) at ran) in
    ok_then c.undo_rows.result (λ rows is p. ap (find place_cmp p) (is ∙ ap (map shown_row) c.as_slice.ensures.value) ∙ made.rows_at p) c.undo_rows.ensures

pub returns-clause-order : goal.returns-clause-order
returns-clause-order g c =
    let old = state g.S.Store c.args.conn.now in
    let new = state g.S.Store c.ask.new.conn in
    let same : c.number_of.result ≡ pos c.args.version = c.number_of.ensures.value in
    let ran : Shown above_text (Int (to_z w64 (of_z w64 (pos c.args.version))) ∷ []) old new c.in_ok-rows.rows.items = rw same at (rw c.params-to_sql.ensures at (c.in_ok-rows.ensures.ok (g.met.S.Backing.clean c.ask.new.conn.store))) in
    let made = shows_above old new c.args.version c.in_ok-rows.rows.items c.requires.laid (rw (number_fits c.args.version c.number_of.ensures.below) at ran) in
    ok_then c.undo_rows.result (λ rows is. subst (IsSorted newest_first) (sym (is ∙ ap (map shown_row) c.as_slice.ensures.value)) made.ordered) c.undo_rows.ensures

pub returns-clause-open : goal.returns-clause-open
returns-clause-open g c =
    at_ok c.undo_rows.result (shown (state g.S.Store c.args.conn.now) (state g.S.Store c.ask.new.conn) above_text _ schema _ c.requires.laid.schema above_plain (c.in_ok-rows.ensures.ok (g.met.S.Backing.clean c.ask.new.conn.store))).0.is_open

pub returns-clause-keeps : goal.returns-clause-keeps
returns-clause-keeps g c =
    keeps _ _ c.requires.rest (inl (shown (state g.S.Store c.args.conn.now) (state g.S.Store c.ask.new.conn) above_text _ schema _ c.requires.laid.schema above_plain (c.in_ok-rows.ensures.ok (g.met.S.Backing.clean c.ask.new.conn.store))))

pub returns-clause-survives : goal.returns-clause-survives
returns-clause-survives g c = survives_query _ _ above_text _ schema c.requires.laid.schema above_plain c.ask.ensures.survives
