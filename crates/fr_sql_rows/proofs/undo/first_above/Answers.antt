use Rattle.std.proofs.Common.{rules, pos, w64, to_z, of_z, ◌≡◌, Some, None, List, ℕ, Option, ap, sym, [], ◌∷◌, inl, subst, ◌∙◌}
use Rattle.std.specs.Prelude.{slice_get, option_map}
use Rattle.sqlite.specs.declared.types.Value.TheVariants.{Int, Blob}
use Rattle.sqlite.specs.Order.{Row, column}
use Rattle.sqlite.specs.Held.{state}
use Rattle.sqlite.specs.State.{Shown}
use Rattle.fr_undo.specs.Undo.{IsFirstAbove}
use Rattle.fr_sql_rows.specs.Schema.{schema}
use Rattle.fr_sql_rows.specs.Rows.{before_in, blob_in}
use Rattle.fr_sql_rows.proofs.TextLemmas.{first_text, first_plain}
use Rattle.fr_sql_rows.proofs.StepLemmas.{number_fits}
use Rattle.fr_sql_rows.proofs.FaultLemmas.{keeps, queried, shown, survives_query}
use Rattle.fr_sql_rows.proofs.UndoFirst.{first_shown}
use Rattle.fr_sql_rows.proofs.undo.first_above.Goals as goal

pub returns-in_err-rows-clause-keeps : goal.returns-in_err-rows-clause-keeps
returns-in_err-rows-clause-keeps g c =
    keeps _ _ c.requires.rest (queried (state g.S.Store c.args.conn.now) (state g.S.Store c.ask.new.conn) _ _ _ (c.in_err-rows.ensures.err (g.met.S.Backing.clean c.ask.new.conn.store)))

pub returns-in_err-rows-clause-survives : goal.returns-in_err-rows-clause-survives
returns-in_err-rows-clause-survives g c = survives_query _ _ first_text _ schema c.requires.laid.schema first_plain c.ask.ensures.survives

pub returns-in-None-clause-first : goal.returns-in-None-clause-first
returns-in-None-clause-first g c =
    let old = state g.S.Store c.args.conn.now in
    let new = state g.S.Store c.ask.new.conn in
    let same : c.number_of.result ≡ pos c.args.version = c.number_of.ensures.value in
    let ran : Shown first_text (Blob c.args.key.now ∷ Int (to_z w64 (of_z w64 (pos c.args.version))) ∷ []) old new c.in_ok-rows.rows.items =
    rw (same, c.as_slice.ensures) at (rw (c.params-to_sql.ensures, c.params-to_sql-2.ensures) at (c.in_ok-rows.ensures.ok (g.met.S.Backing.clean c.ask.new.conn.store))) in
    let made = first_shown old new c.args.version c.args.key.now c.in_ok-rows.rows.items c.requires.laid (rw (number_fits c.args.version c.number_of.ensures.below) at ran) in
    let none : slice_get c.in_ok-rows.rows.items 0 ≡ None = search rules in
    subst (IsFirstAbove (λ w. before_in (old.now.trees 2) (w, c.args.key.now)) c.args.version) (ap (option_map (λ (r : Row). blob_in (column r 0))) none) made

pub returns-in-None-clause-open : goal.returns-in-None-clause-open
returns-in-None-clause-open g c =
    (shown (state g.S.Store c.args.conn.now) (state g.S.Store c.ask.new.conn) first_text _ schema _ c.requires.laid.schema first_plain (c.in_ok-rows.ensures.ok (g.met.S.Backing.clean c.ask.new.conn.store))).0.is_open

pub returns-in-None-clause-keeps : goal.returns-in-None-clause-keeps
returns-in-None-clause-keeps g c =
    keeps _ _ c.requires.rest (inl (shown (state g.S.Store c.args.conn.now) (state g.S.Store c.ask.new.conn) first_text _ schema _ c.requires.laid.schema first_plain (c.in_ok-rows.ensures.ok (g.met.S.Backing.clean c.ask.new.conn.store))))

pub returns-in-None-clause-survives : goal.returns-in-None-clause-survives
returns-in-None-clause-survives g c = survives_query _ _ first_text _ schema c.requires.laid.schema first_plain c.ask.ensures.survives

pub returns-in_err-before_shown-in-Some-clause-keeps : goal.returns-in_err-before_shown-in-Some-clause-keeps
returns-in_err-before_shown-in-Some-clause-keeps g c =
    keeps _ _ c.requires.rest (inl (shown (state g.S.Store c.args.conn.now) (state g.S.Store c.ask.new.conn) first_text _ schema _ c.requires.laid.schema first_plain (c.in_ok-rows.ensures.ok (g.met.S.Backing.clean c.ask.new.conn.store))))

pub returns-in_err-before_shown-in-Some-clause-survives : goal.returns-in_err-before_shown-in-Some-clause-survives
returns-in_err-before_shown-in-Some-clause-survives g c = survives_query _ _ first_text _ schema c.requires.laid.schema first_plain c.ask.ensures.survives

pub returns-clause-first : goal.returns-clause-first
returns-clause-first g c =
    let old = state g.S.Store c.args.conn.now in
    let new = state g.S.Store c.ask.new.conn in
    let same : c.number_of.result ≡ pos c.args.version = c.number_of.ensures.value in
    let ran : Shown first_text (Blob c.args.key.now ∷ Int (to_z w64 (of_z w64 (pos c.args.version))) ∷ []) old new c.in_ok-rows.rows.items =
    rw (same, c.as_slice.ensures) at (rw (c.params-to_sql.ensures, c.params-to_sql-2.ensures) at (c.in_ok-rows.ensures.ok (g.met.S.Backing.clean c.ask.new.conn.store))) in
    let made = first_shown old new c.args.version c.args.key.now c.in_ok-rows.rows.items c.requires.laid (rw (number_fits c.args.version c.number_of.ensures.below) at ran) in
    let some : slice_get c.in_ok-rows.rows.items 0 ≡ Some c.in-Some.row.now = search rules in
    let held : c.in_ok-before_shown-in-Some.field-0 ≡ blob_in (column c.in-Some.row.now 0) = c.in_ok-before_shown-in-Some.ensures in
    subst (IsFirstAbove (λ w. before_in (old.now.trees 2) (w, c.args.key.now)) c.args.version) (ap (option_map (λ (r : Row). blob_in (column r 0))) some ∙ ap Some (sym held)) made

pub returns-clause-open : goal.returns-clause-open
returns-clause-open g c =
    (shown (state g.S.Store c.args.conn.now) (state g.S.Store c.ask.new.conn) first_text _ schema _ c.requires.laid.schema first_plain (c.in_ok-rows.ensures.ok (g.met.S.Backing.clean c.ask.new.conn.store))).0.is_open

pub returns-clause-keeps : goal.returns-clause-keeps
returns-clause-keeps g c =
    keeps _ _ c.requires.rest (inl (shown (state g.S.Store c.args.conn.now) (state g.S.Store c.ask.new.conn) first_text _ schema _ c.requires.laid.schema first_plain (c.in_ok-rows.ensures.ok (g.met.S.Backing.clean c.ask.new.conn.store))))

pub returns-clause-survives : goal.returns-clause-survives
returns-clause-survives g c = survives_query _ _ first_text _ schema c.requires.laid.schema first_plain c.ask.ensures.survives
