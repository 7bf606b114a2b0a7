use Rattle.std.proofs.Common.{rules, [], ◌∷◌, inl, sym}
use Rattle.sqlite.specs.declared.types.Value.TheVariants.{Blob}
use Rattle.sqlite.specs.Held.{state}
use Rattle.sqlite.specs.State.{Shown}
use Rattle.fr_sql_rows.specs.Schema.{schema}
use Rattle.fr_sql_rows.proofs.TextLemmas.{get_text, get_plain}
use Rattle.fr_sql_rows.proofs.KvLemmas.{gets_none, gets_some}
use Rattle.fr_sql_rows.proofs.FaultLemmas.{keeps, queried, shown, survives_query}
use Rattle.fr_sql_rows.proofs.kv.value_at.Goals as goal

pub returns-in_err-rows-clause-keeps : goal.returns-in_err-rows-clause-keeps
returns-in_err-rows-clause-keeps g c =
    keeps _ _ c.requires.rest (queried (state g.S.Store c.args.conn.now) (state g.S.Store c.ask.new.conn) _ _ _ (c.in_err-rows.ensures.err (g.met.S.Backing.clean c.ask.new.conn.store)))

pub returns-in_err-rows-clause-survives : goal.returns-in_err-rows-clause-survives
returns-in_err-rows-clause-survives g c = survives_query _ _ get_text _ schema c.requires.laid.schema get_plain c.ask.ensures.survives

pub returns-in-None-clause-value : goal.returns-in-None-clause-value
returns-in-None-clause-value g c =
    let old = state g.S.Store c.args.conn.now in
    let new = state g.S.Store c.ask.new.conn in
    let made : Shown get_text (Blob c.args.key.now ∷ []) old new c.in_ok-rows.rows.items = rw (c.params-to_sql.ensures, c.as_slice.ensures) at (c.in_ok-rows.ensures.ok (g.met.S.Backing.clean c.ask.new.conn.store)) in
    sym (gets_none old new c.args.key.now c.in_ok-rows.rows.items c.requires.laid made (search rules))

pub returns-in-None-clause-open : goal.returns-in-None-clause-open
returns-in-None-clause-open g c =
    (shown (state g.S.Store c.args.conn.now) (state g.S.Store c.ask.new.conn) get_text _ schema _ c.requires.laid.schema get_plain (c.in_ok-rows.ensures.ok (g.met.S.Backing.clean c.ask.new.conn.store))).0.is_open

pub returns-in-None-clause-keeps : goal.returns-in-None-clause-keeps
returns-in-None-clause-keeps g c =
    keeps _ _ c.requires.rest (inl (shown (state g.S.Store c.args.conn.now) (state g.S.Store c.ask.new.conn) get_text _ schema _ c.requires.laid.schema get_plain (c.in_ok-rows.ensures.ok (g.met.S.Backing.clean c.ask.new.conn.store))))

pub returns-in-None-clause-survives : goal.returns-in-None-clause-survives
returns-in-None-clause-survives g c = survives_query _ _ get_text _ schema c.requires.laid.schema get_plain c.ask.ensures.survives

pub returns-in_err-value-in-Some-clause-keeps : goal.returns-in_err-value-in-Some-clause-keeps
returns-in_err-value-in-Some-clause-keeps g c =
    keeps _ _ c.requires.rest (inl (shown (state g.S.Store c.args.conn.now) (state g.S.Store c.ask.new.conn) get_text _ schema _ c.requires.laid.schema get_plain (c.in_ok-rows.ensures.ok (g.met.S.Backing.clean c.ask.new.conn.store))))

pub returns-in_err-value-in-Some-clause-survives : goal.returns-in_err-value-in-Some-clause-survives
returns-in_err-value-in-Some-clause-survives g c = survives_query _ _ get_text _ schema c.requires.laid.schema get_plain c.ask.ensures.survives

pub returns-clause-value : goal.returns-clause-value
returns-clause-value g c =
    let old = state g.S.Store c.args.conn.now in
    let new = state g.S.Store c.ask.new.conn in
    let made : Shown get_text (Blob c.args.key.now ∷ []) old new c.in_ok-rows.rows.items = rw (c.params-to_sql.ensures, c.as_slice.ensures) at (c.in_ok-rows.ensures.ok (g.met.S.Backing.clean c.ask.new.conn.store)) in
    sym (gets_some old new c.args.key.now c.in_ok-rows.rows.items c.in-Some.row.now c.from_vec.result c.requires.laid made (search rules) (search rules))

pub returns-clause-open : goal.returns-clause-open
returns-clause-open g c =
    (shown (state g.S.Store c.args.conn.now) (state g.S.Store c.ask.new.conn) get_text _ schema _ c.requires.laid.schema get_plain (c.in_ok-rows.ensures.ok (g.met.S.Backing.clean c.ask.new.conn.store))).0.is_open

pub returns-clause-keeps : goal.returns-clause-keeps
returns-clause-keeps g c =
    keeps _ _ c.requires.rest (inl (shown (state g.S.Store c.args.conn.now) (state g.S.Store c.ask.new.conn) get_text _ schema _ c.requires.laid.schema get_plain (c.in_ok-rows.ensures.ok (g.met.S.Backing.clean c.ask.new.conn.store))))

pub returns-clause-survives : goal.returns-clause-survives
returns-clause-survives g c = survives_query _ _ get_text _ schema c.requires.laid.schema get_plain c.ask.ensures.survives
