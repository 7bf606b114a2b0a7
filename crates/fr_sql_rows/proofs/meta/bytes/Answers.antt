use Rattle.std.proofs.Common.{rules, inl}
use Rattle.sqlite.specs.Held.{state}
use Rattle.fr_sql_rows.specs.Schema.{schema}
use Rattle.fr_sql_rows.proofs.TextLemmas.{state_text, state_plain}
use Rattle.fr_sql_rows.proofs.MetaWrites.{state_some, state_none}
use Rattle.fr_sql_rows.proofs.FaultLemmas.{keeps, queried, shown, survives_query}
use Rattle.fr_sql_rows.proofs.meta.bytes.Goals as goal

pub returns-in_err-rows-clause-keeps : goal.returns-in_err-rows-clause-keeps
returns-in_err-rows-clause-keeps g c =
    keeps _ _ c.requires.rest (queried (state g.S.Store c.args.conn.now) (state g.S.Store c.ask.new.conn) _ _ _ (c.in_err-rows.ensures.err (g.met.S.Backing.clean c.ask.new.conn.store)))

pub returns-in_err-rows-clause-survives : goal.returns-in_err-rows-clause-survives
returns-in_err-rows-clause-survives g c = survives_query _ _ state_text _ schema c.requires.laid.schema state_plain c.ask.ensures.survives

pub returns-in_err-bytes-in-Some-clause-keeps : goal.returns-in_err-bytes-in-Some-clause-keeps
returns-in_err-bytes-in-Some-clause-keeps g c =
    keeps _ _ c.requires.rest (inl (shown (state g.S.Store c.args.conn.now) (state g.S.Store c.ask.new.conn) state_text _ schema _ c.requires.laid.schema state_plain (c.in_ok-rows.ensures.ok (g.met.S.Backing.clean c.ask.new.conn.store))))

pub returns-in_err-bytes-in-Some-clause-survives : goal.returns-in_err-bytes-in-Some-clause-survives
returns-in_err-bytes-in-Some-clause-survives g c = survives_query _ _ state_text _ schema c.requires.laid.schema state_plain c.ask.ensures.survives

pub returns-clause-value : goal.returns-clause-value
returns-clause-value g c =
    state_some (state g.S.Store c.args.conn.now) (state g.S.Store c.ask.new.conn) c.in_ok-rows.rows.items c.in-Some.row.now c.from_vec.result c.requires.laid (c.in_ok-rows.ensures.ok (g.met.S.Backing.clean c.ask.new.conn.store)) (search rules) (search rules)

pub unreachable-requires : goal.unreachable-requires
unreachable-requires g c =
    state_none (state g.S.Store c.args.conn.now) (state g.S.Store c.ask.new.conn) c.in_ok-rows.rows.items c.requires.laid (c.in_ok-rows.ensures.ok (g.met.S.Backing.clean c.ask.new.conn.store)) (search rules)

pub returns-clause-open : goal.returns-clause-open
returns-clause-open g c =
    (shown (state g.S.Store c.args.conn.now) (state g.S.Store c.ask.new.conn) state_text _ schema _ c.requires.laid.schema state_plain (c.in_ok-rows.ensures.ok (g.met.S.Backing.clean c.ask.new.conn.store))).0.is_open

pub returns-clause-keeps : goal.returns-clause-keeps
returns-clause-keeps g c =
    keeps _ _ c.requires.rest (inl (shown (state g.S.Store c.args.conn.now) (state g.S.Store c.ask.new.conn) state_text _ schema _ c.requires.laid.schema state_plain (c.in_ok-rows.ensures.ok (g.met.S.Backing.clean c.ask.new.conn.store))))

pub returns-clause-survives : goal.returns-clause-survives
returns-clause-survives g c = survives_query _ _ state_text _ schema c.requires.laid.schema state_plain c.ask.ensures.survives
