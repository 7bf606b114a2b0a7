use Rattle.std.proofs.Common.{refl}
use Rattle.sqlite.specs.Held.{state}
use Rattle.fr_sql_rows.specs.Schema.{undo_text, undo, kv_schema}
use Rattle.fr_sql_rows.proofs.TextLemmas.{undo_is, create_undo_is}
use Rattle.fr_sql_rows.proofs.CreateLemmas.{creates}
use Rattle.fr_sql_rows.proofs.FaultLemmas.{inside}
use Rattle.fr_sql_rows.proofs.schema.create_undo.Goals as goal

pub returns-clause-ok : goal.returns-clause-ok
returns-clause-ok g c =
    creates undo_text undo kv_schema (state g.S.Store c.args.tx.now.conn.now) (state g.S.Store c.run.new.tx.conn.now) c.run.result create_undo_is undo_is refl c.requires.schema
    (c.run.ensures.runs (g.met.S.Backing.clean c.run.new.tx.conn.now.store) c.requires.inside.begun)

pub returns-clause-inside : goal.returns-clause-inside
returns-clause-inside g c = inside (state g.S.Store c.args.tx.now.conn.now) _ _ _ c.run.result (c.run.ensures.runs (g.met.S.Backing.clean c.run.new.tx.conn.now.store) c.requires.inside.begun)
