use Rattle.sqlite.specs.Held.{state}
use Rattle.fr_sql_rows.proofs.FaultLemmas.{inside}
use Rattle.fr_sql_rows.proofs.MetaWrites.{begins_meta}
use Rattle.fr_sql_rows.proofs.schema.begin_meta.Goals as goal

pub returns-clause-ok : goal.returns-clause-ok
returns-clause-ok g c =
    begins_meta (state g.S.Store c.args.tx.now.conn.now) (state g.S.Store c.run.new.tx.conn.now) c.run.result c.requires.schema c.requires.empty
    (c.run.ensures.runs (g.met.S.Backing.clean c.run.new.tx.conn.now.store) c.requires.inside.begun)

pub returns-clause-inside : goal.returns-clause-inside
returns-clause-inside g c = inside (state g.S.Store c.args.tx.now.conn.now) _ _ _ c.run.result (c.run.ensures.runs (g.met.S.Backing.clean c.run.new.tx.conn.now.store) c.requires.inside.begun)
