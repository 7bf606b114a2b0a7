use Rattle.sqlite.specs.Held.{state}
use Rattle.fr_sql_rows.proofs.OpenLemmas.{opens_rest, held_over}
use Rattle.fr_sql_rows.proofs.open.open_over.Goals as goal

pub returns-in-Ok-clause-rest : goal.returns-in-Ok-clause-rest
returns-in-Ok-clause-rest g c = opens_rest _ (c.in-Ok.ensures.opens (g.met.S.Backing.clean c.in-Ok.again.store)).0

pub returns-in-Ok-clause-held : goal.returns-in-Ok-clause-held
returns-in-Ok-clause-held g c =
    let whole = c.requires.fresh.sound in
    let opened = c.in-Ok.ensures.opens (g.met.S.Backing.clean c.in-Ok.again.store) in
    held_over (g.S.Store.view c.args.store) (state g.S.Store c.in-Ok.again).now (g.met.S.Store.ordered c.args.store whole) (g.met.S.Alter.listed c.args.store whole) (c.in-Ok.ensures.trees (g.met.S.Backing.clean c.in-Ok.again.store))
    (opened.1 opened.0.is_open).0

pub returns-in-Ok-clause-trees : goal.returns-in-Ok-clause-trees
returns-in-Ok-clause-trees g c = c.in-Ok.ensures.trees (g.met.S.Backing.clean c.in-Ok.again.store)
