use Rattle.std.proofs.Common.{rules}
use Rattle.sqlite.specs.Held.{state}
use Rattle.fr_sql_rows.proofs.FoundLemmas.{read_all}
use Rattle.fr_sql_rows.proofs.found.read.Goals as goal

pub returns-clause-found : goal.returns-clause-found
returns-clause-found g c = read_all (state g.S.Store c.args.conn.now) (state g.S.Store c.versions.new.conn) _ _ _ c.requires.obeys (search rules) (search rules) (search rules)
