use Rattle.std.proofs.Common.{◌∙◌}
use Rattle.sqlite.specs.Held.{state}
use Rattle.fr_sql_rows.specs.Rows.{value_in}
use Rattle.fr_sql_calls.proofs.WorkLemmas.{get_contents}
use Rattle.fr_sql_calls.proofs.KnownLemmas.{key_known, key_looked}
use Rattle.fr_sql_calls.proofs.known.look_key.Goals as goal

pub returns-then-contains_key-clause-looked : goal.returns-then-contains_key-clause-looked
returns-then-contains_key-clause-looked g c = key_known (value_in ((state g.S.Store c.args.conn.now).now.trees 0)) c.args.known.now c.args.key.now (cc (c.contains_key.ensures, c.if-contains_key.true))

pub returns-clause-looked : goal.returns-clause-looked
returns-clause-looked g c =
    key_looked (value_in ((state g.S.Store c.args.conn.now).now.trees 0)) c.args.known.now c.add.new.known c.args.key.now c.in_ok-held.held (cc (c.contains_key.ensures, c.if-contains_key.false)) (c.in_ok-held.ensures.value ∙ get_contents _ c.args.key.now) c.in_ok-add.ensures
