use Rattle.fr_undo.proofs.UndoLemmas.{place_total, place_exact}
use Rattle.fr_sql_calls.proofs.KnownLemmas.{pair_new, pair_there}
use Rattle.fr_sql_calls.proofs.known.add_row.Goals as goal

pub returns-in_ok-insert : goal.returns-in_ok-insert
returns-in_ok-insert c = pair_new place_total place_exact c.args.rows.now c.insert.new.self c.args.place c.args.before (cc (c.contains_key.ensures, c.if-not-contains_key.true)) (λ q. c.in_ok-insert.ensures.updates.0 q)

pub returns-else-not-contains_key : goal.returns-else-not-contains_key
returns-else-not-contains_key c = pair_there place_total place_exact c.args.rows.now c.args.place c.args.before (cc (c.contains_key.ensures, c.if-not-contains_key.false))
