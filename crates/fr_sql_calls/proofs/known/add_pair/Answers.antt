use Rattle.fr_base.specs.Bytes.{bytes_total, bytes_exact}
use Rattle.fr_sql_calls.proofs.KnownLemmas.{pair_new, pair_there}
use Rattle.fr_sql_calls.proofs.known.add_pair.Goals as goal

pub returns-in_ok-insert : goal.returns-in_ok-insert
returns-in_ok-insert c = pair_new bytes_total bytes_exact c.args.known.now c.insert.new.self c.args.key c.args.held (cc (c.contains_key.ensures, c.if-not-contains_key.true)) (λ q. c.in_ok-insert.ensures.updates.0 q)

pub returns-else-not-contains_key : goal.returns-else-not-contains_key
returns-else-not-contains_key c = pair_there bytes_total bytes_exact c.args.known.now c.args.key c.args.held (cc (c.contains_key.ensures, c.if-not-contains_key.false))
