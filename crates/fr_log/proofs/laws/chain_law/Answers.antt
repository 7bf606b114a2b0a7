use Rattle.fr_log.proofs.Lawful.{ask_leaves_log, asks_leave_log, durable_is_last, durable_is_bounded, known_is_held, records_rise_law}
use Rattle.fr_log.proofs.laws.chain_law.Goals as goal

pub returns : goal.returns
returns c = record {
  ask = ask_leaves_log;
  asks = asks_leave_log;
  durable = durable_is_last;
  bounded = durable_is_bounded;
  known = known_is_held;
  records = records_rise_law;
}
