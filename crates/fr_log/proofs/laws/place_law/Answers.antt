use Rattle.fr_log.proofs.Going.{ask_extends, asks_extend, back_is_before}
use Rattle.fr_log.proofs.laws.place_law.Goals as goal

pub returns : goal.returns
returns c = record {
  ask = ask_extends;
  asks = asks_extend;
  back = back_is_before;
}
