use Rattle.fr_log.proofs.Telling.{tell_is_answer, held_is_held, one_push_is_same, same_seed_is_same, locked_is_stopped, peek_is_whole, peek_goes_on}
use Rattle.fr_log.proofs.laws.tell_law.Goals as goal

pub returns : goal.returns
returns c = record {
  answer = tell_is_answer;
  held = held_is_held;
  one_push = one_push_is_same;
  same_seed = same_seed_is_same;
  locked = locked_is_stopped;
  peeked = peek_is_whole;
  further = peek_goes_on;
}
