use Rattle.fr_register.proofs.Answered.{ask_is_change, promise_answers_read, written_answers_write, refused_is_below, two_values_answers_second, refusal_changes_nothing, turns_are_answered}
use Rattle.fr_register.proofs.laws.answer_law.Goals as goal

pub returns : goal.returns
returns c = record {
  change = ask_is_change;
  promise = promise_answers_read;
  written = written_answers_write;
  refused = refused_is_below;
  two_values = two_values_answers_second;
  unchanged = refusal_changes_nothing;
  turns = turns_are_answered;
}
