use Rattle.fr_run.proofs.Turns.{event_is_turn}
use Rattle.fr_run.proofs.Events.{turn_is_event}
use Rattle.fr_run.proofs.event_laws.step_law.Goals as goal

pub returns : goal.returns
returns c = record { turn = event_is_turn; event = turn_is_event }
