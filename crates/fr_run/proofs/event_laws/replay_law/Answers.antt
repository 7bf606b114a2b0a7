use Rattle.fr_run.proofs.Replays.{replay_is_run, run_is_replay, refused_is_first, first_is_refused}
use Rattle.fr_run.proofs.event_laws.replay_law.Goals as goal

pub returns : goal.returns
returns c = record { run = replay_is_run; replay = run_is_replay; first = refused_is_first; refused = first_is_refused }
