use Rattle.fr_record_log.proofs.Group.{run_is_read}
use Rattle.fr_record_log.proofs.Runs.{read_is_run}
use Rattle.fr_record_log.proofs.laws.run_law.Goals as goal

pub returns : goal.returns
returns c = record {
  read = run_is_read c.file_ask_law.ensures;
  run = read_is_run;
}
