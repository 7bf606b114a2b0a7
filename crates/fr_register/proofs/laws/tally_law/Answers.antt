use Rattle.fr_register.proofs.TallySentence.{read_answers_first, read_has_greatest, read_hears_once, write_answers_first, write_hears_once}
use Rattle.fr_register.proofs.laws.tally_law.Goals as goal

pub returns : goal.returns
returns c = record {
  read = read_answers_first;
  greatest = read_has_greatest;
  read_hears = read_hears_once;
  write = write_answers_first;
  write_hears = write_hears_once;
}
