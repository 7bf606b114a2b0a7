use Rattle.fr_register.proofs.Histories.{each_list_is_a_history}
use Rattle.fr_register.proofs.Makings.{only_writers_matter}
use Rattle.fr_register.proofs.Tallied.{read_majority_is_read, write_majority_is_written}
use Rattle.fr_register.proofs.Deliveries.{later_in_list, ready_in_list, start_in_list, one_in_list, written_is_made}
use Rattle.fr_register.proofs.laws.register_law.Goals as goal

pub returns : goal.returns
returns c = record {
  descends = later_in_list;
  ready = ready_in_list;
  least = start_in_list;
  one = one_in_list;
  any_list = each_list_is_a_history;
  read_tally = read_majority_is_read;
  write_tally = write_majority_is_written;
  made = written_is_made;
  makings = only_writers_matter;
}
