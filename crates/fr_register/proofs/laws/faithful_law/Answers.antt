use Rattle.fr_register.proofs.Tallied.{new_read_is_faithful, hearing_keeps_read, turns_keep_read, faithful_read_is_read, new_write_is_faithful, hearing_keeps_write, turns_keep_write, faithful_write_is_written}
use Rattle.fr_register.proofs.laws.faithful_law.Goals as goal

pub returns : goal.returns
returns c = record {
  new_read = new_read_is_faithful;
  read_hears = hearing_keeps_read;
  read_stays = turns_keep_read;
  read = faithful_read_is_read;
  new_write = new_write_is_faithful;
  write_hears = hearing_keeps_write;
  write_stays = turns_keep_write;
  write = faithful_write_is_written;
}
