use Rattle.fr_epoch.proofs.Writes.{hear_keeps_made, hear_keeps_seeded, written_is_seeded, write_is_parent_extended, mark_is_chosen, marks_are_one, seed_is_of_copied, seeds_are_one}
use Rattle.fr_epoch.proofs.laws.write_law.Goals as goal

pub returns : goal.returns
returns c = record {
  made = hear_keeps_made;
  seeded = hear_keeps_seeded;
  written = written_is_seeded;
  extended = write_is_parent_extended;
  mark = mark_is_chosen;
  marks = marks_are_one;
  seed = seed_is_of_copied;
  seeds = seeds_are_one;
}
