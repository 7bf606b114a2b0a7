use Rattle.fr_log.proofs.Changes.{ask_is_change, refused_changes_nothing, taken_is_next}
use Rattle.fr_log.proofs.laws.change_law.Goals as goal

pub returns : goal.returns
returns c = record {
  change = ask_is_change;
  refused = refused_changes_nothing;
  taken = taken_is_next;
}
