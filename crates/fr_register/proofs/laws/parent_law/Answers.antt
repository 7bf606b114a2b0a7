use Rattle.fr_register.proofs.Parents.{later_descends, ready_descends, start_is_least, one_is_chosen}
use Rattle.fr_register.proofs.Deliveries.{list_has_parents, made_is_ready}
use Rattle.fr_register.proofs.laws.parent_law.Goals as goal

pub returns : goal.returns
returns c = record {
  descends = later_descends;
  ready = ready_descends;
  least = start_is_least;
  one = one_is_chosen;
  each_list = list_has_parents;
  each_made = made_is_ready;
}
