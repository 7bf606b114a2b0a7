use Rattle.fr_epoch.proofs.Droppings.{left_is_without, least_is_shown}
use Rattle.fr_epoch.proofs.laws.dropping_law.Goals as goal

pub returns-clause-left : goal.returns-clause-left
returns-clause-left c = left_is_without c.drop_law.ensures.begins c.source_law.ensures.some

pub returns-clause-shown : goal.returns-clause-shown
returns-clause-shown c = least_is_shown
