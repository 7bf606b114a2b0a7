use Rattle.fr_run_outcomes.proofs.Emptying.{marked_is_popped}
use Rattle.fr_run_outcomes.proofs.Popping.{EmptyRules}
use Rattle.fr_run_outcomes.proofs.Full.{FullRules, full_is_no_dead_end, too_many_is_unpopped}
use Rattle.fr_run_outcomes.specs.Full.{MarkedIsPopped}
use Rattle.fr_run_outcomes.proofs.progress.full_law.Goals as goal

pub returns : goal.returns
returns c =
    let empty : EmptyRules = record {
      laws = c.lower_laws.ensures;
      seeded = c.seeded_law.ensures.chosen;
      storages = c.follow_law.ensures.storages;
      removed = c.let_go_law.ensures.removed;
      rises = c.position_law.ensures.peeked_rises;
      floor = c.position_law.ensures.peeked_floor;
      raises = c.pop_law.ensures.raised;
    } in
    let popped : MarkedIsPopped = marked_is_popped empty c.pulling_law.ensures.marked in
    let rules : FullRules = record {
      laws = c.lower_laws.ensures;
      changes = c.change_law.ensures.change;
      accounted = c.ask_law.ensures.accounted;
      order = c.cells_law.ensures.order;
      least = c.chosen_law.ensures.least;
      read = c.parents_law.ensures.read;
      seeded = c.seeded_law.ensures.chosen;
      held = c.order_law.ensures.held;
      meets = c.cover_law.ensures.covering;
      begins = c.drop_law.ensures.begins;
      popped = popped;
      returns = c.return_law.ensures.ended;
    } in
    record { popped = popped; left = full_is_no_dead_end rules; unpopped = too_many_is_unpopped rules }
