use Rattle.fr_run.proofs.States.{state_is}
use Rattle.fr_run.proofs.Chosen.{open_is_chosen, first_is_chosen, first_is_least, chosen_is_written, chosen_is_planned, state_lasts, chosen_lasts}
use Rattle.fr_run.proofs.Lines.{chosen_is_before, chosen_are_chain}
use Rattle.fr_run.proofs.laws.chosen_law.Goals as goal

pub returns : goal.returns
returns c =
    let laws = c.node_laws.ensures in
    record {
      opened = open_is_chosen laws;
      first = first_is_chosen;
      least = first_is_least laws;
      written = chosen_is_written laws;
      planned = chosen_is_planned laws;
      within = state_is laws;
      state_lasts = state_lasts laws;
      lasts = chosen_lasts laws;
      before = chosen_is_before laws;
      chain = chosen_are_chain laws;
    }
