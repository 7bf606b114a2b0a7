use Rattle.fr_run.proofs.States.{recoverers_have_states}
use Rattle.fr_run.proofs.Lines.{chosen_is_front}
use Rattle.fr_run.proofs.laws.states_law.Goals as goal

pub returns : goal.returns
returns c =
    let laws = c.node_laws.ensures in
    record { states = recoverers_have_states laws; front = chosen_is_front laws }
