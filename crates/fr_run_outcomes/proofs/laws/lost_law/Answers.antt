use Rattle.fr_run_outcomes.proofs.TwoValues.{no_cell_has_two_values}
use Rattle.fr_run_outcomes.proofs.Lost.{lost_only_so}
use Rattle.fr_run_outcomes.proofs.laws.lost_law.Goals as goal

pub returns : goal.returns
returns c =
    let nodes = c.node_laws.ensures in
    let two = no_cell_has_two_values nodes in
    record {
      two = two;
      only = lost_only_so nodes two c.seeded_law.ensures.chosen c.seeded_law.ensures.writing c.extend_law.ensures.not_later c.order_law.ensures.consistent;
    }
