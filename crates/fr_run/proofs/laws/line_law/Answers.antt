use Rattle.fr_run.proofs.Parents.{parent_is_planned}
use Rattle.fr_run.proofs.Lines.{parent_is, line_of_plan, line_of_first, line_lasts, states_are_views, lines_within, dropped_rises}
use Rattle.fr_run.proofs.laws.line_law.Goals as goal

pub returns : goal.returns
returns c =
    let laws = c.node_laws.ensures in
    record {
      parent = parent_is laws;
      planned = parent_is_planned laws;
      plan = line_of_plan laws;
      first = line_of_first;
      lasts = line_lasts laws;
      view = states_are_views laws;
      within = lines_within laws;
      rises = dropped_rises laws;
    }
