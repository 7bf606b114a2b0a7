use Rattle.fr_run_outcomes.proofs.ServingLogs.{Rules, serving_is_swept, serving_tells}
use Rattle.fr_run_outcomes.proofs.serving.serving_law.Goals as goal

pub returns : goal.returns
returns c =
    let rules : Rules = record {
      nodes = c.node_laws.ensures;
      changes = c.change_law.ensures.change;
      adds = c.raise_law.ensures.more;
      raises = c.pop_law.ensures.raised;
      tells = c.letting_law.ensures.tells;
      twice = c.letting_law.ensures.twice;
      goes_on = c.letting_law.ensures.goes_on;
      accounted = c.ask_law.ensures.accounted;
      states = c.states_law.ensures.states;
      pushes = c.sent_law.ensures.pushes;
      own = c.logs_law.ensures.own;
      durable = c.order_law.ensures.durable;
      copies = c.contents_law.ensures.copies;
      pieces = c.agree_law.ensures.pieces;
    } in
    record { swept = serving_is_swept rules; tells = serving_tells rules }
