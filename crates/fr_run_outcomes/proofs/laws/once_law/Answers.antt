use Rattle.fr_run_outcomes.proofs.Counting.{request_has_one_number}
use Rattle.fr_run_outcomes.proofs.Once.{at_most_once, was_submitted, acknowledged_is_answered, exactly_once}
use Rattle.fr_run_outcomes.proofs.laws.once_law.Goals as goal

pub returns : goal.returns
returns c =
    let nodes = c.node_laws.ensures in
    let sound = c.proxies_law.ensures.proxies in
    let one = request_has_one_number nodes c.proxies_law.ensures.counted in
    let planned = c.chosen_law.ensures.planned in
    let rises = c.issued_law.ensures.rises in
    record {
      number = one;
      most = at_most_once one planned rises;
      submitted = was_submitted;
      answered = acknowledged_is_answered nodes sound;
      exactly = exactly_once nodes sound one planned rises c.headline_law.ensures.headline;
    }
