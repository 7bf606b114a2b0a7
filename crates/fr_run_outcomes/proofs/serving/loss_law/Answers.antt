use Rattle.fr_run_outcomes.proofs.Losses.{holders_have, retrievable_is_exact}
use Rattle.fr_run_outcomes.proofs.serving.loss_law.Goals as goal

pub returns : goal.returns
returns c =
    let laws = c.lower_laws.ensures in
    record { holders = holders_have laws; exact = retrievable_is_exact laws c.cover_law.ensures.holders c.cover_law.ensures.held }
