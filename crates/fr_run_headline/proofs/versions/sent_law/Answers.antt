use Rattle.fr_run_headline.proofs.Pushes.{pushes_are_own, seeds_are_own}
use Rattle.fr_run_headline.proofs.versions.sent_law.Goals as goal

pub returns : goal.returns
returns c =
    let laws = c.node_laws.ensures in
    record { pushes = pushes_are_own laws; seeds = seeds_are_own laws }
