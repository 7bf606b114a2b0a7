use Rattle.fr_run_headline.proofs.Replies.{below_is_replied, below_is_recovered, acknowledged_is_replied, acknowledged_is_recovered}
use Rattle.fr_run_headline.proofs.versions.replied_law.Goals as goal

pub returns : goal.returns
returns c =
    let laws = c.node_laws.ensures in
    record { below = below_is_replied laws; below_over = below_is_recovered laws; acknowledged = acknowledged_is_replied laws; acknowledged_over = acknowledged_is_recovered laws }
