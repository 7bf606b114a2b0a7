use Rattle.fr_run.proofs.Accounts.{sent_is_accounted, reads_are_own}
use Rattle.fr_run.proofs.laws.ask_law.Goals as goal

pub returns : goal.returns
returns c =
    let laws = c.node_laws.ensures in
    record { accounted = sent_is_accounted laws; reads = reads_are_own laws }
