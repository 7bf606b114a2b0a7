use Rattle.fr_run_outcomes.proofs.Exchanged.{pending_may_be_heard}
use Rattle.fr_run_outcomes.proofs.Pending.{pending_is_sent}
use Rattle.fr_run_outcomes.proofs.progress.pending_law.Goals as goal

pub returns : goal.returns
returns c =
    let laws = c.node_laws.ensures in
    let sent = pending_is_sent laws in
    record { sent = sent; heard = pending_may_be_heard laws sent }
