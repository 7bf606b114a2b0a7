use Rattle.std.proofs.Common.{◌≡◌, sym, ap, ◌∙◌, Err, Some}
use Rattle.fr_base.specs.declared.node.NodeFault.TheVariants.{Broken}
use Rattle.fr_record_node.specs.Replay.{replayed}
use Rattle.fr_record_log.specs.LogFile.{replay_log}
use Rattle.fr_record_log.proofs.log_node.LogNode.open.Goals as goal

pub returns-in-Err-clause-broken : goal.returns-in-Err-clause-broken
returns-in-Err-clause-broken g c e records stands =
    let same : c.in-Err.fault ≡ Broken = cc e in
    ap (λ l. replayed replay_log (Some l) records) (sym c.fresh-log.ensures.log) ∙ c.in-Err.ensures.broken (ap (λ fault. Err fault) same) records stands
