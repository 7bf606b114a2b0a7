use Rattle.std.proofs.Common.{◌≡◌, ◌⊎◌, Some, subst}
use Rattle.fr_record.specs.Moments.{Throughout}
use Rattle.fr_record_node.specs.Replay.{Opens}
use Rattle.fr_record_log.specs.LogFile.{fresh_of, replay_log}
use Rattle.fr_record_log.proofs.log_node.LogNodeNode.reopen.Goals as goal

pub returns-clause-any_moment : goal.returns-clause-any_moment
returns-clause-any_moment g c =
    subst (λ n. Throughout g.D.Device.Led g.D.Device.disk (Opens replay_log (fresh_of n.machine) (λ x. (x ≡ n.machine) ⊎ (n.owed ≡ Some x))) n.device c.reopen.new.self.device) c.self.view_is
    c.reopen.ensures.any_moment
