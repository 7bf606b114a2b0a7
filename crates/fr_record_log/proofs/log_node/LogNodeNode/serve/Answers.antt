use Rattle.std.proofs.Common.{◌≡◌, ◌⊎◌, false, subst}
use Rattle.fr_record.specs.Moments.{Throughout}
use Rattle.fr_log.specs.Step.{after_ask}
use Rattle.fr_record_node.specs.Replay.{Opens}
use Rattle.fr_record_log.specs.LogFile.{fresh_of, replay_log}
use Rattle.fr_record_log.proofs.log_node.LogNodeNode.serve.Goals as goal

pub returns-clause-any_moment : goal.returns-clause-any_moment
returns-clause-any_moment g c =
    subst (λ n. n.is_failed ≡ false → Throughout g.D.Device.Led g.D.Device.disk (Opens replay_log (fresh_of n.machine) (λ x. (x ≡ n.machine) ⊎ (x ≡ after_ask n.machine c.args.ask))) n.device c.serve.new.self.device) c.self.view_is
    c.serve.ensures.any_moment
