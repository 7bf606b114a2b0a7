use Rattle.std.proofs.Common.{◌≡◌, ◌⊎◌, false, subst}
use Rattle.fr_record.specs.Moments.{Throughout}
use Rattle.fr_record_log.specs.Law.{after_all}
use Rattle.fr_record_node.specs.Replay.{Opens}
use Rattle.fr_record_log.specs.LogFile.{fresh_of, replay_log}
use Rattle.fr_record_log.proofs.log_node.LogNode.serve_all.Goals as goal

pub returns-clause-any_moment : goal.returns-clause-any_moment
returns-clause-any_moment g c =
    subst (λ n. n.is_failed ≡ false → Throughout g.D.Device.Led g.D.Device.disk (Opens replay_log (fresh_of n.machine) (λ x. (x ≡ n.machine) ⊎ (x ≡ after_all n.machine c.args.asks.items))) n.device c.serve_all.new.self.device) c.self.view_is
    c.serve_all.ensures.any_moment
