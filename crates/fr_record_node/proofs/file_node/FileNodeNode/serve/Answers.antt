use Rattle.std.proofs.Common.{◌≡◌, ◌⊎◌, subst}
use Rattle.fr_record.specs.Moments.{Throughout}
use Rattle.fr_record_node.specs.Several.{after_all}
use Rattle.fr_record_node.specs.Replay.{Opens}
use Rattle.fr_record_node.proofs.file_node.FileNodeNode.serve.Goals as goal

pub returns-in-Some-clause-any_moment : goal.returns-in-Some-clause-any_moment
returns-in-Some-clause-any_moment g c works =
    let m = c.args.self.now.machine in
    subst (λ asks. Throughout g.D.Device.Led g.D.Device.disk (Opens g.M.Recorded.replay (g.M.Recorded.fresh m) (λ x. (x ≡ m) ⊎ (x ≡ after_all g.M.Machine.after m asks))) c.args.self.now.device c.serve_all.new.self.device) c.in-Ok.ensures.ok
    (c.serve_all.ensures.any_moment works)

pub returns-in-Err-serve_all-clause-any_moment : goal.returns-in-Err-serve_all-clause-any_moment
returns-in-Err-serve_all-clause-any_moment g c works =
    let m = c.args.self.now.machine in
    subst (λ asks. Throughout g.D.Device.Led g.D.Device.disk (Opens g.M.Recorded.replay (g.M.Recorded.fresh m) (λ x. (x ≡ m) ⊎ (x ≡ after_all g.M.Machine.after m asks))) c.args.self.now.device c.serve_all.new.self.device) c.in-Ok.ensures.ok
    (c.serve_all.ensures.any_moment works)
