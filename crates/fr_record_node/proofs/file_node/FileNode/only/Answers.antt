use Rattle.std.proofs.Common.{◌≡◌, ◌⊎◌, sym, subst, ◌∙◌}
use Rattle.fr_record.specs.Moments.{Throughout}
use Rattle.fr_record_node.specs.Replay.{Opens}
use Rattle.fr_record_node.proofs.Lemmas.{unmoved}
use Rattle.fr_record_node.proofs.file_node.FileNode.only.Goals as goal

pub returns-in-Ok-clause-still : goal.returns-in-Ok-clause-still
returns-in-Ok-clause-still g c works =
    subst (λ n. Throughout g.D.Device.Led g.D.Device.disk (Opens g.M.Recorded.replay (g.M.Recorded.fresh n.machine) (λ x. (x ≡ n.machine) ⊎ (x ≡ g.M.Machine.after n.machine c.args.ask))) n.device n.device) c.self.view_is
    (unmoved g.D.Device.Led g.D.Device.disk g.M.Recorded.replay (g.M.Recorded.fresh c.self.inside.machine) c.self.inside.machine (g.M.Machine.after c.self.inside.machine c.args.ask) c.self.inside.file.records c.self.invariant.replays c.left_law.ensures.at_rest c.self.inside.file.device (c.is_failed.ensures.kept (sym c.is_failed.ensures.value ∙ c.if-is_failed.false)))

pub returns-in-Err-clause-still : goal.returns-in-Err-clause-still
returns-in-Err-clause-still g c works =
    subst (λ n. Throughout g.D.Device.Led g.D.Device.disk (Opens g.M.Recorded.replay (g.M.Recorded.fresh n.machine) (λ x. (x ≡ n.machine) ⊎ (x ≡ g.M.Machine.after n.machine c.args.ask))) n.device n.device) c.self.view_is
    (unmoved g.D.Device.Led g.D.Device.disk g.M.Recorded.replay (g.M.Recorded.fresh c.self.inside.machine) c.self.inside.machine (g.M.Machine.after c.self.inside.machine c.args.ask) c.self.inside.file.records c.self.invariant.replays c.left_law.ensures.at_rest c.self.inside.file.device (c.is_failed.ensures.kept (sym c.is_failed.ensures.value ∙ c.if-is_failed.false)))
