use Rattle.std.proofs.Common.{ap, sym, subst, ◌∙◌, ◌+◌}
use Rattle.fr_run.specs.Config.{first_storage}
use Rattle.fr_world_nodes.proofs.Starts.{FirstStorages, one_storage}
use Rattle.fr_world_nodes.proofs.start.storages.Goals as goal

pub loop-number-preserved : goal.loop-number-preserved
loop-number-preserved c =
    subst (FirstStorages c.args.config.now (c.loop-number.number + 1)) (sym c.in_ok-push.ensures.items)
    (one_storage c.args.config.now c.loop-number.number c.loop-number.servers.items c.in_ok-storage.field-0 c.loop-number.invariant
    (c.in_ok-storage.ensures.state ∙ ap (first_storage c.args.config.now) c.tag.ensures) c.in_ok-storage.ensures.works)
