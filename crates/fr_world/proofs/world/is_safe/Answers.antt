use Rattle.fr_world_nodes.specs.Kept.{state_of}
use Rattle.fr_world.proofs.Grows.{is_config}
use Rattle.fr_world.proofs.world.is_safe.Goals as goal

pub returns : goal.returns
returns c =
    let w = state_of c.args.kept.now in
    c.safety_law.ensures.safe w.config w.turns (is_config c.requires.within) c.requires.run
