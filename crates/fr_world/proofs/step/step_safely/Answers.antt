use Rattle.std.proofs.Common.{refl}
use Rattle.fr_run_headline.specs.Safety.{IsSafe}
use Rattle.fr_world_nodes.specs.Kept.{state_of}
use Rattle.fr_world.proofs.Grows.{is_config, grown}
use Rattle.fr_world.proofs.step.step_safely.Goals as goal

pub returns-clause-safe : goal.returns-clause-safe
returns-clause-safe c =
    let k = c.step.ensures.keeps refl in
    let w = state_of c.step.new.nodes in
    c.safety_law.ensures.safe w.config w.turns (is_config k.within) k.run

pub returns-clause-headline : goal.returns-clause-headline
returns-clause-headline c =
    let k = c.step.ensures.keeps refl in
    let w = state_of c.step.new.nodes in
    let s : IsSafe w.config w.turns = c.safety_law.ensures.safe w.config w.turns (is_config k.within) k.run in
    (s.rolled_back, s.acknowledged)

pub returns-clause-grows : goal.returns-clause-grows
returns-clause-grows c =
    let k = c.step.ensures.keeps refl in
    let new = state_of c.step.new.nodes in
    grown c.safety_law.ensures.turns c.safety_law.ensures.stands (state_of c.args.nodes.now) new c.args.event c.step.result c.step.ensures.turn c.step.ensures.err (is_config k.within) k.run
