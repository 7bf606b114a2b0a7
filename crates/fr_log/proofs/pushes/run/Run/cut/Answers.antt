use Rattle.std.proofs.Common.{◌≡◌, suc, ◌-◌, length, take, ◌∙◌, ap, arith}
use Rattle.fr_log.proofs.Runs.{evenly_length, evenly_take, place_within}
use Rattle.fr_log.proofs.pushes.run.Run.cut.Goals as goal

pub invariant_of-self : goal.invariant_of-self
invariant_of-self c =
    let count = evenly_length c.self.inside.first c.self.inside.step c.self.inside.more in
    let same = ap length c.self.view_is in
    let k = place_within c.self.inside.step (c.args.left - 1) c.self.inside.more (omega (arith, count, same, c.requires.within)) in
    record { steps = c.self.invariant.steps; within = omega (arith, k, c.self.invariant.within) }

pub returns : goal.returns
returns c =
    let count = evenly_length c.self.inside.first c.self.inside.step c.self.inside.more in
    let same = ap length c.self.view_is in
    let one : suc (c.args.left - 1) ≡ c.args.left = omega (arith, c.requires.some) in
    evenly_take c.self.inside.first c.self.inside.step c.self.inside.more (c.args.left - 1) (omega (arith, count, same, c.requires.within))
    ∙ ap (take (suc (c.args.left - 1))) c.self.view_is ∙ ap (λ n. take n c.args.self.now) one
