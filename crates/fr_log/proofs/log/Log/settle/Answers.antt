use Rattle.std.proofs.Common.{ap, sym, ◌∙◌, subst}
use Rattle.fr_log.specs.LogState.{LogState, swept}
use Rattle.fr_log.specs.Chain.{IsLog, IsKept}
use Rattle.fr_log.proofs.Letting.{let_go, swept_kept, swept_is_log}
use Rattle.fr_log.proofs.log.Log.settle.Goals as goal

pub invariant_of-self : goal.invariant_of-self
invariant_of-self c =
    let l : LogState = record { epoch = c.self.inside.id.epoch; index = c.self.inside.id.index; m = c.self.inside.shape.m; k = c.self.inside.shape.k; seed = c.self.inside.seed; pushes = c.self.inside.pushes; stopped = c.self.inside.stopped; popped = c.self.inside.popped } in
    let same = let_go l c.as_slice.result.now c.as_slice-2.result.now c.sweep_seed.new.seed c.sweep.new.self c.as_slice.ensures c.as_slice-2.ensures c.sweep.ensures c.sweep_seed.ensures in
    subst (λ n. IsKept n c.self.inside.durable c.self.inside.known) (sym same) (swept_kept l c.self.inside.durable c.self.inside.known c.self.invariant)

pub returns-clause-after : goal.returns-clause-after
returns-clause-after c =
    let l : LogState = record { epoch = c.self.inside.id.epoch; index = c.self.inside.id.index; m = c.self.inside.shape.m; k = c.self.inside.shape.k; seed = c.self.inside.seed; pushes = c.self.inside.pushes; stopped = c.self.inside.stopped; popped = c.self.inside.popped } in
    let_go l c.as_slice.result.now c.as_slice-2.result.now c.sweep_seed.new.seed c.sweep.new.self c.as_slice.ensures c.as_slice-2.ensures c.sweep.ensures c.sweep_seed.ensures ∙ ap swept c.self.view_is

pub returns-clause-sound : goal.returns-clause-sound
returns-clause-sound c =
    let l : LogState = record { epoch = c.self.inside.id.epoch; index = c.self.inside.id.index; m = c.self.inside.shape.m; k = c.self.inside.shape.k; seed = c.self.inside.seed; pushes = c.self.inside.pushes; stopped = c.self.inside.stopped; popped = c.self.inside.popped } in
    let same = let_go l c.as_slice.result.now c.as_slice-2.result.now c.sweep_seed.new.seed c.sweep.new.self c.as_slice.ensures c.as_slice-2.ensures c.sweep.ensures c.sweep_seed.ensures in
    subst IsLog (sym same) (swept_is_log l c.self.invariant.log)
