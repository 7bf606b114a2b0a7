use Rattle.std.proofs.Common.{sym, ◌∙◌, ◌-◌}
use Rattle.fr_run.specs.Tests.{tells}
use Rattle.fr_world_turns.specs.Turns.{turn_of}
use Rattle.fr_world_turns.proofs.Lists.{none_before, none_of, one_of}
use Rattle.fr_world_turns.proofs.finding.some_tells.Goals as goal

pub returns-then-tells_at : goal.returns-then-tells_at
returns-then-tells_at c =
    sym (one_of (λ t. tells c.args.by.now c.args.to.now c.args.tell.now (turn_of t)) c.args.turns.now (c.loop-place.place - 1) (sym c.tells_at.ensures ∙ c.if-tells_at.true))

pub loop-place-preserved : goal.loop-place-preserved
loop-place-preserved c =
    none_before (λ t. tells c.args.by.now c.args.to.now c.args.tell.now (turn_of t)) c.args.turns.now c.loop-place.place (sym c.tells_at.ensures ∙ c.if-tells_at.false) c.loop-place.invariant

pub returns : goal.returns
returns c = sym (none_of (λ t. tells c.args.by.now c.args.to.now c.args.tell.now (turn_of t)) c.args.turns.now c.loop-place.place c.loop-place-test.false c.loop-place.invariant)
