use Rattle.std.proofs.Common.{sym, ◌∙◌, ◌-◌}
use Rattle.fr_run.specs.Tests.{gives}
use Rattle.fr_world_turns.specs.Turns.{turn_of}
use Rattle.fr_world_turns.proofs.Lists.{none_before, none_of, one_of}
use Rattle.fr_world_turns.proofs.finding.some_gives.Goals as goal

pub returns-then-gives_at : goal.returns-then-gives_at
returns-then-gives_at c =
    sym (one_of (λ t. gives c.args.from.now c.args.to.now c.args.ask.now (turn_of t)) c.args.turns.now (c.loop-place.place - 1) (sym c.gives_at.ensures ∙ c.if-gives_at.true))

pub loop-place-preserved : goal.loop-place-preserved
loop-place-preserved c =
    none_before (λ t. gives c.args.from.now c.args.to.now c.args.ask.now (turn_of t)) c.args.turns.now c.loop-place.place (sym c.gives_at.ensures ∙ c.if-gives_at.false) c.loop-place.invariant

pub returns : goal.returns
returns c = sym (none_of (λ t. gives c.args.from.now c.args.to.now c.args.ask.now (turn_of t)) c.args.turns.now c.loop-place.place c.loop-place-test.false c.loop-place.invariant)
