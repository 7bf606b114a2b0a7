use Rattle.std.proofs.Common.{ap, ◌∙◌, arith}
use Rattle.std.proofs.lemmas.Bool.{both_ways}
use Rattle.fr_log.specs.LogState.{durable_of}
use Rattle.fr_log.proofs.Pushing.{high_is_unheld, above_from_test}
use Rattle.fr_log.proofs.log.Log.take_granted.Goals as goal

pub hold-requires-clause-other : goal.hold-requires-clause-other
hold-requires-clause-other c =
    let reach = c.self.invariant.durable_is ∙ ap durable_of c.self.view_is in
    let version = c.version-version.ensures.value in
    let above = above_from_test c.version-version.result c.self.inside.durable c.if-le.ensures in
    high_is_unheld c.args.self.now c.args.push (omega (arith, reach, version, above))

pub returns-in_err-hold-clause-free : goal.returns-in_err-hold-clause-free
returns-in_err-hold-clause-free c held =
    let reach = c.self.invariant.durable_is ∙ ap durable_of c.self.view_is in
    let version = c.version-version.ensures.value in
    let above = above_from_test c.version-version.result c.self.inside.durable c.if-le.ensures in
    absurd (both_ways _ (high_is_unheld c.args.self.now c.args.push (omega (arith, reach, version, above))) held)

pub returns-clause-after : goal.returns-clause-after
returns-clause-after c =
    let reach = c.self.invariant.durable_is ∙ ap durable_of c.self.view_is in
    let version = c.version-version.ensures.value in
    let above = above_from_test c.version-version.result c.self.inside.durable c.if-le.ensures in
    let other = high_is_unheld c.args.self.now c.args.push (omega (arith, reach, version, above)) in
    rw other c.in_ok-hold.ensures.after
