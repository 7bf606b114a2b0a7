use Rattle.std.proofs.Common.{◌-◌, sym, ◌∙◌, ap, arith}
use Rattle.std.specs.List.{list_any}
use Rattle.fr_log.specs.Pushes.{is_headed}
use Rattle.fr_log.specs.Headers.{follows_as}
use Rattle.fr_log.proofs.Runs.{evenly_first, sought_between, sought_past, sought_met}
use Rattle.fr_log.proofs.pushes.run.Run.heads.Goals as goal

pub returns-then-version-first : goal.returns-then-version-first
returns-then-version-first c =
    let low = c.if-version-first.true in
    let version = c.get-version.ensures.value ∙ c.version.ensures.value in
    let first = c.get-first.ensures.value in
    c.is_headed.ensures ∙ sym (evenly_first c.args.push.now c.self.inside.first c.self.inside.step c.self.inside.more c.self.invariant.steps (omega (arith, low, version, first)))
    ∙ ap (list_any (is_headed c.args.push.now)) c.self.view_is

pub returns-then-past-self-ne0 : goal.returns-then-past-self-ne0
returns-then-past-self-ne0 c =
    let high = c.if-version-first.false in
    let version = c.get-version.ensures.value ∙ c.version.ensures.value in
    let first = c.get-first.ensures.value in
    sym (sought_between c.args.push.now c.self.inside.first c.self.inside.step c.self.inside.more (c.get-version.result - c.get-first.result) c.self.invariant.steps (omega (arith, high, version, first)) c.if-past-self-ne0.true)
    ∙ ap (list_any (is_headed c.args.push.now)) c.self.view_is

pub returns-then-past-self : goal.returns-then-past-self
returns-then-past-self c =
    let high = c.if-version-first.false in
    let version = c.get-version.ensures.value ∙ c.version.ensures.value in
    let first = c.get-first.ensures.value in
    sym (sought_past c.args.push.now c.self.inside.first c.self.inside.step c.self.inside.more (c.get-version.result - c.get-first.result) (omega (arith, high, version, first)) c.if-past-self.true c.self.invariant.steps)
    ∙ ap (list_any (is_headed c.args.push.now)) c.self.view_is

pub returns : goal.returns
returns c =
    let high = c.if-version-first.false in
    let version = c.get-version.ensures.value ∙ c.version.ensures.value in
    let first = c.get-first.ensures.value in
    c.follows.ensures ∙ ap (λ v. follows_as c.args.push.now c.self.inside.first.epoch (v - c.self.inside.step)) version
    ∙ sym (sought_met c.args.push.now c.self.inside.first c.self.inside.step c.self.inside.more (c.get-version.result - c.get-first.result) c.self.invariant.steps (omega (arith, high, version, first))
    (omega (arith, high)) c.if-past-self-ne0.false c.if-past-self.false)
    ∙ ap (list_any (is_headed c.args.push.now)) c.self.view_is
