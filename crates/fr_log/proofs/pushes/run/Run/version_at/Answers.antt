use Rattle.std.proofs.Common.{◌+◌, ◌*◌, length, Some, sym, ◌∙◌, ap, arith}
use Rattle.fr_log.specs.Headers.{version_at}
use Rattle.fr_log.proofs.Runs.{evenly_length, evenly_at, place_within}
use Rattle.fr_log.proofs.pushes.run.Run.version_at.Goals as goal

pub overflow_mul-place : goal.overflow_mul-place
overflow_mul-place c =
    let count = evenly_length c.self.inside.first c.self.inside.step c.self.inside.more in
    let same = ap length c.self.view_is in
    let k = place_within c.self.inside.step c.args.place c.self.inside.more (omega (arith, count, same, c.requires)) in
    omega (arith, k, c.self.invariant.within)

pub overflow_add-get : goal.overflow_add-get
overflow_add-get c =
    let count = evenly_length c.self.inside.first c.self.inside.step c.self.inside.more in
    let same = ap length c.self.view_is in
    let k = place_within c.self.inside.step c.args.place c.self.inside.more (omega (arith, count, same, c.requires)) in
    omega (arith, k, c.self.invariant.within, c.get.ensures.value)

pub unreachable-requires : goal.unreachable-requires
unreachable-requires c =
    let count = evenly_length c.self.inside.first c.self.inside.step c.self.inside.more in
    let same = ap length c.self.view_is in
    let k = place_within c.self.inside.step c.args.place c.self.inside.more (omega (arith, count, same, c.requires)) in
    let some = c.in-None.ensures.within.1 (omega (arith, k, c.self.invariant.within, c.get.ensures.value)) in
    absurd (cc)

pub returns : goal.returns
returns c =
    let count = evenly_length c.self.inside.first c.self.inside.step c.self.inside.more in
    let same = ap length c.self.view_is in
    let at = evenly_at c.self.inside.first c.self.inside.step c.self.inside.more c.args.place (omega (arith, count, same, c.requires)) in
    ap Some (c.in-Some.ensures.value ∙ ap (λ v. v + c.args.place * c.self.inside.step) c.get.ensures.value) ∙ sym at ∙ ap (λ hs. version_at hs c.args.place) c.self.view_is
