use Rattle.std.proofs.Common.{sym, ap, ◌∙◌, arith}
use Rattle.std.specs.Option.{option_copied}
use Rattle.fr_log.proofs.Seedings.{above, apart, beside}
use Rattle.fr_log.proofs.seed.may_follow.Goals as goal

pub returns-then-version-get : goal.returns-then-version-get
returns-then-version-get c =
    above c.args.records.now c.in-Some.last.now c.args.next.now (sym c.last.ensures.value ∙ ap option_copied c.in-Some.is) c.requires c.get-version.result c.get.result c.get-version.ensures.value c.get.ensures.value c.if-version-get.true

pub returns-then-version-get-2 : goal.returns-then-version-get-2
returns-then-version-get-2 c =
    beside c.args.records.now c.in-Some.last.now c.args.next.now (sym c.last.ensures.value ∙ ap option_copied c.in-Some.is) c.requires c.get-version.result c.get.result c.get-version.ensures.value c.get.ensures.value c.if-version-get.false (c.if-version-get-2.true ∙ c.get-else-version-get.ensures.value ∙ sym c.get.ensures.value)
    c.get-tag.result c.get-then-version-get-2.result c.get-tag.ensures.value c.get-then-version-get-2.ensures.value

pub returns-else-version-get-2 : goal.returns-else-version-get-2
returns-else-version-get-2 c =
    apart c.args.records.now c.in-Some.last.now c.args.next.now (sym c.last.ensures.value ∙ ap option_copied c.in-Some.is) c.requires c.get-version.result c.get-else-version-get.result c.get-version.ensures.value c.get-else-version-get.ensures.value (let k = c.if-version-get.false in let a = c.get.ensures.value in let b = c.get-else-version-get.ensures.value in omega (arith, k, a, b)) c.if-version-get-2.false
