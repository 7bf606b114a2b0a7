use Rattle.std.proofs.Common.{◌≡◌, ◌<◌, ◌==◌, false, length, sym, ap, ◌∙◌, arith}
use Rattle.std.proofs.lemmas.Bool.{not-true}
use Rattle.fr_epoch.specs.Going.{reached_with}
use Rattle.fr_epoch.proofs.Goings.{completes_all, incomplete_at}
use Rattle.fr_epoch.proofs.going.completes.Goals as goal

pub returns-then-ne : goal.returns-then-ne
returns-then-ne c =
    let n = c.loop-number.number in
    let s = c.args.tail.now in
    let count = c.tags-number-end.ensures.value in
    let test = c.loop-number-test.true in
    let less : n < length s.parts = omega (arith, count, test) in
    let e : (reached_with s c.args.index c.args.peeked.now n == s.rv) ≡ false =
    ap (λ t. reached_with s c.args.index c.args.peeked.now t == s.rv) (sym c.tag_at.ensures) ∙ ap (λ v. v == s.rv) (sym c.reached_with.ensures) ∙ ap (λ v. c.reached_with.result == v) (sym c.rv.ensures.value)
    ∙ not-true (c.reached_with.result == c.rv.result) (sym c.ne.ensures ∙ c.if-ne.true)
    in
    sym (incomplete_at s c.args.index c.args.peeked.now n less e)

pub returns : goal.returns
returns c =
    let n = c.loop-number.number in
    let s = c.args.tail.now in
    let count = c.tags-number-end.ensures.value in
    let test = c.loop-number-test.false in
    sym (completes_all s c.args.index c.args.peeked.now (λ t less. c.loop-number.invariant t (omega (arith, count, test, less))))
