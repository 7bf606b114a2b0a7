use Rattle.std.proofs.Common.{ap, ◌∙◌}
use Rattle.fr_epoch.specs.Lists.{peeks_at, peeks_from}
use Rattle.fr_epoch.proofs.Asking.{peeks_more}
use Rattle.fr_epoch.proofs.asks.peeks.Goals as goal

pub loop-number-preserved : goal.loop-number-preserved
loop-number-preserved c =
    let n = c.loop-number.number in
    let tail = c.args.tail.now in
    let own = c.in_ok-more.ensures ∙ ap (λ v. peeks_from c.args.epoch tail c.tag_at-tag.result v) c.reached.ensures.value ∙ ap (peeks_at c.args.epoch tail) c.tag_at-tag.ensures in
    peeks_more c.args.epoch tail n c.loop-number.asks.items c.in_ok-more.more.items c.append.new.self.items c.loop-number.invariant own c.in_ok-append.ensures.items
