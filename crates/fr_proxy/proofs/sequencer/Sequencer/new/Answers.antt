use Rattle.std.proofs.Common.{ap}
use Rattle.std.specs.Ordering.{nat_cmp}
use Rattle.std.specs.FinMap.{FinMap}
use Rattle.fr_base.proofs.MapLemmas.{map_of-empty}
use Rattle.fr_proxy.specs.declared.number.Number.{Number}
use Rattle.fr_proxy.specs.Sequencer.{SeqState}
use Rattle.fr_proxy.proofs.sequencer.Sequencer.new.Goals as goal

pub returns : goal.returns
returns c =
    let state : FinMap nat_cmp Number → SeqState = λ given. record { epoch = c.args.epoch; last = c.args.last; given = given } in
    ap state (map_of-empty c.new.result c.new.ensures.empty)
