use Rattle.std.proofs.Common.{◌≡◌, true}
use Rattle.fr_state.specs.Reading.{is_list, generations_at}
use Rattle.fr_state.proofs.StateLemmas.{left_first}
use Rattle.fr_state.proofs.reading.are_left.Goals as goal

pub returns-then-is_list : goal.returns-then-is_list
returns-then-is_list c =
    let listed : is_list (generations_at c.args.count c.args.bytes.now) ≡ true = cc (c.is_list.ensures, c.if-is_list.true) in
    rw c.number.ensures (left_first c.args.dropped c.args.count c.args.bytes.now c.requires.some listed)
