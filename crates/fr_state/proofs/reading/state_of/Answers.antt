use Rattle.std.proofs.Common.{◌≡◌, true}
use Rattle.fr_state.specs.Reading.{are_left, generations_at}
use Rattle.fr_state.proofs.StateLemmas.{list_sound, counted}
use Rattle.fr_state.proofs.reading.state_of.Goals as goal

pub are_left-requires-clause-some : goal.are_left-requires-clause-some
are_left-requires-clause-some c = (counted c.in_ok-dropped.counted.now c.in_ok-count.count c.in_ok-count.rest.now c.in_ok-count.ensures.ok).0

pub from_ordered-requires : goal.from_ordered-requires
from_ordered-requires c =
    let count = counted c.in_ok-dropped.counted.now c.in_ok-count.count c.in_ok-count.rest.now c.in_ok-count.ensures.ok in
    let listed : are_left c.in_ok-dropped.dropped (generations_at c.in_ok-count.count c.in_ok-count.rest.now) ≡ true = cc (c.are_left.ensures, c.if-not-are_left.false) in
    rw c.in-Ok.ensures (list_sound c.in_ok-dropped.dropped c.in_ok-count.count c.in_ok-count.rest.now count listed)
