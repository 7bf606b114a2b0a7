use Rattle.fr_storage.proofs.Breaks.{marked_breaks, peeked_breaks, first_follows, follows_on}
use Rattle.fr_storage.proofs.Hears.{peeked_keeps_state, marked_keeps_tag, marked_refused, peeked_refused}
use Rattle.fr_storage.proofs.Rollback.{marked_follows}
use Rattle.fr_storage.proofs.Peeked.{peeked_follows}
use Rattle.fr_storage.proofs.laws.follow_law.Goals as goal

pub returns : goal.returns
returns c =
    let laws = c.store_laws.ensures in
    record { state = peeked_keeps_state; tag = marked_keeps_tag; marked_refused = marked_refused; peeked_refused = peeked_refused; marked = marked_follows laws; peeked = peeked_follows laws; marked_breaks = marked_breaks laws; peeked_breaks = peeked_breaks laws; first = first_follows laws; on = follows_on }
