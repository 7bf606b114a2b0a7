use Rattle.fr_proxy.proofs.Stored.{told_is_stored, given_is_stored, others_keep_theirs}
use Rattle.fr_proxy.proofs.laws.stored_law.Goals as goal

pub returns : goal.returns
returns c = record { told = told_is_stored; given = given_is_stored; others = others_keep_theirs }
