use Rattle.fr_run_headline.proofs.Following.{storages_follow, hears_are_taken, each_hear_is_taken}
use Rattle.fr_run_headline.proofs.Exact.{every_storage_follows}
use Rattle.fr_run_headline.proofs.laws.follow_law.Goals as goal

pub returns : goal.returns
returns c =
    let laws = c.lower_laws.ensures in
    record { storages = storages_follow laws; exact = every_storage_follows laws; taken = hears_are_taken laws; each = each_hear_is_taken laws }
