use Rattle.fr_proxy.proofs.Accounts.{submit_is_accounted, new_is_accounted, accounted_stays}
use Rattle.fr_proxy.proofs.laws.account_law.Goals as goal

pub returns : goal.returns
returns c = record { submit = submit_is_accounted; new = new_is_accounted; stays = accounted_stays }
