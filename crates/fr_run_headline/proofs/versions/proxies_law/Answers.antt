use Rattle.fr_run_headline.proofs.Requests.{told_is_own}
use Rattle.fr_run_headline.proofs.Counted.{numbers_counted}
use Rattle.fr_run_headline.proofs.Proxies.{proxies_are}
use Rattle.fr_run_headline.proofs.Known.{push_is_part}
use Rattle.fr_run_headline.proofs.versions.proxies_law.Goals as goal

pub returns : goal.returns
returns c = record { numbers = told_is_own c.node_laws.ensures; counted = numbers_counted c.node_laws.ensures; proxies = proxies_are c.node_laws.ensures; pushes = push_is_part c.node_laws.ensures }
