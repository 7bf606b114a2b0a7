use Rattle.fr_run_headline.proofs.Acks.{acknowledged_is_safe, proxy_known_below}
use Rattle.fr_run_headline.proofs.Known.{push_known_below, log_known_below}
use Rattle.fr_run_headline.proofs.versions.known_law.Goals as goal

pub returns : goal.returns
returns c = record { acknowledged = acknowledged_is_safe c.node_laws.ensures; proxies = proxy_known_below c.node_laws.ensures; pushes = push_known_below c.node_laws.ensures; logs = log_known_below c.node_laws.ensures }
