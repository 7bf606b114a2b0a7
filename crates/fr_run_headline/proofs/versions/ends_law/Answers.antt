use Rattle.fr_run_headline.proofs.Ends.{end_is_of_replies, seed_is_reached}
use Rattle.fr_run_headline.proofs.versions.ends_law.Goals as goal

pub returns : goal.returns
returns c = record { end = end_is_of_replies c.node_laws.ensures; reached = seed_is_reached c.node_laws.ensures }
