use Rattle.fr_run_headline.proofs.Orders.{known_is_durable, below_is_taken_over, acknowledged_is_taken_over}
use Rattle.fr_run_headline.proofs.Replies.{covered_agree}
use Rattle.fr_run_headline.proofs.Transport.{plans_are_lines, below_is_held_later, acknowledged_is_held_later}
use Rattle.fr_run_headline.proofs.versions.order_law.Goals as goal

pub returns : goal.returns
returns c = record { durable = known_is_durable c.node_laws.ensures; replies = covered_agree c.node_laws.ensures; below = below_is_taken_over c.node_laws.ensures; acknowledged = acknowledged_is_taken_over c.node_laws.ensures; lines = plans_are_lines c.node_laws.ensures; below_later = below_is_held_later c.node_laws.ensures; acknowledged_later = acknowledged_is_held_later c.node_laws.ensures }
