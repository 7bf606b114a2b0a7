-- The asks are those of the server that others see.
use Rattle.std.proofs.Common.{ap, ◌∙◌}
use Rattle.fr_node.specs.Nodes.{ActiveStorage}
use Rattle.fr_node.specs.Pulls.{asks_of}
use Rattle.fr_node.proofs.storages.StorageNodeActing.wants.Goals as goal

pub returns-clause-asks : goal.returns-clause-asks
returns-clause-asks g c =
    c.from_vec.ensures ∙ (c.in_ok-asks_at.ensures ∙ ap (λ (s : ActiveStorage g.row.S.Denot). asks_of s.storage c.args.round.turn c.args.round.newest) c.self.view_is)
