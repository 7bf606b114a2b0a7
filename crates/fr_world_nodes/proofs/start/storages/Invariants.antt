use Rattle.fr_world_nodes.proofs.Starts.{FirstStorages}
use Rattle.fr_world_nodes.proofs.start.storages.Given as goal

-- the servers of the tags below this one were made
abbrev pub invariant-loop-number : goal.invariant-loop-number
invariant-loop-number l = FirstStorages l.config l.number l.servers.items
