use Rattle.fr_world.proofs.Replayed.{IsReplayed}
use Rattle.fr_world.proofs.world.World.replay.Given as goal

-- the world is that of the events so far: with those that are left it is as from the start
abbrev pub invariant-loop-number : goal.invariant-loop-number
invariant-loop-number l = IsReplayed l.fn.config l.fn.events.items l.world l.number-iterator.count l.number-iterator.iter.rest.items
