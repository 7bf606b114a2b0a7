use Rattle.std.specs.Vec.Iter.{into_iter_items}
use Rattle.fr_runtime.proofs.Threads.{Joins}
use Rattle.fr_runtime.proofs.spawn.join_each.Given as goal

-- with what the threads that are left hand back, there is something of each
abbrev pub invariant-loop-handle : goal.invariant-loop-handle
invariant-loop-handle g l = record {
  can : (goal.iterator-loop-handle g).can_next l.handle-iterator;
  ends : (goal.iterator-loop-handle g).is_finite l.handle-iterator;
  joins : Joins g.W.Worker.Did l.fn.handles.items l.all.items (into_iter_items l.handle-iterator);
}
