use Rattle.fr_runtime.proofs.Threads.{done-of}
use Rattle.fr_runtime.proofs.spawn.fn.work_in_threads.scope.Goals as goal

pub returns : goal.returns
returns g c = done-of g.W.Worker.Did c.captures.worker.now c.captures.jobs.items c.in_ok-handles.handles.items c.join_each.result c.in_ok-handles.ensures c.join_each.ensures
