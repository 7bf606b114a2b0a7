use Rattle.std.proofs.Common.{◌≡◌, [], arith}
use Rattle.std.proofs.lemmas.Grind.{common_steps}
use Rattle.std.specs.Vec.Iter.{into_iter_items}
use Rattle.fr_runtime.proofs.Threads.{joins-all, joins-first}
use Rattle.fr_runtime.proofs.spawn.join_each.Goals as goal

pub loop-handle-init : goal.loop-handle-init
loop-handle-init g c = record {
  can = tt;
  ends = tt;
  joins = joins-first g.W.Worker.Did c.args.handles.items (into_iter_items c.into_iter-handle-iterator.result) c.new-all.result.items c.into_iter-handle-iterator.ensures.into_iter_gives.0 c.new-all.ensures.items;
}

pub returns : goal.returns
returns g c =
    let ended : into_iter_items c.loop-handle.handle-iterator ≡ [] = grind (arith, common_steps) in
    joins-all g.W.Worker.Did c.args.handles.items (into_iter_items c.loop-handle.handle-iterator) c.loop-handle.all.items ended c.loop-handle.invariant.joins
