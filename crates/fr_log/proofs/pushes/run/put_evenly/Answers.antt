use Rattle.std.proofs.Common.{◌+◌, ◌++◌, refl, arith}
use Rattle.fr_log.specs.Headers.{evenly, numbers_in}
use Rattle.fr_log.proofs.Numbers.{begins_so, goes_on_so, ends_so, next_place}
use Rattle.fr_log.proofs.pushes.run.put_evenly.Goals as goal

pub loop-init : goal.loop-init
loop-init c =
    let version = c.get-version.ensures.value in
    let known = c.get-known.ensures.value in
    record {
      so_far = begins_so c.args.list.now.items c.push.new.self.items c.args.first.now c.get-prev.result c.get-version.result c.get-known.result c.args.step c.args.more c.get-prev.ensures.value version known c.in_ok-push.ensures.items;
      version = omega (arith, version);
      known = omega (arith, known);
    }

pub loop-preserved : goal.loop-preserved
loop-preserved c =
    let step = next_place c.args.step c.loop.counter in
    let version = c.loop.invariant.version in
    let known = c.loop.invariant.known in
    record {
      so_far = goes_on_so c.loop.list.items c.push-in-loop.new.self.items (c.args.list.now.items ++ numbers_in (evenly c.args.first.now c.args.step c.args.more)) c.loop.last
          (record { prev = c.loop.last.version; version = c.loop.last.version + c.args.step; known = c.loop.last.known + c.args.step }) c.args.step c.args.more c.loop.counter c.loop-test.true refl c.in_ok-push-2.ensures.items
          c.loop.invariant.so_far;
      version = omega (arith, step, version);
      known = omega (arith, step, known);
    }

pub returns : goal.returns
returns c = ends_so c.loop.list.items (c.args.list.now.items ++ numbers_in (evenly c.args.first.now c.args.step c.args.more)) c.loop.last c.args.step c.args.more c.loop.counter c.loop-test.false c.loop.invariant.so_far
