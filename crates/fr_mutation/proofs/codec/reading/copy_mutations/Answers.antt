use Rattle.std.proofs.Common.{◌≡◌, [], ◌∷◌, ◌++◌}
use Rattle.fr_mutation.specs.CodecFields.{lent_mutation}
use Rattle.fr_mutation.specs.CodecReading.{mutations_at}
use Rattle.fr_mutation.proofs.CodecLoops.{copies_on, copies_never_end, copies_done}
use Rattle.fr_mutation.proofs.codec.reading.copy_mutations.Goals as goal

pub unreachable-requires : goal.unreachable-requires
unreachable-requires c = copies_never_end c.args.format c.loop.mutations.items c.args.count c.loop.counter c.loop.rest.now c.in_default.field-0 (mutations_at c.args.format c.args.count c.args.bytes.now) c.loop-test.true c.in_default.ensures c.loop.invariant c.requires

pub loop-preserved : goal.loop-preserved
loop-preserved c =
    let m = lent_mutation c.in-Ok.fields in
    let pushed : c.push.new.self.items ≡ c.loop.mutations.items ++ m ∷ [] = cc (c.in_ok-push.ensures.items, c.in_ok-to_mutation.ensures) in
    rw pushed (copies_on c.args.format c.loop.mutations.items c.args.count c.loop.counter c.loop.rest.now c.in-Ok.after.now m (mutations_at c.args.format c.args.count c.args.bytes.now) c.loop-test.true c.in-Ok.ensures c.loop.invariant)

pub returns : goal.returns
returns c = copies_done c.args.format c.loop.mutations.items c.args.count c.loop.counter c.loop.rest.now (mutations_at c.args.format c.args.count c.args.bytes.now) c.loop-test.false c.loop.invariant
