use Rattle.std.proofs.Common.{ap}
use Rattle.fr_tail.proofs.Shapes.{longer_kept, free_at}
use Rattle.fr_tail.proofs.tail.Tail.take.Goals as goal

pub returns-in_err-go_on-clause-free : goal.returns-in_err-go_on-clause-free
returns-in_err-go_on-clause-free c none =
    let view = c.self.view_is in
    let no = c.in_err-go_on.ensures.free (free_at c.self.inside.rv c.args.self.now.rv c.args.peeked (ap (λ s. s.rv) view) none) in
    absurd (cc)

pub invariant_of-self-2 : goal.invariant_of-self-2
invariant_of-self-2 c =
    let view = c.self.view_is in
    longer_kept _ c.args.self.now c.args.number c.index_mut.result.now c.go_on.new.self c.args.peeked c.self.invariant view c.requires.tag c.requires.sound c.requires.next c.requires.short c.requires.rises
    c.index_mut.ensures.value c.in_ok-go_on.ensures.ok
