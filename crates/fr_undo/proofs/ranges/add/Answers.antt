use Rattle.std.proofs.Common.{◌||◌, ap, sym, ◌∙◌}
use Rattle.fr_mutation.specs.Mutation.{is_between}
use Rattle.fr_undo.specs.Changes.{covers}
use Rattle.fr_undo.proofs.RangeLemmas.{hull_holds, apart_holds, or_assoc, both}
use Rattle.fr_undo.proofs.ranges.add.Goals as goal

pub returns-then-meet : goal.returns-then-meet
returns-then-meet c = λ q.
    let m = c.args.merged in
    let r = c.args.range in
    let apart = covers c.args.apart.now.items q in
    let meets = both _ _ (sym c.meet.ensures ∙ c.if-meet.true) in
    (λ i. apart || is_between (c.hull.ensures.begin i) (c.hull.ensures.end i) q)
    ∙ ap (λ b. apart || b) (hull_holds m.0 m.1 r.0 r.1 q meets.0 meets.1)
    ∙ or_assoc apart (is_between m.0 m.1 q) (is_between r.0 r.1 q)

pub returns : goal.returns
returns c = λ q. apart_holds c.args.apart.now.items c.push.new.self.items c.args.range q (is_between c.args.merged.0 c.args.merged.1 q) c.in_ok-push.ensures.items
