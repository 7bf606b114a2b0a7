use Rattle.fr_undo.proofs.IndexLemmas.{first_struck}
use Rattle.fr_undo.proofs.rows.drop_first.Goals as goal

pub returns-in-Some-clause-order : goal.returns-in-Some-clause-order
returns-in-Some-clause-order c =
    (first_struck c.args.index.now c.strike.new.self c.args.rows.now.items c.pop_front.new.self.items (c.in-Some.place, c.in-Some.field-0-1) c.in-Some.ensures.items c.requires.order c.requires.index c.strike.ensures.through c.strike.ensures.struck).0

pub returns-in-Some-clause-index : goal.returns-in-Some-clause-index
returns-in-Some-clause-index c =
    (first_struck c.args.index.now c.strike.new.self c.args.rows.now.items c.pop_front.new.self.items (c.in-Some.place, c.in-Some.field-0-1) c.in-Some.ensures.items c.requires.order c.requires.index c.strike.ensures.through c.strike.ensures.struck).1
