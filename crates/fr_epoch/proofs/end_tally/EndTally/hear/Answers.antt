use Rattle.std.proofs.Common.{sym, rules}
use Rattle.fr_epoch.specs.declared.reply.Reply.{Reply}
use Rattle.fr_epoch.proofs.Ends.{none_replied, counted_once, heard_again}
use Rattle.fr_epoch.proofs.end_tally.EndTally.hear.Goals as goal

pub add-requires-clause-first : goal.add-requires-clause-first
add-requires-clause-first c = none_replied c.args.self.now.replies c.args.index (sym c.in-None.ensures)

pub returns-then-eq-2-clause-ok : goal.returns-then-eq-2-clause-ok
returns-then-eq-2-clause-ok c =
    let r : Reply = record { log = c.args.index; durable = c.args.durable; known = c.args.known } in
    let low = c.if-index-self.false in
    heard_again c.args.self.now r c.in-Some.held (search rules) (sym c.in-Some.ensures) (search rules) (search rules)

pub returns-then-eq-2-clause-counted : goal.returns-then-eq-2-clause-counted
returns-then-eq-2-clause-counted c =
    let r : Reply = record { log = c.args.index; durable = c.args.durable; known = c.args.known } in
    counted_once c.args.self.now r c.in-Some.held (sym c.in-Some.ensures)

pub returns-else-eq-clause-counted : goal.returns-else-eq-clause-counted
returns-else-eq-clause-counted c =
    let r : Reply = record { log = c.args.index; durable = c.args.durable; known = c.args.known } in
    counted_once c.args.self.now r c.in-Some.held (sym c.in-Some.ensures)
