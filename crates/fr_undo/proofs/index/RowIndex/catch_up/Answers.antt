use Rattle.fr_undo.proofs.IndexLemmas.{caught_up}
use Rattle.fr_undo.proofs.index.RowIndex.catch_up.Goals as goal

pub returns-in_ok-list_from-clause-index : goal.returns-in_ok-list_from-clause-index
returns-in_ok-list_from-clause-index c =
    let e = c.in_ok-list_from.ensures in
    caught_up c.args.rows.now.items c.count_through-first.result c.args.self.now.through c.args.applied c.args.self.now.places c.list_from.new.places c.requires.index c.count_through-first.ensures.back e.all e.kept (e.rows c.requires.index.only)
