use Rattle.fr_undo.proofs.index.RowIndex.strike.Goals as goal

pub returns-clause-struck : goal.returns-clause-struck
returns-clause-struck c = λ q w. c.remove.ensures.updates.0 (q, w)
