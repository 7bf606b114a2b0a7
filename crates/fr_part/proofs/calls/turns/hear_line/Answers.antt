use Rattle.fr_part.proofs.calls.turns.hear_line.Goals as goal

-- the node and the tell that were read, which is not refused
pub returns-in-Ok-hear-clause-done : goal.returns-in-Ok-hear-clause-done
returns-in-Ok-hear-clause-done c =
    λ _. (c.in-Ok.heard.0, c.in-Ok.heard.1, (λ refused. let wrong = c.in-Ok-hear.ensures.refused.1 refused in cc), c.in-Ok-hear.ensures.heard)
