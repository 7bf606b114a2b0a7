use Rattle.fr_run.proofs.Register.{parent_is_read, parent_is_greatest, run_has_parents, parents_descend}
use Rattle.fr_run.proofs.laws.parents_law.Goals as goal

pub returns : goal.returns
returns c =
    let laws = c.node_laws.ensures in
    record { greatest = parent_is_greatest laws; read = parent_is_read laws; parents = run_has_parents laws; descend = parents_descend laws }
