use Rattle.fr_state.proofs.DropLemmas.{drop_keeps_bounds, drop_has_end, drop_has_cut, drop_has_source, drop_keeps_source}
use Rattle.fr_state.proofs.laws.left_law.Goals as goal

pub returns-clause-bounds : goal.returns-clause-bounds
returns-clause-bounds c = drop_keeps_bounds

pub returns-clause-end : goal.returns-clause-end
returns-clause-end c = drop_has_end

pub returns-clause-cut : goal.returns-clause-cut
returns-clause-cut c = drop_has_cut

pub returns-clause-source : goal.returns-clause-source
returns-clause-source c = drop_has_source

pub returns-clause-kept : goal.returns-clause-kept
returns-clause-kept c = drop_keeps_source
