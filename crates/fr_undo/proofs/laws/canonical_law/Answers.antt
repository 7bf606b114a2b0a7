use Rattle.fr_undo.proofs.CanonicalLaw.{from_fresh, leads_on}
use Rattle.fr_undo.proofs.laws.canonical_law.Goals as goal

pub returns-clause-fresh : goal.returns-clause-fresh
returns-clause-fresh c = from_fresh

pub returns-clause-leads_on : goal.returns-clause-leads_on
returns-clause-leads_on c = leads_on
