use Rattle.fr_run_headline.proofs.Numbers.{numbers_chain, numbers_told}
use Rattle.fr_run_headline.proofs.versions.number_law.Goals as goal

pub returns : goal.returns
returns c = record { chain = numbers_chain c.node_laws.ensures; told = numbers_told c.node_laws.ensures }
