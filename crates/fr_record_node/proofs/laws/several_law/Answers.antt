use Rattle.fr_record_node.proofs.SeveralLemmas.{after_apart, told_apart, written_apart}
use Rattle.fr_record_node.proofs.laws.several_law.Goals as goal

pub returns : goal.returns
returns g c = record {
  after = after_apart g.M.Machine.after;
  told = told_apart g.M.Machine.after g.M.Machine.told;
  written = written_apart g.M.Machine.after g.M.Recorded.written;
}
