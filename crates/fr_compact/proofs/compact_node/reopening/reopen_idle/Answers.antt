use Rattle.fr_compact.proofs.NodeLemmas.{left_kept, left_again}
use Rattle.fr_compact.proofs.compact_node.reopening.reopen_idle.Goals as goal

pub returns-in-Ok-clause-leaves : goal.returns-in-Ok-clause-leaves
returns-in-Ok-clause-leaves g c = left_kept g.F.GroupFile.records g.F.GroupFile.owed g.F.GroupFile.Throughout g.F.GroupFile.weaker c.reopen.new.self c.in-Ok.ensures.kept

pub returns-in-Err-clause-leaves : goal.returns-in-Err-clause-leaves
returns-in-Err-clause-leaves g c =
    left_again g.F.GroupFile.records g.F.GroupFile.owed g.F.GroupFile.Throughout g.F.GroupFile.weaker g.F.GroupFile.ends c.args.file.now c.reopen.new.self c.in-Err.ensures.err c.in-Err.ensures.owes_still c.reopen.ensures.any_moment
