use Rattle.std.proofs.Common.{length, sym, ◌∙◌, arith}
use Rattle.std.proofs.lemmas.Slice.{between_to_end}
use Rattle.fr_record_node.proofs.CellLemmas.{read_ok}
use Rattle.fr_record_node.proofs.cell_file.CellRecorded.read.Goals as goal

pub returns-in-Ok-clause-ok : goal.returns-in-Ok-clause-ok
returns-in-Ok-clause-ok c =
    let r = c.args.change.now in
    read_ok c.args.self.now r c.in-Some.found _ c.in-Ok.cell (sym c.ballots.ensures ∙ c.in-Some.is) (between_to_end r 16 (length r) (omega arith)) c.in-Ok.ensures
