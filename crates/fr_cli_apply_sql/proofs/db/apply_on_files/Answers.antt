use Rattle.std.proofs.Common.{subst}
use Rattle.fr_cli_json.specs.Command.{Prints}
use Rattle.fr_cli_apply.specs.Script.{script_of}
use Rattle.fr_cli_apply.specs.Lines.{lines_from}
use Rattle.fr_cli_apply_sql.specs.Db.{Holds, Keeps, answer_of}
use Rattle.fr_cli_apply_sql.proofs.DbLemmas.{of_held}
use Rattle.fr_cli_apply_sql.proofs.db.apply_on_files.Goals as goal

pub returns-in-Ok-clause-prints : goal.returns-in-Ok-clause-prints
returns-in-Ok-clause-prints g c = λ x h.
    subst (λ s. Prints script_of (lines_from s) (g.R.Read.remaining c.args.reader.now) (g.R.Read.remaining c.apply_and_shut.new.reader) g.W.Write.contents c.args.writer.now c.apply_and_shut.new.writer (answer_of c.apply_and_shut.result))
    (c.in-Ok.ensures.found x h) c.apply_and_shut.ensures.prints

pub returns-in-Ok-clause-left : goal.returns-in-Ok-clause-left
returns-in-Ok-clause-left g c =
    of_held c.apply_and_shut.result (λ files x. Keeps g.D.Disk x (g.R.Read.remaining c.args.reader.now) (g.R.Read.remaining c.apply_and_shut.new.reader) files)
    (Holds g.D.Disk c.args.files) _ c.in-Ok.ensures.found c.apply_and_shut.ensures.left
