use Rattle.std.proofs.Common.{subst}
use Rattle.std.specs.Prelude.{OnOk}
use Rattle.std.specs.Io.KnownBytes.{Appends}
use Rattle.fr_sql_store.specs.Files.{HoldStore}
use Rattle.fr_cli_json.specs.Text.{GainsFront}
use Rattle.fr_cli_json.proofs.TextLemmas.{gains_none}
use Rattle.fr_cli_apply_sql.specs.Db.{Holds, show_lines}
use Rattle.fr_cli_apply_sql.proofs.DbLemmas.{of_held}
use Rattle.fr_cli_apply_sql.proofs.db.show_files.Goals as goal

pub returns-in-Ok-clause-shown : goal.returns-in-Ok-clause-shown
returns-in-Ok-clause-shown g c = λ x h.
    subst (λ s. OnOk c.show_and_shut.result (Appends (g.W.Write.contents c.args.writer.now) (g.W.Write.contents c.show_and_shut.new.writer) (show_lines s)))
    (c.in-Ok.ensures.found x h) c.show_and_shut.ensures.shown

pub returns-in-Ok-clause-front : goal.returns-in-Ok-clause-front
returns-in-Ok-clause-front g c = λ x h.
    subst (λ s. GainsFront (g.W.Write.contents c.args.writer.now) (g.W.Write.contents c.show_and_shut.new.writer) (show_lines s))
    (c.in-Ok.ensures.found x h) c.show_and_shut.ensures.front

pub returns-in-Ok-clause-holds : goal.returns-in-Ok-clause-holds
returns-in-Ok-clause-holds g c =
    of_held c.show_and_shut.result (λ files x. ∥ HoldStore g.D.Disk files x ∥₁) (Holds g.D.Disk c.args.files) _ c.in-Ok.ensures.found c.show_and_shut.ensures.holds

pub returns-in-Err-clause-front : goal.returns-in-Err-clause-front
returns-in-Err-clause-front g c = λ x h. gains_none _ _
