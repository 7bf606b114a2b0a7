use Rattle.std.proofs.Common.{◌∙◌}
use Rattle.fr_sql_rows.proofs.OpenTexts.{own_is}
use Rattle.fr_sql_rows.proofs.schema_test.is_store.Goals as goal

pub returns : goal.returns
returns c = λ h. c.is_own.ensures h ∙ own_is
