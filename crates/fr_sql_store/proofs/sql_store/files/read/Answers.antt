use Rattle.std.proofs.Common.{ap, ◌∙◌}
use Rattle.sqlite.specs.Effect.{Database}
use Rattle.fr_sql_store.specs.Tables.{state_in}
use Rattle.fr_sql_store.proofs.sql_store.files.read.Goals as goal

pub returns-clause-state : goal.returns-clause-state
returns-clause-state g c = c.over.ensures.state ∙ ap state_in (ap (λ (d : Database). d.trees) c.in_ok-found.ensures.same.now ∙ c.in_ok-conn.ensures.trees)
