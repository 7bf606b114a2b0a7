use Rattle.std.proofs.Common.{rules, inr, sym, ap, ◌∙◌}
use Rattle.sqlite.specs.Effect.{Database}
use Rattle.fr_sql_store.proofs.EmptyLemmas.{lists_nothing}
use Rattle.fr_sql_store.proofs.sql_store.files.opening.recognized_or_made.Goals as goal

pub returns-in-Ok-clause-state : goal.returns-in-Ok-clause-state
returns-in-Ok-clause-state g c =
    inr (lists_nothing _ _ (sym (ap (λ (d : Database). d.schema) c.requires.rest.settled) ∙ c.has_no_table.ensures (search rules)) c.requires.sound, c.in-Ok.ensures.empty)
