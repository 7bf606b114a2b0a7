use Rattle.fr_sql_store.proofs.StoreLemmas.{begun_store, begun_state}
use Rattle.fr_sql_store.proofs.sql_store.SqlStore.laid.Goals as goal

pub invariant_of-result-in-Ok-2 : goal.invariant_of-result-in-Ok-2
invariant_of-result-in-Ok-2 g c = begun_store _ c.in-Ok.ensures.rest c.in-Ok.ensures.begun c.in-Ok.ensures.laid

pub returns-in-Ok-clause-empty : goal.returns-in-Ok-clause-empty
returns-in-Ok-clause-empty g c = begun_state _ c.in-Ok.ensures.begun
