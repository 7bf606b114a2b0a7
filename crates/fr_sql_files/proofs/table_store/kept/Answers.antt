use Rattle.std.proofs.Common.{sym, subst}
use Rattle.fr_sql_store.specs.Tables.{StoreLeaves}
use Rattle.fr_sql_files.specs.Linked.{MayLeave, IsParted}
use Rattle.fr_sql_files.proofs.LinkLemmas.{parted_from}
use Rattle.fr_sql_files.proofs.table_store.kept.Goals as goal

pub returns-in-Open : goal.returns-in-Open
returns-in-Open g c =
    record { parted = subst (λ l. IsParted g.S.Store g.S.FileTables.KeptLeaves (MayLeave g.S.Store g.S.FileTables.KeptLeaves l) c.apart.result) (sym c.in-Open.is) (parted_from g.S.Store g.S.FileTables.KeptLeaves _ (StoreLeaves g.S.Store c.into_store.result) c.apart.result (λ x may. c.into_store.ensures x may) c.apart.ensures.parted) }

pub returns-in-Shut : goal.returns-in-Shut
returns-in-Shut g c = record { parted = subst (λ l. IsParted g.S.Store g.S.FileTables.KeptLeaves (MayLeave g.S.Store g.S.FileTables.KeptLeaves l) c.files_of.result) (sym c.in-Shut.is) c.files_of.ensures.parted }
