use Rattle.std.proofs.Common.{Ok, sym, subst}
use Rattle.fr_sql_files.specs.Linked.{ShutLeaves, IsParted}
use Rattle.fr_sql_files.proofs.shut.files_of.Goals as goal

pub returns-in-Store : goal.returns-in-Store
returns-in-Store g c = record { parted = subst (λ s. IsParted g.S.Store g.S.FileTables.KeptLeaves (ShutLeaves g.S.Store g.S.FileTables.KeptLeaves s) c.apart.result) (sym c.in-Store.is) c.apart.ensures.parted }

pub returns-in-Files : goal.returns-in-Files
returns-in-Files g c = record { parted = subst (λ s. IsParted g.S.Store g.S.FileTables.KeptLeaves (ShutLeaves g.S.Store g.S.FileTables.KeptLeaves s) (Ok c.in-Files.kept)) (sym c.in-Files.is) (record { leaves = λ x may. may; still = tt; trouble = tt }) }
