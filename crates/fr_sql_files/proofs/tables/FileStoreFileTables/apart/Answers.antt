use Rattle.std.proofs.Common.{rules}
use Rattle.sqlite_wal.specs.PageSize.{bytes_of}
use Rattle.fr_sql_files.specs.Shut.{IsOwn}
use Rattle.fr_sql_files.proofs.ShutLemmas.{apart_leaves, apart_readable}
use Rattle.fr_sql_files.proofs.tables.FileStoreFileTables.apart.Goals as goal

pub invariant_of-result : goal.invariant_of-result
invariant_of-result g c =
    let own : IsOwn (bytes_of c.in-Ok-Some.size) c.args.self = search rules in
    record { readable = apart_readable g.D.Disk g.met.D.FaithfulDisk.faithful c.args.self (bytes_of c.in-Ok-Some.size) c.close.result own c.close.ensures }

pub returns-in-Ok-Some-clause-leaves : goal.returns-in-Ok-Some-clause-leaves
returns-in-Ok-Some-clause-leaves g c =
    let own : IsOwn (bytes_of c.in-Ok-Some.size) c.args.self = search rules in
    apart_leaves g.D.Disk g.met.D.FaithfulDisk.faithful c.args.self (bytes_of c.in-Ok-Some.size) c.close.result own c.close.ensures
