use Rattle.std.proofs.Common.{IsTrue, sym, subst, ◌∙◌}
use Rattle.std.proofs.lemmas.Bool.{and_parts}
use Rattle.sqlite_wal.specs.PageSize.{bytes_of}
use Rattle.fr_sql_files.proofs.ShutLemmas.{opened_leaves, refused_leaves, refused_readable, ready_fresh}
use Rattle.fr_sql_files.proofs.tables.FileStoreFileTables.again.Goals as goal

pub open_numbered-requires : goal.open_numbered-requires
open_numbered-requires g c =
    let both = and_parts _ _ (sym c.may_be_used.ensures ∙ c.if-not-may_be_used.false) in
    subst (λ p. IsTrue (g.D.Disk.is_usable p.0) × IsTrue (g.D.Disk.is_usable p.1)) (sym c.in-Ok.ensures.files) both

pub invariant_of-result-in-Err-open_numbered : goal.invariant_of-result-in-Err-open_numbered
invariant_of-result-in-Err-open_numbered g c =
    record { readable = refused_readable g.D.Disk g.met.D.FaithfulDisk.faithful (bytes_of c.args.kept.size) c.args.kept.files c.args.kept.readable g.met.D.Disk.seen_may_stay c.in-Ok.fresh c.in-Ok.ensures.size c.in-Ok.ensures.files c.in-Err-open_numbered.left c.close.result c.in-Err-open_numbered.ensures.unharmed c.close.ensures }

pub returns-in-Ok-open_numbered-clause-fresh : goal.returns-in-Ok-open_numbered-clause-fresh
returns-in-Ok-open_numbered-clause-fresh g c =
    ready_fresh g.D.Disk g.met.D.FaithfulDisk.faithful c.in-Ok-open_numbered.store c.in-Ok-open_numbered.ensures.ready c.in-Ok-open_numbered.ensures.numbered

pub returns-in-Ok-open_numbered-clause-leaves : goal.returns-in-Ok-open_numbered-clause-leaves
returns-in-Ok-open_numbered-clause-leaves g c =
    opened_leaves g.D.Disk g.met.D.FaithfulDisk.faithful (bytes_of c.args.kept.size) c.args.kept.files c.args.kept.readable g.met.D.Disk.seen_may_stay c.in-Ok.fresh c.in-Ok.ensures.size c.in-Ok.ensures.files c.in-Ok-open_numbered.store c.in-Ok-open_numbered.ensures.kept (c.in-Ok-open_numbered.ensures.schema ∙ c.in-Ok.ensures.trees) c.in-Ok-open_numbered.ensures.ready.unaltered

pub returns-in-Err-open_numbered-clause-still : goal.returns-in-Err-open_numbered-clause-still
returns-in-Err-open_numbered-clause-still g c =
    refused_leaves g.D.Disk g.met.D.FaithfulDisk.faithful (bytes_of c.args.kept.size) c.args.kept.files c.args.kept.readable g.met.D.Disk.seen_may_stay c.in-Ok.fresh c.in-Ok.ensures.size c.in-Ok.ensures.files c.in-Err-open_numbered.left c.close.result c.in-Err-open_numbered.ensures.unharmed c.close.ensures
