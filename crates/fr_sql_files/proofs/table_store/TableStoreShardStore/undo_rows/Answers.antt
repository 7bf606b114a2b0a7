use Rattle.std.proofs.Common.{◌≡◌, sym}
use Rattle.std.specs.FinMap as map
use Rattle.fr_undo.specs.State.{place_cmp}
use Rattle.fr_sql_files.proofs.LinkLemmas.{shown_open, shown_shut}
use Rattle.fr_sql_files.proofs.table_store.TableStoreShardStore.undo_rows.Goals as goal

pub returns-in-Open : goal.returns-in-Open
returns-in-Open g c = shown_open g.S.Store g.S.FileTables.KeptLeaves (λ x. c.undo_rows.result ≡ map.len x.undo) c.in-Open.store c.args.self.now.link c.in-Open.is c.undo_rows.ensures

pub returns-in-Shut : goal.returns-in-Shut
returns-in-Shut g c = shown_shut g.S.Store g.S.FileTables.KeptLeaves (λ x. 0 ≡ map.len x.undo) _ c.args.self.now.link c.in-Shut.is (sym (map.len-empty place_cmp _))
