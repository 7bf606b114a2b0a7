use Rattle.std.proofs.Common.{◌≡◌, refl}
use Rattle.fr_undo.specs.State.{IsStoreState}
use Rattle.fr_undo.proofs.StateLemmas.{fresh_sound}
use Rattle.fr_sql_files.proofs.LinkLemmas.{shown_open, shown_shut}
use Rattle.fr_sql_files.proofs.table_store.TableStoreShardStore.floor.Goals as goal

pub returns-in-Open-clause-value : goal.returns-in-Open-clause-value
returns-in-Open-clause-value g c = shown_open g.S.Store g.S.FileTables.KeptLeaves (λ x. c.floor.result ≡ x.floor) c.in-Open.store c.args.self.now.link c.in-Open.is c.floor.ensures.value

pub returns-in-Open-clause-sound : goal.returns-in-Open-clause-sound
returns-in-Open-clause-sound g c = shown_open g.S.Store g.S.FileTables.KeptLeaves IsStoreState c.in-Open.store c.args.self.now.link c.in-Open.is c.floor.ensures.sound

pub returns-in-Shut-clause-value : goal.returns-in-Shut-clause-value
returns-in-Shut-clause-value g c = shown_shut g.S.Store g.S.FileTables.KeptLeaves (λ x. 0 ≡ x.floor) _ c.args.self.now.link c.in-Shut.is refl

pub returns-in-Shut-clause-sound : goal.returns-in-Shut-clause-sound
returns-in-Shut-clause-sound g c = shown_shut g.S.Store g.S.FileTables.KeptLeaves IsStoreState _ c.args.self.now.link c.in-Shut.is fresh_sound
