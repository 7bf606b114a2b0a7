use Rattle.std.proofs.Common.{false}
use Rattle.sqlite.specs.Held.{state}
use Rattle.fr_sql_rows.specs.Told.{none_told}
use Rattle.fr_sql_store.specs.Tables.{Seen}
use Rattle.fr_sql_store.proofs.FileLemmas.{found_store}
use Rattle.fr_sql_store.proofs.StoreLemmas.{Lawful, left}
use Rattle.fr_sql_store.proofs.sql_store.SqlStore.over.Goals as goal

pub invariant_of-result : goal.invariant_of-result
invariant_of-result g c = found_store _ _ _ _ c.requires.rest c.requires.found

pub returns-clause-sound : goal.returns-clause-sound
returns-clause-sound g c =
    ((found_store (state g.S.Store c.args.conn) c.args.found.applied c.args.found.floor c.args.found.rows c.requires.rest c.requires.found).stands c.requires.rest.is_open).sound

pub returns-clause-left_as_is : goal.returns-clause-left_as_is
returns-clause-left_as_is g c =
    let new : Seen _ = record { conn = c.args.conn; applied = c.args.found.applied; floor = c.args.found.floor; rows = c.args.found.rows; failed = false; told = none_told } in
    let law : Lawful g.S.Store = record { clean = g.met.S.Backing.clean; settled = g.met.S.Store.settled; stays = g.met.S.Store.stays } in
    left g.S.Store law new (found_store _ _ _ _ c.requires.rest c.requires.found)
