-- What a call that reads makes of a store, if it told whether it met the device.
use Rattle.std.proofs.Common.{◌≡◌, Bool, false, Result, sym, subst}
use Rattle.sqlite.specs.Held.{Held, state}
use Rattle.sqlite_trees.specs.declared.store.Store.{Ghosts}
use Rattle.fr_undo.specs.declared.fault.StoreFault.{StoreFault}
use Rattle.fr_undo.specs.State.{StoreState}
use Rattle.fr_undo.specs.Calls.{met_device}
use Rattle.fr_sql_rows.specs.Told.{Told}
use Rattle.fr_sql_calls.specs.WorkCalls.{Looks}
use Rattle.fr_sql_store.specs.Tables.{state_in, Seen, state_of, IsStoreOf}
use Rattle.fr_sql_store.proofs.StoreLemmas.{Lawful, then_seen, ReadsOf, shows_tables, read_store, reads}

module _ {S : Type 0} (g : Ghosts S) (law : Lawful g) where
  pub read_by : {T : Type 0} (old : Seen S) (conn : Held S) (told : Told) (result : Result T StoreFault) (failed : Bool) → failed ≡ met_device result → IsStoreOf g old → old.failed ≡ false → Looks (state g old.conn) (state g conn) result → IsStoreOf g (then_seen g law old conn told failed)
  read_by old conn told result failed is i works l = subst (λ b. IsStoreOf g (then_seen g law old conn told b)) (sym is) (read_store g law old conn told result i works l)

  pub reads_by : {T : Type 0} (old : Seen S) (conn : Held S) (told : Told) (result : Result T StoreFault) (failed : Bool) → failed ≡ met_device result → IsStoreOf g old → old.failed ≡ false → Looks (state g old.conn) (state g conn) result → ReadsOf g law old (then_seen g law old conn told failed) result
  reads_by old conn told result failed is i works l = subst (λ b. ReadsOf g law old (then_seen g law old conn told b) result) (sym is) (reads g law old conn told result i works l)

  -- what was read of the tables is what the store shows
  pub shown_by : (P : StoreState → Type 0) (s : Seen S) → s.failed ≡ false → P (state_in (state g s.conn).now.trees) → P (state_of g s)
  shown_by P s works h = subst P (sym (shows_tables g law s works)) h
