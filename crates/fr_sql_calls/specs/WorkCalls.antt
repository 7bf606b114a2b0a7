-- What a call makes of the connection.
use Rattle.std.specs.Prelude.{◌≡◌, ◌≢◌, Result, Err, IfErr, IsTrue}
use Rattle.sqlite.specs.Tree.{Trees}
use Rattle.sqlite.specs.Effect.{Database}
use Rattle.sqlite.specs.State.{State}
use Rattle.fr_undo.specs.declared.fault.StoreFault.{StoreFault}
use Rattle.fr_undo.specs.declared.fault.StoreFault.TheVariants.{Device}
use Rattle.fr_undo.specs.Calls.{IsTrouble}
use Rattle.fr_sql_rows.specs.Connection.{IsAtRest, KeepsIfOpen, CommitsNothing}

-- a store in SQL can meet each trouble
abbrev pub MeetsAll : StoreFault → Type 0
MeetsAll fault = Unit {0}

-- a call that reads: unless the device failed the connection is open, and while it is open the same is there; nothing is committed
pub record Looks {T : Type 0} (old new : State) (result : Result T StoreFault) : Type 0 where
  pub opened : (result ≢ Err Device) → IsTrue new.is_open
  pub keeps : KeepsIfOpen old new
  pub survives : CommitsNothing old new
  pub trouble : IfErr result (IsTrouble MeetsAll)

-- if the connection is open it was, and is as it was; nothing is committed
pub record Steps (old new : State) : Type 0 where
  pub was_open : IsTrue new.is_open → IsTrue old.is_open
  pub keeps : IsAtRest old → KeepsIfOpen old new
  pub survives : CommitsNothing old new

-- the tables are made what they are to become, and it is committed
pub record IsDone (Made : Database → Database → Type 0) (old new : State) : Type 0 where
  pub rest : IsAtRest new
  pub made : Made old.now new.now

-- a crash leaves tables that are made of those before
abbrev pub MayMake : (Database → Database → Type 0) → State → Trees → Type 0
MayMake Made old db = (d : Database) × Made old.now d × (db ≡ d.trees)
