-- What a call of a store may answer, and what a crash may leave after it.
use Rattle.std.specs.Prelude.{◌≡◌, ◌≢◌, ◌⊎◌, ◌↔◌, ◌||◌, Bool, true, false, Result, Ok, Err, OnOk, OnErr, IfErr, IsTrue}
use Rattle.fr_undo.specs.declared.fault.StoreFault.{StoreFault}
use Rattle.fr_undo.specs.declared.fault.StoreFault.TheVariants.{Device, Full, Failed, Memory, NotAfter, BelowFloor, AboveApplied}
use Rattle.fr_undo.specs.State.{StoreState, IsStoreState}

-- a fault of the device, its room or memory, which the store can meet
abbrev pub IsTrouble : (StoreFault → Type 0) → StoreFault → Type 0
IsTrouble CanMeet Device = CanMeet Device
IsTrouble CanMeet Full = CanMeet Full
IsTrouble CanMeet Failed = ⊥
IsTrouble CanMeet Memory = CanMeet Memory
IsTrouble CanMeet NotAfter = ⊥
IsTrouble CanMeet BelowFloor = ⊥
IsTrouble CanMeet AboveApplied = ⊥

-- whether a fault is the device's
abbrev pub is_device : StoreFault → Bool
is_device Device = true
is_device Full = false
is_device Failed = false
is_device Memory = false
is_device NotAfter = false
is_device BelowFloor = false
is_device AboveApplied = false

-- whether a call met a fault of the device
abbrev pub met_device : {T : Type 0} → Result T StoreFault → Bool
met_device (Ok x) = false
met_device (Err fault) = is_device fault

-- a crash leaves the one state or the other, and nothing else
abbrev pub LeavesOneOf : (StoreState → Type 0) → StoreState → StoreState → Type 0
LeavesOneOf MayLeave before after = (x : StoreState) → MayLeave x → (x ≡ before) ⊎ (x ≡ after)

-- a crash leaves nothing after that it could not leave before
abbrev pub LeavesNoMore : (StoreState → Type 0) → (StoreState → Type 0) → Type 0
LeavesNoMore Before After = (x : StoreState) → After x → Before x

-- a store that is not failed stands as before
abbrev pub StaysUnlessFailed : Bool → StoreState → StoreState → Type 0
StaysUnlessFailed failed before after = failed ≡ false → after ≡ before

-- a crash leaves a store that is not failed as it is
abbrev pub LeftAsIs : Bool → StoreState → (StoreState → Type 0) → Type 0
LeftAsIs failed state MayLeave = failed ≡ false → (x : StoreState) → MayLeave x ↔ (x ≡ state)

-- what each call that only reads keeps, and why it fails, in a store that is shown by its state, whether it failed and what a crash may leave
pub record Reads {S T : Type 0} (state : S → StoreState) (is_failed : S → Bool) (MayLeave : S → StoreState → Type 0) (CanMeet : StoreFault → Type 0) (old new : S) (result : Result T StoreFault) : Type 0 where
  pub failed : (result ≡ Err Failed) ↔ IsTrue (is_failed old)
  pub trouble : IfErr result (λ fault. fault ≢ Failed → IsTrouble CanMeet fault)
  pub same : StaysUnlessFailed (is_failed new) (state old) (state new)
  pub fails : is_failed new ≡ (is_failed old || met_device result)
  pub leaves : LeavesNoMore (MayLeave old) (MayLeave new)
  pub left_as_is : LeftAsIs (is_failed new) (state new) (MayLeave new)

-- what each call that writes nothing keeps, also one that refuses by the state: its other clauses say why it fails
pub record WritesNothing {S T : Type 0} (state : S → StoreState) (is_failed : S → Bool) (MayLeave : S → StoreState → Type 0) (old new : S) (result : Result T StoreFault) : Type 0 where
  pub failed : (result ≡ Err Failed) ↔ IsTrue (is_failed old)
  pub same : StaysUnlessFailed (is_failed new) (state old) (state new)
  pub fails : is_failed new ≡ (is_failed old || met_device result)
  pub leaves : LeavesNoMore (MayLeave old) (MayLeave new)
  pub left_as_is : LeftAsIs (is_failed new) (state new) (MayLeave new)

-- what each call that writes does, if it is to make the state `after`: all of it, or nothing, or the store is failed
-- and a crash leaves one or the other
pub record Writes {S : Type 0} (state : S → StoreState) (is_failed : S → Bool) (MayLeave : S → StoreState → Type 0) (old new : S) (after : StoreState) (result : Result (Unit {0}) StoreFault) : Type 0 where
  pub ok : OnOk result (state new ≡ after)
  pub failed : (result ≡ Err Failed) ↔ IsTrue (is_failed old)
  pub err : OnErr result (StaysUnlessFailed (is_failed new) (state old) (state new))
  pub fails : is_failed new ≡ (is_failed old || met_device result)
  pub device : (result ≡ Err Device) → LeavesOneOf (MayLeave new) (state old) after
  pub still : (result ≡ Err Failed) → LeavesNoMore (MayLeave old) (MayLeave new)
  pub sound : IsStoreState (state new)
  pub left_as_is : LeftAsIs (is_failed new) (state new) (MayLeave new)
