-- Reads of a storage server at a version.
use Rattle.std.specs.Prelude.{ℕ, Bool, true, false, nat_lt, not, List, Option, None, Some, Result, Ok, Err, if◌then◌else◌}
use Rattle.fr_mutation.specs.declared.shard.Shard.{Shard}
use Rattle.fr_mutation.specs.Shard.{in_shard}
use Rattle.fr_undo.specs.declared.fault.StoreFault.{StoreFault}
use Rattle.fr_undo.specs.Calls.{is_device}
use Rattle.fr_storage.specs.declared.fault.ReadFault.{ReadFault}
use Rattle.fr_storage.specs.declared.fault.ReadFault.TheVariants.{NotMine, TooOld, FutureVersion, Store}

-- why a read of a key at a version is refused, by the shard, the floor and the version applied
abbrev pub read_fault : Shard → ℕ → ℕ → List ℕ → ℕ → Option ReadFault
read_fault shard floor applied key version =
    if not (in_shard shard key) then Some NotMine
    else if nat_lt version floor then Some TooOld
    else if nat_lt applied version then Some FutureVersion
    else None

-- why an answer refuses a read, if it does so for another reason than the store
abbrev pub read_refusal : {T : Type 0} → Result T ReadFault → Option ReadFault
read_refusal (Ok x) = None
read_refusal (Err NotMine) = Some NotMine
read_refusal (Err TooOld) = Some TooOld
read_refusal (Err FutureVersion) = Some FutureVersion
read_refusal (Err (Store fault)) = None

-- the fault of the store in an answer, if it is one
abbrev pub read_trouble : {T : Type 0} → Result T ReadFault → Option StoreFault
read_trouble (Ok x) = None
read_trouble (Err NotMine) = None
read_trouble (Err TooOld) = None
read_trouble (Err FutureVersion) = None
read_trouble (Err (Store fault)) = Some fault

-- whether an answer is a fault of the device, which leaves the server failed
abbrev pub met_in_read : {T : Type 0} → Result T ReadFault → Bool
met_in_read (Ok x) = false
met_in_read (Err NotMine) = false
met_in_read (Err TooOld) = false
met_in_read (Err FutureVersion) = false
met_in_read (Err (Store fault)) = is_device fault
