-- What a machine of any kind answers a read at a version.
use Rattle.std.specs.Prelude.{ℕ, List, Option, None, Some, Result, Ok, Err, if◌then◌else◌}
use Rattle.fr_mutation.specs.declared.shard.Shard.{Shard}
use Rattle.fr_undo.specs.State.{StoreState}
use Rattle.fr_storage.specs.declared.fault.ReadFault.{ReadFault}
use Rattle.fr_storage.specs.declared.fault.ReadFault.TheVariants as read
use Rattle.fr_storage.specs.Reads.{read_fault}
use Rattle.fr_storage.specs.Server.{Server}
use Rattle.fr_part.specs.declared.fault.ReadRefusal.{ReadRefusal}
use Rattle.fr_part.specs.declared.fault.ReadRefusal.TheVariants as unread
use Rattle.fr_part.specs.declared.part.Part.{Part}
use Rattle.fr_part.specs.declared.part.Part.TheVariants as part

-- the machine is a storage server, and this is so of it
abbrev pub IfStorage : Part → (Server StoreState → Type 0) → Type 0
IfStorage (part.Cell c) P = ⊥
IfStorage (part.Log l) P = ⊥
IfStorage (part.Sequencer q) P = ⊥
IfStorage (part.Proxy p) P = ⊥
IfStorage (part.Recoverer r) P = ⊥
IfStorage (part.Storage s) P = P s
IfStorage (part.Store s) P = ⊥

-- why a read is refused, as its holder is told
abbrev pub told_of : Option ReadFault → Option ReadRefusal
told_of None = None
told_of (Some read.NotMine) = Some unread.NotMine
told_of (Some read.TooOld) = Some unread.TooOld
told_of (Some read.FutureVersion) = Some unread.FutureVersion
told_of (Some (read.Store fault)) = None

-- why a storage server does not answer a read, if there is memory: it is amid an answer, or the read is refused
abbrev pub unread_by : Server StoreState → Shard → List ℕ → ℕ → Option ReadRefusal
unread_by s shard key version = if s.failed then Some unread.Part else told_of (read_fault shard s.floor s.applied key version)

abbrev pub unread_of : Part → Shard → List ℕ → ℕ → Option ReadRefusal
unread_of (part.Cell c) shard key version = Some unread.Kind
unread_of (part.Log l) shard key version = Some unread.Kind
unread_of (part.Sequencer q) shard key version = Some unread.Kind
unread_of (part.Proxy p) shard key version = Some unread.Kind
unread_of (part.Recoverer r) shard key version = Some unread.Kind
unread_of (part.Storage s) shard key version = unread_by s shard key version
unread_of (part.Store s) shard key version = Some unread.Kind

-- why an answer says no value, if it is for another reason than memory
abbrev pub unread_in : {T : Type 0} → Result T ReadRefusal → Option ReadRefusal
unread_in (Ok value) = None
unread_in (Err unread.Memory) = None
unread_in (Err unread.Kind) = Some unread.Kind
unread_in (Err unread.Part) = Some unread.Part
unread_in (Err unread.NotMine) = Some unread.NotMine
unread_in (Err unread.TooOld) = Some unread.TooOld
unread_in (Err unread.FutureVersion) = Some unread.FutureVersion
