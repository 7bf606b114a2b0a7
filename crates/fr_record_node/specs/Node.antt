-- A machine whose changes are records of a file.
use Rattle.std.specs.Prelude.{◌≡◌, ℕ, ◌+◌, ◌<◌, Bool, true, false, List, [], ◌∷◌, ◌++◌, length, Option, None, Some, All, Vec}
use Rattle.std.specs.declared.alloc.Global.{Global}
use Rattle.fr_base.specs.declared.node.NodeFault.{NodeFault}
use Rattle.fr_base.specs.declared.node.NodeFault.TheVariants as node
use Rattle.fr_record.specs.declared.fault.RecordFault.{RecordFault}
use Rattle.fr_record.specs.declared.fault.RecordFault.TheVariants.{Device, Full, Failed, Memory, Broken}
use Rattle.fr_record.specs.Disk.{Disk}
use Rattle.fr_record.specs.Moments.{LeavesOnly}
use Rattle.fr_record.specs.File.{frames, AreShort, IsLeft, IsAtRest}
use Rattle.fr_record_node.specs.Several.{after_all, written_all}
use Rattle.fr_record_node.specs.Replay.{replayed}

-- a node over a device: the device, the records of its file, whether the device failed, the machine, and the state to which the asks lead that met the fault
pub record NodeState (D M : Type 0) : Type 0 where
  pub device : D
  pub records : List (List ℕ)
  pub is_failed : Bool
  pub machine : M
  pub owed : Option M

-- the state to which what is asked leads, none if nothing is
abbrev pub owed_of : {M A : Type 0} → (M → A → M) → M → Option A → Option M
owed_of after m None = None
owed_of after m (Some ask) = Some (after m ask)

-- what is asked at once is a vector of asks: where they lead, their records, and whether each is an ask
abbrev pub after_held : {M A : Type 0} → (M → A → M) → M → Vec A Global → M
after_held after m asks = after_all after m asks.items

abbrev pub written_held : {M A : Type 0} → (M → A → M) → (M → A → List (List ℕ)) → M → Vec A Global → List (List ℕ)
written_held after written m asks = written_all after written m asks.items

abbrev pub AreAsks : {A : Type 0} → (A → Type 0) → Vec A Global → Type 0
AreAsks IsAsk asks = All IsAsk asks.items

-- whether a device of this capacity has no room behind the records of its file for those of asks
abbrev pub HasNoRoom : ℕ → List (List ℕ) → List (List ℕ) → Type 0
HasNoRoom capacity records group = capacity < length (frames records) + length (frames group) + 1

-- what a crash leaves while a group is in flight, or none
abbrev pub InFlight : List (List ℕ) → List (List ℕ) → List ℕ → Type 0
InFlight records [] file = IsAtRest records file
InFlight records (r ∷ rs) file = AreShort (records ++ r ∷ rs) × IsLeft records (r ∷ rs) file

-- the records of what is asked, none if nothing is
abbrev pub group_of : {A : Type 0} → (A → List (List ℕ)) → Option A → List (List ℕ)
group_of written None = []
group_of written (Some ask) = written ask

-- what is true of every node, and of what was asked that met the fault
pub record IsNode {D M A : Type 0} (Led : D → D → Type 0) (disk : D → Disk) (fresh : M → M) (replay : M → List ℕ → Option M) (written : M → A → List (List ℕ)) (IsAsk : A → Type 0) (IsSound : M → Type 0) (held : Option A) (n : NodeState D M) : Type 0 where
  -- the records bring the machine back
  pub replays : replayed replay (Some (fresh n.machine)) n.records ≡ Some n.machine
  pub sound : IsSound n.machine
  pub idle : n.is_failed ≡ false → held ≡ None
  pub asked : (ask : A) → held ≡ Some ask → IsAsk ask
  -- while failed, a crash leaves the records with those of what was asked in flight or without them
  pub owed : n.is_failed ≡ true → LeavesOnly Led disk (InFlight n.records (group_of (written n.machine) held)) n.device

-- the fault of a node whose file has this fault
abbrev pub node_fault : RecordFault → NodeFault
node_fault Device = node.Device
node_fault Full = node.Full
node_fault Failed = node.Failed
node_fault Memory = node.Memory
node_fault Broken = node.Broken

-- the faults that a node over a device can meet in an ask
abbrev pub is_trouble : NodeFault → Bool
is_trouble node.Device = true
is_trouble node.Full = true
is_trouble node.Failed = false
is_trouble node.Memory = true
is_trouble node.Broken = false
