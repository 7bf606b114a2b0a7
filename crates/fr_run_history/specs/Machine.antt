-- The service as one abstract machine: a list of batches that grows at its end alone, of which each storage server answers from a front.
use Rattle.std.specs.Prelude.{◌≡◌, ◌<◌, ◌≤◌, ℕ, nat_le, map, filter, List, [], ◌∷◌, ◌++◌, Option, None, Some, Contains}
use Rattle.std.specs.FinMap.{empty, get}
use Rattle.fr_base.specs.Map.{Map}
use Rattle.fr_mutation.specs.declared.mutation.Mutation.{Mutation}
use Rattle.fr_undo.specs.Canonical.{contents_after}
use Rattle.fr_run_history.specs.History.{Reading}

-- the name of a batch: the request of a proxy of an epoch
pub record Name : Type 0 where
  pub epoch : ℕ
  pub proxy : ℕ
  pub request : ℕ

-- a committed batch at its version
pub record Item : Type 0 where
  pub version : ℕ
  pub name : Name
  pub batch : List Mutation

-- the machine: the batches submitted; the list of those that are committed, and the version through which no more come
-- into it; the names of those acknowledged; and for each storage server's tag the version through which it answers from
-- the list for good
pub record Machine : Type 0 where
  pub submitted : List (Name × List Mutation)
  pub list : List Item
  pub final : ℕ
  pub acknowledged : List Name
  pub settled : ℕ → ℕ

abbrev pub start : Machine
start = record { submitted = []; list = []; final = 0; acknowledged = []; settled = λ tag. 0 }

-- what may come to the list's end: submitted batches, their versions rising above `low` through `high`, none in the
-- list yet, none twice
abbrev pub AreNew : Machine → ℕ → List Item → ℕ → Type 0
AreNew a low [] high = low ≤ high
AreNew a low (i ∷ items) high =
    (low < i.version) × Contains a.submitted (i.name, i.batch) × ((j : Item) → Contains (a.list ++ items) j → j.name ≡ i.name → ⊥) × AreNew a i.version items high

-- the map that the batches through a version make of the empty one
abbrev pub map_at : ℕ → List Item → Map
map_at version list = contents_after empty (map (λ (i : Item). (i.version, i.batch)) (filter (λ (i : Item). nat_le i.version version) list))

-- what clients see: that a batch is taken, that it is committed at a version, and what a read is answered
pub data Seen : Type 0 where
  Taken : (name : Name) (batch : List Mutation) → Seen
  Acknowledged : (name : Name) (version : ℕ) → Seen
  Answered : (reading : Reading) → Seen

-- the steps, each with what clients see of it, if anything: a client submits a batch, under a new name; the list grows
-- at its end, or is final through a later version; storage servers settle more of what is final; a batch of the list is
-- acknowledged; a server answers a read at a version through which it is settled; nothing
pub data IsStep (a : Machine) : Option Seen → Machine → Type 0 where
  Submits : (name : Name) (batch : List Mutation) → ((other : List Mutation) → Contains a.submitted (name, other) → ⊥) → IsStep a (Some (Taken name batch)) (record a { submitted = (name, batch) ∷ a.submitted })
  Appends : (items : List Item) (final : ℕ) → AreNew a a.final items final → IsStep a None (record a { list = a.list ++ items; final = final })
  Settles : (settled : ℕ → ℕ) → ((tag : ℕ) → a.settled tag ≤ settled tag) → ((tag : ℕ) → settled tag ≤ a.final) → IsStep a None (record a { settled = settled })
  Acknowledges : (name : Name) (version : ℕ) (batch : List Mutation) → Contains a.list (record { version = version; name = name; batch = batch })
      → IsStep a (Some (Acknowledged name version)) (record a { acknowledged = name ∷ a.acknowledged })
  Reads : (r : Reading) → r.version ≤ a.settled r.tag → r.value ≡ get (map_at r.version a.list) r.key → IsStep a (Some (Answered r)) a
  Rests : IsStep a None a

-- a run of the machine: steps, with the machine after each, the newest first
pub record Move : Type 0 where
  pub seen : Option Seen
  pub after : Machine

abbrev pub machine_after : List Move → Machine
machine_after [] = start
machine_after (move ∷ moves) = move.after

abbrev pub IsMachineRun : List Move → Type 0
IsMachineRun [] = Unit {0}
IsMachineRun (move ∷ moves) = IsStep (machine_after moves) move.seen move.after × IsMachineRun moves
