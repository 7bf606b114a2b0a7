-- What clients see of a run, and that it is strictly serializable: one list of batches, in the order of their versions, which real time respects and of which each read
-- sees exactly the front through its version.
use Rattle.std.specs.Prelude.{◌≡◌, ◌<◌, ◌≤◌, ℕ, List, [], ◌∷◌, ◌++◌, Option, Some, Contains}
use Rattle.std.specs.FinMap.{get}
use Rattle.fr_mutation.specs.declared.mutation.Mutation.{Mutation}
use Rattle.fr_run.specs.Config.{Config}
use Rattle.fr_run.specs.Turn.{Turn}
use Rattle.fr_run.specs.Run.{IsTurn}
use Rattle.fr_run.specs.States.{IsLatest}
use Rattle.fr_run.specs.StateLaws.{IsConfig}
use Rattle.fr_run_headline.specs.Issued.{Entry, least_durable, committed}
use Rattle.fr_run_headline.specs.IssuedLaws.{VersionsRise, through}
use Rattle.fr_run_headline.specs.Committed.{map_after}
use Rattle.fr_run_outcomes.specs.Once.{IsEntryOf, IsOfRequest, IsAnswered, StandsOnce}
use Rattle.fr_run_outcomes.specs.Snapshots.{IsSettledAt}
use Rattle.fr_run_outcomes.specs.Reads.{Answers}
use Rattle.fr_run_history.specs.RealTime.{IsToCome}

-- ---- histories

-- a read that a storage server answered: of a key at a version, which the reader named; the key has this value there, or none
pub record Reading : Type 0 where
  pub tag : ℕ
  pub version : ℕ
  pub key : List ℕ
  pub value : Option (List ℕ)

-- an act of a history: a turn of the nodes, in which a proxy may take a batch or acknowledge one; or a read
pub data Act : Type 0 where
  Turned : (turn : Turn) → Act
  Read : (reading : Reading) → Act

-- the turns of a history. A list of acts has the newest first
abbrev pub turns : List Act → List Turn
turns [] = []
turns (Turned t ∷ acts) = t ∷ turns acts
turns (Read r ∷ acts) = turns acts

-- the storage server of the tag answers the read at this moment, and the version is settled there
pub record IsRead (c : Config) (h : List Turn) (r : Reading) : Type 0 where
  pub latest : ℕ
  pub is_latest : IsLatest c h latest
  pub settled : IsSettledAt c h latest r.tag r.version
  pub answers : Answers c h r.tag r.version r.key r.value

-- a history: a run of the nodes, with reads between its turns
abbrev pub IsHistory : Config → List Act → Type 0
IsHistory c [] = Unit {0}
IsHistory c (Turned t ∷ acts) = IsTurn c (turns acts) t × IsHistory c acts
IsHistory c (Read r ∷ acts) = IsRead c (turns acts) r × IsHistory c acts

-- ---- operations

-- what a client does begins with a request, a batch that a proxy takes. A write is that alone. A query waits until the request is acknowledged (the batch may be empty),
-- and then reads a key at its version or a later one
pub data Operation : Type 0 where
  Write : (epoch proxy request : ℕ) → Operation
  Query : (epoch proxy request : ℕ) (reading : Reading) → Operation

-- an operation that began after a moment
abbrev pub BeginsAfter : List Act → Operation → Type 0
BeginsAfter acts (Write e proxy request) = IsToCome (turns acts) e proxy request
BeginsAfter acts (Query e proxy request r) = IsToCome (turns acts) e proxy request

-- a query that ended: its read came after the acknowledgement of its request, at that version or above
pub record HasRead (c : Config) (acts : List Act) (e proxy request : ℕ) (r : Reading) : Type 0 where
  pub after : List Act
  pub before : List Act
  pub are : after ++ Read r ∷ before ≡ acts
  pub own : ℕ
  pub answered : IsAnswered c (turns before) e proxy request own
  pub above : own ≤ r.version

-- an operation that ended by a moment: its client has the answer
abbrev pub HasEnded : Config → List Act → Operation → Type 0
HasEnded c acts (Write e proxy request) = (version : ℕ) × IsAnswered c (turns acts) e proxy request version
HasEnded c acts (Query e proxy request r) = HasRead c acts e proxy request r

-- real time: one operation had ended at a moment before which the other one did not begin
pub record Precedes (c : Config) (acts : List Act) (x y : Operation) : Type 0 where
  pub after : List Act
  pub before : List Act
  pub are : after ++ before ≡ acts
  pub ended : HasEnded c before x
  pub begins : BeginsAfter before y

-- the place of an operation in an order, which is a version: of a write that is in the order, acknowledged or not, its own; of a query that ended the one that it read at,
-- right behind the batch of that version
abbrev pub IsPlacedAt : Config → List Act → List Entry → Operation → ℕ → Type 0
IsPlacedAt c acts order (Write e proxy request) version = (x : Entry) × Contains order x × IsEntryOf (turns acts) e proxy request x × (x.version ≡ version)
IsPlacedAt c acts order (Query e proxy request r) version = HasRead c acts e proxy request r × (r.version ≡ version)

-- ---- strict serializability

-- what a read sees in an order: the value of its key in the map that exactly the batches through its version make of the empty one, one after the other
abbrev pub Sees : List Entry → Reading → Type 0
Sees order r = r.value ≡ get (map_after (through r.version order)) r.key

pub record IsStrictlySerializable (c : Config) (acts : List Act) (order : List Entry) (last : ℕ) : Type 0 where
  -- it is an order: versions rise strictly
  pub rises : VersionsRise 0 order last
  -- each batch of it was submitted
  pub submitted : (x : Entry) (batch : List Mutation) → Contains order x → x.batch ≡ Some batch → IsOfRequest (turns acts) x batch
  -- each acknowledged one is at one place of it, at the version that was acknowledged
  pub once : (e proxy request version : ℕ) → IsAnswered c (turns acts) e proxy request version → StandsOnce (turns acts) e proxy request version order
  -- each read, of a query or by itself, sees exactly the batches through its version
  pub sees : (r : Reading) → Contains acts (Read r) → Sees order r
  -- it respects real time: an operation that ended before another one began is before it
  pub real_time : (x y : Operation) → Precedes c acts x y → (a b : ℕ) → IsPlacedAt c acts order x a → IsPlacedAt c acts order y b → a < b
  -- a read by itself, at a version that its reader names, is before each request that was submitted after it
  pub unseen : (after before : List Act) (r : Reading) → after ++ Read r ∷ before ≡ acts → (e proxy request version : ℕ) → IsToCome (turns before) e proxy request
      → IsPlacedAt c acts order (Write e proxy request) version → r.version < version

-- every history is strictly serializable, in the order of its last moment's committed list
abbrev pub HistoriesAreSerializable : Type 0
HistoriesAreSerializable =
    (c : Config) (acts : List Act) → IsConfig c → IsHistory c acts → (latest : ℕ) → IsLatest c (turns acts) latest
    → IsStrictlySerializable c acts (committed c (turns acts) latest) (least_durable c (turns acts) latest)
