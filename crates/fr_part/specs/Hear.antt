-- The next state of a machine of any kind that hears a reply, its asks, and the outcome of a proxy's batch.
use Rattle.std.specs.Prelude.{◌≡◌, ◌≢◌, Bool, true, false, IsTrue, ℕ, List, [], ◌∷◌, ◌==◌, ◌%◌, find, Option, None, Some, IsSome}
use Rattle.fr_base.specs.declared.place.NodeId.{NodeId}
use Rattle.fr_base.specs.declared.place.NodeId.TheVariants as node
use Rattle.fr_ask.specs.declared.ask.Ask.{Ask}
use Rattle.fr_ask.specs.declared.ask.Ask.TheVariants as ask
use Rattle.fr_ask.specs.declared.tell.Tell.{Tell}
use Rattle.fr_ask.specs.declared.tell.Tell.TheVariants as tell
use Rattle.fr_log.specs.declared.ask.LogAsk.{LogAsk}
use Rattle.fr_mutation.specs.declared.mutation.Mutation.{Mutation}
use Rattle.fr_proxy.specs.Proxy as proxy
use Rattle.fr_proxy.specs.declared.fault.SubmitFault.{SubmitFault}
use Rattle.fr_epoch.specs.Asks as recoverer
use Rattle.fr_epoch.specs.Hear as recovery
use Rattle.fr_state.specs.Generations.{LogGeneration}
use Rattle.fr_undo.specs.State.{StoreState}
use Rattle.fr_storage.specs.Course as course
use Rattle.fr_storage.specs.Server.{Server, kept_of, storage_of}
use Rattle.fr_storage.specs.Standing.{IsFound}
use Rattle.fr_storage.specs.Storage.{StorageState, ask_after}
use Rattle.fr_part.specs.Reads.{IfStorage}
use Rattle.fr_part.specs.declared.part.Part.{Part}
use Rattle.fr_part.specs.declared.part.Part.TheVariants as part
use Rattle.fr_part.specs.declared.said.Heard.{Heard}

-- where a storage server over a store in memory stands
abbrev pub standing : Server StoreState → StorageState
standing s = storage_of (λ store. store) s

-- ---- a tell is heard

-- what a storage server hears of what a node told it
abbrev pub told_by : NodeId → Tell → course.Heard
told_by (node.Log epoch index) (tell.Log t) = course.heard_in epoch t
told_by from t = course.Nothing

-- the machine is a storage server that stands so
abbrev pub StandsAt : Part → StorageState → Type 0
StandsAt (part.Cell c) s = ⊥
StandsAt (part.Log l) s = ⊥
StandsAt (part.Sequencer q) s = ⊥
StandsAt (part.Proxy p) s = ⊥
StandsAt (part.Recoverer r) s = ⊥
StandsAt (part.Storage n) s = standing n ≡ s
StandsAt (part.Store n) s = ⊥

-- what a machine does at a tell that it hears
abbrev pub IsHeard : Part → NodeId → Tell → Heard → Part → Type 0
IsHeard (part.Cell c) from t heard new = ⊥
IsHeard (part.Log l) from t heard new = ⊥
IsHeard (part.Sequencer s) from t heard new = ⊥
IsHeard (part.Proxy p) from t heard new = (heard.asks.items ≡ proxy.new_asks p from t)
    × (heard.outcome ≡ Some (proxy.outcome_of p from t)) × (new ≡ part.Proxy (proxy.after_hear p from t))
IsHeard (part.Recoverer r) from t heard new = (heard.asks.items ≡ recoverer.new_asks r from t)
    × (heard.outcome ≡ None) × (new ≡ part.Recoverer (recovery.after_hear r from t))
IsHeard (part.Storage s) from t heard new = (heard.asks.items ≡ []) × (heard.outcome ≡ None)
    × StandsAt new (course.after_hear (standing s) (told_by from t))
IsHeard (part.Store s) from t heard new = ⊥

abbrev pub hears : Part → Bool
hears (part.Cell c) = false
hears (part.Log l) = false
hears (part.Sequencer s) = false
hears (part.Proxy p) = true
hears (part.Recoverer r) = true
hears (part.Storage s) = true
hears (part.Store s) = false

-- ---- a tell is refused, or breaks off

-- a storage server refuses what it hears: by its rules, and not since it is still to be opened again
abbrev pub IsRefusedBy : Server StoreState → course.Heard → Type 0
IsRefusedBy s heard = (s.failed ≡ false) × IsSome (course.fault_of (standing s) heard)

abbrev pub IsHearRefused : Part → NodeId → Tell → Type 0
IsHearRefused (part.Cell c) from t = ⊥
IsHearRefused (part.Log l) from t = ⊥
IsHearRefused (part.Sequencer s) from t = ⊥
IsHearRefused (part.Proxy p) from t = ⊥
IsHearRefused (part.Recoverer r) from t = ⊥
IsHearRefused (part.Storage s) from t = IsRefusedBy s (told_by from t)
IsHearRefused (part.Store s) from t = ⊥

-- a storage server is still to be opened again, and is told something that it hears
abbrev pub IsUnopened : Part → course.Heard → Type 0
IsUnopened old heard = IfStorage old (λ s. IsTrue s.failed × (heard ≢ course.Nothing))

-- a storage server ran out of memory amid calls of its store. It was opened again, on the way of these calls, or, if it
-- was to be opened again before, as its store was then; or it is still to be, and keeps its tag, state, floor and version
abbrev pub IsBrokenOff : Server StoreState → course.Heard → Server StoreState → Type 0
IsBrokenOff s heard n = (s.failed ≡ false → course.calls_of (standing s) heard ≢ [])
    × (s.failed ≡ false → n.failed ≡ false → course.IsAfter (standing s) heard (standing n))
    × (IsTrue s.failed → n.failed ≡ false → IsFound (λ store left. left ≡ store) s (standing n))
    × (IsTrue n.failed → kept_of n ≡ kept_of s)

abbrev pub IsPartHeard : Part → NodeId → Tell → Part → Type 0
IsPartHeard old from t new = IfStorage old (λ s. IfStorage new (λ n. IsBrokenOff s (told_by from t) n))

-- ---- a batch is submitted

abbrev pub IsSubmitted : Part → ℕ → List Mutation → Heard → Part → Type 0
IsSubmitted (part.Cell c) step batch heard new = ⊥
IsSubmitted (part.Log l) step batch heard new = ⊥
IsSubmitted (part.Sequencer s) step batch heard new = ⊥
IsSubmitted (part.Proxy p) step batch heard new = (heard.asks.items ≡ proxy.number_ask p (proxy.opened p step batch) ∷ [])
    × (heard.outcome ≡ None) × (new ≡ part.Proxy (proxy.submitted p step batch))
IsSubmitted (part.Recoverer r) step batch heard new = ⊥
IsSubmitted (part.Storage s) step batch heard new = ⊥
IsSubmitted (part.Store s) step batch heard new = ⊥

abbrev pub submits : Part → Bool
submits (part.Cell c) = false
submits (part.Log l) = false
submits (part.Sequencer s) = false
submits (part.Proxy p) = true
submits (part.Recoverer r) = false
submits (part.Storage s) = false
submits (part.Store s) = false

-- why a machine takes no batch now, where it is a proxy
abbrev pub submit_fault : Part → Option SubmitFault
submit_fault (part.Cell c) = None
submit_fault (part.Log l) = None
submit_fault (part.Sequencer s) = None
submit_fault (part.Proxy p) = proxy.submit_fault p
submit_fault (part.Recoverer r) = None
submit_fault (part.Storage s) = None
submit_fault (part.Store s) = None

-- ---- what a machine asks now

-- a log of the generation that the next records are of: the first one on which the tag stands
abbrev pub pull_from : Option LogGeneration → ℕ → LogAsk → List (NodeId × Ask)
pull_from None tag a = []
pull_from (Some g) tag a = (node.Log g.epoch (tag % g.m), ask.Log a) ∷ []

abbrev pub pull_of : Server StoreState → List (NodeId × Ask)
pull_of s = let next = ask_after s.state.gens s.tag s.applied in
    pull_from (find (λ g. g.epoch == next.0) s.state.gens) s.tag next.1

abbrev pub asks_of : Part → Option (List (NodeId × Ask))
asks_of (part.Cell c) = None
asks_of (part.Log l) = None
asks_of (part.Sequencer s) = None
asks_of (part.Proxy p) = Some (proxy.pending p)
asks_of (part.Recoverer r) = Some (recoverer.pending r)
asks_of (part.Storage s) = Some (pull_of s)
asks_of (part.Store s) = None
