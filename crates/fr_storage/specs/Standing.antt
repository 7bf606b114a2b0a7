-- What answers make of a storage server over a store of any type that is opened again where a hear broke off.
use Rattle.std.specs.Prelude.{◌≡◌, ◌≢◌, Bool, true, false, IsTrue, List, [], ◌∷◌, fold, map, Option, None, Some, IfSome, Contains, drop}
use Rattle.fr_undo.specs.State.{StoreState}
use Rattle.fr_state.specs.Generations.{CoordinatedState, IsCoordinatedState}
use Rattle.fr_state.specs.Spelling.{spelling}
use Rattle.fr_storage.specs.declared.answer.LogAnswer.{LogAnswer}
use Rattle.fr_storage.specs.declared.answer.LogAnswer.TheVariants as answer
use Rattle.fr_storage.specs.declared.fault.StorageFault.{StorageFault}
use Rattle.fr_storage.specs.declared.fault.StorageFault.TheVariants.{Older, Stranger, BelowFloor, NotMyGeneration, Hole, Store, BadState}
use Rattle.fr_storage.specs.Storage.{StorageState}
use Rattle.fr_storage.specs.Server.{Server, storage_of}
use Rattle.fr_storage.specs.Follows.{Pieces, ArePieces}
use Rattle.fr_storage.specs.Course.{Heard, Mark, Records, Nothing, fault_of, after_hear, IsAfter, AreOneChain, AreTrueAhead, Stands, IsChosenBy}

-- what is heard of an answer
abbrev pub heard_of : LogAnswer → Heard
heard_of (answer.Mark x) = Mark x
heard_of (answer.Records epoch peeked) = Records epoch peeked

-- what is heard where there may be no answer
abbrev pub heard_if : Option LogAnswer → Heard
heard_if None = Nothing
heard_if (Some answer) = heard_of answer

-- a server after answers that are all heard whole
abbrev pub after_hears : StorageState → List LogAnswer → StorageState
after_hears s answers = fold after_hear s (map heard_of answers)

-- whether an answer is refused since it came late or too early
abbrev pub is_untimely : StorageFault → Bool
is_untimely Older = true
is_untimely Stranger = false
is_untimely BelowFloor = false
is_untimely NotMyGeneration = true
is_untimely Hole = true
is_untimely (Store fault) = false
is_untimely BadState = false

-- answers lead from one server to another: each is heard whole, or broken off and opened again, and if it is refused it
-- is untimely
abbrev pub LeadTo : StorageState → List LogAnswer → StorageState → Type 0
LeadTo s [] n = n ≡ s
LeadTo s (answer ∷ answers) n = (mid : StorageState) × IsAfter s (heard_of answer) mid × IfSome (fault_of s (heard_of answer)) (λ fault. IsTrue (is_untimely fault)) × LeadTo mid answers n

-- a server refuses one of these answers so
abbrev pub RefusesOne : StorageState → List LogAnswer → StorageFault → Type 0
RefusesOne s answers fault = (answer : LogAnswer) × Contains answers answer × (fault_of s (heard_of answer) ≡ Some fault)

-- a server stands: while it works as it is, and once it failed in each state that opening it again may find
pub record IsStanding {S : Type 0} (state_of : S → StoreState) (MayLeave : S → StoreState → Type 0) (pieces : Pieces) (Chosen : CoordinatedState → Type 0) (s : Server S) : Type 0 where
  pub works : s.failed ≡ false → Stands pieces Chosen (storage_of state_of s)
  pub found : IsTrue s.failed → (x : CoordinatedState) (left : StoreState) → MayLeave s.store left → IsCoordinatedState x → left.bytes ≡ spelling x → Stands pieces Chosen (record { tag = s.tag; state = x; store = left })

-- what opening a server again may find: a store that may be left there, and the state that this store spells
pub record IsFound {S : Type 0} (MayLeave : S → StoreState → Type 0) (s : Server S) (n : StorageState) : Type 0 where
  pub tag : n.tag ≡ s.tag
  pub left : MayLeave s.store n.store
  pub state : IsCoordinatedState n.state
  pub spelled : n.store.bytes ≡ spelling n.state

-- what a server is to hear is true to it: while it works, from the first on. One that failed is opened again in place
-- of the first hear, and what comes after that is true to each server that may then be found
pub record AreTrueTo {S : Type 0} (state_of : S → StoreState) (MayLeave : S → StoreState → Type 0) (pieces : Pieces) (Chosen : CoordinatedState → Type 0) (heards : List Heard) (s : Server S) : Type 0 where
  pub works : s.failed ≡ false → AreTrueAhead pieces Chosen (storage_of state_of s) heards
  pub found : IsTrue s.failed → (n : StorageState) → IsFound MayLeave s n → AreTrueAhead pieces Chosen n (drop 1 heards)

-- a server that stands is left standing by what it hears, if that is true to it, and is refused neither as a stranger
-- nor below its floor
abbrev pub StaysStanding : {S : Type 0} → (S → StoreState) → (S → StoreState → Type 0) → List Heard → Server S → Server S → Option StorageFault → Type 0
StaysStanding state_of MayLeave heards old new refusal =
    (pieces : Pieces) (is_chosen : CoordinatedState → Bool) → let Chosen = IsChosenBy is_chosen in
    ArePieces pieces → AreOneChain pieces Chosen → AreTrueTo state_of MayLeave pieces Chosen heards old → IsStanding state_of MayLeave pieces Chosen old
    → IsStanding state_of MayLeave pieces Chosen new × (refusal ≢ Some Stranger) × (refusal ≢ Some BelowFloor)

-- a server that begins in a state stands, if that state is chosen
abbrev pub BeginsStanding : {S : Type 0} → (S → StoreState) → (S → StoreState → Type 0) → CoordinatedState → Server S → Type 0
BeginsStanding state_of MayLeave x s =
    (pieces : Pieces) (is_chosen : CoordinatedState → Bool) → let Chosen = IsChosenBy is_chosen in
    ArePieces pieces → AreOneChain pieces Chosen → Chosen x → IsStanding state_of MayLeave pieces Chosen s

-- a server over what an earlier one left stands if that one did
abbrev pub StandsAgain : {S : Type 0} → (S → StoreState) → (S → StoreState → Type 0) → StorageState → Server S → Type 0
StandsAgain state_of MayLeave left s = (pieces : Pieces) (is_chosen : CoordinatedState → Bool) → Stands pieces (IsChosenBy is_chosen) left → IsStanding state_of MayLeave pieces (IsChosenBy is_chosen) s
