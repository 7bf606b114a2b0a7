-- What holds of every ordered list of generations, and of the bytes of a state.
use Rattle.std.specs.Prelude.{◌≡◌, ◌≢◌, ◌↔◌, ℕ, ◌+◌, ◌-◌, ◌<◌, ◌≤◌, List, [], ◌∷◌, ◌++◌, ◌⊎◌, Some, None, Contains, IsSome, IfSome, length, drop, Ok, Err, All, AllPairs, IsTrue}
use Rattle.fr_state.specs.declared.fault.StateFault.TheVariants.{NotLater, TooMany}
use Rattle.fr_state.specs.BigEndian.{AreBytes}
use Rattle.fr_state.specs.Generations.{LogGeneration, CoordinatedState, IsGeneration, IsCoordinatedState, Follows, AreOrdered, last_of}
use Rattle.fr_state.specs.Order.{extended, without_first, dropped_before}
use Rattle.fr_state.specs.LookUp.{next_of, end_of, cut_of, source_of, owner_of}
use Rattle.fr_state.specs.Reading.{reading}
use Rattle.fr_state.specs.Same.{is_same_state, begins_with, IsFront, goes_on, GoesOn}
use Rattle.fr_state.specs.Spelling.{spelling, length_spelled}

-- ---- order

-- a list is ordered exactly if of any two of its generations the later one follows the earlier
abbrev pub OrderIsOfPairs : Type 0
OrderIsOfPairs = (gens : List LogGeneration) → AreOrdered gens ↔ AllPairs Follows gens

-- ---- the last one, and the next one

-- the last generation is one of the list, so what is true of each is true of it
abbrev pub LastIsThere : Type 0
LastIsThere = (gens : List LogGeneration) (last : LogGeneration) → last_of gens ≡ Some last → Contains gens last

-- for one, it is within the limits
abbrev pub LastIsWithin : Type 0
LastIsWithin = (gens : List LogGeneration) (last : LogGeneration) → All IsGeneration gens → last_of gens ≡ Some last → IsGeneration last

-- a generation has a next one, which follows it
pub record HasNext (gens : List LogGeneration) (g : LogGeneration) : Type 0 where
  pub next : LogGeneration
  pub is_next : next_of gens g.epoch ≡ Some next
  pub there : Contains gens next
  pub follows : Follows g next

-- each generation of an ordered list is the last one, or has a next one
abbrev pub LastOrNext : Type 0
LastOrNext = (gens : List LogGeneration) (g : LogGeneration) → AreOrdered gens → Contains gens g → (last_of gens ≡ Some g) ⊎ HasNext gens g

-- ---- sources and owners

-- in the list, starting at or below the version, and not ending below it
abbrev pub IsSource : List LogGeneration → ℕ → LogGeneration → Type 0
IsSource gens version g = Contains gens g × (g.first ≤ version) × IfSome (end_of gens g.epoch) (λ end. version ≤ end)

-- in the list, seeded only with versions below this one, which is not above its cut
abbrev pub IsOwner : List LogGeneration → ℕ → LogGeneration → Type 0
IsOwner gens version g = Contains gens g × (g.seeded_to < version) × IfSome (cut_of gens g.epoch) (λ cut. version ≤ cut)

-- the source of a version is the generation that starts at or below it and does not end below it
abbrev pub SourceIsExact : Type 0
SourceIsExact =
    (gens : List LogGeneration) (version : ℕ) (g : LogGeneration)
    → AreOrdered gens → All IsGeneration gens → (source_of gens version ≡ Some g) ↔ IsSource gens version g

-- there is none exactly if each generation starts above it
abbrev pub SourceIsNone : Type 0
SourceIsNone = (gens : List LogGeneration) (version : ℕ) → (source_of gens version ≡ None) ↔ All (λ g. version < g.first) gens

-- the owner of a version is the generation that was seeded only below it and is not cut below it
abbrev pub OwnerIsExact : Type 0
OwnerIsExact =
    (gens : List LogGeneration) (version : ℕ) (g : LogGeneration)
    → AreOrdered gens → (owner_of gens version ≡ Some g) ↔ IsOwner gens version g

-- there is none exactly if each generation was seeded with it, or further
abbrev pub OwnerIsNone : Type 0
OwnerIsNone = (gens : List LogGeneration) (version : ℕ) → (owner_of gens version ≡ None) ↔ All (λ g. version ≤ g.seeded_to) gens

-- ---- ends and cuts

-- a generation's end and cut are told by the one that stands after it
abbrev pub NextTells : Type 0
NextTells =
    (before after : List LogGeneration) (g next : LogGeneration) → let gens = before ++ g ∷ next ∷ after in
    AreOrdered gens → (end_of gens g.epoch ≡ Some (next.first - 1)) × (cut_of gens g.epoch ≡ Some next.seeded_to)

-- the last generation has neither
abbrev pub LastIsOpen : Type 0
LastIsOpen =
    (gens : List LogGeneration) (last : LogGeneration)
    → AreOrdered gens → last_of gens ≡ Some last → (end_of gens last.epoch ≡ None) × (cut_of gens last.epoch ≡ None)

-- each earlier one has both
abbrev pub EarlierIsClosed : Type 0
EarlierIsClosed =
    (gens : List LogGeneration) (g last : LogGeneration)
    → AreOrdered gens → Contains gens g → last_of gens ≡ Some last → g.epoch < last.epoch
    → IsSome (end_of gens g.epoch) × IsSome (cut_of gens g.epoch)

-- an epoch that is not there has neither
abbrev pub AbsentIsOpen : Type 0
AbsentIsOpen =
    (gens : List LogGeneration) (epoch : ℕ)
    → All (λ g. g.epoch ≢ epoch) gens → (end_of gens epoch ≡ None) × (cut_of gens epoch ≡ None)

-- a cut is not below what the generation itself was seeded to
abbrev pub CutIsAtLeastSeed : Type 0
CutIsAtLeastSeed =
    (gens : List LogGeneration) (g : LogGeneration) (cut : ℕ)
    → AreOrdered gens → Contains gens g → cut_of gens g.epoch ≡ Some cut → g.seeded_to ≤ cut

-- an end is not above the cut
abbrev pub EndIsAtMostCut : Type 0
EndIsAtMostCut =
    (gens : List LogGeneration) (epoch end cut : ℕ)
    → All IsGeneration gens → end_of gens epoch ≡ Some end → cut_of gens epoch ≡ Some cut → end ≤ cut

-- no cut is above what the last generation was seeded to
abbrev pub CutIsAtMostLast : Type 0
CutIsAtMostLast =
    (gens : List LogGeneration) (last : LogGeneration) (epoch cut : ℕ)
    → AreOrdered gens → last_of gens ≡ Some last → cut_of gens epoch ≡ Some cut → cut ≤ last.seeded_to

-- ---- a list and a longer one that begins with it

-- whether a list begins with another is told exactly
abbrev pub BeginsIsExact : Type 0
BeginsIsExact = (gens front : List LogGeneration) → IsTrue (begins_with gens front) ↔ IsFront front gens

-- the longer one keeps each end
abbrev pub FrontKeepsEnd : Type 0
FrontKeepsEnd =
    (front more : List LogGeneration) (epoch end : ℕ)
    → end_of front epoch ≡ Some end → end_of (front ++ more) epoch ≡ Some end

-- and each cut
abbrev pub FrontKeepsCut : Type 0
FrontKeepsCut =
    (front more : List LogGeneration) (epoch cut : ℕ)
    → cut_of front epoch ≡ Some cut → cut_of (front ++ more) epoch ≡ Some cut

-- both have one source through the end, in the longer one, of the shorter one's last generation
abbrev pub FrontKeepsSource : Type 0
FrontKeepsSource =
    (front more : List LogGeneration) (last : LogGeneration) (end version : ℕ)
    → AreOrdered (front ++ more) → All IsGeneration (front ++ more) → last_of front ≡ Some last
    → end_of (front ++ more) last.epoch ≡ Some end → version ≤ end → source_of (front ++ more) version ≡ source_of front version

-- and one owner through its cut
abbrev pub FrontKeepsOwner : Type 0
FrontKeepsOwner =
    (front more : List LogGeneration) (last : LogGeneration) (cut version : ℕ)
    → AreOrdered (front ++ more) → last_of front ≡ Some last
    → cut_of (front ++ more) last.epoch ≡ Some cut → version ≤ cut → owner_of (front ++ more) version ≡ owner_of front version

-- ---- one generation more

-- what an extension makes is a state; it begins with the old one and ends with the new generation
abbrev pub ExtensionIsState : Type 0
ExtensionIsState =
    (s t : CoordinatedState) (g : LogGeneration)
    → IsCoordinatedState s → IsGeneration g → extended s g ≡ Ok t
    → IsCoordinatedState t × (t ≡ record s { gens = s.gens ++ g ∷ [] }) × (last_of t.gens ≡ Some g)

-- a generation that follows the last one is appended if there is room
abbrev pub FollowerExtends : Type 0
FollowerExtends =
    (s : CoordinatedState) (last g : LogGeneration)
    → IsCoordinatedState s → last_of s.gens ≡ Some last → Follows last g → length s.gens < 64
    → extended s g ≡ Ok (record s { gens = s.gens ++ g ∷ [] })

-- it is not later exactly if the longer list would not be ordered
abbrev pub NotLaterIsExact : Type 0
NotLaterIsExact = (s : CoordinatedState) (g : LogGeneration) → (extended s g ≡ Err NotLater) ↔ (¬ AreOrdered (s.gens ++ g ∷ []))

-- there are too many exactly if it would be ordered and there is no room
abbrev pub TooManyIsExact : Type 0
TooManyIsExact =
    (s : CoordinatedState) (g : LogGeneration)
    → (extended s g ≡ Err TooMany) ↔ (AreOrdered (s.gens ++ g ∷ []) × (64 ≤ length s.gens))

-- ---- without the first generations

-- while one generation at least is left, it is a state
abbrev pub DropIsState : Type 0
DropIsState = (s : CoordinatedState) (n : ℕ) → IsCoordinatedState s → n < length s.gens → IsCoordinatedState (without_first s n)

-- what is left from the generation of an epoch on is the state without its first generations, one of which at least is left
pub record IsWithoutFirst (s t : CoordinatedState) : Type 0 where
  pub number : ℕ
  pub fewer : number < length s.gens
  pub is : t ≡ without_first s number

abbrev pub DroppedIsWithout : Type 0
DroppedIsWithout = (s t : CoordinatedState) (epoch : ℕ) → dropped_before s epoch ≡ Some t → IsWithoutFirst s t

-- the generation of that epoch is the first one that is left
pub record IsLeftFirst (s : CoordinatedState) (g : LogGeneration) (t : CoordinatedState) : Type 0 where
  pub before : List LogGeneration
  pub after : List LogGeneration
  pub were : s.gens ≡ before ++ g ∷ after
  pub are : t ≡ record { dropped = s.dropped + length before; gens = g ∷ after }

abbrev pub DroppedBeginsThere : Type 0
DroppedBeginsThere =
    (s : CoordinatedState) (g : LogGeneration) → AreOrdered s.gens → Contains s.gens g
    → (t : CoordinatedState) × (dropped_before s g.epoch ≡ Some t) × IsLeftFirst s g t

-- the last generation stays the last
abbrev pub DropKeepsLast : Type 0
DropKeepsLast = (gens : List LogGeneration) (n : ℕ) → n < length gens → last_of (drop n gens) ≡ last_of gens

-- what is left is ordered
abbrev pub DropKeepsOrder : Type 0
DropKeepsOrder = (gens : List LogGeneration) (n : ℕ) → AreOrdered gens → AreOrdered (drop n gens)

-- each generation that is left keeps its end and its cut
abbrev pub DropKeepsBounds : Type 0
DropKeepsBounds =
    (gens : List LogGeneration) (n : ℕ) (g : LogGeneration) → AreOrdered gens → Contains (drop n gens) g
    → (end_of (drop n gens) g.epoch ≡ end_of gens g.epoch) × (cut_of (drop n gens) g.epoch ≡ cut_of gens g.epoch)

-- an end among those that are left is one among all
abbrev pub DropHasEnd : Type 0
DropHasEnd =
    (gens : List LogGeneration) (n epoch end : ℕ) → AreOrdered gens → end_of (drop n gens) epoch ≡ Some end → end_of gens epoch ≡ Some end

-- so is a cut
abbrev pub DropHasCut : Type 0
DropHasCut =
    (gens : List LogGeneration) (n epoch cut : ℕ) → AreOrdered gens → cut_of (drop n gens) epoch ≡ Some cut → cut_of gens epoch ≡ Some cut

-- a source among those that are left is the source among all
abbrev pub DropHasSource : Type 0
DropHasSource =
    (gens : List LogGeneration) (n version : ℕ) (g : LogGeneration) → source_of (drop n gens) version ≡ Some g → source_of gens version ≡ Some g

-- and if one that is left starts at or below the version, the source is among them
abbrev pub DropKeepsSource : Type 0
DropKeepsSource =
    (gens : List LogGeneration) (n version : ℕ) (g : LogGeneration)
    → Contains (drop n gens) g → g.first ≤ version → source_of (drop n gens) version ≡ source_of gens version

-- whether a state goes on from another is told exactly
abbrev pub GoesOnIsExact : Type 0
GoesOnIsExact = (own s : CoordinatedState) → IsTrue (goes_on own s) ↔ GoesOn own s

-- a state with one generation more goes on from the one before, also if generations were dropped first
abbrev pub ExtensionGoesOn : Type 0
ExtensionGoesOn =
    (s : CoordinatedState) (n : ℕ) (g : LogGeneration)
    → n < length s.gens → GoesOn s (record { dropped = s.dropped + n; gens = drop n s.gens ++ g ∷ [] })

-- ---- equality and bytes

-- two states that `==` calls the same are one
abbrev pub SameIsEqual : Type 0
SameIsEqual = (s t : CoordinatedState) → IsTrue (is_same_state s t) ↔ (s ≡ t)

-- what a state is spelled as is read as it
abbrev pub SpelledIsRead : Type 0
SpelledIsRead = (s : CoordinatedState) → IsCoordinatedState s → reading (spelling s) ≡ Ok s

-- what is read is a state, which is spelled by exactly these bytes
abbrev pub ReadIsSpelled : Type 0
ReadIsSpelled =
    (bytes : List ℕ) (s : CoordinatedState)
    → AreBytes bytes → reading bytes ≡ Ok s → IsCoordinatedState s × (bytes ≡ spelling s)

-- a spelling has 2 bytes, or 10 if generations were dropped, and 26 for each generation that is left, so it fits a cell
abbrev pub SpellingFits : Type 0
SpellingFits = (s : CoordinatedState) → IsCoordinatedState s → (length (spelling s) ≡ length_spelled s) × (length (spelling s) ≤ 4096)

-- states of one spelling are one
abbrev pub OneSpellingOneState : Type 0
OneSpellingOneState = (s t : CoordinatedState) → IsCoordinatedState s → IsCoordinatedState t → spelling s ≡ spelling t → s ≡ t

-- no spelling is a proper prefix of another
abbrev pub NoSpellingGoesOn : Type 0
NoSpellingGoesOn =
    (s t : CoordinatedState) (rest : List ℕ)
    → IsCoordinatedState s → IsCoordinatedState t → spelling s ++ rest ≡ spelling t → rest ≡ []
