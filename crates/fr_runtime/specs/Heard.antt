-- What a cluster's run says of its workloads and its ballots, by the journals that it hands back.
use Rattle.std.specs.Prelude.{◌≡◌, ◌≢◌, ◌⊎◌, ℕ, ◌+◌, ◌≤◌, Bool, true, false, List, [], ◌∷◌, ◌++◌, Option, if◌then◌else◌}
use Rattle.std.specs.Global.{Vec}
use Rattle.fr_base.specs.Shape.{ShapeContent}
use Rattle.fr_base.specs.declared.place.NodeId.TheVariants.{Recoverer}
use Rattle.fr_proxy.specs.declared.outcome.Outcome.{Outcome}
use Rattle.fr_audit_journal.specs.Journal.{JournalState}
use Rattle.fr_runtime_threads.specs.declared.order.Order.{Order}
use Rattle.fr_runtime_threads.specs.Account.{all_given, all_outcomes, is_proxy, left_over, waiting_for}
use Rattle.fr_runtime_threads.specs.Begins.{StartsWithBegun}

-- the journals of the proxies of a number, in their order
abbrev pub of_number : ℕ → List JournalState → List JournalState
of_number number [] = []
of_number number (j ∷ js) = if is_proxy number j.node then j ∷ of_number number js else of_number number js

-- what a workload gave since then is what the proxies of its number took, in order, and at most one batch more that
-- none took. It was told of each in turn what the proxies said: committed at a version, ended, or else that it is
-- waiting
abbrev pub IsHeard : List JournalState → ℕ → List Order → List Order → List Outcome → List Outcome → List Outcome → Type 0
IsHeard js number gave gives heard hears told =
    (kept : Option Order)
    × (gives ≡ gave ++ (all_given (of_number number js) ++ left_over kept))
    × (told ≡ all_outcomes (of_number number js) ++ waiting_for kept)
    × (hears ≡ heard ++ told)

-- so it is of each workload, the first of which has this number
abbrev pub AreHeard : {W : Type 0} → (W → List Order) → (W → List Outcome) → List JournalState → ℕ → List W → List W → List (Vec Outcome) → Type 0
AreHeard given heard js number [] [] [] = Unit {0}
AreHeard given heard js number (w ∷ ws) (v ∷ vs) (t ∷ ts) =
    IsHeard js number (given w) (given v) (heard w) (heard v) t.items × AreHeard given heard js (number + 1) ws vs ts
AreHeard given heard js number ws vs ts = false ≡ true

-- one of these is the journal of a ballot's recoverer, which starts with that it began, to open a generation of this shape
abbrev pub HasBegun : ℕ → Option ShapeContent → List JournalState → Type 0
HasBegun ballot shape [] = ⊥
HasBegun ballot shape (j ∷ js) = ((j.node ≡ Recoverer ballot) × StartsWithBegun shape j.entries) ⊎ HasBegun ballot shape js

-- a ballot that is to begin at one of the turns has done so, if it is one
abbrev pub Begins : (ℕ → ℕ → Bool) → ℕ → ℕ → Type 0 → Type 0
Begins begun turns ballot Has = ballot ≢ 0 → (turn : ℕ) → 1 ≤ turn → turn ≤ turns → begun ballot turn ≡ true → Has

-- so has each of these, with the shape that it was given
abbrev pub AllBegin : (ℕ → ℕ → Bool) → ℕ → List JournalState → List (ℕ × Option ShapeContent) → Type 0
AllBegin begun turns js [] = Unit {0}
AllBegin begun turns js (b ∷ bs) = Begins begun turns b.0 (HasBegun b.0 b.1 js) × AllBegin begun turns js bs
