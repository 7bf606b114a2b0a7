-- Several turns of a node as one group.
use Rattle.std.specs.Prelude.{ℕ, ◌≡◌, ◌<◌, ◌==◌, ◌+◌, ◌-◌, ◌^◌, max, Bool, false, ⊤, List, [], ◌∷◌, ◌++◌, fold, Option, None, Some, if◌then◌else◌}
use Rattle.std.specs.Option.{option_map, option_and_then}
use Rattle.fr_ask.specs.declared.ask.Ask.{Ask}
use Rattle.fr_ask.specs.declared.last.Last.{Last}
use Rattle.fr_ask.specs.declared.tell.Tell.{Tell}
use Rattle.fr_audit_journal.specs.declared.act.Act.{Act}
use Rattle.fr_audit_journal.specs.declared.act.Act.TheVariants as act
use Rattle.fr_audit_journal.specs.declared.act.Entry.{Entry}
use Rattle.fr_audit_journal.specs.Replays.{Steps, after_act}
use Rattle.fr_node.specs.declared.turn.NodeTurn.{NodeTurn}
use Rattle.fr_node.specs.declared.turn.NodeTurn.TheVariants as turn
use Rattle.fr_node.specs.declared.drafts.Draft.{Draft}
use Rattle.fr_node.specs.Turns.{IsTaken}

-- a machine after asks, one after another, and what these are told
module _ {M A : Type 0} (after : M → A → M) where
  abbrev pub after_all : M → List A → M
  after_all m asks = fold after m asks

  abbrev pub told_all : {T : Type 0} → (M → A → T) → M → List A → List T
  told_all told m [] = []
  told_all told m (ask ∷ asks) = told m ask ∷ told_all told (after m ask) asks

-- turns are taken one after another, each as if it had come alone: its entry stands behind all before it, and the node then stood where these led
abbrev pub AreTaken : (List Entry → Last) → List Entry → List Entry → List (ℕ × NodeTurn) → List (Entry × Last) → Type 0
AreTaken led old new [] [] = new ≡ old
AreTaken led old new (t ∷ ts) (d ∷ ds) =
    IsTaken old (old ++ d.0 ∷ []) t.0 t.1 d.0 × ((d.1 ≡ led (old ++ d.0 ∷ [])) × AreTaken led (old ++ d.0 ∷ []) new ts ds)
AreTaken led old new ts ds = ⊥

-- only asks join asks
abbrev pub joined : (Ask → Ask → Bool) → NodeTurn → NodeTurn → Bool
joined joins (turn.Ask from last) (turn.Ask other ask) = joins last ask
joined joins t u = false

-- ---- what is to be entered of a group

-- the draft of a turn's entry, above a stamp: none if the turn is no ask, or if the stamps are spent
abbrev pub draft_of : ℕ → ℕ → NodeTurn → Option Draft
draft_of last at (turn.Ask from ask) = if max last at == 2 ^ 40 - 1 then None else Some (record { stamp = max last at + 1; from = from; ask = ask })
draft_of last at t = None

-- the drafts of turns, each above the one before; none if a turn has none
abbrev pub drafts_of : ℕ → List (ℕ × NodeTurn) → Option (List Draft)
drafts_of last [] = Some []
drafts_of last (t ∷ ts) = option_and_then (λ d. option_map (λ ds. d ∷ ds) (drafts_of d.stamp ts)) (draft_of last t.0 t.1)

-- the asks of drafts, as the machine's own; none if one of them stands in no group
abbrev pub owned_all : {A : Type 0} → (Ask → Option A) → List Draft → Option (List A)
owned_all owned [] = Some []
owned_all owned (d ∷ ds) = option_and_then (λ a. option_map (λ rest. a ∷ rest) (owned_all owned ds)) (owned d.ask)

-- turns are taken apart if one of them stands in no group, or if their asks are served apart
abbrev pub IsApart : {A : Type 0} → Option (List A) → (List A → Type 0) → Type 0
IsApart None ServesApart = ⊤
IsApart (Some asks) ServesApart = ServesApart asks

abbrev pub AreApart : {A : Type 0} → (Ask → Option A) → (List A → Type 0) → Option (List Draft) → Type 0
AreApart owned ServesApart None = ⊤
AreApart owned ServesApart (Some ds) = IsApart (owned_all owned ds) ServesApart

-- ---- what is entered

-- the stamps of drafts rise, from above this one
abbrev pub AreRising : ℕ → List Draft → Type 0
AreRising last [] = ⊤
AreRising last (d ∷ ds) = (last < d.stamp) × AreRising d.stamp ds

-- the entries of drafts, once their asks are told this
abbrev pub entered : List Draft → List Tell → List Entry
entered [] tells = []
entered (d ∷ ds) [] = []
entered (d ∷ ds) (t ∷ tells) = record { stamp = d.stamp; act = act.Asked d.from d.ask t } ∷ entered ds tells

-- an act is an ask that stands in a group, and what the machine tells it; and such acts one after another
abbrev pub IsGrouped : {S A : Type 0} → Steps S A → (Ask → Option A) → S → Act → Type 0
IsGrouped {A = A} m owned s (act.Asked from ask tell) = (a : A) × ((owned ask ≡ Some a) × ((m.unwrapped ask ≡ Some a) × (tell ≡ m.told s a)))
IsGrouped m owned s a = ⊥

abbrev pub AreGrouped : {S A : Type 0} → Steps S A → (Ask → Option A) → S → List Entry → Type 0
AreGrouped m owned s [] = ⊤
AreGrouped m owned s (e ∷ es) = IsGrouped m owned s e.act × AreGrouped m owned (after_act m s e.act) es

-- each entry with the state behind it, as others see it
abbrev pub stood : {S : Type 0} → (S → Last) → (S → Act → S) → S → List Entry → List (Entry × Last)
stood show next s [] = []
stood show next s (e ∷ es) = (e, show (next s e.act)) ∷ stood show next (next s e.act) es
