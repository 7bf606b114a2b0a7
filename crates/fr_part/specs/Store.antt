-- A machine that is a store in memory.
use Rattle.std.specs.Prelude.{◌≡◌, Bool, true, false}
use Rattle.fr_undo.specs.State.{StoreState}
use Rattle.fr_part.specs.declared.part.Part.{Part}
use Rattle.fr_part.specs.declared.part.Part.TheVariants as part

abbrev pub IfStore : Part → (StoreState → Type 0) → Type 0
IfStore (part.Cell c) P = ⊥
IfStore (part.Log l) P = ⊥
IfStore (part.Sequencer s) P = ⊥
IfStore (part.Proxy p) P = ⊥
IfStore (part.Recoverer r) P = ⊥
IfStore (part.Storage s) P = ⊥
IfStore (part.Store s) P = P s

abbrev pub is_store : Part → Bool
is_store (part.Cell c) = false
is_store (part.Log l) = false
is_store (part.Sequencer s) = false
is_store (part.Proxy p) = false
is_store (part.Recoverer r) = false
is_store (part.Storage s) = false
is_store (part.Store s) = true

-- a store was there, and is so now
abbrev pub BecomesStore : Part → Part → (StoreState → StoreState) → Type 0
BecomesStore old new after = IfStore old (λ s. new ≡ part.Store (after s))
