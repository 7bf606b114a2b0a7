-- Trees of values and of undo rows, of which changes are worked out.
use Rattle.std.specs.Prelude.{◌≤◌, ℕ, List, Option, IsSome}
use Rattle.std.specs.BTreeMap as tree
use Rattle.std.specs.BTreeMap.{BTreeMap}
use Rattle.fr_undo.specs.State.{Place, place_cmp}

-- keys with their values
abbrev pub Contents : Type 0
Contents = BTreeMap (List ℕ) (List ℕ)

-- what keys held before versions
abbrev pub Rows : Type 0
Rows = BTreeMap Place (Option (List ℕ))

-- no row is above the version
abbrev pub IsUpTo : Rows → ℕ → Type 0
IsUpTo rows t = (version : ℕ) (key : List ℕ) → IsSome (tree.get place_cmp rows (version, key)) → version ≤ t
