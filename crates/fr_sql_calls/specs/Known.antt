-- What a call knows of the contents that it read.
use Rattle.std.specs.Prelude.{◌≡◌, ℕ, Bool, cond, List, Option, None}
use Rattle.std.specs.List.{list_any}
use Rattle.std.specs.Option.{option_or}
use Rattle.std.specs.BTreeMap as tree
use Rattle.fr_base.specs.Bytes.{bytes_cmp, is_same}
use Rattle.fr_undo.specs.State.{Place}
use Rattle.fr_undo.specs.Trees.{Contents}

-- the keys that pass a test were looked up too
abbrev pub LooksUp : (List ℕ → Bool) → (List ℕ → Option (List ℕ)) → Contents → Contents → Type 0
LooksUp test held old new = (q : List ℕ) → tree.get bytes_cmp new q ≡ option_or (tree.get bytes_cmp old q) (cond (test q) (held q) None)

-- what the keys that pass a test hold is known, and nothing else
abbrev pub KnowsOf : (List ℕ → Bool) → (List ℕ → Option (List ℕ)) → Contents → Type 0
KnowsOf test held known = (q : List ℕ) → tree.get bytes_cmp known q ≡ cond (test q) (held q) None

-- whether some undo row is of the key
abbrev pub has_row : List (Place × Option (List ℕ)) → List ℕ → Bool
has_row rows q = list_any (λ (row : Place × Option (List ℕ)). is_same row.0.1 q) rows
