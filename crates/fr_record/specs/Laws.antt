-- What every file of records keeps.
use Rattle.std.specs.Prelude.{◌≡◌, ◌⊎◌, ℕ, List, ◌∷◌, ◌++◌}
use Rattle.fr_record.specs.File.{AreShort, StandsFor, IsLeft, IsAtRest}

-- a file stands for one list of records at most
abbrev pub OneList : Type 0
OneList = (file : List ℕ) (a b : List (List ℕ)) → StandsFor file a → StandsFor file b → b ≡ a

-- what a crash leaves while a group is in flight stands for the records before it, or for those with it
abbrev pub WholeOrNot : Type 0
WholeOrNot =
    (file : List ℕ) (before : List (List ℕ)) (first : List ℕ) (others : List (List ℕ)) → AreShort (before ++ first ∷ others)
    → IsLeft before (first ∷ others) file → StandsFor file before ⊎ StandsFor file (before ++ first ∷ others)

-- a file at rest stands for its records
abbrev pub RestStands : Type 0
RestStands = (file : List ℕ) (records : List (List ℕ)) → IsAtRest records file → StandsFor file records
