-- Asks one after another: where they lead a machine, what they are told, and their records.
use Rattle.std.specs.Prelude.{◌≡◌, ℕ, List, [], ◌∷◌, ◌++◌, fold}

module _ {M A : Type 0} (after : M → A → M) where
  -- the machine after asks
  abbrev pub after_all : M → List A → M
  after_all m asks = fold after m asks

  -- what asks are told
  abbrev pub told_all : {T : Type 0} → (M → A → T) → M → List A → List T
  told_all told m [] = []
  told_all told m (ask ∷ asks) = told m ask ∷ told_all told (after m ask) asks

  -- the records of asks
  abbrev pub written_all : (M → A → List (List ℕ)) → M → List A → List (List ℕ)
  written_all written m [] = []
  written_all written m (ask ∷ asks) = written m ask ++ written_all written (after m ask) asks

  -- a list of asks leads where its front leads and then what is behind
  abbrev pub AfterApart : Type 0
  AfterApart = (m : M) (front behind : List A) → after_all m (front ++ behind) ≡ after_all (after_all m front) behind

  -- it is told what they are told
  abbrev pub ToldApart : {T : Type 0} → (M → A → T) → Type 0
  ToldApart told = (m : M) (front behind : List A) → told_all told m (front ++ behind) ≡ told_all told m front ++ told_all told (after_all m front) behind

  -- and its records are theirs
  abbrev pub WrittenApart : (M → A → List (List ℕ)) → Type 0
  WrittenApart written = (m : M) (front behind : List A) → written_all written m (front ++ behind) ≡ written_all written m front ++ written_all written (after_all m front) behind
