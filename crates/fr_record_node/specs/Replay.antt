-- A machine that is brought back from the records of a file.
use Rattle.std.specs.Prelude.{◌≡◌, ℕ, List, fold, Option, None, Some}
use Rattle.fr_record.specs.File.{StandsFor}

module _ {M : Type 0} (replay : M → List ℕ → Option M) where
  -- the machine after one record more
  abbrev pub next_replayed : Option M → List ℕ → Option M
  next_replayed None r = None
  next_replayed (Some s) r = replay s r

  -- the machine after records, none from the first on that no ask writes
  abbrev pub replayed : Option M → List (List ℕ) → Option M
  replayed o records = fold next_replayed o records

  -- a file is that of a machine which began as `fresh` and now has P
  pub record Opens (fresh : M) (P : M → Type 0) (file : List ℕ) : Type 0 where
    pub records : List (List ℕ)
    pub state : M
    pub stands : StandsFor file records
    pub replays : replayed (Some fresh) records ≡ Some state
    pub holds : P state
