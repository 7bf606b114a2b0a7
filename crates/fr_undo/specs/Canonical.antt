-- The state that a list of commits determines.
use Rattle.std.specs.Prelude.{ℕ, ◌<◌, ◌≤◌, List, [], ◌∷◌, nat_le, nat_lt, if◌then◌else◌}
use Rattle.std.specs.FinMap.{empty}
use Rattle.fr_base.specs.Map.{Map}
use Rattle.fr_mutation.specs.declared.mutation.Mutation.{Mutation}
use Rattle.fr_mutation.specs.Mutation.{after}
use Rattle.fr_undo.specs.State.{UndoRows, StoreState}
use Rattle.fr_undo.specs.Undo.{rows, joined}

-- a version and the batch of its commit
abbrev pub Commit : Type 0
Commit = ℕ × List Mutation

-- the versions rise, are above a and at most v
abbrev pub Rises : ℕ → List Commit → ℕ → Type 0
Rises a [] v = a ≤ v
Rises a (commit ∷ commits) v = (a < commit.0) × Rises commit.0 commits v

-- the versions rise, and are above a
abbrev pub RiseFrom : ℕ → List Commit → Type 0
RiseFrom a [] = Unit {0}
RiseFrom a (commit ∷ commits) = (a < commit.0) × RiseFrom commit.0 commits

-- the map after the batches of commits, from first to last
abbrev pub contents_after : Map → List Commit → Map
contents_after m [] = m
contents_after m (commit ∷ commits) = contents_after (after m commit.1) commits

-- the undo rows of commits on a map, without those of versions through f
unfoldable pub rows_after : ℕ → Map → List Commit → UndoRows
rows_after f m [] = empty
rows_after f m (commit ∷ commits) = joined (if nat_lt f commit.0 then rows m commit.0 commit.1 else empty) (rows_after f (after m commit.1) commits)

-- the state of an empty store after commits, advanced to v, with undo rows through f forgotten
abbrev pub canonical : List Commit → ℕ → ℕ → List ℕ → StoreState
canonical commits v f bytes = record { contents = contents_after empty commits; undo = rows_after f empty commits; applied = v; floor = f; bytes = bytes }

-- the commits of versions through c
abbrev pub commits_through : ℕ → List Commit → List Commit
commits_through c [] = []
commits_through c (commit ∷ commits) = if nat_le commit.0 c then commit ∷ commits_through c commits else []
