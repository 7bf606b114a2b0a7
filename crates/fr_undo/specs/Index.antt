-- The undo rows by key, as a store in memory lists them by need for reads at a version.
use Rattle.std.specs.Prelude.{◌≡◌, ◌<◌, ◌≤◌, ℕ, Bool, true, false, List, Option, None, Some, IsSome}
use Rattle.std.specs.declared.cmp.Ordering.{Ordering}
use Rattle.std.specs.Ordering.{nat_cmp, ordering_then}
use Rattle.std.specs.BTreeSet.{BTreeSet, contains}
use Rattle.fr_base.specs.Bytes.{bytes_cmp}
use Rattle.fr_undo.specs.declared.index.RowIndex.{RowIndex}
use Rattle.fr_undo.specs.Rows.{RowList, row_in}

-- by key, and then by version
abbrev pub by_key : List ℕ × ℕ → List ℕ × ℕ → Ordering
by_key p q = ordering_then (bytes_cmp p.0 q.0) (nat_cmp p.1 q.1)

-- whether a key is listed at a version
abbrev pub is_listed : BTreeSet (List ℕ × ℕ) → List ℕ → ℕ → Bool
is_listed places q w = contains by_key places (q, w)

-- each row of a version through that of the list is listed, and what is listed is a row
pub record IsIndex (index : RowIndex) (rows : RowList) : Type 0 where
  pub listed : (w : ℕ) (q : List ℕ) → IsSome (row_in rows (w, q)) → w ≤ index.through → is_listed index.places q w ≡ true
  pub only : (w : ℕ) (q : List ℕ) → is_listed index.places q w ≡ true → IsSome (row_in rows (w, q))

-- the least version above t that passes a test, or none if no version above t does
abbrev pub IsLeastAbove : (ℕ → Bool) → ℕ → Option ℕ → Type 0
IsLeastAbove test t None = (w : ℕ) → t < w → test w ≡ false
IsLeastAbove test t (Some v) = (t < v) × (test v ≡ true) × ((w : ℕ) → t < w → w < v → test w ≡ false)
