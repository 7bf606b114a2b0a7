-- When two lists of rows are the same.
use Rattle.std.specs.Prelude.{◌≡◌, ℕ, Bool, true, ◌&&◌, List}
use Rattle.std.specs.Cmp.Lexicographic.{pointwise}
use Rattle.std.proofs.lemmas.Bool.{and_parts}
use Rattle.fr_base.specs.Bytes.{bytes_eq}
use Rattle.fr_base.specs.Same.{IsSameness, pointwise-IsSameness, bytes_eq-IsSameness}
use Rattle.fr_log.specs.Fields.{two}

-- whether two rows have the same key and the same value
abbrev pub is_same_row : List ℕ × List ℕ → List ℕ × List ℕ → Bool
is_same_row r s = bytes_eq r.0 s.0 && bytes_eq r.1 s.1

abbrev pub is_same_rows : List (List ℕ × List ℕ) → List (List ℕ × List ℕ) → Bool
is_same_rows = pointwise is_same_row

is_same_row-IsSameness : IsSameness is_same_row
is_same_row-IsSameness = record { itself = itself; same = same }
  where
    itself : (r : List ℕ × List ℕ) → is_same_row r r ≡ true
    itself r = rw (bytes_eq-IsSameness.itself r.0) (bytes_eq-IsSameness.itself r.1)

    same : (r s : List ℕ × List ℕ) → is_same_row r s ≡ true → r ≡ s
    same r s e =
        let p = and_parts (bytes_eq r.0 s.0) (bytes_eq r.1 s.1) e in
        two (λ key value. (key, value)) (bytes_eq-IsSameness.same r.0 s.0 p.0) (bytes_eq-IsSameness.same r.1 s.1 p.1)

pub is_same_rows-IsSameness : IsSameness is_same_rows
is_same_rows-IsSameness = pointwise-IsSameness is_same_row-IsSameness
