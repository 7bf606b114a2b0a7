-- The cell that a record leads to.
use Rattle.std.proofs.Common.{List, drop, ◌≡◌, ℕ, Bool, true, false, refl, ap, ◌∙◌}
use Rattle.std.specs.Prelude.{Option, Some, None, if◌then◌else◌}
use Rattle.fr_register.specs.CellState.{CellState}
use Rattle.fr_record_node.specs.CellFile.{cell_at, number_at, spells_cell, ballots_of, replay_cell}

same_some : {X : Type 0} (x y : X) → Some x ≡ Some y → x ≡ y
same_some x y e = cc e

cell_of : (a b p w : ℕ) (v u : List ℕ) (n : CellState) → a ≡ p → b ≡ w → v ≡ u → n ≡ record { promised = p; written = w; value = v } → record { promised = a; written = b; value = u } ≡ n
cell_of a b p w v u n k l m e = cc (k, l, m, e)

pub read_ok : (c : CellState) (r : List ℕ) (x : ℕ × ℕ) (v : List ℕ) (n : CellState)
    → ballots_of r ≡ Some x → v ≡ drop 16 r → n ≡ record { promised = x.0; written = x.1; value = v } → replay_cell c r ≡ Some n
read_ok c r x v n found value_is is = go (spells_cell r) found refl
  where
    pair : ℕ × ℕ
    pair = (number_at 0 r, number_at 8 r)

    pick : Bool → Option (ℕ × ℕ)
    pick s = if s then Some pair else None

    taken : Bool → Option CellState
    taken s = if s then Some (cell_at r) else None

    go : (s : Bool) → pick s ≡ Some x → spells_cell r ≡ s → replay_cell c r ≡ Some n
    go true pair_is e =
        let parts = same_some pair x pair_is in
        let same : cell_at r ≡ n = cell_of (number_at 0 r) (number_at 8 r) x.0 x.1 v (drop 16 r) n (ap (λ (z : ℕ × ℕ). z.0) parts) (ap (λ (z : ℕ × ℕ). z.1) parts) value_is is in
        ap taken e ∙ ap (λ y. Some y) same
    go false none e = absurd (cc none)
