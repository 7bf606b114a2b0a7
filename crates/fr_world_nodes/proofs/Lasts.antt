-- What others see of a cell that is kept is what they see of it after what happened.
use Rattle.std.proofs.Common.{◌≡◌, ℕ, List, None, Some, Bool, true, false, nat_lt, length, get_or, refl, ◌∙◌, ap, subst, ◌<◌}
use Rattle.std.specs.Prelude.{slice_get, if◌then◌else◌}
use Rattle.std.proofs.lemmas.Bool.{lt-ltb}
use Rattle.std.proofs.lemmas.Option.{slice_get_within, slice_get_read}
use Rattle.fr_register.specs.CellState.{CellState}
use Rattle.fr_ask.specs.Named.{last_of_cell}
use Rattle.fr_ask.specs.declared.last.Last.{Last}
use Rattle.fr_run.specs.Config.{Config}
use Rattle.fr_run.specs.Turn.{Turn}
use Rattle.fr_run.specs.Nodes.{cell_at}
use Rattle.fr_world_nodes.specs.Parts.{AreCells}

chosen : (b : Bool) (x y : Last) → b ≡ true → x ≡ y → Some x ≡ (if b then Some y else None)
chosen true x y e k = ap Some k
chosen false x y e k = absurd (cc)

cell_last : (c : Config) (h : List Turn) (cells : List CellState) → AreCells c h cells → (i : ℕ) (x : CellState) (l : Last) → slice_get cells i ≡ Some x → l ≡ last_of_cell x
    → Some l ≡ (if nat_lt i c.cells then Some (last_of_cell (cell_at c h i)) else None)
cell_last c h cells are i x l found e =
    chosen (nat_lt i c.cells) l (last_of_cell (cell_at c h i)) (lt-ltb i c.cells (subst (λ n. i < n) are.all (slice_get_within cells i x found))) (e ∙ ap last_of_cell (are.each i x found))

pub cell_read : (c : Config) (h : List Turn) (cells : List CellState) → AreCells c h cells → (i j : ℕ) (x : CellState) (l : Last) (ys : List CellState) → ys ≡ cells → j ≡ i → j < length ys → x ≡ get_or ys j x → l ≡ last_of_cell x
    → Some l ≡ (if nat_lt i c.cells then Some (last_of_cell (cell_at c h i)) else None)
cell_read c h cells are i j x l ys same place within read e =
    let lt : i < length cells = subst (λ k. k < length cells) place (subst (λ zs. j < length zs) same within) in
    let rd : x ≡ get_or cells i x = subst (λ k. x ≡ get_or cells k x) place (subst (λ zs. x ≡ get_or zs j x) same read) in
    cell_last c h cells are i x l (slice_get_read cells (length cells) i x refl lt rd) e
