-- What a world keeps is kept at the turns of its nodes.
use Rattle.std.proofs.Common.{◌≡◌, ◌≢◌, ℕ, ◌<◌, Bool, true, false, cond, ◌==◌, List, ◌∷◌, refl, sym, ◌∙◌, ap, subst, slice_set, slice_index_or}
use Rattle.std.proofs.lemmas.Bool.{eqb-true, eq-eqb}
use Rattle.std.proofs.lemmas.List.{length-set}
use Rattle.std.proofs.lemmas.Option.{slice_get-get_or}
use Rattle.fr_base.specs.declared.place.NodeId.{NodeId}
use Rattle.fr_register.specs.CellState.{CellState, fresh_cell}
use Rattle.fr_register.specs.Cell as cell
use Rattle.fr_register.specs.declared.ask.CellAsk.{CellAsk}
use Rattle.fr_register.specs.declared.ask.CellTell.{CellTell}
use Rattle.fr_run.specs.Config.{Config}
use Rattle.fr_run.specs.Turn.{Turn, CellTurn}
use Rattle.fr_run.specs.Nodes.{cell_at}
use Rattle.fr_run.specs.Run.{IsTurn}
use Rattle.fr_run.specs.Laws.{Laws}
use Rattle.fr_world_nodes.specs.Parts.{IsWorld, AreCells, Logs, Sequencers, Proxies, Recoverers, Storages}
use Rattle.fr_world_turns.specs.declared.turn.Turn.TheVariants as code
use Rattle.fr_world_turns.specs.Turns.{turn_of}
use Rattle.fr_world_nodes.proofs.Lists.{each_set}
use Rattle.fr_world_nodes.proofs.Stands.{logs_next, sequencers_next, proxies_next}

-- a cell that is kept is the one of what happened
pub cell_is : (c : Config) (h : List Turn) (cells : List CellState) → AreCells c h cells → (i : ℕ) → i < c.cells → slice_index_or cells i fresh_cell ≡ cell_at c h i
cell_is c h cells k i l = k.each i (slice_index_or cells i fresh_cell) (slice_get-get_or cells i fresh_cell (subst (λ n. i < n) (sym k.all) l))

-- the cells after an ask of one of them
cells_next : (c : Config) (h : List Turn) (from : NodeId) (i : ℕ) (a : CellAsk) (t : CellTell) (cells : List CellState) → AreCells c h cells → i < c.cells
    → AreCells c (CellTurn from i a t ∷ h) (slice_set cells i (cell.next_of (slice_index_or cells i fresh_cell) a))
cells_next c h from i a t cells k l = record {
  all = length-set cells i (cell.next_of (slice_index_or cells i fresh_cell) a) ∙ k.all;
  each = each_set (λ j x. x ≡ cell_at c (CellTurn from i a t ∷ h) j) cells i (cell.next_of (slice_index_or cells i fresh_cell) a) (λ j x ne at. others j x ne (k.each j x at)) own;
}
  where
    others : (j : ℕ) (x : CellState) → j ≢ i → x ≡ cell_at c h j → x ≡ cell_at c (CellTurn from i a t ∷ h) j
    others j x ne e = go (i == j) refl
      where
        go : (b : Bool) → (i == j) ≡ b → x ≡ cond b (cell.next_of (cell_at c h j) a) (cell_at c h j)
        go true k = absurd (ne (sym (eqb-true i j k)))
        go false k = e

    own : cell.next_of (slice_index_or cells i fresh_cell) a ≡ cell_at c (CellTurn from i a t ∷ h) i
    own = ap (λ x. cell.next_of x a) (cell_is c h cells k i l) ∙ go (i == i) (eq-eqb i i refl)
      where
        go : (b : Bool) → b ≡ true → cell.next_of (cell_at c h i) a ≡ cond b (cell.next_of (cell_at c h i) a) (cell_at c h i)
        go true k = refl
        go false k = absurd (cc)

pub cell_kept : Laws → (c : Config) (h : List Turn) (from : NodeId) (i : ℕ) (a : CellAsk) (t : CellTell) (cells : List CellState) (logs : Logs) (sequencers : Sequencers) (proxies : Proxies) (recoverers : Recoverers) (storages : Storages)
    → IsWorld c h cells logs sequencers proxies recoverers storages → IsTurn c h (CellTurn from i a t)
    → IsWorld c (CellTurn from i a t ∷ h) (slice_set cells i (cell.next_of (slice_index_or cells i fresh_cell) a)) logs sequencers proxies recoverers storages
cell_kept laws c h from i a t cells logs sequencers proxies recoverers storages w is = record {
  within = w.within;
  run = (is, w.run);
  cells_are = cells_next c h from i a t cells w.cells_are is.0;
  logs_are = logs_next laws c h (CellTurn from i a t) w.run is logs logs w.logs_are (record { each = λ e j l. refl; there = w.logs_are.there });
  sequencers_are = sequencers_next laws c h (CellTurn from i a t) w.run is sequencers sequencers w.sequencers_are (record { each = λ e o. refl; there = w.sequencers_are.there });
  proxies_are = proxies_next laws c h (CellTurn from i a t) w.run is proxies proxies w.proxies_are (record { each = λ e p o. refl; there = w.proxies_are.there });
  recoverers_are = w.recoverers_are;
  storages_are = record { all = w.storages_are.all; each = w.storages_are.each; work = w.storages_are.work };
}

-- the turn of a cell as the code enters it
pub cell_entered : (c : Config) (h : List Turn) (from : NodeId) (i : ℕ) (a kept asked : CellAsk) (t : CellTell) (cells : List CellState) → AreCells c h cells → i < c.cells → kept ≡ a → asked ≡ a
    → t ≡ cell.answer_of (slice_index_or cells i fresh_cell) asked → turn_of (code.Cell from i kept t) ≡ CellTurn from i a (cell.answer_of (cell_at c h i) a)
cell_entered c h from i a kept asked t cells k l same copied told =
    ap (λ x. CellTurn from i x t) same ∙ ap (λ x. CellTurn from i a x) (told ∙ (ap (λ x. cell.answer_of (slice_index_or cells i fresh_cell) x) copied ∙ ap (λ x. cell.answer_of x a) (cell_is c h cells k i l)))

pub cell_told : (c : Config) (h : List Turn) (i : ℕ) (a asked : CellAsk) (t : CellTell) (cells : List CellState) → AreCells c h cells → i < c.cells → asked ≡ a
    → t ≡ cell.answer_of (slice_index_or cells i fresh_cell) asked → t ≡ cell.answer_of (cell_at c h i) a
cell_told c h i a asked t cells k l copied told = told ∙ (ap (λ x. cell.answer_of (slice_index_or cells i fresh_cell) x) copied ∙ ap (λ x. cell.answer_of x a) (cell_is c h cells k i l))

pub cell_world : Laws → (c : Config) (h later : List Turn) (from : NodeId) (i : ℕ) (a asked : CellAsk) (t : CellTell) (cells new : List CellState) (logs : Logs) (sequencers : Sequencers) (proxies : Proxies) (recoverers : Recoverers) (storages : Storages)
    → IsWorld c h cells logs sequencers proxies recoverers storages → IsTurn c h (CellTurn from i a t) → asked ≡ a
    → new ≡ slice_set cells i (cell.next_of (slice_index_or cells i fresh_cell) asked) → later ≡ CellTurn from i a t ∷ h
    → IsWorld c later new logs sequencers proxies recoverers storages
cell_world laws c h later from i a asked t cells new logs sequencers proxies recoverers storages w is copied made entered =
    subst (λ x. IsWorld c x new logs sequencers proxies recoverers storages) (sym entered)
    (subst (λ x. IsWorld c (CellTurn from i a t ∷ h) x logs sequencers proxies recoverers storages) (sym (made ∙ ap (λ x. slice_set cells i (cell.next_of (slice_index_or cells i fresh_cell) x)) copied))
    (cell_kept laws c h from i a t cells logs sequencers proxies recoverers storages w is))
