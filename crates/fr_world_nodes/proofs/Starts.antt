-- Cells and storage servers, as many as were made so far at a start.
use Rattle.std.proofs.Common.{◌≡◌, ℕ, ◌+◌, false, List, [], ◌∷◌, ◌++◌, Some, sym, ◌∙◌, ap, length}
use Rattle.std.specs.Prelude.{slice_get}
use Rattle.fr_register.specs.CellState.{CellState}
use Rattle.fr_undo.specs.State.{StoreState}
use Rattle.fr_storage.specs.Server.{Server}
use Rattle.fr_run.specs.Config.{Config, first_cell, first_storage}
use Rattle.std.proofs.lemmas.List.{length_push}
use Rattle.fr_world_nodes.specs.Parts.{server_of, Storages, AreCells, AreStorages}
use Rattle.fr_world_nodes.proofs.Lists.{each_push}

pub record FirstCells (c : Config) (n : ℕ) (cells : List CellState) : Type 0 where
  pub all : length cells ≡ n
  pub each : (i : ℕ) (x : CellState) → slice_get cells i ≡ Some x → x ≡ first_cell c

more : {X : Type 0} (xs : List X) (y : X) (n : ℕ) → length xs ≡ n → length (xs ++ (y ∷ [])) ≡ n + 1
more xs y n e = length_push xs y ∙ ap (λ m. m + 1) e

pub one_cell : (c : Config) (n : ℕ) (cells : List CellState) (x : CellState) → FirstCells c n cells → x ≡ first_cell c → FirstCells c (n + 1) (cells ++ (x ∷ []))
one_cell c n cells x k e = record { all = more cells x n k.all; each = each_push (λ i y. y ≡ first_cell c) cells x k.each e }

pub record FirstStorages (c : Config) (n : ℕ) (servers : Storages) : Type 0 where
  pub all : length servers ≡ n
  pub each : (i : ℕ) (s : Server StoreState) → slice_get servers i ≡ Some s → server_of s ≡ first_storage c i
  pub work : (i : ℕ) (s : Server StoreState) → slice_get servers i ≡ Some s → s.failed ≡ false

pub one_storage : (c : Config) (n : ℕ) (servers : Storages) (s : Server StoreState) → FirstStorages c n servers → server_of s ≡ first_storage c n → s.failed ≡ false → FirstStorages c (n + 1) (servers ++ (s ∷ []))
one_storage c n servers s k e w = record {
  all = more servers s n k.all;
  each = each_push (λ i t. server_of t ≡ first_storage c i) servers s k.each (e ∙ ap (first_storage c) (sym k.all));
  work = each_push (λ i t. t.failed ≡ false) servers s k.work w;
}

pub all_cells : (c : Config) (n : ℕ) (cells : List CellState) → FirstCells c n cells → n ≡ c.cells → AreCells c [] cells
all_cells c n cells k e = record { all = k.all ∙ e; each = k.each }

pub all_storages : (c : Config) (n : ℕ) (servers : Storages) → FirstStorages c n servers → n ≡ length c.begins → AreStorages c [] servers
all_storages c n servers k e = record { all = k.all ∙ e; each = k.each; work = k.work }
