-- A command that is done, or whose files then fail.
use Rattle.std.proofs.Common.{◌≡◌, ◌⊎◌, inl, inr, ℕ, List, [], Option, Some, Result, Ok, Err, refl, sym, subst, ◌∙◌}
use Rattle.std.specs.Prelude.{IfOk, IfErr}
use Rattle.sqlite_disk.specs.declared.Disk.{Ghosts}
use Rattle.sqlite_disk.specs.declared.Files.{Files}
use Rattle.fr_undo.specs.State.{StoreState, fresh}
use Rattle.fr_sql_store.specs.Files.{HoldStore}
use Rattle.fr_cli_json.specs.declared.fault.CliFault.TheVariants.{Memory}
use Rattle.fr_cli_json.specs.Text.{HasRead}
use Rattle.fr_cli_json.specs.Command.{Prints}
use Rattle.fr_cli_json.proofs.TextLemmas.{gains_all}
use Rattle.fr_cli_json.proofs.CommandLemmas.{cut_off, printed}
use Rattle.fr_cli_apply.specs.declared.script.Operation.{Operation}
use Rattle.fr_cli_apply.specs.Script.{script_of}
use Rattle.fr_cli_apply.specs.Lines.{left_by}
use Rattle.fr_cli_apply_sql.specs.declared.fault.DbFault.{DbFault}
use Rattle.fr_cli_apply_sql.specs.Db.{Holds, Keeps, cli_of, answer_of}

-- what was opened shows what the files hold
pub held : {D : Type 0} (g : Ghosts D) (files : Files D) (shown : StoreState) → ((x : StoreState) → HoldStore g files x → shown ≡ x) → (g.seen files.db ≡ [] → shown ≡ fresh)
    → (x : StoreState) → Holds g files x → shown ≡ x
held g files shown found made x (inl h) = found x h
held g files shown found made x (inr h) = made h.0 ∙ sym h.1

module _ {S W T : Type 0} (means : List ℕ → Option S) (lines_of : S → List ℕ) (left left_now : Option (List ℕ)) (contents : W → Option (List ℕ)) (old new : W) where
  -- what was printed is printed, whatever becomes of the files
  pub printed_then : (status : ℕ) (r : Result T DbFault) → Prints means lines_of left left_now contents old new (Ok status) → IfErr r (λ e. cli_of e ≡ Memory)
      → Prints means lines_of left left_now contents old new (answer_of r)
  printed_then status (Ok done) p h = printed means lines_of left left_now contents old new p.all
  printed_then status (Err e) p h =
      cut_off means lines_of left left_now contents old new (Err (cli_of e)) refl (inr h) (p.all.0, p.all.1, gains_all (contents old) (contents new) (lines_of p.all.0) p.all.2)

-- files that are given back hold what the script left, where they hold what the store shows
pub kept_by : {D : Type 0} (g : Ghosts D) (x shown : StoreState) (left left_now : Option (List ℕ)) (r : Result (Files D) DbFault)
    → (script : List Operation) × HasRead script_of left left_now (Some script) × (shown ≡ left_by x script) → IfOk r (λ files. ∥ HoldStore g files shown ∥₁) → IfOk r (Keeps g x left left_now)
kept_by g x shown left left_now (Err e) k h = tt
kept_by g x shown left left_now (Ok files) k h = (k.0, k.1, subst (λ s. ∥ HoldStore g files s ∥₁) k.2 h)

-- what is so of what was opened is so of whatever the files held
pub of_held : {T : Type 0} (r : Result T DbFault) (P : T → StoreState → Type 0) (H : StoreState → Type 0) (shown : StoreState) → ((x : StoreState) → H x → shown ≡ x)
    → IfOk r (λ t. P t shown) → IfOk r (λ t. (x : StoreState) → H x → P t x)
of_held (Err e) P H shown found k = tt
of_held (Ok t) P H shown found k = λ x h. subst (P t) (found x h) k
