-- What CREATE TABLE makes.
use Rattle.std.proofs.Common.{◌≡◌, ℕ, List, [], false, None, Ok, Err, Result, OnOk, sym, ap, subst, ◌∙◌}
use Rattle.sqlite.specs.declared.error.Error.{Error}
use Rattle.sqlite.specs.Command.TheVariants.{CreateTable}
use Rattle.sqlite.specs.Compile.{table_defined_by}
use Rattle.sqlite.specs.Table.{Table}
use Rattle.sqlite.specs.Schema.{Schema}
use Rattle.sqlite.specs.Does.{Tally, lacks_sequence}
use Rattle.sqlite.specs.Effect.{Database}
use Rattle.sqlite.specs.Listing.{understood}
use Rattle.sqlite.specs.State.{State, Writes, ExecutesInside}
use Rattle.sqlite.proofs.Callers.{IsPlain, command_of, statement_of, runs_as}
use Rattle.sqlite_catalog.specs.Change.{created, next_tree, KeepsRows}
use Rattle.fr_sql_rows.specs.Connection.{Creates}
use Rattle.fr_sql_rows.proofs.StepLemmas.{went, same_value}

pub creates : (text : List ℕ) (table : Table) (before : Schema) (old new : State) (r : Result ℕ Error)
    → (command_of (understood before text) ≡ CreateTable) × (statement_of text (understood before text) ≡ text) × IsPlain (understood before text)
    → table_defined_by text ≡ Ok table → lacks_sequence (created before table) ≡ false → old.now.schema ≡ before
    → ExecutesInside 0 text [] old new r → OnOk r (Creates before table old.now new.now)
creates text table before old new (Err e) reads defined plain has h = tt
creates text table before old new (Ok count) reads defined counted has h =
    let w = subst (λ t. Writes old new None CreateTable t [] count) reads.1 (runs_as text [] old new before has CreateTable reads.0 reads.2 count h.0) in
    let all = went w.changed in
    let first = went all.1 in
    let made = first.1 in
    let both : Ok made.table ≡ Ok table = sym made.defined ∙ defined in
    let same : made.table ≡ table = cc in
    let is : first.0.schema ≡ created before table = made.is ∙ ap (λ s. created s made.table) has ∙ ap (created before) same in
    let plain : lacks_sequence first.0.schema ≡ false = ap lacks_sequence is ∙ counted in
    let now : new.now ≡ first.0 = ap (λ (p : Tally × Database). p.1) (same_value all.2) ∙ same_value (rw plain at first.2) in
    record {
      schema = ap (λ (d : Database). d.schema) now ∙ is;
      empty = ap (λ (d : Database). d.trees (next_tree before)) now ∙ subst (λ s. first.0.trees (next_tree s) ≡ []) has made.empty;
      others = subst (λ (d : Database). KeepsRows before.tables old.now.trees d.trees) (sym now) (subst (λ s. KeepsRows s.tables old.now.trees first.0.trees) has made.others);
    }
