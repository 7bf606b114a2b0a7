-- What a statement that writes makes of the table.
use Rattle.std.specs.Prelude.{unwrap_or}
use Rattle.std.proofs.Common.{◌≡◌, ℕ, ◌/◌, length, List, [], ◌++◌, None, Ok, refl, sym, ap, subst, ◌∙◌}
use Rattle.sqlite.specs.Order.{Row}
use Rattle.sqlite.specs.Term.{Term}
use Rattle.sqlite.specs.Query.{Query, IsSureAnswer}
use Rattle.sqlite.specs.Program.{overlay}
use Rattle.sqlite_schema.specs.declared.schema.Keys.TheVariants.{Enforced}
use Rattle.sqlite.specs.Command.{Command}
use Rattle.sqlite.specs.Command.TheVariants.{Insert, Update, Delete}
use Rattle.sqlite.specs.Source.TheVariants.{Values}
use Rattle.sqlite.specs.Edit.{Edit, edit_of, Applies}
use Rattle.sqlite.specs.Rowids.TheVariants.{Given, Chosen}
use Rattle.sqlite.specs.Does.{Tally, Does}
use Rattle.sqlite.specs.Rows.{Written}
use Rattle.sqlite.specs.Table.{Table}
use Rattle.sqlite.specs.Effect.{Database, value_rows}
use Rattle.sqlite.specs.Listing.{understood}
use Rattle.sqlite.specs.State.{State, Writes, mode_of, Executes}
use Rattle.sqlite.proofs.Callers.{IsPlain, command_of, statement_of, runs_as, one_step}
use Rattle.sqlite_rules.specs.Calls.{ids_of}
use Rattle.fr_sql_rows.specs.Schema.{schema, kv, undo, meta}
use Rattle.fr_sql_rows.proofs.StepLemmas.{went, same_value}
use Rattle.fr_sql_rows.proofs.ListLemmas.{map_length}

abbrev pub kv_table : Table
kv_table = record kv { tree = 0 }

abbrev pub undo_table : Table
undo_table = record undo { tree = 2 }

abbrev pub meta_table : Table
meta_table = record meta { tree = 4 }

-- the schema stays, and the trees are edited
pub record Edits (old new : Database) (edit : Edit) : Type 0 where
  pub laid : new.schema ≡ schema
  pub applies : Applies schema Enforced old.trees edit new.trees

-- rows that were written out, put into a table
pub record Puts (table : Table) (rows : List Row) (old new : Database) : Type 0 where
  pub edits : Edits old new (edit_of old.trees table [] Chosen 0 rows)

-- the rows that a query shows, from the column after the rowid on, in place of those of the rowids
pub record Replaces (table : Table) (q : Query) (params : Row) (old new : Database) : Type 0 where
  pub rows : List Row
  pub answer : IsSureAnswer q (overlay old.trees []) params rows
  pub edits : Edits old new (edit_of old.trees table (ids_of rows) Given 1 rows)

-- the rows whose rowids a query shows, taken out and counted
pub record Takes (table : Table) (q : Query) (params : Row) (count : ℕ) (old new : Database) : Type 0 where
  pub rows : List Row
  pub counted : count ≡ length rows
  pub answer : IsSureAnswer q (overlay old.trees []) params rows
  pub edits : Edits old new (edit_of old.trees table (ids_of rows) Given 0 [])

module _ (text : List ℕ) (params : Row) (old new : State) (has : old.now.schema ≡ schema) (plain : IsPlain (understood schema text)) (count : ℕ) where
  abbrev Did : Command → Tally → Type 0
  Did command tally = Does old.step_limit (mode_of old) params (record old.now { schema = schema }) (statement_of text (understood schema text)) None command (Ok (tally, new.now))

  did : (command : Command) → (w : Writes old new None command (statement_of text (understood schema text)) params count) → Did command w.tally
  did command w = subst (λ s. Does old.step_limit (mode_of old) params (record old.now { schema = s }) (statement_of text (understood schema text)) None command (Ok (w.tally, new.now))) has w.changed

  abbrev given_rows : List Term → ℕ → List Row
  given_rows terms width = value_rows (params ++ []) width (length terms / width) terms

  pub inserts_kv : (terms : List Term) → command_of (understood schema text) ≡ Insert 0 (Values terms 3) → Executes text params old new (Ok count) → Puts kv_table (given_rows terms 3) old.now new.now
  inserts_kv terms is h =
      let command = Insert 0 (Values terms 3) in
      let w = runs_as text params old new schema has command is plain count h in
      let done = went (did command w) in
      let now = ap (λ (p : Tally × Database). p.1) (same_value (went (went done.2).2).2) in
      let given = went done.1 in
      let written = went (went given.2).2 in
      let counted = went written.2 in
      let trees : done.0.trees ≡ written.0 = ap (λ (it : Written). it.trees) (same_value counted.2) ∙ same_value counted.1 in
      let applies = one_step schema _ old.now.trees written.0 (edit_of old.now.trees kv_table [] Chosen 0 given.0) refl written.1 in
      let all : new.now.trees ≡ written.0 = ap (λ (d : Database). d.trees) now ∙ trees in
      record {
        edits = record {
          laid = ap (λ (d : Database). d.schema) now;
          applies = subst (λ rows. Applies schema Enforced old.now.trees (edit_of old.now.trees kv_table [] Chosen 0 rows) new.now.trees) given.1.1 (subst (Applies schema Enforced old.now.trees (edit_of old.now.trees kv_table [] Chosen 0 given.0)) (sym all) applies);
        };
      }

  pub inserts_undo : (terms : List Term) → command_of (understood schema text) ≡ Insert 1 (Values terms 4) → Executes text params old new (Ok count) → Puts undo_table (given_rows terms 4) old.now new.now
  inserts_undo terms is h =
      let command = Insert 1 (Values terms 4) in
      let w = runs_as text params old new schema has command is plain count h in
      let done = went (did command w) in
      let now = ap (λ (p : Tally × Database). p.1) (same_value (went (went done.2).2).2) in
      let given = went done.1 in
      let written = went (went given.2).2 in
      let counted = went written.2 in
      let trees : done.0.trees ≡ written.0 = ap (λ (it : Written). it.trees) (same_value counted.2) ∙ same_value counted.1 in
      let applies = one_step schema _ old.now.trees written.0 (edit_of old.now.trees undo_table [] Chosen 0 given.0) refl written.1 in
      let all : new.now.trees ≡ written.0 = ap (λ (d : Database). d.trees) now ∙ trees in
      record {
        edits = record {
          laid = ap (λ (d : Database). d.schema) now;
          applies = subst (λ rows. Applies schema Enforced old.now.trees (edit_of old.now.trees undo_table [] Chosen 0 rows) new.now.trees) given.1.1 (subst (Applies schema Enforced old.now.trees (edit_of old.now.trees undo_table [] Chosen 0 given.0)) (sym all) applies);
        };
      }

  pub inserts_meta : (terms : List Term) → command_of (understood schema text) ≡ Insert 2 (Values terms 5) → Executes text params old new (Ok count) → Puts meta_table (given_rows terms 5) old.now new.now
  inserts_meta terms is h =
      let command = Insert 2 (Values terms 5) in
      let w = runs_as text params old new schema has command is plain count h in
      let done = went (did command w) in
      let now = ap (λ (p : Tally × Database). p.1) (same_value (went (went done.2).2).2) in
      let given = went done.1 in
      let written = went (went given.2).2 in
      let counted = went written.2 in
      let trees : done.0.trees ≡ written.0 = ap (λ (it : Written). it.trees) (same_value counted.2) ∙ same_value counted.1 in
      let applies = one_step schema _ old.now.trees written.0 (edit_of old.now.trees meta_table [] Chosen 0 given.0) refl written.1 in
      let all : new.now.trees ≡ written.0 = ap (λ (d : Database). d.trees) now ∙ trees in
      record {
        edits = record {
          laid = ap (λ (d : Database). d.schema) now;
          applies = subst (λ rows. Applies schema Enforced old.now.trees (edit_of old.now.trees meta_table [] Chosen 0 rows) new.now.trees) given.1.1 (subst (Applies schema Enforced old.now.trees (edit_of old.now.trees meta_table [] Chosen 0 given.0)) (sym all) applies);
        };
      }

  pub updates_kv : (q : Query) → command_of (understood schema text) ≡ Update 0 (record { lets = []; body = q }) → Executes text params old new (Ok count) → Replaces kv_table q params old.now new.now
  updates_kv q is h =
      let command = Update 0 (record { lets = []; body = q }) in
      let w = runs_as text params old new schema has command is plain count h in
      let done = went (did command w) in
      let now = ap (λ (p : Tally × Database). p.1) (same_value (went (went done.2).2).2) in
      let given = went done.1 in
      let written = went given.2 in
      let trees : done.0.trees ≡ written.0 = ap (λ (it : Written). it.trees) (same_value written.2) in
      let edit = edit_of old.now.trees kv_table (ids_of given.0) Given 1 given.0 in
      let applies = one_step schema _ old.now.trees written.0 edit refl written.1 in
      let all : new.now.trees ≡ written.0 = ap (λ (d : Database). d.trees) now ∙ trees in
      record { rows = given.0; answer = given.1.answer; edits = record { laid = ap (λ (d : Database). d.schema) now; applies = subst (Applies schema Enforced old.now.trees edit) (sym all) applies } }

  pub updates_meta : (q : Query) → command_of (understood schema text) ≡ Update 2 (record { lets = []; body = q }) → Executes text params old new (Ok count) → Replaces meta_table q params old.now new.now
  updates_meta q is h =
      let command = Update 2 (record { lets = []; body = q }) in
      let w = runs_as text params old new schema has command is plain count h in
      let done = went (did command w) in
      let now = ap (λ (p : Tally × Database). p.1) (same_value (went (went done.2).2).2) in
      let given = went done.1 in
      let written = went given.2 in
      let trees : done.0.trees ≡ written.0 = ap (λ (it : Written). it.trees) (same_value written.2) in
      let edit = edit_of old.now.trees meta_table (ids_of given.0) Given 1 given.0 in
      let applies = one_step schema _ old.now.trees written.0 edit refl written.1 in
      let all : new.now.trees ≡ written.0 = ap (λ (d : Database). d.trees) now ∙ trees in
      record { rows = given.0; answer = given.1.answer; edits = record { laid = ap (λ (d : Database). d.schema) now; applies = subst (Applies schema Enforced old.now.trees edit) (sym all) applies } }

  pub deletes_kv : (q : Query) → command_of (understood schema text) ≡ Delete 0 (record { lets = []; body = q }) → Executes text params old new (Ok count) → Takes kv_table q params count old.now new.now
  deletes_kv q is h =
      let command = Delete 0 (record { lets = []; body = q }) in
      let w = runs_as text params old new schema has command is plain count h in
      let done = went (did command w) in
      let now = ap (λ (p : Tally × Database). p.1) (same_value (went (went done.2).2).2) in
      let given = went done.1 in
      let written = went given.2 in
      let trees : done.0.trees ≡ written.0 = ap (λ (it : Written). it.trees) (same_value written.2) in
      let edit = edit_of old.now.trees kv_table (ids_of given.0) Given 0 [] in
      let applies = one_step schema _ old.now.trees written.0 edit refl written.1 in
      let all : new.now.trees ≡ written.0 = ap (λ (d : Database). d.trees) now ∙ trees in
      record {
        rows = given.0;
        counted = w.counted ∙ ap (λ (p : Tally × Database). unwrap_or p.0.rows 0) (same_value (went (went done.2).2).2) ∙ ap (λ (it : Written). length it.rows) (same_value written.2) ∙ map_length _ (ids_of given.0) ∙ map_length _ given.0;
        answer = given.1.answer;
        edits = record { laid = ap (λ (d : Database). d.schema) now; applies = subst (Applies schema Enforced old.now.trees edit) (sym all) applies };
      }

  pub deletes_undo : (q : Query) → command_of (understood schema text) ≡ Delete 1 (record { lets = []; body = q }) → Executes text params old new (Ok count) → Takes undo_table q params count old.now new.now
  deletes_undo q is h =
      let command = Delete 1 (record { lets = []; body = q }) in
      let w = runs_as text params old new schema has command is plain count h in
      let done = went (did command w) in
      let now = ap (λ (p : Tally × Database). p.1) (same_value (went (went done.2).2).2) in
      let given = went done.1 in
      let written = went given.2 in
      let trees : done.0.trees ≡ written.0 = ap (λ (it : Written). it.trees) (same_value written.2) in
      let edit = edit_of old.now.trees undo_table (ids_of given.0) Given 0 [] in
      let applies = one_step schema _ old.now.trees written.0 edit refl written.1 in
      let all : new.now.trees ≡ written.0 = ap (λ (d : Database). d.trees) now ∙ trees in
      record {
        rows = given.0;
        counted = w.counted ∙ ap (λ (p : Tally × Database). unwrap_or p.0.rows 0) (same_value (went (went done.2).2).2) ∙ ap (λ (it : Written). length it.rows) (same_value written.2) ∙ map_length _ (ids_of given.0) ∙ map_length _ given.0;
        answer = given.1.answer;
        edits = record { laid = ap (λ (d : Database). d.schema) now; applies = subst (Applies schema Enforced old.now.trees edit) (sym all) applies };
      }
