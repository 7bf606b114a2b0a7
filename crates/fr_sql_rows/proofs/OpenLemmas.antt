-- What a connection that is opened over a store knows of its tables.
use Rattle.std.proofs.Common.{◌≡◌, Bool, true, false, true≢false, IsTrue, refl, sym, subst, ◌∙◌}
use Rattle.sqlite.specs.Effect.{Database}
use Rattle.sqlite.specs.State.{State, Opens}
use Rattle.sqlite_trees.specs.View.{View, IsOrdered, IsShaped, IsRolledBack, IsClean}
use Rattle.sqlite.specs.Steps.{IsFresh}
use Rattle.sqlite_trees.specs.Objects.{catalog_tree, IsListed}
use Rattle.sqlite_trees.specs.declared.store.Shape.TheVariants.{Table}
use Rattle.sqlite_trees.proofs.ListLemmas.{all_weaker}
use Rattle.sqlite_catalog.specs.Listing.{IsSound}
use Rattle.sqlite_catalog.proofs.LayoutLemmas.{laid_out, objects_rise}
use Rattle.fr_sql_rows.specs.Connection.{IsAtRest}
use Rattle.fr_sql_rows.specs.Found.{AreRows, IsHeld}

pub opens_rest : (s : State) → Opens s → IsAtRest s
opens_rest s o = record { is_open = o.is_open; autocommit = o.autocommit; settled = o.clean }

pub held_over : (v : View) (db : Database) → IsOrdered v.shape v.trees → IsListed (v.trees catalog_tree) v.shape v.reals → db.trees ≡ v.trees → IsSound db.schema db.trees → IsHeld db
held_over v db ordered listed same sound =
    let there : IsSound db.schema v.trees = subst (IsSound db.schema) same sound in
    let laid = laid_out listed (objects_rise v listed ordered) there.lists.listed in
    record {
      sound = sound;
      rows = all_weaker (λ t. v.shape t.tree ≡ Table) (λ t. AreRows (db.trees t.tree)) (λ t is. subst (λ trees. AreRows (trees t.tree)) (sym same) (subst (λ s. IsShaped s (v.trees t.tree)) is (ordered t.tree))) db.schema.tables laid.tables;
    }

pub whole_open : (v : View) → (v.is_open ≡ false → IsTrue v.is_broken) → v.is_broken ≡ false → IsTrue v.is_open
whole_open v law whole = go v.is_open refl
  where
    go : (b : Bool) → v.is_open ≡ b → IsTrue v.is_open
    go true e = e
    go false e = absurd (true≢false (sym (law e) ∙ whole))

-- a store that was rolled back and is not broken is fresh
pub fresh_after : (old new : View) → IsRolledBack old new → IsClean new → IsTrue new.is_numbered → new.is_broken ≡ false → IsTrue new.is_open → IsFresh new
fresh_after old new back clean numbered whole live =
    let kept = back.kept clean in
    record {
      sound = whole;
      numbered = numbered;
      clean = (back.undone live).0 ∙ sym (kept.committed live);
      unmarked = kept.marks live;
    }
