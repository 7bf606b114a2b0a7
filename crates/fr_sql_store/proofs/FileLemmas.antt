-- A store over files.
use Rattle.std.proofs.Common.{◌≡◌, ◌≢◌, ◌≤◌, ◌<◌, ℕ, Bool, true, false, ◌&&◌, IsSome, IsTrue, Result, Ok, Err, IfOk, IfErr, refl, sym, ap, subst, ◌∙◌}
use Rattle.std.proofs.Math.Logic.{∥∥₁_map}
use Rattle.std.specs.FinMap as map
use Rattle.sqlite.specs.Tree.{Trees}
use Rattle.sqlite.specs.Effect.{Database}
use Rattle.sqlite.specs.State.{State}
use Rattle.sqlite.specs.Held.{state}
use Rattle.sqlite_wal.specs.Reads.{AreClean}
use Rattle.sqlite_trees.specs.declared.store.Store as store
use Rattle.sqlite.specs.Files.{HoldsDatabase, image_of}
use Rattle.sqlite_disk.specs.declared.Disk.{Ghosts}
use Rattle.sqlite_disk.specs.declared.Files.{Files}
use Rattle.fr_undo.specs.State.{StoreState}
use Rattle.fr_undo.specs.declared.fault.StoreFault.{StoreFault}
use Rattle.fr_undo.specs.declared.fault.StoreFault.TheVariants.{Failed}
use Rattle.fr_undo.specs.Calls.{IsTrouble}
use Rattle.fr_sql_calls.specs.WorkCalls.{MeetsAll}
use Rattle.fr_sql_rows.specs.Rows.{undo_in}
use Rattle.fr_sql_rows.specs.Connection.{IsAtRest}
use Rattle.fr_sql_calls.proofs.WorkLemmas.{get_undo}
use Rattle.fr_sql_calls.proofs.CountLemmas.{undo_len}
use Rattle.fr_sql_rows.specs.Found.{IsFound}
use Rattle.fr_sql_store.specs.Tables.{state_in, applied_in, floor_in, IsStore, shown, Seen, state_of, IsStoreOf}
use Rattle.fr_sql_store.specs.Files.{HoldStore}

-- tables that were found stand
pub found_store : (s : State) (applied floor rows : ℕ) → IsAtRest s → IsFound applied floor rows s.now → IsStore s applied floor rows false
found_store s applied floor rows rest f =
    let a : applied_in (s.now.trees 4) ≡ applied = ap applied_in f.meta.1 in
    let b : floor_in (s.now.trees 4) ≡ floor = ap floor_in f.meta.1 in
    let within = λ (version : ℕ) (key : _) (some : IsSome (map.get (undo_in (s.now.trees 2)) (version, key))). f.within (version, key) (subst (λ o. IsSome o) (get_undo (s.now.trees 2) (version, key)) some) in
    record {
      works = λ e. rest.is_open;
      stands = λ live. record {
        rest = rest;
        laid = f.laid;
        applied_is = a;
        floor_is = b;
        count = f.count ∙ sym (undo_len (s.now.trees 2) f.laid.undo);
        sound = record {
          floor = subst (λ n. n ≤ applied_in (s.now.trees 4)) (sym b) (subst (λ n. floor ≤ n) (sym a) f.order);
          above = λ version key some. subst (λ n. n < version) (sym b) (within version key some).0;
          upto = λ version key some. subst (λ n. version ≤ n) (sym a) (within version key some).1;
        };
      };
      order = f.order;
    }

-- what is found is what the files hold
pub found_state : {D T : Type 0} (g : Ghosts D) (files : Files D) (first : Trees) (shown_by : T → StoreState) (r : Result T StoreFault) → ((db : Trees) → HoldsDatabase (image_of g files) db → first ≡ db) → IfOk r (λ found. shown_by found ≡ state_in first)
    → IfOk r (λ found. (x : StoreState) → HoldStore g files x → shown_by found ≡ x)
found_state g files first shown_by (Ok found) holds again = λ x held. again ∙ ap state_in (holds held.0 held.1) ∙ sym held.2
found_state g files first shown_by (Err fault) holds again = tt

-- files that hold a database hold the store of its tables
pub holds_store : {D : Type 0} (g : Ghosts D) (files : Files D) (db : Trees) → ∥ HoldsDatabase (image_of g files) db ∥₁ → ∥ HoldStore g files (state_in db) ∥₁
holds_store g files db h = ∥∥₁_map h (λ held. (db, held, refl))

pub both_true : (a b : Bool) → IsTrue a → IsTrue b → IsTrue (a && b)
both_true true true p q = refl
both_true true false p q = q
both_true false b p q = p

pub clean_files : {D : Type 0} (g : Ghosts D) → ((d : D) → IsTrue (g.is_clean d)) → (log db : D) → AreClean g log db
clean_files g faithful log db = both_true _ _ (faithful log) (faithful db)

-- a store that has not failed shows what was committed last
pub state_committed : {S : Type 0} (g : store.Ghosts S) (s : Seen S) → IsStoreOf g s → s.failed ≡ false → state_of g s ≡ state_in (state g s.conn).committed.trees
state_committed g s is works =
    ap (λ b. shown b (state g s.conn) s.applied s.floor) works ∙ ap (λ (d : Database). state_in d.trees) (is.stands (is.works works)).rest.settled

-- the faults of a store that has not failed
pub troubles : {T : Type 0} (r : Result T StoreFault) → IfErr r (IsTrouble MeetsAll) → IfErr r (λ fault. fault ≢ Failed → IsTrouble MeetsAll fault)
troubles (Ok x) t = tt
troubles (Err fault) t = λ apart. t
