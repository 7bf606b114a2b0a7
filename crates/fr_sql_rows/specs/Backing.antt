-- What the tables stand on is clean.
use Rattle.std.specs.Prelude.{◌≡◌, Bool, true, false, ◌&&◌, IsTrue, refl}
use Rattle.std.proofs.Common.{ap}
use Rattle.sqlite_disk.specs.declared.Disk.{Ghosts}
use Rattle.sqlite_store.specs.declared.store.FileStore.{FileStore}
use Rattle.sqlite_store.specs.FileStore.{view}
use Rattle.sqlite_pool.specs.Pool.{state}
use Rattle.sqlite_trees.specs.declared.memory.MemStore.{MemStore}
use Rattle.sqlite_trees.specs.Memory.{memory_view}
use Rattle.sqlite_trees.specs.View.{IsClean, doubt}

-- memory gives back what was written to it
pub memory_is_clean : (s : MemStore) → IsClean (memory_view s)
unfolding doubt
memory_is_clean s = refl

both_true : (a b : Bool) → IsTrue a → IsTrue b → (a && b) ≡ true
both_true true true p q = refl
both_true true false p q = q
both_true false b p q = p

-- files give back what was written to them, if their disk does
pub files_are_clean : {D : Type 0} {g : Ghosts D} → ((d : D) → IsTrue (g.is_clean d)) → (s : FileStore D g) → IsClean (view s)
unfolding doubt state
files_are_clean faithful s = ap doubt (both_true _ _ (faithful _) (faithful _))
