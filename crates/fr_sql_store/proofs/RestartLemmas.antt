-- What a crash left of files is found in others that hold it.
use Rattle.std.proofs.Common.{refl, subst}
use Rattle.std.proofs.Math.Logic.{∥∥₁_map}
use Rattle.sqlite_disk.specs.declared.Disk.{Ghosts}
use Rattle.sqlite.proofs.Theorems.{opens_again}
use Rattle.sqlite.specs.Files.{image_of}
use Rattle.fr_sql_store.specs.Tables.{state_in}
use Rattle.fr_sql_store.specs.Files.{HoldStore}
use Rattle.fr_sql_store.specs.Restart.{FoundLaw, RestartLaw}

pub found : {D E : Type 0} (g : Ghosts D) (h : Ghosts E) → FoundLaw g h
found g h it files kept may =
    ∥∥₁_map (opens_again it kept.numbered kept.sound (image_of h files) may) (λ left. (state_in left.0, (left.0, left.1, refl), (left.0, left.2, refl)))

pub restarted : {D E : Type 0} (g : Ghosts D) (h : Ghosts E) → RestartLaw g h
restarted g h store files kept as_is may =
    ∥∥₁_map (found g h store.conn.store files kept may) (λ x. subst (HoldStore h files) ((as_is refl x.0).0 x.1) x.2)
