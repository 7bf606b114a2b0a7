-- What a crash may leave of files that are kept.
use Rattle.sqlite_disk.specs.declared.Disk.{Ghosts}
use Rattle.sqlite_wal.specs.PageSize.{bytes_of}
use Rattle.fr_undo.specs.State.{StoreState}
use Rattle.fr_sql_files.specs.Shut.{FilesLeave}
use Rattle.fr_sql_files.specs.declared.kept.Kept.{Kept}

abbrev pub KeptLeaves : {D : Type 0} (g : Ghosts D) → Kept D g → StoreState → Type 0
KeptLeaves g kept = FilesLeave g (bytes_of kept.size) kept.files
