-- A device whose bytes are in memory and on a disk below.
use Rattle.std.specs.Prelude.{◌≡◌, ◌⊎◌, ℕ, ◌<◌, ◌≤◌, Bool, true, false, List, length, get_or}
use Rattle.fr_record.specs.Disk.{Disk, MayLeave, Stands, Torn}

-- a content of which the marked bytes are kept, and so many bytes at least
abbrev pub disk_by : List ℕ → List Bool → ℕ → Disk
disk_by content marks kept_len = record { content = content; is_kept = λ i. get_or marks i false; kept_len = kept_len }

-- each byte has a mark, all below a place are set, and none past the kept length
pub record IsMarked (content : List ℕ) (marks : List Bool) (from kept_len : ℕ) : Type 0 where
  pub each : length marks ≡ length content
  pub from_within : from ≤ length content
  pub below : (i : ℕ) → i < from → get_or marks i false ≡ true
  pub kept : kept_len ≤ length content
  pub none_past : (i : ℕ) → kept_len ≤ i → get_or marks i false ≡ false

-- whatever a crash may leave of what is below, it may leave of the device
abbrev pub Left : (List ℕ → Type 0) → Disk → Type 0
Left may_leave disk = (left : List ℕ) → may_leave left → MayLeave disk left

-- one call: it changes no byte and forgets no mark, or it is a write
abbrev pub IsStep : Disk → Disk → Type 0
IsStep old new = Stands old new ⊎ ((at : ℕ) × (n : ℕ) × Torn at n old new)
