-- A device in memory.
use Rattle.std.specs.Prelude.{◌≡◌, ◌⊎◌, ℕ, ◌+◌, ◌<◌, ◌≤◌, Bool, false, List, length, get_or}
use Rattle.fr_record.specs.Disk.{Disk, written}

pub record MemoryState : Type 0 where
  pub bytes : List ℕ
  -- of each byte, whether it was synced since it was written
  pub synced : List Bool
  pub synced_len : ℕ
  pub capacity : ℕ

-- as a disk: what is synced is kept
abbrev pub disk_of : MemoryState → Disk
disk_of m = record { content = m.bytes; is_kept = λ i. get_or m.synced i false; kept_len = m.synced_len }

-- one write led from m to n: the bytes are written, and those in the range are not kept until a sync
pub record IsWrite (m n : MemoryState) : Type 0 where
  pub at : ℕ
  pub bytes : List ℕ
  pub content : n.bytes ≡ written m.bytes at bytes
  pub unsynced : (i : ℕ) → at ≤ i → i < at + length bytes → get_or n.synced i false ≡ false
  pub synced_len : n.synced_len ≡ m.synced_len

-- a call leaves the bytes, or is a write
abbrev pub Leads : MemoryState → MemoryState → Type 0
Leads m n = (n.bytes ≡ m.bytes) ⊎ IsWrite m n
