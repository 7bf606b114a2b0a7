-- Reads of a storage server at a version, in bytes.
use Rattle.std.specs.Prelude.{◌==◌, ◌<◌, ◌≤◌, ◌^◌, ◌⊎◌, ℕ, List, [], ◌∷◌, length, Option, None, Some, if◌then◌else◌}
use Rattle.std.specs.List.{list_any}
use Rattle.fr_mutation.specs.declared.shard.Shard.{Shard}
use Rattle.fr_part.specs.declared.fault.ReadRefusal.{ReadRefusal}
use Rattle.fr_part.specs.declared.fault.ReadRefusal.TheVariants as unread

-- the end of a shard: none if it has no bytes
abbrev pub end_from : List ℕ → Option (List ℕ)
end_from [] = None
end_from (byte ∷ bytes) = Some (byte ∷ bytes)

abbrev pub shard_from : List ℕ → List ℕ → Shard
shard_from begin end = record { begin = begin; end = end_from end }

-- the status of a read that is not answered
abbrev pub unread_status : ReadRefusal → ℕ
unread_status unread.Kind = 4
unread_status unread.Part = 9
unread_status unread.NotMine = 12
unread_status unread.TooOld = 13
unread_status unread.FutureVersion = 14
unread_status unread.Memory = 1

-- the version, or a key at which the shard begins or ends, is past its limit
abbrev pub IsPast : List ℕ → List ℕ → ℕ → Type 0
IsPast begin end version = (2 ^ 62 ≤ version) ⊎ ((10000 < length begin) ⊎ (10000 < length end))

-- the status, if it says that a read is not answered: none of a value, whole or short, nor of a key that has none
abbrev pub unread_said : ℕ → Option ℕ
unread_said status = if list_any (λ one. one == status) (0 ∷ 3 ∷ 11 ∷ []) then None else Some status
