-- A part of the keys.
use Rattle.std.specs.Prelude.{ℕ, ◌≤◌, Bool, true, ◌&&◌, List, length}
use Rattle.std.specs.Option.{option_map_or, ForSome}
use Rattle.std.specs.Ordering.{is_le, is_lt}
use Rattle.std.specs.FinMap.{retain_keys}
use Rattle.fr_base.specs.Bytes.{bytes_cmp}
use Rattle.fr_base.specs.Map.{Map}
use Rattle.fr_mutation.specs.declared.shard.Shard.{Shard}

-- begin <= key, and key < end if there is an end
abbrev pub in_shard : Shard → List ℕ → Bool
in_shard s key = is_le (bytes_cmp s.begin key) && option_map_or (λ limit. is_lt (bytes_cmp key limit)) s.end true

-- the entries of a map whose keys are in a shard
abbrev pub part : Map → Shard → Map
part m s = retain_keys m (in_shard s)

-- the ends of the shard are keys: at most 10,000 bytes
abbrev pub EndsFit : Shard → Type 0
EndsFit s = (length s.begin ≤ 10000) × ForSome s.end (λ limit. length limit ≤ 10000)
