use Rattle.std.proofs.Common.{◌≡◌, ◌∷◌, ◌++◌, length, take}
use Rattle.std.specs.Int.{w16, to_be_bytes}
use Rattle.std.specs.List.{flat_map}
use Rattle.fr_mutation.specs.CodecFormat.{format_byte, format_of}
use Rattle.fr_mutation.specs.CodecSpelling.{spelled_mutation}
use Rattle.fr_mutation.proofs.codec.writing.encode.Given as goal

-- a front of the mutations is written
abbrev pub invariant-loop-mutation : goal.invariant-loop-mutation
invariant-loop-mutation l = l.out.items ≡ format_byte (format_of l.mutations) ∷ (to_be_bytes w16 (length l.mutations) ++ flat_map spelled_mutation (take l.mutation-index l.mutations))
