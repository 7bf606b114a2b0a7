-- The bytes of a batch, its one spelling: format 1 if that is enough, else format 2. Numbers come with their most
-- significant byte first.
use Rattle.std.specs.Prelude.{ℕ, List, ◌∷◌, ◌++◌, length}
use Rattle.std.specs.List.{flat_map}
use Rattle.std.specs.Int.{w16, w32, to_be_bytes}
use Rattle.fr_mutation.specs.declared.codec.kind.Kind.{Kind}
use Rattle.fr_mutation.specs.declared.codec.kind.Kind.TheVariants as kinds
use Rattle.fr_mutation.specs.declared.mutation.Mutation.{Mutation}
use Rattle.fr_mutation.specs.declared.mutation.Mutation.TheVariants.{Set, Clear, Atomic}
use Rattle.fr_mutation.specs.CodecKind.{kind_byte}
use Rattle.fr_mutation.specs.CodecFormat.{format_byte, format_of}

-- a key, or an end of a clear: its length in two bytes, and its bytes
abbrev pub spelled_key : List ℕ → List ℕ
spelled_key key = to_be_bytes w16 (length key) ++ key

-- a value or a parameter: its length in four bytes, and its bytes
abbrev pub spelled_operand : List ℕ → List ℕ
spelled_operand operand = to_be_bytes w32 (length operand) ++ operand

-- a mutation of one key: the byte of its kind, the key, and the value or the parameter
abbrev pub spelled_keyed : Kind → List ℕ → List ℕ → List ℕ
spelled_keyed kind key operand = kind_byte kind ∷ (spelled_key key ++ spelled_operand operand)

-- a clear: the byte of its kind, and its two ends
abbrev pub spelled_clear : List ℕ → List ℕ → List ℕ
spelled_clear begin end = kind_byte kinds.Clear ∷ (spelled_key begin ++ spelled_key end)

-- one mutation
abbrev pub spelled_mutation : Mutation → List ℕ
spelled_mutation (Set key value) = spelled_keyed kinds.Set key value
spelled_mutation (Clear begin end) = spelled_clear begin end
spelled_mutation (Atomic op key param) = spelled_keyed (kinds.Atomic op) key param

-- the byte of the format, how many mutations there are in two bytes, and one mutation after the other
unfoldable pub spelled : List Mutation → List ℕ
spelled mutations = format_byte (format_of mutations) ∷ (to_be_bytes w16 (length mutations) ++ flat_map spelled_mutation mutations)
