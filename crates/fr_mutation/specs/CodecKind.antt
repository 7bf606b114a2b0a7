-- The kinds of mutation in the bytes of a batch.
use Rattle.std.specs.Prelude.{ℕ, ◌==◌, List, ◌∷◌, map, Option, find}
use Rattle.fr_mutation.specs.declared.mutation.Mutation.{Mutation}
use Rattle.fr_mutation.specs.declared.mutation.Mutation.TheVariants.{Set, Clear, Atomic}
use Rattle.fr_mutation.specs.declared.codec.kind.Kind.{Kind}
use Rattle.fr_mutation.specs.declared.codec.kind.Kind.TheVariants as kinds
use Rattle.fr_mutation.specs.Atomic.{all_ops, op_byte}

-- the byte of each kind
abbrev pub kind_byte : Kind → ℕ
kind_byte kinds.Set = 1
kind_byte kinds.Clear = 2
kind_byte (kinds.Atomic op) = op_byte op

-- every kind
abbrev pub all_kinds : List Kind
all_kinds = kinds.Set ∷ kinds.Clear ∷ map (λ op. kinds.Atomic op) all_ops

-- the kind that has this byte
abbrev pub kind_of : ℕ → Option Kind
kind_of byte = find (λ kind. byte == kind_byte kind) all_kinds

-- the mutation of a kind, by its key and its value or parameter, or by the ends of a clear
abbrev pub mutation_of : Kind → List ℕ → List ℕ → Mutation
mutation_of kinds.Set key value = Set key value
mutation_of kinds.Clear begin end = Clear begin end
mutation_of (kinds.Atomic op) key param = Atomic op key param
