-- Mutations that lend their bytes.
use Rattle.fr_mutation.specs.declared.codec.fields.Fields.{Fields}
use Rattle.fr_mutation.specs.declared.mutation.Mutation.{Mutation}
use Rattle.fr_mutation.specs.CodecKind.{mutation_of}

-- the mutation whose bytes are lent
abbrev pub lent_mutation : Fields → Mutation
lent_mutation fields = mutation_of fields.kind fields.first.now fields.second.now
