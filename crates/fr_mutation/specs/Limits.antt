-- The limits of a batch, and which of them is the first that mutations break.
use Rattle.std.specs.Prelude.{ℕ, ◌||◌, List, [], ◌∷◌, length, nat_lt, Option, None, Some, if◌then◌else◌}
use Rattle.std.specs.Ordering.{is_lt}
use Rattle.std.specs.Option.{option_or}
use Rattle.fr_base.specs.Bytes.{bytes_cmp}
use Rattle.fr_mutation.specs.declared.fault.BatchFault.{BatchFault}
use Rattle.fr_mutation.specs.declared.fault.BatchFault.TheVariants.{KeyTooLong, ValueTooLong, Inverted, TooMany}
use Rattle.fr_mutation.specs.declared.mutation.Mutation.{Mutation}
use Rattle.fr_mutation.specs.declared.mutation.Mutation.TheVariants.{Set, Clear, Atomic}

-- a key has at most 10,000 bytes, a value or a parameter at most 100,000
abbrev pub keyed_fault : List ℕ → List ℕ → Option BatchFault
keyed_fault key operand =
    if nat_lt 10000 (length key) then Some KeyTooLong else if nat_lt 100000 (length operand) then Some ValueTooLong else None

-- both ends of a clear are keys, and it does not begin after its end
abbrev pub clear_fault : List ℕ → List ℕ → Option BatchFault
clear_fault begin end =
    if nat_lt 10000 (length begin) || nat_lt 10000 (length end) then Some KeyTooLong else if is_lt (bytes_cmp end begin) then Some Inverted else None

abbrev pub mutation_fault : Mutation → Option BatchFault
mutation_fault (Set key value) = keyed_fault key value
mutation_fault (Clear begin end) = clear_fault begin end
mutation_fault (Atomic op key param) = keyed_fault key param

-- the first fault of one mutation after the other
abbrev pub first_fault : List Mutation → Option BatchFault
first_fault [] = None
first_fault (mutation ∷ mutations) = option_or (mutation_fault mutation) (first_fault mutations)

-- more than 1,000 mutations are too many, whatever they are
abbrev pub batch_fault : List Mutation → Option BatchFault
batch_fault mutations = if nat_lt 1000 (length mutations) then Some TooMany else first_fault mutations
