-- The two formats of a batch's bytes: the second one is for batches with a compare-and-clear, and for no others.
use Rattle.std.specs.Prelude.{ℕ, ◌==◌, Bool, true, false, not, List, [], ◌∷◌, Option, find, if◌then◌else◌}
use Rattle.std.specs.List.{list_any}
use Rattle.fr_mutation.specs.Atomic.{is_compare_and_clear_op}
use Rattle.fr_mutation.specs.declared.mutation.Mutation.{Mutation}
use Rattle.fr_mutation.specs.declared.mutation.Mutation.TheVariants.{Atomic}
use Rattle.fr_mutation.specs.declared.codec.kind.Kind.{Kind}
use Rattle.fr_mutation.specs.declared.codec.kind.Kind.TheVariants as kinds
use Rattle.fr_mutation.specs.declared.codec.format.Format.{Format}
use Rattle.fr_mutation.specs.declared.codec.format.Format.TheVariants as formats

-- the byte of each format
abbrev pub format_byte : Format → ℕ
format_byte formats.First = 1
format_byte formats.Second = 2

-- every format
abbrev pub all_formats : List Format
all_formats = formats.First ∷ formats.Second ∷ []

-- the format that has this byte
abbrev pub format_with : ℕ → Option Format
format_with byte = find (λ format. byte == format_byte format) all_formats

-- whether the mutation is a compare-and-clear
abbrev pub is_compare_and_clear : Mutation → Bool
is_compare_and_clear (Atomic op key param) = is_compare_and_clear_op op
is_compare_and_clear mutation = false

-- the same of a kind
abbrev pub is_compare_and_clear_kind : Kind → Bool
is_compare_and_clear_kind (kinds.Atomic op) = is_compare_and_clear_op op
is_compare_and_clear_kind kind = false

-- the format in which mutations are written: the second one exactly if one of them is a compare-and-clear
abbrev pub format_of : List Mutation → Format
format_of mutations = if list_any is_compare_and_clear mutations then formats.Second else formats.First

-- whether a format has the kind: the second has all, the first all but one
abbrev pub has_kind : Format → Kind → Bool
has_kind formats.First kind = not (is_compare_and_clear_kind kind)
has_kind formats.Second kind = true

-- whether mutations, of which one is a compare-and-clear or none, were written in the second format without need
abbrev pub is_needless : Format → Bool → Bool
is_needless formats.First found = false
is_needless formats.Second found = not found
