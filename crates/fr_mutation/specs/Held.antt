-- Which mutations a batch holds.
use Rattle.std.specs.Prelude.{List, [], ◌∷◌}
use Rattle.std.specs.Arc.{arc_value}
use Rattle.fr_mutation.specs.declared.mutation.Mutation.{Mutation}
use Rattle.fr_mutation.specs.declared.batch.Held.{Held}

-- what the first of a list gives, or else those that are at hand
abbrev first_or : {X : Type 0} → List Mutation → List X → (X → List Mutation) → List Mutation
first_or alone [] _ = alone
first_or alone (x ∷ _) gives = gives x

-- the mutations, whether they are held alone or shared
abbrev pub held : Held → List Mutation
held it = first_or it.alone.items it.shared.items (λ shared. (arc_value shared).items)
