-- A machine with what it said last, after a turn.
use Rattle.std.specs.Prelude.{ℕ, List}
use Rattle.fr_base.specs.declared.place.NodeId.{NodeId}
use Rattle.fr_ask.specs.declared.ask.Ask.{Ask}
use Rattle.fr_ask.specs.declared.tell.Tell.{Tell}
use Rattle.fr_mutation.specs.declared.mutation.Mutation.{Mutation}
use Rattle.fr_part.specs.declared.said.Said.{Said}
use Rattle.fr_part.specs.declared.said.Said.TheVariants as said
use Rattle.fr_part.specs.declared.said.Heard.{Heard}
use Rattle.fr_part.specs.declared.seat.Seat.{Seat}
use Rattle.fr_part.specs.Hear.{IsHeard, IsSubmitted}
use Rattle.fr_part.specs.Turn.{after_of, told_of}
use Rattle.std.specs.Prelude.{Option, None, Some}

-- it told this, where it was asked
abbrev pub said_of : Option Tell → Said
said_of None = said.Nothing
said_of (Some t) = said.Told t

abbrev pub seat_after : Seat → Ask → Seat
seat_after s a = record { part = after_of s.part a; said = said_of (told_of s.part a) }

-- what it asks, where it heard something or took a batch
abbrev pub IfHeard : Said → (Heard → Type 0) → Type 0
IfHeard said.Nothing P = ⊥
IfHeard (said.Told t) P = ⊥
IfHeard (said.Heard heard) P = P heard

abbrev pub HearsIn : Seat → NodeId → Tell → Seat → Type 0
HearsIn s from t n = IfHeard n.said (λ heard. IsHeard s.part from t heard n.part)

abbrev pub SubmitsIn : Seat → ℕ → List Mutation → Seat → Type 0
SubmitsIn s step batch n = IfHeard n.said (λ heard. IsSubmitted s.part step batch heard n.part)
