-- Which lines a machine has not.
use Rattle.std.specs.Prelude.{◌≡◌, None}
use Rattle.fr_part.specs.Hear.{asks_of}
use Rattle.fr_part.specs.Last.{last_of}
use Rattle.fr_part.specs.declared.calls.turns.LineOf.{LineOf}
use Rattle.fr_part.specs.declared.calls.turns.LineOf.TheVariants as line
use Rattle.fr_part.specs.declared.part.Part.{Part}

-- each machine says something; one that is asked asks nothing, and a store has no last state
abbrev pub LacksLine : LineOf → Part → Type 0
LacksLine line.Said p = ⊥
LacksLine line.Next p = asks_of p ≡ None
LacksLine line.Last p = last_of p ≡ None
