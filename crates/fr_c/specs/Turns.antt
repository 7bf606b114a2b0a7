-- What a call leaves of the machine behind a handle, and of the memory of its caller.
use Rattle.std.specs.Prelude.{◌≡◌, ◌≢◌, ◌<◌, ◌↔◌, ℕ, List, Option, length, take}
use Rattle.fr_register.specs.declared.ask.CellAsk.{CellAsk}
use Rattle.fr_ask.specs.declared.ask.Ask.TheVariants as ask
use Rattle.fr_part.specs.declared.seat.Seat.{Seat}
use Rattle.fr_part.specs.Answers.{IsJson}
use Rattle.fr_part.specs.Calls.{IsTurn, Over, is_answered}
use Rattle.fr_part.specs.LineCalls.{LacksLine}
use Rattle.fr_part.specs.declared.calls.turns.LineOf.{LineOf}
use Rattle.fr_part.specs.Seat.{seat_after}

-- a cell was asked this, or all is as it was
abbrev pub IsCellTurn : Option Seat → Option Seat → ℕ → CellAsk → Type 0
IsCellTurn old new status a =
    Over old new status (λ s t. IsTurn (is_answered status) s t (t ≡ seat_after s (ask.Cell a)))

-- a line of JSON is given, or there is no room for it, and the machine is as it was
abbrev pub GivesLine : Option Seat → Option Seat → ℕ → List ℕ → ℕ → Type 0
GivesLine old new status out len = (new ≡ old) × (status ≡ 0 → IsJson (take len out)) × (status ≡ 3 → length out < len)

-- KIND is told exactly of a machine that has no such line
abbrev pub TellsKind : Option Seat → Option Seat → ℕ → LineOf → Type 0
TellsKind old new status line = Over old new status (λ s t. status ≢ 1 → ((status ≡ 4) ↔ LacksLine line s.part))
