-- How far a list of events came when memory ran out.
use Rattle.std.specs.Prelude.{◌≡◌, ◌⊎◌, ℕ, List, take, slice_get, Some, Ok, IsOk}
use Rattle.fr_run.specs.Config.{Config}
use Rattle.fr_run.specs.Turn.{Turn}
use Rattle.fr_run.specs.declared.event.Event.{Event}
use Rattle.fr_run.specs.Step.{turn_of, replay}

-- the event of a number, from 0, can happen: those before it make a world in which it is a turn
pub record CanHappenAt (c : Config) (events : List Event) (number : ℕ) : Type 0 where
  pub turns : List Turn
  pub before : replay c (take number events) ≡ Ok turns
  pub event : Event
  pub there : slice_get events number ≡ Some event
  pub turn : IsOk (turn_of c turns event)

-- the start, which may run out of memory too, or an event that can happen
abbrev pub IsAtStartOrCanHappen : Config → List Event → ℕ → Type 0
IsAtStartOrCanHappen c events number = (number ≡ 0) ⊎ CanHappenAt c events number
