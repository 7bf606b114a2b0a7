-- That events are exactly the turns that may come, and lists of events that are not refused exactly the runs.
use Rattle.std.specs.Prelude.{◌≡◌, ℕ, List, [], ◌∷◌, ◌++◌, length, Ok, Err}
use Rattle.fr_run.specs.Config.{Config}
use Rattle.fr_run.specs.Turn.{Turn}
use Rattle.fr_run.specs.Run.{IsTurn, IsRun}
use Rattle.fr_run.specs.declared.event.Event.{Event}
use Rattle.fr_run.specs.declared.not_enabled.NotEnabled.{NotEnabled}
use Rattle.fr_run.specs.Limits.{HasLimits}
use Rattle.fr_run.specs.Step.{turn_of, replay}

-- ---- one event

-- the turn that an event is may come next
abbrev pub EventIsTurn : Type 0
EventIsTurn = (c : Config) (h : List Turn) (event : Event) (t : Turn) → HasLimits event → turn_of c h event ≡ Ok t → IsTurn c h t

-- an event that is this turn
pub record IsEventOf (c : Config) (h : List Turn) (t : Turn) : Type 0 where
  pub event : Event
  pub limits : HasLimits event
  pub turn : turn_of c h event ≡ Ok t

-- each turn that may come next is that of some event
abbrev pub TurnIsEvent : Type 0
TurnIsEvent = (c : Config) (h : List Turn) (t : Turn) → IsRun c h → IsTurn c h t → IsEventOf c h t

-- ---- lists of events

abbrev pub HaveLimits : List Event → Type 0
HaveLimits [] = Unit {0}
HaveLimits (event ∷ events) = HasLimits event × HaveLimits events

-- a list of events that is not refused is a run
abbrev pub ReplayIsRun : Type 0
ReplayIsRun = (c : Config) (events : List Event) (h : List Turn) → HaveLimits events → replay c events ≡ Ok h → IsRun c h

-- events from the start that make these turns
pub record IsReplayOf (c : Config) (h : List Turn) : Type 0 where
  pub events : List Event
  pub limits : HaveLimits events
  pub turns : replay c events ≡ Ok h

-- each run is the replay of some list of events
abbrev pub RunIsReplay : Type 0
RunIsReplay = (c : Config) (h : List Turn) → IsRun c h → IsReplayOf c h

-- the event of this number is the first that cannot happen, for this reason: those before it make a world in which it is refused
pub record IsFirstRefused (c : Config) (events : List Event) (number : ℕ) (why : NotEnabled) : Type 0 where
  pub before : List Event
  pub event : Event
  pub after : List Event
  pub events_are : events ≡ before ++ (event ∷ after)
  pub number_is : number ≡ length before
  pub turns : List Turn
  pub replayed : replay c before ≡ Ok turns
  pub refused : turn_of c turns event ≡ Err why

-- a list of events is refused exactly at the first event that cannot happen
abbrev pub RefusedIsFirst : Type 0
RefusedIsFirst = (c : Config) (events : List Event) (number : ℕ) (why : NotEnabled) → replay c events ≡ Err (number, why) → IsFirstRefused c events number why

abbrev pub FirstIsRefused : Type 0
FirstIsRefused = (c : Config) (events : List Event) (number : ℕ) (why : NotEnabled) → IsFirstRefused c events number why → replay c events ≡ Err (number, why)
