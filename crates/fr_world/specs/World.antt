-- The turn that an event is in a world, and the world after it.
use Rattle.std.specs.Prelude.{Result, Ok, Err}
use Rattle.fr_run.specs.Turn.{Turn}
use Rattle.fr_run.specs.declared.answer.Answer.{Answer}
use Rattle.fr_run.specs.declared.event.Event.{Event}
use Rattle.fr_run.specs.declared.not_enabled.NotEnabled.{NotEnabled}
use Rattle.fr_run.specs.Step.{turn_of, answer_of}
use Rattle.fr_world_nodes.specs.Kept.{WorldState, with_turn}

-- the turn that an event is in a world
abbrev pub next_turn : WorldState → Event → Result Turn NotEnabled
next_turn w event = turn_of w.config w.turns event

abbrev pub stepped_by : WorldState → Result Turn NotEnabled → Result (WorldState × Answer) NotEnabled
stepped_by w (Ok t) = Ok (with_turn w t, answer_of t)
stepped_by w (Err why) = Err why

-- a world after an event, with what it answers, or why the event cannot happen
abbrev pub stepped : WorldState → Event → Result (WorldState × Answer) NotEnabled
stepped w event = stepped_by w (next_turn w event)
