-- What the fields of a recoverer stand for.
use Rattle.std.specs.Prelude.{Bool, true, false, Option, None, Some}
use Rattle.std.specs.Option.{option_map}
use Rattle.fr_state.specs.Generations.{LogGeneration}
use Rattle.fr_epoch.specs.declared.phase.Stage.{Stage}
use Rattle.fr_epoch.specs.declared.phase.Stage.TheVariants as stage
use Rattle.fr_epoch.specs.declared.phase.Phase.{Phase as Told}
use Rattle.fr_epoch.specs.declared.phase.Phase.TheVariants as told
use Rattle.fr_epoch.specs.declared.standing.Found.{Found}
use Rattle.fr_epoch.specs.declared.standing.Draft.{Draft}
use Rattle.fr_epoch.specs.declared.standing.Standing.{Standing}
use Rattle.fr_epoch.specs.Recoverer.{RecState, Phase, Reading, Locking, Copying, Writing, Chosen, Lost, Parent, Plan}

abbrev pub phase_of : Stage → Phase
phase_of stage.Reading = Reading
phase_of stage.Locking = Locking
phase_of stage.Copying = Copying
phase_of stage.Writing = Writing
phase_of stage.Chosen = Chosen
phase_of (stage.Lost why) = Lost why

abbrev pub parent_of : Found → Parent
parent_of f = record { state = f.state; last = f.last }

abbrev pub plan_in : Draft → Plan
plan_in d = record { state = d.state; generation = d.generation; tail = d.tail }

abbrev pub state_of : Standing → RecState
state_of s = record {
  ballot = s.epoch;
  begins = s.map;
  shape = s.shape;
  phase = phase_of s.stage;
  reads = s.reads;
  parent = option_map parent_of s.parent;
  end = s.end;
  shown = s.shown.items;
  plan = option_map plan_in s.plan;
  seeded = s.seeded.items;
  writes = s.writes;
  marked = s.marked.items;
}

-- ---- what a recoverer tells of its phase

-- the end of the epoch that a chosen state takes over; a chosen state has a plan
abbrev pub chosen_of : Option Plan → Told
chosen_of None = told.Chosen 0 0
chosen_of (Some p) = told.Chosen p.tail.pev p.tail.rv

abbrev pub told_of : Phase → Option Plan → Told
told_of Reading plan = told.Reading
told_of Locking plan = told.Locking
told_of Copying plan = told.Copying
told_of Writing plan = told.Writing
told_of Chosen plan = chosen_of plan
told_of (Lost why) plan = told.Lost why

abbrev pub told_phase : RecState → Told
told_phase r = told_of r.phase r.plan

-- whether a state was chosen
abbrev pub is_chosen_in : Phase → Bool
is_chosen_in Reading = false
is_chosen_in Locking = false
is_chosen_in Copying = false
is_chosen_in Writing = false
is_chosen_in Chosen = true
is_chosen_in (Lost why) = false

-- the generation of a plan
abbrev pub generation_in : Option Plan → Option LogGeneration
generation_in None = None
generation_in (Some p) = Some p.generation
