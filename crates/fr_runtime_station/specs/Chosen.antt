-- Which of the chosen generations is the newest.
use Rattle.std.specs.Prelude.{nat_lt, if◌then◌else◌}
use Rattle.fr_runtime_station.specs.declared.chosen.Chosen.{Chosen}

-- the one of two that has the greater epoch, the first one if both have the same
abbrev pub later_of : Chosen → Chosen → Chosen
later_of one other = if nat_lt one.generation.epoch other.generation.epoch then other else one
