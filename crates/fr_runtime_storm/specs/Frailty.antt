-- Which calls of a device or a file are refused.
use Rattle.std.specs.Prelude.{ℕ, ◌+◌, ◌-◌, ◌*◌, ◌%◌, ◌==◌, nat_le, Bool, if◌then◌else◌}
use Rattle.fr_base.specs.declared.place.LogId.{LogId}
use Rattle.fr_runtime_storm.specs.Draws.{word_at}
use Rattle.fr_runtime_storm.specs.declared.frailty.Frailty.{Frailty}
use Rattle.fr_runtime_storm.specs.declared.frailty.Fuse.{Fuse}

-- of how many calls of the device or the file of this number the last one is refused: at least so many as is asked for, and less than twice as many
abbrev pub drawn_by : Frailty → ℕ → ℕ
drawn_by f number = f.every + (if f.every == 0 then 0 else word_at f.seed number % f.every)

-- whether the next call is refused
abbrev pub is_due : Fuse → Bool
is_due f = nat_le f.left 1

-- how a call is counted
abbrev pub after_call : Fuse → Fuse
after_call f = record f { left = if nat_le f.left 1 then f.every else f.left - 1 }

-- the number of a log
abbrev pub number_of_log : LogId → ℕ
number_of_log id = id.epoch * 16 + id.index
