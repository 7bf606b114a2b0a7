-- Which asks and tells hold a list, so that an equal one takes memory.
use Rattle.std.specs.Prelude.{Bool, true, false}
use Rattle.fr_log.specs.declared.ask.LogAsk.{LogAsk}
use Rattle.fr_log.specs.declared.ask.LogAsk.TheVariants.{Seed, Push}
use Rattle.fr_log.specs.declared.ask.LogTell.{LogTell}
use Rattle.fr_log.specs.declared.ask.LogTell.TheVariants.{Seeded, Held, Popped, Refused}

-- an ask without a list: all but a seed, which has records, and a push, which has bodies or a state's generations
abbrev pub ask_holds_no_list : LogAsk → Bool
ask_holds_no_list (Seed s) = false
ask_holds_no_list (Push p) = false
ask_holds_no_list a = true

-- a tell without a list: all but the tags that a lock shows as popped, the records of a peek, and a mark's state, which has generations
abbrev pub tell_holds_no_list : LogTell → Bool
tell_holds_no_list Seeded = true
tell_holds_no_list (Held version) = true
tell_holds_no_list (Popped through) = true
tell_holds_no_list (Refused why) = true
tell_holds_no_list t = false
