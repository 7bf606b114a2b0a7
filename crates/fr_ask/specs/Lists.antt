-- Which asks and tells hold a list, so that an equal one takes memory.
use Rattle.std.specs.Prelude.{Bool, true, false}
use Rattle.fr_log.specs.Lists as log
use Rattle.fr_ask.specs.declared.ask.Ask.{Ask}
use Rattle.fr_ask.specs.declared.ask.Ask.TheVariants as ask
use Rattle.fr_ask.specs.declared.tell.Tell.{Tell}
use Rattle.fr_ask.specs.declared.tell.Tell.TheVariants as tell

-- an ask without a list: those of logs that hold none, and all of sequencers
abbrev pub ask_holds_no_list : Ask → Bool
ask_holds_no_list (ask.Cell a) = false
ask_holds_no_list (ask.Log a) = log.ask_holds_no_list a
ask_holds_no_list (ask.Seq a) = true

-- a tell without a list
abbrev pub tell_holds_no_list : Tell → Bool
tell_holds_no_list (tell.Cell t) = false
tell_holds_no_list (tell.Log t) = log.tell_holds_no_list t
tell_holds_no_list (tell.Seq t) = true
