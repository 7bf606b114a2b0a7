-- The phase of a recoverer as text.
use Rattle.std.specs.Prelude.{ℕ, List, ◌++◌, codes, decimal}
use Rattle.fr_epoch.specs.declared.phase.Phase.{Phase}
use Rattle.fr_epoch.specs.declared.phase.Phase.TheVariants.{Reading, Locking, Copying, Writing, Chosen, Lost}
use Rattle.fr_epoch.specs.declared.why.LostWhy.{LostWhy}
use Rattle.fr_epoch.specs.declared.why.LostWhy.TheVariants.{Outballoted, BadState, Inconsistent, TooMany, NotLater, TwoValues, Spent}

-- the name of the reason for which a recoverer gave up
abbrev pub why_name : LostWhy → List ℕ
why_name Outballoted = codes "Outballoted"
why_name BadState = codes "BadState"
why_name Inconsistent = codes "Inconsistent"
why_name TooMany = codes "TooMany"
why_name NotLater = codes "NotLater"
why_name TwoValues = codes "TwoValues"
why_name Spent = codes "Spent"

-- how far a recoverer has come; chosen, with the end of the epoch that it took over; lost, with the reason
abbrev pub phase_text : Phase → List ℕ
phase_text Reading = codes "reading"
phase_text Locking = codes "locking"
phase_text Copying = codes "copying"
phase_text Writing = codes "writing"
phase_text (Chosen pev rv) = codes "chosen pev " ++ (decimal pev ++ (codes " rv " ++ decimal rv))
phase_text (Lost why) = codes "lost " ++ why_name why
