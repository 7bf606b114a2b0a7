-- The lines that the replies of a script print.
use Rattle.std.specs.Prelude.{ℕ, List, [], ◌∷◌, ◌++◌, codes, decimal, Option, None, Some, Result, Ok, Err}
use Rattle.fr_epoch.specs.declared.reply.Reply.{Reply}
use Rattle.fr_epoch.specs.declared.end.EpochEnd.{EpochEnd}
use Rattle.fr_epoch.specs.declared.end.Inconsistent.{Inconsistent}
use Rattle.fr_epoch.specs.declared.end.ReplyFault.{ReplyFault}
use Rattle.fr_epoch.specs.declared.end.ReplyFault.TheVariants.{Stranger, Differs}
use Rattle.fr_epoch.specs.EndTally.{EndState, new_end, with_reply, heard_reply, end_of}

-- the end that replies tell
abbrev pub end_line : Result (Option EpochEnd) Inconsistent → List ℕ
end_line (Ok None) = codes "none\n"
end_line (Ok (Some end)) = codes "pev " ++ (decimal end.pev ++ (codes " rv " ++ (decimal end.rv ++ codes "\n")))
end_line (Err inconsistent) = codes "inconsistent\n"

-- the end that replies tell with this one, or why it is refused
abbrev pub heard_line : Result EndState ReplyFault → List ℕ
heard_line (Ok heard) = end_line (end_of heard)
heard_line (Err Stranger) = codes "refused Stranger\n"
heard_line (Err Differs) = codes "refused Differs\n"

abbrev pub line_of : EndState → Reply → List ℕ
line_of s reply = heard_line (heard_reply s reply)

-- the lines of replies to a tally; one that is refused leaves it as it was
abbrev pub lines_from : EndState → List Reply → List ℕ
lines_from s [] = []
lines_from s (reply ∷ replies) = line_of s reply ++ lines_from (with_reply s reply) replies

-- the lines of a script, of a generation of m logs on k of which each tag is
abbrev pub lines_of : ℕ → ℕ → List Reply → List ℕ
lines_of m k replies = lines_from (new_end m k) replies
