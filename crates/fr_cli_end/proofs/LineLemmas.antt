-- The lines of replies, one after the other.
use Rattle.std.proofs.Common.{◌≡◌, ℕ, ◌++◌, List, ◌∷◌, Option, sym, subst}
use Rattle.fr_epoch.specs.declared.reply.Reply.{Reply}
use Rattle.fr_epoch.specs.EndTally.{EndState, with_reply}
use Rattle.fr_cli_json.specs.Text.{Owes}
use Rattle.fr_cli_end.specs.Lines.{line_of, lines_from}

-- the line of the next reply, and then those of the others to the tally that heard it
pub next_owed : (s heard : EndState) (reply : Reply) (replies : List Reply) (old now : Option (List ℕ)) (all : List ℕ) → heard ≡ with_reply s reply → Owes old now (lines_from s (reply ∷ replies)) all → Owes old now (line_of s reply ++ lines_from heard replies) all
next_owed s heard reply replies old now all e owed = subst (λ x. Owes old now (line_of s reply ++ lines_from x replies) all) (sym e) owed
