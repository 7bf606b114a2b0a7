use Rattle.std.proofs.Common.{ℕ, ◌≤◌, length}
use Rattle.fr_cli_json.proofs.TokenLemmas.{AllRead}
use Rattle.fr_cli_end.specs.Script.{reply_of}
use Rattle.fr_cli_end.proofs.tokens.read_replies.Given as goal

abbrev pub invariant-loop-replies : goal.invariant-loop-replies
invariant-loop-replies l = (n : ℕ) × (length l.reader ≤ n) × AllRead reply_of 125 l.initial.reader n l.replies.items l.reader × (length l.reader ≤ length l.initial.reader)

abbrev pub decreases-loop-replies : goal.decreases-loop-replies
decreases-loop-replies l = length l.reader
