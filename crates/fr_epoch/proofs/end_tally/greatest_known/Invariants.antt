use Rattle.std.proofs.Common.{◌≡◌, max, take}
use Rattle.std.specs.Prelude.{fold}
use Rattle.fr_epoch.proofs.end_tally.greatest_known.Given as goal

-- the greatest of those so far
abbrev pub invariant-loop-reply : goal.invariant-loop-reply
invariant-loop-reply l = l.greatest ≡ fold (λ v r. max v r.known) 0 (take l.reply-index l.replies)
