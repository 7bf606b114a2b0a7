use Rattle.std.proofs.Common.{◌≡◌, min, take}
use Rattle.std.specs.Prelude.{fold}
use Rattle.fr_epoch.proofs.end_tally.least_durable.Given as goal

-- the least of those so far
abbrev pub invariant-loop-reply : goal.invariant-loop-reply
invariant-loop-reply l = l.least ≡ fold (λ v r. min v r.durable) l.initial.least (take l.reply-index l.others)
