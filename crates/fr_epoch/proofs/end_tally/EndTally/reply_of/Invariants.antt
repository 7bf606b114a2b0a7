use Rattle.std.proofs.Common.{◌≡◌, drop}
use Rattle.fr_epoch.specs.EndTally.{reply_of}
use Rattle.fr_epoch.proofs.end_tally.EndTally.reply_of.Given as goal

-- the answer is that of the replies that are left
abbrev pub invariant-loop-reply : goal.invariant-loop-reply
invariant-loop-reply l = reply_of (drop l.reply-index l.reply-items) l.log ≡ reply_of l.self.replies l.log
