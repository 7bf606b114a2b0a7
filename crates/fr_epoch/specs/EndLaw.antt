-- What every tally of replies is, and what its end says of the replies.
use Rattle.std.specs.Prelude.{◌≡◌, ℕ, ◌<◌, ◌≤◌, ◌==◌, true, List, map, length, take, All, Contains, Some, Ok}
use Rattle.std.specs.List.{IsDistinct}
use Rattle.fr_epoch.specs.EndTally.{EndState, with_reply, is_covered, end_of}
use Rattle.fr_epoch.specs.declared.reply.Reply.{Reply}
use Rattle.fr_epoch.specs.declared.end.EpochEnd.{EpochEnd}

-- each tag stands on 1 to m of the at most 16 logs; one reply of a log counts, and none of a log that is not there
pub record IsEnd (s : EndState) : Type 0 where
  pub some : 1 ≤ s.k
  pub fits : s.k ≤ s.m
  pub limit : s.m ≤ 16
  pub below : All (λ r. r.log < s.m) s.replies
  pub distinct : IsDistinct (λ a b. a == b) (map (λ r. r.log) s.replies)

-- the end of an epoch, of all replies that were counted: what the log that knows most knows to be committed, and what the log that holds
-- least holds
pub record IsEndOfReplies (s : EndState) (pev rv : ℕ) : Type 0 where
  pub covered : is_covered s ≡ true
  pub within : pev ≤ rv
  pub known_most : All (λ r. r.known ≤ pev) s.replies
  pub known_some : (r : Reply) × Contains s.replies r × (r.known ≡ pev)
  pub durable_least : All (λ r. rv ≤ r.durable) s.replies
  pub durable_some : (r : Reply) × Contains s.replies r × (r.durable ≡ rv)

abbrev pub EndIsOfReplies : Type 0
EndIsOfReplies = (s : EndState) (e : EpochEnd) → end_of s ≡ Ok (Some e) → IsEndOfReplies s e.pev e.rv

-- more replies leave a tally that covers covering, so once there is an end, or an inconsistency, there is one or the other
abbrev pub CoveredStays : Type 0
CoveredStays = (s : EndState) (r : Reply) → is_covered s ≡ true → is_covered (with_reply s r) ≡ true

-- a tally as it is kept: sixteen places, of which the first so many hold the replies
pub record IsKept (m k count : ℕ) (places : List Reply) : Type 0 where
  pub size : length places ≡ 16
  pub room : count ≤ 16
  pub is_end : IsEnd (record { m = m; k = k; replies = take count places })
