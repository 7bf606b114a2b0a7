-- The end of an epoch: what it is of the replies to its locks.
use Rattle.std.specs.Prelude.{ℕ, Bool, false, nat_lt, ◌==◌, ◌&&◌, not, List, [], ◌∷◌, ◌++◌, map, fold, min, max, Option, None, Some, Result, Ok, Err, if◌then◌else◌}
use Rattle.std.specs.List.{list_any}
use Rattle.fr_tags.specs.Placement.{covers}
use Rattle.fr_epoch.specs.declared.reply.Reply.{Reply}
use Rattle.fr_epoch.specs.declared.end.EpochEnd.{EpochEnd}
use Rattle.fr_epoch.specs.declared.end.Inconsistent.{Inconsistent}
use Rattle.fr_epoch.specs.declared.end.ReplyFault.{ReplyFault}
use Rattle.fr_epoch.specs.declared.end.ReplyFault.TheVariants.{Stranger, Differs}

-- a tally of replies: the m and k of the locked generation, and the replies, the first one first
pub record EndState : Type 0 where
  pub m : ℕ
  pub k : ℕ
  pub replies : List Reply

abbrev pub new_end : ℕ → ℕ → EndState
new_end m k = record { m = m; k = k; replies = [] }

-- whether a log has replied
abbrev pub has_replied : EndState → ℕ → Bool
has_replied s log = list_any (λ r. r.log == log) s.replies

-- whether a reply of a log counts: the first of each log of the generation does
abbrev pub counts : EndState → ℕ → Bool
counts s log = nat_lt log s.m && not (has_replied s log)

-- a tally with one more reply, if that counts
abbrev pub with_reply : EndState → Reply → EndState
with_reply s r = if counts s r.log then record s { replies = s.replies ++ r ∷ [] } else s

-- the first reply of a log
abbrev pub reply_of : List Reply → ℕ → Option Reply
reply_of [] log = None
reply_of (r ∷ rs) log = if r.log == log then Some r else reply_of rs log

abbrev pub differs_from : Reply → Option Reply → Bool
differs_from r None = false
differs_from r (Some q) = not ((q.durable == r.durable) && (q.known == r.known))

-- whether the log told otherwise before
abbrev pub differs : EndState → Reply → Bool
differs s r = differs_from r (reply_of s.replies r.log)

-- a tally after one more reply, or why it is refused
abbrev pub heard_reply : EndState → Reply → Result EndState ReplyFault
heard_reply s r = if nat_lt r.log s.m then (if differs s r then Err Differs else Ok (with_reply s r)) else Err Stranger

-- the logs that replied
abbrev pub responders : EndState → List ℕ
responders s = map (λ r. r.log) s.replies

-- whether the replies cover
abbrev pub is_covered : EndState → Bool
is_covered s = covers s.m s.k (responders s)

-- the greatest known of the replies
abbrev pub greatest_known : List Reply → ℕ
greatest_known replies = fold (λ v r. max v r.known) 0 replies

-- the least durable of the replies, 0 if there is none
abbrev pub least_durable : List Reply → ℕ
least_durable [] = 0
least_durable (r ∷ replies) = fold (λ v q. min v q.durable) r.durable replies

-- the end of the epoch: through pev all is known to be committed, and nothing above rv is
abbrev pub pev_of : EndState → ℕ
pev_of s = greatest_known s.replies

abbrev pub rv_of : EndState → ℕ
rv_of s = least_durable s.replies

-- the end that the replies tell: none before they cover, and none if what one log knows to be committed another does
-- not hold
abbrev pub end_of : EndState → Result (Option EpochEnd) Inconsistent
end_of s =
    if is_covered s
    then (if nat_lt (rv_of s) (pev_of s) then Err (record {}) else Ok (Some (record { pev = pev_of s; rv = rv_of s })))
    else Ok None
