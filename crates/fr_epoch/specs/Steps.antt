-- The tests of a recoverer's steps.
use Rattle.std.specs.Prelude.{ℕ, ◌+◌, ◌==◌, Bool, false, nat_lt, nat_le, List, [], length, Option, None, Some, if◌then◌else◌}
use Rattle.fr_base.specs.declared.place.NodeId.{NodeId}
use Rattle.fr_log.specs.Peeked.{PeekedContent}
use Rattle.fr_ask.specs.declared.ask.Ask.{Ask}
use Rattle.fr_tail.specs.Tail.{TailState, part_at}
use Rattle.fr_epoch.specs.EndTally.{EndState}
use Rattle.fr_epoch.specs.Change.{replied}
use Rattle.fr_epoch.specs.Recoverer.{RecState, Parent, Plan}
use Rattle.fr_epoch.specs.Words.{is_newly_seeded, is_newly_marked}
use Rattle.fr_epoch.specs.Going.{reached_with}
use Rattle.fr_epoch.specs.Lists.{peeks_from}

-- whether one more log of the new generation is seeded
abbrev pub seeds_one : RecState → Option Plan → ℕ → ℕ → Bool
seeds_one r None e i = false
seeds_one r (Some p) e i = is_newly_seeded r p e i

-- whether all logs of the new generation are seeded with one more
abbrev pub seeds_last : RecState → Option Plan → Bool
seeds_last r None = false
seeds_last r (Some p) = nat_le p.generation.m (length r.seeded + 1)

-- the replies with one more, if it is of a log of the parent's last generation
abbrev pub replied_in : Option Parent → Option EndState → ℕ → ℕ → ℕ → ℕ → Option EndState
replied_in None end e i durable known = None
replied_in (Some p) None e i durable known = None
replied_in (Some p) (Some end) e i durable known = if e == p.last.epoch then Some (replied end i durable known) else None

-- whether one more log of the new generation holds the mark
abbrev pub marks_one : RecState → Option Plan → ℕ → ℕ → ℕ → Bool
marks_one r None e i version = false
marks_one r (Some p) e i version = is_newly_marked r p e i version

-- the peeks that go on from an answer, if it brings its tag further and does not complete it
abbrev pub going_asks : ℕ → TailState → ℕ → PeekedContent → List (NodeId × Ask)
going_asks epoch s i peeked =
    if nat_lt (part_at s peeked.tag).reached (reached_with s i peeked peeked.tag) then peeks_from epoch s peeked.tag (reached_with s i peeked peeked.tag) else []
