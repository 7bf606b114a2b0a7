-- Lists of asks, by what they are made of.
use Rattle.std.specs.Prelude.{ℕ, nat_lt, List, [], map, filter, flat_map, if◌then◌else◌}
use Rattle.std.specs.List.{range_with_len}
use Rattle.fr_base.specs.declared.place.NodeId.{NodeId}
use Rattle.fr_base.specs.declared.place.NodeId.TheVariants as node
use Rattle.fr_register.specs.Poll.{Poll}
use Rattle.fr_register.specs.Tally.{is_heard}
use Rattle.fr_register.specs.declared.ask.CellAsk.TheVariants as cell
use Rattle.fr_tags.specs.Placement.{is_held}
use Rattle.fr_log.specs.Push.{PushContent}
use Rattle.fr_log.specs.declared.ask.LogAsk.TheVariants as log
use Rattle.fr_ask.specs.declared.ask.Ask.{Ask}
use Rattle.fr_ask.specs.declared.ask.Ask.TheVariants as ask
use Rattle.fr_tail.specs.Tail.{TailState, part_at, seed_for}
use Rattle.fr_epoch.specs.EndTally.{EndState, has_replied}
use Rattle.fr_epoch.specs.Words.{is_in}
use Rattle.fr_epoch.specs.Asks.{left}

-- the read of a cell
abbrev pub read_ask : ℕ → ℕ → NodeId × Ask
read_ask ballot i = (node.Cell i, ask.Cell (cell.Read ballot))

-- the lock of a log
abbrev pub lock_ask : ℕ → ℕ → NodeId × Ask
lock_ask epoch i = (node.Log epoch i, ask.Log (log.Lock epoch))

-- the peek of a tag at a log, after a version
abbrev pub peek_ask : ℕ → ℕ → ℕ → ℕ → NodeId × Ask
peek_ask epoch tag after i = (node.Log epoch i, ask.Log (log.Peek epoch tag after 100))

-- the seed of a log
abbrev pub seed_ask : ℕ → TailState → ℕ → ℕ → ℕ → NodeId × Ask
seed_ask epoch tail m k i = (node.Log epoch i, ask.Log (log.Seed (seed_for tail epoch m k i)))

-- the write of a value to a cell
abbrev pub write_ask : ℕ → List ℕ → ℕ → NodeId × Ask
write_ask ballot value i = (node.Cell i, ask.Cell (cell.Write ballot value))

-- the push of the mark to a log
abbrev pub mark_ask : ℕ → PushContent → ℕ → NodeId × Ask
mark_ask epoch push i = (node.Log epoch i, ask.Log (log.Push push))

-- the cells that were not heard
abbrev pub unheard : Poll → List ℕ
unheard p = left p.cells (is_heard p)

-- the logs that did not reply to their lock
abbrev pub unlocked : EndState → List ℕ
unlocked end = left end.m (has_replied end)

-- the logs below a number that are not among these
abbrev pub others : ℕ → List ℕ → List ℕ
others m done = left m (is_in done)

-- the responders that hold a tag
abbrev pub holding : TailState → ℕ → List ℕ
holding tail tag = filter (λ i. is_held tag tail.m tail.k i) tail.responders

-- the peeks of a tag that is reached through a version, if it is not complete
abbrev pub peeks_from : ℕ → TailState → ℕ → ℕ → List (NodeId × Ask)
peeks_from epoch tail tag reached = if nat_lt reached tail.rv then map (peek_ask epoch tag reached) (holding tail tag) else []

-- the peeks of a tag
abbrev pub peeks_at : ℕ → TailState → ℕ → List (NodeId × Ask)
peeks_at epoch tail tag = peeks_from epoch tail tag (part_at tail tag).reached

-- the peeks of the first tags
abbrev pub peeks_below : ℕ → TailState → ℕ → List (NodeId × Ask)
peeks_below epoch tail tags = flat_map (peeks_at epoch tail) (range_with_len 0 tags)
