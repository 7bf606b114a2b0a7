-- What a recoverer asks.
use Rattle.std.specs.Prelude.{ℕ, Bool, nat_lt, ◌==◌, ◌&&◌, ◌||◌, not, List, [], ◌∷◌, length, map, filter, flat_map, Option, None, Some, if◌then◌else◌}
use Rattle.std.specs.List.{range_with_len}
use Rattle.fr_base.specs.declared.place.NodeId.{NodeId}
use Rattle.fr_base.specs.declared.place.NodeId.TheVariants as node
use Rattle.fr_register.specs.Tally.{is_heard}
use Rattle.fr_register.specs.declared.ask.CellAsk.TheVariants as cell
use Rattle.fr_state.specs.Spelling.{spelling}
use Rattle.fr_tags.specs.Placement.{is_held}
use Rattle.fr_log.specs.declared.ask.LogAsk.TheVariants as log
use Rattle.fr_log.specs.declared.ask.LogTell.{LogTell}
use Rattle.fr_log.specs.declared.ask.LogTell.TheVariants as ltell
use Rattle.fr_ask.specs.declared.ask.Ask.{Ask}
use Rattle.fr_ask.specs.declared.ask.Ask.TheVariants as ask
use Rattle.fr_ask.specs.declared.tell.Tell.{Tell}
use Rattle.fr_tail.specs.Tail.{part_at, seed_for}
use Rattle.fr_epoch.specs.EndTally.{EndState, has_replied}
use Rattle.fr_epoch.specs.Recoverer.{RecState, Phase, Parent, Plan, Reading, Locking, Copying, Writing, Chosen, Lost, is_copied, mark_of}
use Rattle.fr_epoch.specs.Words.{Word, OfCell, OfLog, Other, is_in, word_of}
use Rattle.fr_epoch.specs.Hear.{after_hear}

-- the numbers below n that a test does not pass
abbrev pub left : ℕ → (ℕ → Bool) → List ℕ
left n is_done = filter (λ i. not (is_done i)) (range_with_len 0 n)

-- the reads that were not answered
abbrev pub reads_of : RecState → List (NodeId × Ask)
reads_of r = map (λ i. (node.Cell i, ask.Cell (cell.Read r.ballot))) (left r.reads.poll.cells (is_heard r.reads.poll))

-- the locks that were not answered
abbrev pub locks_of : Option Parent → Option EndState → List (NodeId × Ask)
locks_of None end = []
locks_of (Some p) None = []
locks_of (Some p) (Some end) = map (λ i. (node.Log p.last.epoch i, ask.Log (log.Lock p.last.epoch))) (left p.last.m (has_replied end))

-- the peeks of a tag that is not complete, after what was reached, to each holder that replied
abbrev pub peeks_of_tag : RecState → Parent → Plan → ℕ → List (NodeId × Ask)
peeks_of_tag r parent p tag =
    if nat_lt (part_at p.tail tag).reached p.tail.rv
    then map (λ i. (node.Log parent.last.epoch i, ask.Log (log.Peek parent.last.epoch tag (part_at p.tail tag).reached 100))) (filter (λ i. is_held tag p.tail.m p.tail.k i) p.tail.responders)
    else []

-- the peeks of these tags
abbrev pub peeks_of : RecState → Option Parent → Option Plan → List ℕ → List (NodeId × Ask)
peeks_of r None plan tags = []
peeks_of r (Some parent) None tags = []
peeks_of r (Some parent) (Some p) tags = flat_map (peeks_of_tag r parent p) tags

-- the seeds that were not answered
abbrev pub seeds_of : RecState → Option Plan → List (NodeId × Ask)
seeds_of r None = []
seeds_of r (Some p) =
    map (λ i. (node.Log r.ballot i, ask.Log (log.Seed (seed_for p.tail r.ballot p.generation.m p.generation.k i)))) (left p.generation.m (is_in r.seeded))

-- the writes that were not answered
abbrev pub writes_of : RecState → Option Plan → List (NodeId × Ask)
writes_of r None = []
writes_of r (Some p) = map (λ i. (node.Cell i, ask.Cell (cell.Write r.ballot (spelling p.state)))) (left r.writes.poll.cells (is_heard r.writes.poll))

-- the marks that are not known to be held
abbrev pub marks_of : RecState → Option Plan → List (NodeId × Ask)
marks_of r None = []
marks_of r (Some p) = map (λ i. (node.Log r.ballot i, ask.Log (log.Push (mark_of p)))) (left p.generation.m (is_in r.marked))

abbrev pub copies_of : RecState → List (NodeId × Ask)
copies_of r = if is_copied r then seeds_of r r.plan else peeks_of r r.parent r.plan (range_with_len 0 (length r.begins))

abbrev pub pending_in : Phase → RecState → List (NodeId × Ask)
pending_in Reading r = reads_of r
pending_in Locking r = locks_of r.parent r.end
pending_in Copying r = copies_of r
pending_in Writing r = writes_of r r.plan
pending_in Chosen r = marks_of r r.plan
pending_in (Lost why) r = []

-- all asks whose tells are wanted
abbrev pub pending : RecState → List (NodeId × Ask)
pending r = pending_in r.phase r

-- ---- new asks

abbrev pub phase_number : Phase → ℕ
phase_number Reading = 0
phase_number Locking = 1
phase_number Copying = 2
phase_number Writing = 3
phase_number Chosen = 4
phase_number (Lost why) = 5

-- whether a recoverer went on to another phase, or from peeks to seeds
abbrev pub has_moved : RecState → RecState → Bool
has_moved r n = not (phase_number r.phase == phase_number n.phase) || (not (is_copied r) && is_copied n)

-- the version through which a tag is copied
abbrev pub reached_in : Option Plan → ℕ → ℕ
reached_in None tag = 0
reached_in (Some p) tag = (part_at p.tail tag).reached

-- the peeks that go on from an answer that was taken
abbrev pub next_peeks : RecState → RecState → LogTell → List (NodeId × Ask)
next_peeks r n (ltell.Peeked peeked) = if nat_lt (reached_in r.plan peeked.tag) (reached_in n.plan peeked.tag) then peeks_of n n.parent n.plan (peeked.tag ∷ []) else []
next_peeks r n t = []

abbrev pub peeks_after : RecState → RecState → Word → List (NodeId × Ask)
peeks_after r n (OfCell i t) = []
peeks_after r n (OfLog e i t) = next_peeks r n t
peeks_after r n Other = []

abbrev pub peeks_in : Phase → RecState → RecState → Word → List (NodeId × Ask)
peeks_in Reading r n w = []
peeks_in Locking r n w = []
peeks_in Copying r n w = peeks_after r n w
peeks_in Writing r n w = []
peeks_in Chosen r n w = []
peeks_in (Lost why) r n w = []

-- what a recoverer asks once it heard a tell: all that its new phase lacks, or the peeks that go on
abbrev pub new_asks : RecState → NodeId → Tell → List (NodeId × Ask)
new_asks r from t =
    if has_moved r (after_hear r from t) then pending (after_hear r from t) else peeks_in r.phase r (after_hear r from t) (word_of from t)
