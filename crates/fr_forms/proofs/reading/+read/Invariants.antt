use Rattle.std.proofs.Common.{ℕ, ◌+◌, ◌*◌, ◌≤◌, length}
use Rattle.serde_json.specs.Data.{Members}
use Rattle.fr_forms.proofs.PieceLemmas.{SomeLeft, MembersLeft}
use Rattle.fr_forms.proofs.reading.+read.Given as goal

abbrev pub decreases-read_value : goal.decreases-read_value
decreases-read_value g l = 2 * l.depth

abbrev pub decreases-read_items : goal.decreases-read_items
decreases-read_items g l = 2 * l.depth + 1

abbrev pub decreases-read_members : goal.decreases-read_members
decreases-read_members g l = 2 * l.depth + 1

abbrev pub invariant-read_items-items : goal.invariant-read_items-items
invariant-read_items-items g l = (n : ℕ) × (length l.reader ≤ n) × SomeLeft l.depth l.initial.reader n l.reader × (length l.reader ≤ length l.initial.reader)

abbrev pub decreases-read_items-items : goal.decreases-read_items-items
decreases-read_items-items g l = length l.reader

abbrev pub invariant-read_members-members : goal.invariant-read_members-members
invariant-read_members-members g l = (n : ℕ) × (length l.reader ≤ n) × (found : Members) × MembersLeft l.depth l.initial.reader n found l.reader × (length l.reader ≤ length l.initial.reader)

abbrev pub decreases-read_members-members : goal.decreases-read_members-members
decreases-read_members-members g l = length l.reader
