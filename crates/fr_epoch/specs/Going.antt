-- How far an answer brings a copy.
use Rattle.std.specs.Prelude.{ℕ, Bool, nat_lt, ◌==◌, ◌&&◌, min, if◌then◌else◌}
use Rattle.fr_log.specs.Peeked.{PeekedContent}
use Rattle.fr_tail.specs.Tail.{TailState, part_at, is_responder}

-- whether an answer goes on from what is copied of its tag
abbrev pub goes_on : TailState → ℕ → PeekedContent → Bool
goes_on s i peeked =
    is_responder s i peeked.tag && ((peeked.after == (part_at s peeked.tag).reached) && (nat_lt peeked.after s.rv && nat_lt peeked.after peeked.upto))

-- the version through which a tag is copied once that answer is heard
abbrev pub reached_with : TailState → ℕ → PeekedContent → ℕ → ℕ
reached_with s i peeked tag = if (tag == peeked.tag) && goes_on s i peeked then min peeked.upto s.rv else (part_at s tag).reached
