-- When an answer is not taken into a copy.
use Rattle.std.specs.Prelude.{◌≡◌, ℕ, ◌<◌, ◌≤◌, true, false, nat_le, filter, length, Err, ◌↔◌}
use Rattle.fr_log.specs.Peeked.{PeekedContent}
use Rattle.fr_tail.specs.Tail.{TailState, is_responder, part_at, heard}
use Rattle.fr_tail.specs.declared.fault.TailFault.{TailFault}
use Rattle.fr_tail.specs.declared.fault.TailFault.TheVariants.{NotResponder, Hole, ShortOfEnd, Memory}

-- an answer goes on from what is copied of a tag, of which not all is, and brings at least one record
pub record TakesRoom (s : TailState) (log tag : ℕ) (peeked : PeekedContent) : Type 0 where
  pub responder : is_responder s log tag ≡ true
  pub next : peeked.after ≡ (part_at s tag).reached
  pub short : (part_at s tag).reached < s.rv
  pub rises : peeked.after < peeked.upto
  pub some : 1 ≤ length (filter (λ r. nat_le r.version s.rv) peeked.records)

-- an answer is refused for this fault; `Memory` is told only if it brings a record
abbrev pub IsRefusal : TailState → ℕ → ℕ → PeekedContent → TailFault → Type 0
IsRefusal s log tag peeked NotResponder = heard s log tag peeked ≡ Err NotResponder
IsRefusal s log tag peeked Hole = heard s log tag peeked ≡ Err Hole
IsRefusal s log tag peeked ShortOfEnd = heard s log tag peeked ≡ Err ShortOfEnd
IsRefusal s log tag peeked Memory = TakesRoom s log tag peeked

-- an answer of a log that did not reply or does not hold the tag, and of a tag that is not there, is refused first
abbrev pub NotResponderIsFirst : Type 0
NotResponderIsFirst =
    (s : TailState) (log tag : ℕ) (peeked : PeekedContent) → (heard s log tag peeked ≡ Err NotResponder) ↔ (is_responder s log tag ≡ false)

-- one that begins above what is copied of the tag is refused next
abbrev pub HoleIsAbove : Type 0
HoleIsAbove =
    (s : TailState) (log tag : ℕ) (peeked : PeekedContent)
    → (heard s log tag peeked ≡ Err Hole) ↔ ((is_responder s log tag ≡ true) × ((part_at s tag).reached < peeked.after))

-- and so is one that begins where the copy ends, below rv, and ends there too
abbrev pub ShortIsEmpty : Type 0
ShortIsEmpty =
    (s : TailState) (log tag : ℕ) (peeked : PeekedContent)
    → (heard s log tag peeked ≡ Err ShortOfEnd)
    ↔ ((is_responder s log tag ≡ true) × (peeked.after ≡ (part_at s tag).reached) × ((part_at s tag).reached < s.rv) × (peeked.upto ≤ peeked.after))
