-- Calls that read, and the mending of a gate, call by call.
use Rattle.std.proofs.Common.{ℕ, ◌+◌, ◌<◌, List, length, take, drop, ap, arith}
use Rattle.fr_record.specs.Disk.{Disk, MayLeave, IsDurable, Stands, Torn}
use Rattle.fr_record.specs.Moments.{Throughout}
use Rattle.fr_segment.specs.Put.{IsElsewhere}
use Rattle.fr_segment.proofs.Crash.{durable_leaves, stands_leaves, torn_front, torn_end}
use Rattle.fr_segment.proofs.Moments.{started, goes_on}

module _ {D : Type 0} (Led : D → D → Type 0) (disk : D → Disk) (first : D) where
  -- a crash never left more than it might have left at first
  pub record Still (last : D) : Type 0 where
    pub always : Throughout Led disk (MayLeave (disk first)) first last
    pub now : (left : List ℕ) → MayLeave (disk last) left → MayLeave (disk first) left

  pub still : Still first
  still = record { always = started Led disk _ first (λ left may. may); now = λ left may. may }

  pub reads : (before last : D) → Still before → Led before last → Stands (disk before) (disk last) → Still last
  reads before last so_far led stands =
      let keep : (left : List ℕ) → MayLeave (disk last) left → MayLeave (disk first) left = λ left may. so_far.now left (stands_leaves (disk before) (disk last) left stands may) in
      record { always = goes_on Led disk _ first before last so_far.always led keep; now = keep }

module _ {D : Type 0} (Led : D → D → Type 0) (disk : D → Disk) (first : D) (gate : ℕ) (within : gate + 1 < length (disk first).content) (durable : IsDurable (disk first)) where
  abbrev pub Mending : D → Type 0
  Mending = Throughout Led disk (IsElsewhere (disk first).content gate) first

  pub not_yet : Mending first
  not_yet = started Led disk _ first (λ left may. let is = durable_leaves (disk first) left durable may in record { front = ap (λ l. take gate l) is; end = ap (λ l. drop (gate + 2) l) is })

  elsewhere : (last : D) → Torn gate 2 (disk first) (disk last) → (left : List ℕ) → MayLeave (disk last) left → IsElsewhere (disk first).content gate left
  elsewhere last torn left may = record {
    front = torn_front gate 2 (disk first) (disk last) left durable torn may (omega (arith, within));
    end = torn_end gate 2 (disk first) (disk last) left durable torn may (omega (arith, within));
  }

  pub gate_written : (one : D) → Led first one → Torn gate 2 (disk first) (disk one) → Mending one
  gate_written one led torn = goes_on Led disk _ first first one not_yet led (elsewhere one torn)

  pub gate_mended : (one two : D) → Led first one → Torn gate 2 (disk first) (disk one) → Led one two → Stands (disk one) (disk two) → Mending two
  gate_mended one two led torn led_two stands =
      goes_on Led disk _ first one two (gate_written one led torn) led_two (λ left may. elsewhere one torn left (stands_leaves (disk one) (disk two) left stands may))
