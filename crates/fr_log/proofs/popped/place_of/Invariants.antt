use Rattle.std.proofs.Common.{◌≡◌, ◌+◌, drop}
use Rattle.fr_log.specs.Left.{place_in}
use Rattle.fr_log.proofs.popped.place_of.Given as goal

-- the entries so far are of lesser tags
abbrev pub invariant-loop-entry : goal.invariant-loop-entry
invariant-loop-entry l = record {
  count : l.at ≡ l.entry-index;
  place : l.at + place_in (drop l.entry-index l.entries) l.tag ≡ place_in l.entries l.tag;
}
