use Rattle.std.proofs.Common.{◌≡◌, ◌<◌, ◌++◌, drop}
use Rattle.std.specs.Prelude.{◌^◌}
use Rattle.std.specs.Option.{option_map}
use Rattle.fr_audit_journal.specs.Housing.{last_number}
use Rattle.fr_node.specs.Groups.{drafts_of}
use Rattle.fr_node.proofs.drafts.drafts_of.Given as goal

-- the drafts so far, and those of what is left, are those of all
abbrev pub invariant-loop-at : goal.invariant-loop-at
invariant-loop-at l = record {
  within : l.last < 2 ^ 40;
  made : option_map (λ ds. l.drafts.items ++ ds) (drafts_of l.last (drop l.at-index l.turns)) ≡ drafts_of (last_number l.course.entries) l.turns;
}
