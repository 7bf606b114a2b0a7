use Rattle.std.proofs.Common.{◌≡◌, ◌-◌}
use Rattle.std.specs.List.{range_with_len}
use Rattle.fr_epoch.specs.Dropping.{least_with, least_shown}
use Rattle.fr_epoch.proofs.draft.least_shown.Given as goal

-- with what is shown of the other tags it is the least of all
abbrev pub invariant-loop-tag : goal.invariant-loop-tag
invariant-loop-tag l = least_with l.shown l.least (range_with_len l.tag (l.tags - l.tag)) ≡ least_shown l.shown (range_with_len 0 l.tags)
