use Rattle.std.proofs.Common.{◌<◌, length, All}
use Rattle.std.specs.Prelude.{◌^◌}
use Rattle.test_scenarios.proofs.records.read_group.Given as goal

-- the records so far are short
abbrev pub invariant-loop-item : goal.invariant-loop-item
invariant-loop-item l = All (λ v. length v.items < 2 ^ 32) l.group.items
