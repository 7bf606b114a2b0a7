-- The cells and what each ballot came to, one attempt after the other.
use Rattle.std.proofs.Common.{◌≡◌}
use Rattle.example_ballots.proofs.Steps.{attempted, attempted_cell}
use Rattle.example_ballots.specs.Scene.{held}
use Rattle.example_ballots.proofs.sequence.in_turn.Goals as goal

middle_1 : (c : goal.In_ok-later) → c.read_and_write.new.other ≡ held 256 c.args.first_value.now
middle_1 c = attempted_cell _ _ _ _ _ _ c.ballots-first.ensures.first c.new-middle.ensures c.in_ok-earlier.ensures.cells.1

pub returns-clause-first : goal.returns-clause-first
returns-clause-first c = attempted _ _ 0 1 c.args.first_value.now _ _ _ _ _ c.ballots-first.ensures.first c.new-left.ensures c.new-middle.ensures c.in_ok-earlier.ensures.attempt

pub returns-clause-second : goal.returns-clause-second
returns-clause-second c = attempted _ _ 1 2 c.args.second_value.now _ _ _ _ _ c.ballots-first.ensures.second (middle_1 c) c.new-right.ensures c.in_ok-later.ensures.attempt

pub returns-clause-left : goal.returns-clause-left
returns-clause-left c = attempted_cell _ _ _ _ _ _ c.ballots-first.ensures.first c.new-left.ensures c.in_ok-earlier.ensures.cells.0

pub returns-clause-middle : goal.returns-clause-middle
returns-clause-middle c = attempted_cell _ _ _ _ _ _ c.ballots-first.ensures.second (middle_1 c) c.in_ok-later.ensures.cells.0

pub returns-clause-right : goal.returns-clause-right
returns-clause-right c = attempted_cell _ _ _ _ _ _ c.ballots-first.ensures.second c.new-right.ensures c.in_ok-later.ensures.cells.1
