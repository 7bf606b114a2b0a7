-- The cells and what each ballot learned, step by step.
use Rattle.std.proofs.Common.{◌≡◌, refl}
use Rattle.fr_register.specs.declared.poll.Progress.TheVariants.{Majority, Lost}
use Rattle.example_ballots.proofs.Steps.{promised, read_cell, written_cell, read_found, write_came_to}
use Rattle.example_ballots.specs.Scene.{found_nothing}
use Rattle.example_ballots.proofs.overlap.overtaken.Goals as goal

left_1 : (c : goal.In_ok-second_wrote) → c.read_two.new.one ≡ promised 256
left_1 c = read_cell _ _ _ _ _ c.ballots-first.ensures.first c.new-left.ensures c.in_ok-first_found.ensures.one

middle_1 : (c : goal.In_ok-second_wrote) → c.read_two.new.other ≡ promised 256
middle_1 c = read_cell _ _ _ _ _ c.ballots-first.ensures.first c.new-middle.ensures c.in_ok-first_found.ensures.other

middle_2 : (c : goal.In_ok-second_wrote) → c.read_two-2.new.one ≡ promised 512
middle_2 c = read_cell _ _ _ _ _ c.ballots-first.ensures.second (middle_1 c) c.in_ok-second_found.ensures.one

right_1 : (c : goal.In_ok-second_wrote) → c.read_two-2.new.other ≡ promised 512
right_1 c = read_cell _ _ _ _ _ c.ballots-first.ensures.second c.new-right.ensures c.in_ok-second_found.ensures.other

middle_3 : (c : goal.In_ok-second_wrote) → c.write_two.new.other ≡ promised 512
middle_3 c = written_cell _ _ _ _ _ _ c.ballots-first.ensures.first (middle_2 c) c.in_ok-first_wrote.ensures.other

pub returns-clause-first : goal.returns-clause-first
returns-clause-first c =
    let found : c.in_ok-first_found.first_found ≡ found_nothing =
    read_found _ _ 0 1 _ _ _ _ _ c.ballots-first.ensures.first c.new-left.ensures c.new-middle.ensures c.in_ok-first_found.ensures.found in
    let wrote : c.in_ok-first_wrote.first_wrote ≡ Lost 512 =
    write_came_to _ _ 0 1 c.args.first_value.now _ _ _ _ _ c.ballots-first.ensures.first (left_1 c) (middle_2 c) c.in_ok-first_wrote.ensures.progress in
    rw (found, wrote) refl

pub returns-clause-second : goal.returns-clause-second
returns-clause-second c =
    let found : c.in_ok-second_found.second_found ≡ found_nothing =
    read_found _ _ 1 2 _ _ _ _ _ c.ballots-first.ensures.second (middle_1 c) c.new-right.ensures c.in_ok-second_found.ensures.found in
    let wrote : c.in_ok-second_wrote.second_wrote ≡ Majority =
    write_came_to _ _ 1 2 c.args.second_value.now _ _ _ _ _ c.ballots-first.ensures.second (middle_3 c) (right_1 c) c.in_ok-second_wrote.ensures.progress in
    rw (found, wrote) refl

pub returns-clause-left : goal.returns-clause-left
returns-clause-left c = written_cell _ _ _ _ _ _ c.ballots-first.ensures.first (left_1 c) c.in_ok-first_wrote.ensures.one

pub returns-clause-middle : goal.returns-clause-middle
returns-clause-middle c = written_cell _ _ _ _ _ _ c.ballots-first.ensures.second (middle_3 c) c.in_ok-second_wrote.ensures.one

pub returns-clause-right : goal.returns-clause-right
returns-clause-right c = written_cell _ _ _ _ _ _ c.ballots-first.ensures.second (right_1 c) c.in_ok-second_wrote.ensures.other
