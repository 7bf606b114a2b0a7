use Rattle.std.proofs.Common.{drop, ap, ◌∙◌}
use Rattle.std.specs.List.{list_any}
use Rattle.fr_run.specs.Tests.{tells, was_told}
use Rattle.fr_world_turns.specs.Finding.{some_under}
use Rattle.fr_world_turns.specs.Keys.{tell_key}
use Rattle.fr_world_turns.specs.Turns.{turn_of, history_of}
use Rattle.fr_world_turns.proofs.Founds.{found_in_history, behind_finds, before_finds, take_rest}
use Rattle.fr_world_turns.proofs.finding.was_told.Goals as goal

pub returns-then-some_tells : goal.returns-then-some_tells
returns-then-some_tells c =
    behind_finds c.some_tells.result (some_under c.args.turns.now c.args.places.now (tells c.args.by.now c.args.to.now c.args.tell.now) (tell_key c.args.by.now c.args.to.now c.args.tell.now)) (list_any (λ t. tells c.args.by.now c.args.to.now c.args.tell.now (turn_of t)) (drop c.args.indexed c.args.turns.now)) (was_told (history_of c.args.turns.now) c.args.by.now c.args.to.now c.args.tell.now)
    (c.some_tells.ensures ∙ ap (list_any (λ t. tells c.args.by.now c.args.to.now c.args.tell.now (turn_of t))) (take_rest c.args.turns.now c.args.indexed)) c.if-some_tells.true (found_in_history (tells c.args.by.now c.args.to.now c.args.tell.now) c.args.turns.now c.args.indexed c.args.places.now (tell_key c.args.by.now c.args.to.now c.args.tell.now) (λ i t l is. (c.requires.each i t l is).tell c.args.by.now c.args.to.now c.args.tell.now))

pub returns-else-some_tells : goal.returns-else-some_tells
returns-else-some_tells c =
    before_finds c.has_tell.result c.some_tells.result (some_under c.args.turns.now c.args.places.now (tells c.args.by.now c.args.to.now c.args.tell.now) (tell_key c.args.by.now c.args.to.now c.args.tell.now)) (list_any (λ t. tells c.args.by.now c.args.to.now c.args.tell.now (turn_of t)) (drop c.args.indexed c.args.turns.now)) (was_told (history_of c.args.turns.now) c.args.by.now c.args.to.now c.args.tell.now)
    (c.some_tells.ensures ∙ ap (list_any (λ t. tells c.args.by.now c.args.to.now c.args.tell.now (turn_of t))) (take_rest c.args.turns.now c.args.indexed)) c.if-some_tells.false c.has_tell.ensures (found_in_history (tells c.args.by.now c.args.to.now c.args.tell.now) c.args.turns.now c.args.indexed c.args.places.now (tell_key c.args.by.now c.args.to.now c.args.tell.now) (λ i t l is. (c.requires.each i t l is).tell c.args.by.now c.args.to.now c.args.tell.now))
