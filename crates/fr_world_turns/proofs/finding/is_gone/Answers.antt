use Rattle.std.proofs.Common.{drop, ap, ◌∙◌}
use Rattle.std.specs.List.{list_any}
use Rattle.fr_run.specs.Tests.{goes, is_gone}
use Rattle.fr_world_turns.specs.Finding.{some_under}
use Rattle.fr_world_turns.specs.Keys.{gone_key}
use Rattle.fr_world_turns.specs.Turns.{turn_of, history_of}
use Rattle.fr_world_turns.proofs.Founds.{found_in_history, first_finds, second_finds, take_rest}
use Rattle.fr_world_turns.proofs.finding.is_gone.Goals as goal

pub returns-then-has_gone : goal.returns-then-has_gone
returns-then-has_gone c =
    first_finds c.has_gone.result (some_under c.args.turns.now c.args.places.now (goes c.args.node.now) (gone_key c.args.node.now)) (list_any (λ t. goes c.args.node.now (turn_of t)) (drop c.args.departed c.args.turns.now)) (is_gone (history_of c.args.turns.now) c.args.node.now)
    c.has_gone.ensures c.if-has_gone.true (found_in_history (goes c.args.node.now) c.args.turns.now c.args.departed c.args.places.now (gone_key c.args.node.now) (λ i t l is. c.requires.each i t l is c.args.node.now))

pub returns-else-has_gone : goal.returns-else-has_gone
returns-else-has_gone c =
    second_finds c.has_gone.result c.some_takes_away.result (some_under c.args.turns.now c.args.places.now (goes c.args.node.now) (gone_key c.args.node.now)) (list_any (λ t. goes c.args.node.now (turn_of t)) (drop c.args.departed c.args.turns.now)) (is_gone (history_of c.args.turns.now) c.args.node.now)
    c.has_gone.ensures c.if-has_gone.false (c.some_takes_away.ensures ∙ ap (list_any (λ t. goes c.args.node.now (turn_of t))) (take_rest c.args.turns.now c.args.departed)) (found_in_history (goes c.args.node.now) c.args.turns.now c.args.departed c.args.places.now (gone_key c.args.node.now) (λ i t l is. c.requires.each i t l is c.args.node.now))
