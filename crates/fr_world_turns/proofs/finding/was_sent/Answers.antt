use Rattle.std.proofs.Common.{drop, ap, sym, ◌∙◌}
use Rattle.std.specs.List.{list_any}
use Rattle.fr_run.specs.Tests.{gives, was_sent}
use Rattle.fr_world_turns.specs.Finding.{some_under}
use Rattle.fr_world_turns.specs.Keys.{ask_key}
use Rattle.fr_world_turns.specs.Turns.{turn_of, history_of}
use Rattle.fr_world_turns.proofs.Founds.{found_in_history, behind_finds, before_finds, take_rest}
use Rattle.fr_world_turns.proofs.Storages.{storage_sends_none}
use Rattle.fr_world_turns.proofs.finding.was_sent.Goals as goal

pub returns-in-Storage : goal.returns-in-Storage
returns-in-Storage c =
    sym (ap (λ from. was_sent (history_of c.args.turns.now) from c.args.to.now c.args.ask.now) c.in-Storage.is ∙ storage_sends_none (history_of c.args.turns.now) c.in-Storage.tag c.args.to.now c.args.ask.now)

pub returns-then-some_gives : goal.returns-then-some_gives
returns-then-some_gives c =
    behind_finds c.some_gives.result (some_under c.args.turns.now c.args.places.now (gives c.args.from.now c.args.to.now c.args.ask.now) (ask_key c.args.from.now c.args.to.now c.args.ask.now)) (list_any (λ t. gives c.args.from.now c.args.to.now c.args.ask.now (turn_of t)) (drop c.args.indexed c.args.turns.now)) (was_sent (history_of c.args.turns.now) c.args.from.now c.args.to.now c.args.ask.now)
    (c.some_gives.ensures ∙ ap (list_any (λ t. gives c.args.from.now c.args.to.now c.args.ask.now (turn_of t))) (take_rest c.args.turns.now c.args.indexed)) c.if-some_gives.true (found_in_history (gives c.args.from.now c.args.to.now c.args.ask.now) c.args.turns.now c.args.indexed c.args.places.now (ask_key c.args.from.now c.args.to.now c.args.ask.now) (λ i t l is. (c.requires.each i t l is).asks c.args.from.now c.args.to.now c.args.ask.now))

pub returns-else-some_gives : goal.returns-else-some_gives
returns-else-some_gives c =
    before_finds c.has_ask.result c.some_gives.result (some_under c.args.turns.now c.args.places.now (gives c.args.from.now c.args.to.now c.args.ask.now) (ask_key c.args.from.now c.args.to.now c.args.ask.now)) (list_any (λ t. gives c.args.from.now c.args.to.now c.args.ask.now (turn_of t)) (drop c.args.indexed c.args.turns.now)) (was_sent (history_of c.args.turns.now) c.args.from.now c.args.to.now c.args.ask.now)
    (c.some_gives.ensures ∙ ap (list_any (λ t. gives c.args.from.now c.args.to.now c.args.ask.now (turn_of t))) (take_rest c.args.turns.now c.args.indexed)) c.if-some_gives.false c.has_ask.ensures (found_in_history (gives c.args.from.now c.args.to.now c.args.ask.now) c.args.turns.now c.args.indexed c.args.places.now (ask_key c.args.from.now c.args.to.now c.args.ask.now) (λ i t l is. (c.requires.each i t l is).asks c.args.from.now c.args.to.now c.args.ask.now))
