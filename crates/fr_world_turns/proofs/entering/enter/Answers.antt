use Rattle.fr_world_turns.specs.Turns.{turn_of}
use Rattle.fr_world_turns.proofs.Founds.{all_found, on_ok}
use Rattle.fr_world_turns.proofs.entering.enter.Goals as goal

pub returns-clause-found : goal.returns-clause-found
returns-clause-found c =
    on_ok c.enter_tell.result
    (all_found c.args.turns.now c.enter_asks.new.places c.enter_tell.new.places (turn_of c.args.turn.now) c.in_ok-enter_asks.ensures.found c.enter_tell.ensures.grows)
    c.enter_tell.ensures.found
