use Rattle.fr_world_turns.proofs.Founds.{ask_entered, on_ok}
use Rattle.fr_world_turns.proofs.entering.enter_ask.Goals as goal

pub returns-clause-found : goal.returns-clause-found
returns-clause-found c =
    on_ok c.add.result (ask_entered c.args.turns.now c.add.new.places c.args.place c.args.from.now c.args.sent.now.0 c.args.sent.now.1 c.ask_key-key.result c.requires c.ask_key-key.ensures) c.add.ensures.there
