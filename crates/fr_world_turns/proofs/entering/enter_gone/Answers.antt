use Rattle.fr_world_turns.proofs.Founds.{gone_entered, on_ok}
use Rattle.fr_world_turns.proofs.entering.enter_gone.Goals as goal

pub returns-in-Gone-clause-found : goal.returns-in-Gone-clause-found
returns-in-Gone-clause-found c =
    on_ok c.add.result (gone_entered c.args.turns.now c.add.new.places c.args.place c.args.turn.now c.in-Gone.node c.gone_key.result c.requires c.in-Gone.is c.gone_key.ensures) c.add.ensures.there
