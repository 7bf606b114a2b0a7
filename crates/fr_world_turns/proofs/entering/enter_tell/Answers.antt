use Rattle.std.proofs.Common.{sym, ◌∙◌}
use Rattle.fr_world_turns.specs.Turns.{turn_of}
use Rattle.fr_world_turns.proofs.Founds.{tell_entered, tell_retold, on_ok}
use Rattle.fr_world_turns.proofs.entering.enter_tell.Goals as goal

pub returns-then-has_retold-clause-found : goal.returns-then-has_retold-clause-found
returns-then-has_retold-clause-found c =
    tell_retold c.args.turns.now c.args.places.now (turn_of c.args.turn.now) c.in-Some.key (sym c.told_key.ensures ∙ c.in-Some.is) (sym c.has_retold.ensures ∙ c.if-has_retold.true)

pub returns-clause-found : goal.returns-clause-found
returns-clause-found c =
    on_ok c.add.result (tell_entered c.args.turns.now c.add.new.places c.args.place c.args.turn.now c.in-Some.key c.requires (sym c.told_key.ensures ∙ c.in-Some.is)) c.add.ensures.there
