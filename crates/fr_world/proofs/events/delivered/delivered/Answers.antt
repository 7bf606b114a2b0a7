use Rattle.std.proofs.Common.{◌≡◌, sym, ◌∙◌, subst}
use Rattle.std.specs.Prelude.{◌||◌}
use Rattle.fr_ask.specs.declared.ask.Ask.TheVariants as ask
use Rattle.fr_base.specs.declared.place.NodeId.TheVariants as node
use Rattle.fr_run.specs.Limits.{AskHasLimits}
use Rattle.fr_run.specs.Tests.{was_sent, storage_may_ask}
use Rattle.fr_world_nodes.specs.Parts.{AreStorages}
use Rattle.fr_world_nodes.specs.Kept.{state_of}
use Rattle.fr_world.proofs.Delivered.{cell_may, log_may, sequencer_may, sent_of, up_of, or_first, or_second}
use Rattle.fr_world.proofs.events.delivered.delivered.Goals as goal
use Rattle.fr_world.proofs.events.delivered.delivered.Goals.{then-sent, else-sent}

pub to_cell-requires-clause-turn : goal.to_cell-requires-clause-turn
to_cell-requires-clause-turn c sent =
    let w = state_of c.args.nodes.now in
    let to = node.Cell c.in-Cell-to.index in
    let a = ask.Cell c.in-Cell.ask in
    cell_may c.step_law.ensures.turn w c.args.from c.in-Cell-to.index c.in-Cell.ask (up_of w c.args.to to c.in-Cell-to.is (sym c.why_not_up.ensures ∙ c.in_default.is))
    (sym (sent_of c.args.nodes.now.turns.turns c.args.from c.args.to to c.args.ask a c.was_sent-sent.result c.in-Cell-to.is c.in-Cell.is c.was_sent-sent.ensures) ∙ sent)

pub to_log-requires-clause-turn : goal.to_log-requires-clause-turn
to_log-requires-clause-turn c may =
    let w = state_of c.args.nodes.now in
    let to = node.Log c.in-Log-to.epoch c.in-Log-to.index in
    let a = ask.Log c.in-Log.ask in
    let sent = sent_of c.args.nodes.now.turns.turns c.args.from c.args.to to c.args.ask a c.was_sent-sent.result c.in-Log-to.is c.in-Log.is c.was_sent-sent.ensures in
    let tests : c.if-sent.may ≡ (was_sent c.args.nodes.now.turns.turns c.args.from to a || storage_may_ask c.args.nodes.now.config c.args.nodes.now.turns.turns c.args.from c.in-Log.ask) =
    elim c.if-sent.branch [
      | then-sent b ↦ or_first c.if-sent.may c.was_sent-sent.result (was_sent c.args.nodes.now.turns.turns c.args.from to a) (storage_may_ask c.args.nodes.now.config c.args.nodes.now.turns.turns c.args.from c.in-Log.ask) sent b.if-sent.true b.may-is
      | else-sent b ↦ or_second c.if-sent.may c.was_sent-sent.result (was_sent c.args.nodes.now.turns.turns c.args.from to a) (storage_may_ask c.args.nodes.now.config c.args.nodes.now.turns.turns c.args.from c.in-Log.ask) b.storage_may_ask-may.result sent b.if-sent.false (b.storage_may_ask-may.ensures c.args.nodes.now.turns.turns (subst (AreStorages c.args.nodes.now.config c.args.nodes.now.turns.turns) (sym b.deref.ensures.value) c.requires.kept.storages_are)) b.may-is
    ] in
    log_may c.step_law.ensures.turn w c.args.from c.in-Log-to.epoch c.in-Log-to.index c.in-Log.ask (subst AskHasLimits c.in-Log.is c.requires.limits)
    (up_of w c.args.to to c.in-Log-to.is (sym c.why_not_up.ensures ∙ c.in_default.is)) (sym tests ∙ may)

pub to_sequencer-requires-clause-turn : goal.to_sequencer-requires-clause-turn
to_sequencer-requires-clause-turn c sent =
    let w = state_of c.args.nodes.now in
    let to = node.Sequencer c.in-Sequencer.epoch in
    let a = ask.Seq c.in-Seq.ask in
    sequencer_may c.step_law.ensures.turn w c.args.from c.in-Sequencer.epoch c.in-Seq.ask (up_of w c.args.to to c.in-Sequencer.is (sym c.why_not_up.ensures ∙ c.in_default.is))
    (sym (sent_of c.args.nodes.now.turns.turns c.args.from c.args.to to c.args.ask a c.was_sent-sent.result c.in-Sequencer.is c.in-Seq.is c.was_sent-sent.ensures) ∙ sent)
