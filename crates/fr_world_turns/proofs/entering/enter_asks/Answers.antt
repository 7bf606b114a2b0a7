use Rattle.std.proofs.Common.{◌≡◌, true, Some, ap, sym, subst, ◌∙◌}
use Rattle.std.specs.Prelude.{slice_get}
use Rattle.std.proofs.lemmas.Option.{slice_get-get_or}
use Rattle.fr_run.specs.Turn.{asks_of}
use Rattle.fr_run.specs.Tests as tests
use Rattle.fr_world_turns.specs.Finding.{at_place}
use Rattle.fr_world_turns.specs.Turns.{turn_of}
use Rattle.fr_world_turns.proofs.Founds.{SentAreFound, asks_entered, gives_at, sent_more, take_whole}
use Rattle.fr_world_turns.proofs.entering.enter_asks.Goals as goal

pub enter_ask-requires : goal.enter_ask-requires
enter_ask-requires c =
    let asks = c.asks-asks.result.now in
    let i = c.loop-sent.sent-index in
    let s = c.sent-item.result in
    let has : slice_get asks i ≡ Some s = slice_get-get_or asks i s c.loop-sent-test.true ∙ ap Some (sym c.sent-item.is) in
    subst (λ w. at_place c.args.turns.now (tests.gives w s.0 s.1) c.args.place ≡ true) (sym c.node-from.ensures)
    (gives_at c.args.turns.now c.args.place c.args.turn.now i s c.requires (subst (λ xs. slice_get xs i ≡ Some s) c.asks-asks.ensures has))

pub loop-sent-preserved : goal.loop-sent-preserved
loop-sent-preserved c =
    let asks = c.asks-asks.result.now in
    let i = c.loop-sent.sent-index in
    let s = c.sent-item.result in
    let has : slice_get asks i ≡ Some s = slice_get-get_or asks i s c.loop-sent-test.true ∙ ap Some (sym c.sent-item.is) in
    record {
      grows = λ k f e. c.enter_ask.ensures.grows k f (c.loop-sent.invariant.grows k f e);
      found = sent_more c.args.turns.now c.loop-sent.places c.enter_ask.new.places c.node-from.result asks i s has c.loop-sent.invariant.found c.enter_ask.ensures.grows c.in_ok-enter_ask.ensures.found;
    }

pub returns-clause-found : goal.returns-clause-found
returns-clause-found c =
    let turns = c.args.turns.now in
    let m = c.loop-sent.places in
    let t = turn_of c.args.turn.now in
    asks_entered turns m t
    (subst (λ w. SentAreFound turns m w (asks_of t)) c.node-from.ensures
    (subst (SentAreFound turns m c.node-from.result) (take_whole c.asks-asks.result.now c.loop-sent.sent-index c.loop-sent-test.false ∙ c.asks-asks.ensures) c.loop-sent.invariant.found))
