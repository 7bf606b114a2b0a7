use Rattle.std.proofs.Common.{rules, refl, ap, ◌∙◌, subst}
use Rattle.std.specs.Prelude.{All}
use Rattle.std.proofs.lemmas.List.{take_all}
use Rattle.fr_record_node.specs.Several.{after_all, told_all, written_all}
use Rattle.fr_compact.proofs.AskLemmas.{after_more, told_more, written_more, asked_more, front_of, told_kept, written_kept, none_asked}
use Rattle.fr_compact.proofs.NodeLemmas.{on_err}
use Rattle.fr_compact.proofs.compact_node.taking.take_all.Goals as goal

pub loop-ask-init : goal.loop-ask-init
loop-ask-init g c = record {
  after = refl;
  told = c.new.ensures.items;
  records = search rules;
  asked = none_asked g.M.Recorded.IsAsk;
}

pub loop-ask-preserved : goal.loop-ask-preserved
loop-ask-preserved g c =
    let first = c.args.machine.now in
    let asks = c.args.asks.now in
    let i = c.loop-ask.ask-index in
    let h = c.loop-ask-test.true in
    let at = c.loop-ask.invariant in
    record {
      after = after_more g.M.Recorded.kept first asks i c.ask-item.result h c.ask-item.is c.loop-ask.machine at.after c.take_one.new.machine c.in_ok-take_one.ensures.after;
      told = told_more g.M.Recorded.kept first asks i c.ask-item.result h c.ask-item.is c.loop-ask.machine at.after g.M.Machine.told _ _ at.told c.in_ok-take_one.ensures.told;
      records = written_more g.M.Recorded.kept first asks i c.ask-item.result h c.ask-item.is c.loop-ask.machine at.after g.M.Recorded.written _ _ at.records c.in_ok-take_one.ensures.records;
      asked = asked_more g.M.Recorded.kept first asks i c.ask-item.result h c.ask-item.is c.loop-ask.machine at.after g.M.Recorded.IsAsk at.asked c.in_ok-take_one.ensures.asked;
    }

pub returns-in_err-take_one-clause-err : goal.returns-in_err-take_one-clause-err
returns-in_err-take_one-clause-err g c =
    on_err c.from_residual.result _ (front_of g.M.Recorded.kept c.args.machine.now c.args.asks.now c.loop-ask.ask-index c.ask-item.result c.loop-ask-test.true c.ask-item.is c.loop-ask.machine c.loop-ask.invariant.after c.take_one.new.machine c.in_err-take_one.ensures.err)

pub returns : goal.returns
returns g c =
    let first = c.args.machine.now in
    let asks = c.args.asks.now in
    let all = take_all c.loop-ask.ask-index asks c.loop-ask-test.false in
    let at = c.loop-ask.invariant in
    let within : All g.M.Recorded.IsAsk asks = subst (λ l. All g.M.Recorded.IsAsk l) all at.asked in
    record {
      after = at.after ∙ ap (λ l. after_all g.M.Recorded.kept first l) all;
      told = at.told ∙ ap (λ l. told_all g.M.Recorded.kept g.M.Machine.told first l) all
          ∙ told_kept g.M.Machine.after g.M.Recorded.kept g.M.Recorded.settled g.M.Recorded.IsAsk g.M.Machine.told g.met.M.Recorded.told_settled first first asks within (λ later w. g.met.M.Recorded.settles first later c.requires w);
      records = at.records ∙ ap (λ l. written_all g.M.Recorded.kept g.M.Recorded.written first l) all
          ∙ written_kept g.M.Machine.after g.M.Recorded.kept g.M.Recorded.settled g.M.Recorded.IsAsk g.M.Recorded.written g.met.M.Recorded.written_settled first first asks within (λ later w. g.met.M.Recorded.settles first later c.requires w);
      asked = within;
      err = tt;
    }
