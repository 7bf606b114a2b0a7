use Rattle.std.proofs.Common.{ap, ◌≡◌, ◌+◌, length, [], arith}
use Rattle.std.proofs.lemmas.Grind.{common_steps}
use Rattle.std.specs.Vec.Iter.{into_iter_items}
use Rattle.fr_runtime_station.proofs.Journals.{each-more}
use Rattle.fr_runtime_station.proofs.closing.close_all.Goals as goal

pub loop-station-preserved : goal.loop-station-preserved
loop-station-preserved g c = record {
  can = tt;
  ends = tt;
  answers = c.in_ok-put_closed.ensures.answers;
  more = grind (arith, common_steps);
  each = λ e. each-more (length c.loop-station.journals.items) (length c.put_closed.new.journals.items) (length (into_iter_items c.loop-station.station-iterator)) (length (into_iter_items c.next.new.self)) (length c.args.journals.now.items + length c.args.stations.items) (ap length c.in-Some.ensures.steps.0) (c.in_ok-put_closed.ensures.each e) (c.loop-station.invariant.each e);
}

pub returns-clause-each : goal.returns-clause-each
returns-clause-each g c e =
    let ended : into_iter_items c.loop-station.station-iterator ≡ [] = grind (arith, common_steps) in
    let all = c.loop-station.invariant.each e in
    let none = ap length ended in
    grind (arith, common_steps)
