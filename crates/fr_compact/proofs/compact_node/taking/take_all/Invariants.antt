use Rattle.std.proofs.Common.{◌≡◌, take}
use Rattle.std.specs.Prelude.{All}
use Rattle.fr_segment.specs.Group.{records_of}
use Rattle.fr_record_node.specs.Several.{after_all, told_all, written_all}
use Rattle.fr_compact.proofs.compact_node.taking.take_all.Given as goal

-- what was done so far is what the first asks do
abbrev pub invariant-loop-ask : goal.invariant-loop-ask
invariant-loop-ask g l = record {
  after : l.machine ≡ after_all g.M.Recorded.kept l.initial.machine (take l.ask-index l.asks);
  told : l.taken.tells.items ≡ told_all g.M.Recorded.kept g.M.Machine.told l.initial.machine (take l.ask-index l.asks);
  records : records_of l.taken.group.items ≡ written_all g.M.Recorded.kept g.M.Recorded.written l.initial.machine (take l.ask-index l.asks);
  asked : All g.M.Recorded.IsAsk (take l.ask-index l.asks);
}
