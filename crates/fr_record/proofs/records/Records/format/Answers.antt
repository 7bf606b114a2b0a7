use Rattle.std.proofs.Common.{◌∙◌, List, [], drop, subst, sym, arith}
use Rattle.fr_record.proofs.Crash.{durable_leaves}
use Rattle.fr_record.specs.declared.frame.Frame.{Frame}
use Rattle.fr_record.specs.File.{IsAtRest}
use Rattle.fr_record.specs.Table.{records_at}
use Rattle.fr_record.proofs.records.Records.format.Goals as goal

pub returns-clause-kept : goal.returns-clause-kept
returns-clause-kept g c left may =
    let found : IsAtRest [] left = record {
      rest = drop 1 (g.D.Device.disk c.args.device).content;
      split = durable_leaves (g.D.Device.disk c.sync.new.self) left c.in_ok-sync.ensures.durable may ∙ c.in_ok-sync.ensures.stands.same ∙ c.in_ok-write_at.ensures.ok;
      short = λ i d h. absurd (omega (arith, h));
    } in
    subst (λ (t : List Frame). IsAtRest (records_at (g.D.Device.disk c.sync.new.self).content t) left) (sym c.new.ensures.items) found
