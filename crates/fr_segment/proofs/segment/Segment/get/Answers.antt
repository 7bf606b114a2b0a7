use Rattle.std.proofs.Common.{rules, ◌≤◌, ◌<◌, ap, sym, ◌∙◌, length, Some}
use Rattle.fr_record.specs.Disk.{bytes_at}
use Rattle.fr_record.specs.State.{record_at}
use Rattle.fr_segment.specs.File.{records_of_all}
use Rattle.fr_segment.proofs.TableLemmas.{record_found, record_past}
use Rattle.fr_segment.proofs.segment.Segment.get.Goals as goal

pub returns-then-i-len-clause-value : goal.returns-then-i-len-clause-value
returns-then-i-len-clause-value g c =
    let past : length c.self.inside.table.items ≤ c.args.i = search rules in
    sym (ap (λ s. record_at (records_of_all s.groups) c.args.i) (sym c.self.view_is) ∙ ap (λ rs. record_at rs c.args.i) (sym c.self.invariant.0.read.records)
    ∙ record_past (g.D.Device.disk c.self.inside.device).content c.self.inside.table.items c.args.i past)

pub returns-in-Ok-clause-value : goal.returns-in-Ok-clause-value
returns-in-Ok-clause-value g c =
    let content = (g.D.Device.disk c.self.inside.device).content in
    let place = c.index-place.result.now in
    let within : c.args.i < length c.self.inside.table.items = search rules in
    ap (λ x. Some x) (c.in-Ok.ensures.value ∙ ap (λ f. bytes_at content f.at f.len) c.index-place.ensures)
    ∙ sym (ap (λ s. record_at (records_of_all s.groups) c.args.i) (sym c.self.view_is) ∙ ap (λ rs. record_at rs c.args.i) (sym c.self.invariant.0.read.records) ∙ record_found content c.self.inside.table.items c.args.i place within)
