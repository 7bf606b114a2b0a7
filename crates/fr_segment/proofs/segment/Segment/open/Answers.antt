use Rattle.std.proofs.Common.{refl, ◌≡◌, ◌∙◌, ap, Err}
use Rattle.fr_record.specs.declared.fault.RecordFault.TheVariants.{Broken}
use Rattle.fr_record.specs.Fault.{met_device}
use Rattle.fr_segment.proofs.Grown.{kept}
use Rattle.fr_segment.proofs.segment.Segment.open.Goals as goal

pub returns-in-Err-clause-broken : goal.returns-in-Err-clause-broken
returns-in-Err-clause-broken g c e rs stands =
    let same : c.in-Err.fault ≡ Broken = cc e in
    c.read_file.ensures.broken (c.in-Err.is ∙ ap (λ f. Err f) same) rs stands

pub returns-in-Err-clause-gone : goal.returns-in-Err-clause-gone
returns-in-Err-clause-gone g c =
    (c.read_file.new.device, record { in_flight = c.read_file.ensures.any_moment; at_rest = c.read_file.ensures.at_rest }, λ e. c.read_file.ensures.durable (ap met_device c.in-Err.is ∙ e))

pub returns-in-Ok-clause-any_moment : goal.returns-in-Ok-clause-any_moment
returns-in-Ok-clause-any_moment g c = record { in_flight = c.read_file.ensures.any_moment; at_rest = c.read_file.ensures.at_rest }

pub returns-in-Ok-clause-durable : goal.returns-in-Ok-clause-durable
returns-in-Ok-clause-durable g c = c.in-Ok.ensures.file.durable refl

pub returns-in-Ok-clause-kept : goal.returns-in-Ok-clause-kept
returns-in-Ok-clause-kept g c = kept (g.D.Device.disk c.read_file.new.device) c.in-Ok.found.table.items c.in-Ok.found.end _ c.in-Ok.found.count c.in-Ok.ensures.file (λ works. c.in-Ok.ensures.guarded) refl
