use Rattle.std.proofs.Common.{refl, ap, sym, subst, ◌∙◌, ◌∷◌, Err}
use Rattle.fr_record.specs.Moments.{LeavesOnly, Throughout}
use Rattle.fr_segment.specs.File.{StandsFor, IsLeft, IsAtRest}
use Rattle.fr_segment.proofs.ReadLemmas.{failed_front}
use Rattle.fr_segment.proofs.Grown.{kept}
use Rattle.fr_segment.proofs.segment.Segment.reopen.Goals as goal

pub invariant_of-self-in-Err-Device : goal.invariant_of-self-in-Err-Device
invariant_of-self-in-Err-Device g c = (
  (failed_front (g.D.Device.disk c.self.inside.device) (g.D.Device.disk c.read_file.new.device) c.self.inside.table.items c.self.inside.end c.self.inside.is_failed c.self.inside.count c.self.invariant.0 c.read_file.ensures.front).0,
  λ never. absurd (cc never),
)

pub returns-in-Err-Device-clause-err : goal.returns-in-Err-Device-clause-err
returns-in-Err-Device-clause-err g c =
    (failed_front (g.D.Device.disk c.self.inside.device) (g.D.Device.disk c.read_file.new.device) c.self.inside.table.items c.self.inside.end c.self.inside.is_failed c.self.inside.count c.self.invariant.0 c.read_file.ensures.front).1
    ∙ ap (λ s. s.groups) c.self.view_is

pub returns-in-Err-Broken-clause-broken : goal.returns-in-Err-Broken-clause-broken
returns-in-Err-Broken-clause-broken g c e gs stands =
    c.read_file.ensures.broken (c.in-Err-Broken.is ∙ ap (λ f. Err f) c.in-Err-Broken.field-0-is) gs (subst (λ s. StandsFor (g.D.Device.disk s.device).content gs) (sym c.self.view_is) stands)

pub returns-in-Ok-clause-any_moment : goal.returns-in-Ok-clause-any_moment
returns-in-Ok-clause-any_moment g c before h short =
    subst (λ s. LeavesOnly g.D.Device.Led g.D.Device.disk (IsLeft before h) s.device → Throughout g.D.Device.Led g.D.Device.disk (IsLeft before h) s.device c.read_file.new.device) c.self.view_is
    (c.read_file.ensures.any_moment before h short)

pub returns-in-Err-Device-clause-any_moment : goal.returns-in-Err-Device-clause-any_moment
returns-in-Err-Device-clause-any_moment g c before h short =
    subst (λ s. LeavesOnly g.D.Device.Led g.D.Device.disk (IsLeft before h) s.device → Throughout g.D.Device.Led g.D.Device.disk (IsLeft before h) s.device c.read_file.new.device) c.self.view_is
    (c.read_file.ensures.any_moment before h short)

pub returns-in-Err-Memory-clause-any_moment : goal.returns-in-Err-Memory-clause-any_moment
returns-in-Err-Memory-clause-any_moment g c before h short =
    subst (λ s. LeavesOnly g.D.Device.Led g.D.Device.disk (IsLeft before h) s.device → Throughout g.D.Device.Led g.D.Device.disk (IsLeft before h) s.device c.read_file.new.device) c.self.view_is
    (c.read_file.ensures.any_moment before h short)

pub returns-in-Err-Broken-clause-any_moment : goal.returns-in-Err-Broken-clause-any_moment
returns-in-Err-Broken-clause-any_moment g c before h short =
    subst (λ s. LeavesOnly g.D.Device.Led g.D.Device.disk (IsLeft before h) s.device → Throughout g.D.Device.Led g.D.Device.disk (IsLeft before h) s.device c.read_file.new.device) c.self.view_is
    (c.read_file.ensures.any_moment before h short)

pub returns-in-Ok-clause-at_rest : goal.returns-in-Ok-clause-at_rest
returns-in-Ok-clause-at_rest g c before =
    subst (λ s. LeavesOnly g.D.Device.Led g.D.Device.disk (IsAtRest before) s.device → Throughout g.D.Device.Led g.D.Device.disk (IsAtRest before) s.device c.read_file.new.device) c.self.view_is
    (c.read_file.ensures.at_rest before)

pub returns-in-Err-Device-clause-at_rest : goal.returns-in-Err-Device-clause-at_rest
returns-in-Err-Device-clause-at_rest g c before =
    subst (λ s. LeavesOnly g.D.Device.Led g.D.Device.disk (IsAtRest before) s.device → Throughout g.D.Device.Led g.D.Device.disk (IsAtRest before) s.device c.read_file.new.device) c.self.view_is
    (c.read_file.ensures.at_rest before)

pub returns-in-Err-Memory-clause-at_rest : goal.returns-in-Err-Memory-clause-at_rest
returns-in-Err-Memory-clause-at_rest g c before =
    subst (λ s. LeavesOnly g.D.Device.Led g.D.Device.disk (IsAtRest before) s.device → Throughout g.D.Device.Led g.D.Device.disk (IsAtRest before) s.device c.read_file.new.device) c.self.view_is
    (c.read_file.ensures.at_rest before)

pub returns-in-Err-Broken-clause-at_rest : goal.returns-in-Err-Broken-clause-at_rest
returns-in-Err-Broken-clause-at_rest g c before =
    subst (λ s. LeavesOnly g.D.Device.Led g.D.Device.disk (IsAtRest before) s.device → Throughout g.D.Device.Led g.D.Device.disk (IsAtRest before) s.device c.read_file.new.device) c.self.view_is
    (c.read_file.ensures.at_rest before)

pub returns-in-Ok-clause-kept : goal.returns-in-Ok-clause-kept
returns-in-Ok-clause-kept g c = kept (g.D.Device.disk c.read_file.new.device) c.in-Ok.found.table.items c.in-Ok.found.end _ c.in-Ok.found.count c.in-Ok.ensures.file (λ works. c.in-Ok.ensures.guarded) refl
