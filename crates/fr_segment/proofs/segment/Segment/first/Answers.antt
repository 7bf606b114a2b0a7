use Rattle.std.proofs.Common.{subst}
use Rattle.fr_segment.specs.Turns.{IsForeign}
use Rattle.fr_segment.proofs.segment.Segment.first.Goals as goal

pub returns-clause-foreign : goal.returns-clause-foreign
returns-clause-foreign g c told = subst (λ s. IsForeign c.args.identity.now (g.D.Device.disk s.device).content) c.self.view_is (c.read_first.ensures.foreign told)
