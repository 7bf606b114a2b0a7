use Rattle.std.proofs.Common.{ap, sym, ◌∙◌}
use Rattle.std.specs.Cmp.{nat_cmp_total}
use Rattle.std.specs.FinMap.{get}
use Rattle.fr_base.proofs.MapLemmas.{get-map_of}
use Rattle.fr_proxy.specs.Sequencer.{SeqState}
use Rattle.fr_proxy.proofs.sequencer.Sequencer.given_to.Goals as goal

pub returns : goal.returns
returns c = c.copied.ensures ∙ c.get.ensures.value ∙ sym (get-map_of nat_cmp_total c.self.inside.given c.args.proxy) ∙ ap (λ (s : SeqState). get s.given c.args.proxy) c.self.view_is
