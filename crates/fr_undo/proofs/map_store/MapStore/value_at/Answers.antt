use Rattle.std.proofs.Common.{ap, sym, ◌∙◌}
use Rattle.std.specs.FinMap.{get}
use Rattle.fr_base.specs.Bytes.{bytes_total}
use Rattle.fr_base.proofs.MapLemmas.{get-map_of}
use Rattle.fr_undo.specs.State.{StoreState}
use Rattle.fr_undo.proofs.map_store.MapStore.value_at.Goals as goal

pub returns : goal.returns
returns c =
    c.get.ensures.value
    ∙ sym (get-map_of bytes_total c.self.inside.contents c.args.key.now)
    ∙ ap (λ (s : StoreState). get s.contents c.args.key.now) c.self.view_is
