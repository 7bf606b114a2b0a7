-- The asks are those of the definition.
use Rattle.std.proofs.Common.{ap, ◌∙◌}
use Rattle.fr_state.specs.Generations.{CoordinatedState}
use Rattle.fr_node.proofs.Asked.{asks-are}
use Rattle.fr_node.proofs.pulls.asks_at.Goals as goal

pub returns : goal.returns
returns g c =
    asks-are c.args.storage.now c.args.turn c.args.newest c.next_ask-epoch.result c.of_epoch-source.result c.tag-tag.result c.epoch.result c.pop_ask-ask.result c.last-own.result c.gens.result.now _ _ _ _ _ c.holder_at.result
    c.next_ask-epoch.ensures (c.gens.ensures.value ∙ ap (λ (x : CoordinatedState). x.gens) c.state.ensures) c.of_epoch-source.ensures c.tag-tag.ensures
    c.new-asks.ensures.items c.in_ok-add_peek.ensures c.in_ok-add_mark.ensures c.reserve.ensures.items
    (rw c.state-2.ensures at c.last-own.ensures.value) c.pop_ask-ask.ensures c.epoch.ensures c.holder_at.ensures c.push_reserved.ensures.items
