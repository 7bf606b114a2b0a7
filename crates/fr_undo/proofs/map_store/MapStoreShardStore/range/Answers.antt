use Rattle.std.proofs.Common.{ap, ◌∙◌}
use Rattle.std.specs.FinMap.{entries}
use Rattle.fr_mutation.specs.Shard.{part}
use Rattle.fr_undo.specs.State.{StoreState}
use Rattle.fr_undo.proofs.map_store.MapStoreShardStore.range.Goals as goal

pub returns-clause-rows : goal.returns-clause-rows
returns-clause-rows c = c.in_ok-range_copy.ensures ∙ ap (λ (s : StoreState). entries (part s.contents c.args.shard.now)) c.self.view_is
