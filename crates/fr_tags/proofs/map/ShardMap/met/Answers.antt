use Rattle.std.proofs.Common.{false, refl}
use Rattle.std.specs.Prelude.{replicate}
use Rattle.fr_tags.proofs.SplitLemmas.{none_marked}
use Rattle.fr_tags.proofs.map.ShardMap.met.Goals as goal

pub loop-mutation-init : goal.loop-mutation-init
loop-mutation-init c t within = none_marked (replicate 32 false) t refl
