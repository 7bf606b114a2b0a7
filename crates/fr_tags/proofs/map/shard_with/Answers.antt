use Rattle.std.proofs.Common.{◌-◌, sym, ◌∙◌, ap}
use Rattle.fr_tags.specs.Shards.{is_from_to}
use Rattle.fr_tags.proofs.TouchedLemmas.{key_is_met}
use Rattle.fr_tags.proofs.map.shard_with.Goals as goal

pub returns-clause-each : goal.returns-clause-each
returns-clause-each c t l = key_is_met c.args.begins.now c.args.key.now t c.requires l ∙ ap (λ n. is_from_to (n - 1) n t) (sym c.begun-count.ensures.count)
