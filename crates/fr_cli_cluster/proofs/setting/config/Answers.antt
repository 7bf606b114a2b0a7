use Rattle.fr_cli_cluster.proofs.Shards.{no_config_fault}
use Rattle.fr_cli_cluster.proofs.setting.config.Goals as goal

pub unreachable-requires : goal.unreachable-requires
unreachable-requires c = no_config_fault c.args.words.now c.in_ok-begins.begins.items c.in-Err.field-0 c.requires.within.nodes c.requires.within.clients
    c.in_ok-begins.ensures c.in-Err.ensures.fault
