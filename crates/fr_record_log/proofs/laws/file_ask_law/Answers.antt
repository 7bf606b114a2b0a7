use Rattle.fr_record_log.proofs.Group.{is_file_ask}
use Rattle.fr_record_log.proofs.Settling.{LogLaws}
use Rattle.fr_record_log.proofs.laws.file_ask_law.Goals as goal

pub returns : goal.returns
returns c =
    let laws : LogLaws = record {
      leaves = c.chain_law.ensures.ask;
      change = c.change_law.ensures.change;
      seeded = c.raise_law.ensures.seed;
      more = c.raise_law.ensures.more;
      popped = c.pop_law.ensures.known;
      later = c.letting_law.ensures.asks;
      swept_log = c.letting_law.ensures.log;
      twice = c.letting_law.ensures.twice;
    } in
    is_file_ask laws c.spelling_is_read.ensures c.spelling_law.ensures.again
