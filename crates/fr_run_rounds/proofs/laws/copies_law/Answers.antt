use Rattle.fr_run.specs.Config.{Config}
use Rattle.fr_run.specs.StateLaws.{IsConfig}
use Rattle.fr_run_rounds.proofs.PeekRound.{copying_brings_records}
use Rattle.fr_run_rounds.proofs.PeekSteps.{PeekRules}
use Rattle.fr_run_rounds.proofs.SeedRound.{seeding_is_one_round}
use Rattle.fr_run_rounds.proofs.laws.copies_law.Goals as goal

pub returns : goal.returns
returns c = record { records = copying_brings_records ruled; seeding = seeding_is_one_round c.node_laws.ensures }
  where
    ruled : (x : Config) → IsConfig x → PeekRules x
    ruled x config = record {
      laws = c.node_laws.ensures;
      config = config;
      truths = c.contents_law.ensures.peeks;
      copies = c.contents_law.ensures.copies;
      never = c.let_go_law.ensures.copies;
      meets = c.cover_law.ensures.covering;
    }
