use Rattle.fr_run_headline.proofs.Seeds.{counted_is_seeded, all_counted_is_seeded, writing_is_seeded, sent_is_seeded, chosen_is_seeded}
use Rattle.fr_run_headline.proofs.versions.seeded_law.Goals as goal

pub returns : goal.returns
returns c =
    let laws = c.node_laws.ensures in
    record { counted = counted_is_seeded laws; all = all_counted_is_seeded laws; writing = writing_is_seeded laws; sent = sent_is_seeded laws; chosen = chosen_is_seeded laws }
