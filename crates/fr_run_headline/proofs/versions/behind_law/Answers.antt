use Rattle.fr_run_headline.proofs.Behind.{generations_are_own, front_is_state, behind_is_seeded}
use Rattle.fr_run_headline.proofs.versions.behind_law.Goals as goal

pub returns : goal.returns
returns c =
    let laws = c.node_laws.ensures in
    record { own = generations_are_own laws; front = front_is_state laws; seeded = behind_is_seeded laws }
