use Rattle.fr_run_headline.proofs.Tells.{held_is_held}
use Rattle.fr_run_headline.proofs.Marks.{seeded_is_seeded, marked_is_state}
use Rattle.fr_run_headline.proofs.Asked.{marked_is_chosen, peeked_is_asked, peeked_is_own}
use Rattle.fr_run_headline.proofs.versions.told_law.Goals as goal

pub returns : goal.returns
returns c =
    let laws = c.node_laws.ensures in
    record {
      held = held_is_held laws;
      seeded = seeded_is_seeded laws;
      marked = marked_is_state laws;
      chosen = marked_is_chosen laws;
      asked = peeked_is_asked laws;
      own = peeked_is_own laws;
    }
