use Rattle.fr_run_headline.proofs.Shown.{locked_is_popped, shown_is_popped, drops_are_popped}
use Rattle.fr_run_headline.proofs.versions.shown_law.Goals as goal

pub returns : goal.returns
returns c =
    let laws = c.node_laws.ensures in
    record { told = locked_is_popped laws; shown = shown_is_popped laws; dropped = drops_are_popped laws }
