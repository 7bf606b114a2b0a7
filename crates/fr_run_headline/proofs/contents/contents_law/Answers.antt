use Rattle.fr_run_headline.proofs.Truths.{logs_have_parts, logs_have_left, peeks_are_true, copies_are_true}
use Rattle.fr_run_headline.proofs.contents.contents_law.Goals as goal

pub returns : goal.returns
returns c =
    let laws = c.lower_laws.ensures in
    record { logs = logs_have_parts laws; left = logs_have_left laws; peeks = peeks_are_true laws; copies = copies_are_true laws }
