use Rattle.fr_run_headline.proofs.Agreement.{parts_are_pieces, lines_agree, parts_agree}
use Rattle.fr_run_headline.proofs.laws.agree_law.Goals as goal

pub returns : goal.returns
returns c =
    let laws = c.lower_laws.ensures in
    record { pieces = parts_are_pieces laws; lines = lines_agree laws; agree = parts_agree laws }
