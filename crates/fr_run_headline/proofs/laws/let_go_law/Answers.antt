use Rattle.fr_run_headline.proofs.Following.{popped_is_safe, visible_is_safe, nothing_removed, never_removed}
use Rattle.fr_run_headline.proofs.Copies.{copies_never_removed}
use Rattle.fr_run_headline.proofs.laws.let_go_law.Goals as goal

pub returns : goal.returns
returns c =
    let laws = c.lower_laws.ensures in
    record { popped = popped_is_safe laws; visible = visible_is_safe laws; removed = nothing_removed laws; never = never_removed laws; copies = copies_never_removed laws }
