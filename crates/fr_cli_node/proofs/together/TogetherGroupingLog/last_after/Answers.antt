-- A log's state behind an ask follows from what that was told.
use Rattle.fr_cli_node.proofs.Behind.{last-if}
use Rattle.fr_cli_node.proofs.together.TogetherGroupingLog.last_after.Goals as goal

pub returns-in-Log-tell : goal.returns-in-Log-tell
returns-in-Log-tell c =
    last-if c.raise_law.ensures.push c.tell_law.ensures.one_push _ _ _ _ _ c.last_behind_log.result c.in-Log.is c.in-Log-tell.is c.last_behind_log.ensures.value c.last_behind_log.ensures.sound
