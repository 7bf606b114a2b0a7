-- A log is told of a group what it would have been told one by one.
use Rattle.std.proofs.Common.{◌∙◌}
use Rattle.fr_log.specs.Step.{after_ask, answer_of}
use Rattle.fr_cli_node.proofs.Behind.{same-told}
use Rattle.fr_cli_node.proofs.together.TogetherGroupsCompactLog.serve_all.Goals as goal

pub returns-in-Ok-clause-told : goal.returns-in-Ok-clause-told
returns-in-Ok-clause-told g c = c.in-Ok.ensures.told ∙ same-told after_ask answer_of _ _
