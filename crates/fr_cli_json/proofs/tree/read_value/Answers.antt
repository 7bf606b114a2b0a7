use Rattle.std.proofs.Common.{arith}
use Rattle.fr_cli_json.proofs.JsonLemmas.{data_here, data_none}
use Rattle.fr_cli_json.proofs.tree.read_value.Goals as goal

pub returns-in-Ok-clause-ok : goal.returns-in-Ok-clause-ok
returns-in-Ok-clause-ok c = rw (← c.as_slice.ensures.value) (data_here c.as_slice.result.now _ c.in-Ok.ensures.ok.0 c.in-Ok.ensures.ok.1)

pub returns-clause-bad : goal.returns-clause-bad
returns-clause-bad c = λ _. rw (← c.as_slice.ensures.value) (data_none c.as_slice.result.now (c.in-Err-2.ensures.err (λ h. grind (arith, c.if-is_memory.false, c.if-is_memory.ensures))))
