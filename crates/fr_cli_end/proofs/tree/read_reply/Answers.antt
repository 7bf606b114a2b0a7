use Rattle.std.proofs.Common.{◌≢◌, length, arith}
use Rattle.fr_cli_end.proofs.ScriptLemmas.{no_reply}
use Rattle.fr_cli_end.proofs.tree.read_reply.Goals as goal
use Rattle.fr_cli_end.proofs.tree.read_reply.Goals.{in_default-via-then-as_slice-lt3, in_default-via-else-as_slice-lt3+else-this-lt4}

pub returns-in_default : goal.returns-in_default
returns-in_default c =
    let apart : length c.in_ok-as_array.field-0.now.items ≢ 3 = λ e. elim c.in_default.branch [
      | in_default-via-then-as_slice-lt3 w ↦ grind arith
      | in_default-via-else-as_slice-lt3+else-this-lt4 w ↦ grind arith
    ] in
    no_reply _ c.in_ok-as_array.field-0.now.items c.in_ok-as_array.ensures apart
