-- What was told in a turn: under which key it is, and in which other turns it was told.
use Rattle.std.proofs.Common.{◌≡◌, true, ◌==◌, ◌&&◌, Option, Some, sym, ◌∙◌}
use Rattle.std.proofs.lemmas.Bool.{and_parts, eqb-true}
use Rattle.fr_base.specs.Node.{is_same_node, is_same_node-IsSameness, is_same_log, is_same_log-IsSameness}
use Rattle.fr_base.specs.declared.place.LogId.{LogId}
use Rattle.fr_base.specs.declared.place.NodeId.{NodeId}
use Rattle.fr_base.specs.declared.place.NodeId.TheVariants as node
use Rattle.fr_log.specs.Fields.{three}
use Rattle.fr_log.specs.Same.{is_same_log_tell, is_same_log_tell-IsSameness}
use Rattle.fr_ask.specs.Cells.{is_same_cell_tell, is_same_cell_tell-IsSameness}
use Rattle.fr_ask.specs.Same.{is_same_seq_tell, is_same_seq_tell-IsSameness, is_same_tell, is_same_tell-IsSameness}
use Rattle.fr_ask.specs.declared.tell.Tell.{Tell}
use Rattle.fr_ask.specs.declared.tell.Tell.TheVariants as tell
use Rattle.fr_run.specs.Turn.{Turn, CellTurn, LogTurn, SeqTurn}
use Rattle.fr_run.specs.Tests.{tells}
use Rattle.fr_world_turns.specs.Keys.{told_key, tell_key}
use Rattle.fr_world_turns.specs.Places.{Key}
use Rattle.fr_world_turns.specs.Turns.{retells}

-- three tests passed
same_telling : (who by from to : NodeId) (told t : Tell) → (is_same_node who by && (is_same_node from to && is_same_tell told t)) ≡ true → (who ≡ by) × (from ≡ to) × (told ≡ t)
same_telling who by from to told t e =
    let k = and_parts (is_same_node who by) (is_same_node from to && is_same_tell told t) e in
    let l = and_parts (is_same_node from to) (is_same_tell told t) k.1 in
    (is_same_node-IsSameness.same who by k.0, is_same_node-IsSameness.same from to l.0, is_same_tell-IsSameness.same told t l.1)

one_key : (who by from to : NodeId) (told t : Tell) → (is_same_node who by && (is_same_node from to && is_same_tell told t)) ≡ true → ◌≡◌ {A = Option Key} (Some (tell_key who from told)) (Some (tell_key by to t))
one_key who by from to told t e =
    let k = same_telling who by from to told t e in
    three (λ x y z. Some (tell_key x y z)) k.0 k.1 k.2

-- a tell that was told in a turn has the key of the turn
pub told_key_is : (turn : Turn) (by to : NodeId) (t : Tell) → tells by to t turn ≡ true → told_key turn ≡ Some (tell_key by to t)
told_key_is (CellTurn from i a told) by to t e = one_key (node.Cell i) by from to (tell.Cell told) t e
told_key_is (LogTurn from n i a told) by to t e = one_key (node.Log n i) by from to (tell.Log told) t e
told_key_is (SeqTurn from n a told) by to t e = one_key (node.Sequencer n) by from to (tell.Seq told) t e
told_key_is turn by to t e = absurd (cc)

-- what was told in a turn was told in one that retells it
pub retold : (turn other : Turn) → retells turn other ≡ true → (by to : NodeId) (t : Tell) → tells by to t turn ≡ true → tells by to t other ≡ true
retold (CellTurn from i a told) (CellTurn asker j b other) same by to t e =
    let k = and_parts (i == j) (is_same_node from asker && is_same_cell_tell told other) same in
    let l = and_parts (is_same_node from asker) (is_same_cell_tell told other) k.1 in
    sym (three (λ n f x. is_same_node (node.Cell n) by && (is_same_node f to && is_same_tell (tell.Cell x) t)) (eqb-true i j k.0) (is_same_node-IsSameness.same from asker l.0) (is_same_cell_tell-IsSameness.same told other l.1)) ∙ e
retold (LogTurn from n i a told) (LogTurn asker m j b other) same by to t e =
    let one : LogId = record { epoch = n; index = i } in
    let two : LogId = record { epoch = m; index = j } in
    let k = and_parts (is_same_log one two) (is_same_node from asker && is_same_log_tell told other) same in
    let l = and_parts (is_same_node from asker) (is_same_log_tell told other) k.1 in
    sym (three (λ (n : LogId) f x. is_same_node (node.Log n.epoch n.index) by && (is_same_node f to && is_same_tell (tell.Log x) t)) (is_same_log-IsSameness.same one two k.0) (is_same_node-IsSameness.same from asker l.0) (is_same_log_tell-IsSameness.same told other l.1)) ∙ e
retold (SeqTurn from n a told) (SeqTurn asker m b other) same by to t e =
    let k = and_parts (n == m) (is_same_node from asker && is_same_seq_tell told other) same in
    let l = and_parts (is_same_node from asker) (is_same_seq_tell told other) k.1 in
    sym (three (λ n f x. is_same_node (node.Sequencer n) by && (is_same_node f to && is_same_tell (tell.Seq x) t)) (eqb-true n m k.0) (is_same_node-IsSameness.same from asker l.0) (is_same_seq_tell-IsSameness.same told other l.1)) ∙ e
retold turn other same by to t e = absurd (cc)
