-- A node with its journal may go to another thread where the node and its asks may.
use denote.RattleType.{RattleType}
use denote.Struct.Declared.{shape}
use denote.Param.Send.{IsSend, recorded_send, sendable, struct_send, view_send}
use Rattle.std.proofs.Crossing.{crosses}
use Rattle.fr_ask.specs.declared.named.Named as named
use Rattle.fr_base.specs.declared.machine.Machine as machine
use Rattle.fr_base.specs.declared.node.Node as node
use Rattle.fr_audit_journal.specs.contracts.housed.Housed as housed
use Rattle.fr_audit_journal.specs.contracts.housed.Housed.TheInside as inside
use Rattle.fr_audit_journal.proofs.journal.Journal.TheSendSync as journal

module _ (N M A T : RattleType) (g : node.Ghosts N.Denot M.Denot A.Denot T.Denot) (h : machine.Ghosts M.Denot A.Denot T.Denot) (k : named.Ghosts M.Denot A.Denot T.Denot) where
  inside-send : IsSend N → IsSend A → IsSend (inside.the_row N M A T g h k)
  inside-send n a =
      let S = inside.the_type N M A T g h k in
      recorded_send _ _ _ S.to_one (struct_send (shape S) (n, (journal.the_send, (search (sendable, crosses) depth 40, (search (sendable, crosses) depth 40, (search (sendable, crosses) depth 40, (search (sendable, crosses) depth 40, tt)))))))

  pub housed-send : IsSend N → IsSend A → IsSend (housed.the_row N M A T g h k)
  housed-send n a = view_send (inside.the_row N M A T g h k) _ _ _ _ (inside-send n a)
