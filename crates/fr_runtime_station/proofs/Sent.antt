-- Threads may share a directory where its cells and logs may go to another.
use denote.RattleType.{RattleType}
use denote.Struct.Declared.{shape}
use denote.Param.Send.{IsSend, IsSync, recorded_sync, sendable, struct_sync}
use Rattle.core.proofs.once.Sent.{once_sync}
use Rattle.std.proofs.Crossing.{crosses}
use Rattle.fr_ask.proofs.sequencer.SeqAsk.TheSendSync as seq_ask
use Rattle.fr_ask.specs.declared.named.Named as named
use Rattle.fr_base.proofs.node.InMemory.TheSendSync as in_memory
use Rattle.fr_base.specs.declared.machine.Machine as machine
use Rattle.fr_base.specs.declared.node.Node as node
use Rattle.fr_audit_journal.proofs.Sent.{housed-send}
use Rattle.fr_audit_journal.specs.contracts.housed.Housed as housed
use Rattle.fr_log.proofs.ask.LogAsk.TheSendSync as log_ask
use Rattle.fr_log.specs.contracts.log.step.LogMachine.TheImpl as log_machine
use Rattle.fr_log.specs.declared.ask.LogAsk.{LogAsk}
use Rattle.fr_log.specs.declared.ask.LogTell.{LogTell}
use Rattle.fr_log.specs.declared.log.Log.{Log}
use Rattle.fr_proxy.proofs.sequencer.Sequencer.TheSendSync as sequencer
use Rattle.fr_register.proofs.ask.CellAsk.TheSendSync as cell_ask
use Rattle.fr_register.specs.contracts.cell.CellMachine.TheImpl as cell_machine
use Rattle.fr_register.specs.declared.ask.CellAsk.{CellAsk}
use Rattle.fr_register.specs.declared.ask.CellTell.{CellTell}
use Rattle.fr_register.specs.declared.cell.Cell.{Cell}
use Rattle.fr_runtime_station.specs.contracts.cells.Cells as cells
use Rattle.fr_runtime_station.specs.contracts.directory.Directory as directory
use Rattle.fr_runtime_station.specs.contracts.epoch_nodes.EpochNodes as epoch_nodes
use Rattle.fr_runtime_station.specs.contracts.epoch_nodes.Logs as logs
use Rattle.fr_runtime_station.specs.contracts.epoch_nodes.Opened as opened
use Rattle.fr_runtime_station.specs.contracts.first_nodes.FirstNodes as first_nodes
use Rattle.fr_runtime_station.specs.contracts.station.Station as station

module _ (N M A T : RattleType) (g : node.Ghosts N.Denot M.Denot A.Denot T.Denot) (h : machine.Ghosts M.Denot A.Denot T.Denot) (k : named.Ghosts M.Denot A.Denot T.Denot) where
  station-send : IsSend (housed.the_row N M A T g h k) → IsSend (station.the_row N M A T g h k)
  station-send s = search (sendable, crosses) depth 40

  station-sync : IsSend (housed.the_row N M A T g h k) → IsSync (station.the_row N M A T g h k)
  station-sync s = search (sendable, crosses) depth 40

opened-send : IsSend opened.the_row
opened-send = search (sendable, crosses, housed-send, in_memory.the_send, sequencer.the_send, seq_ask.the_send) depth 40

opened-sync : IsSync opened.the_row
opened-sync = search (sendable, crosses, housed-send, in_memory.the_send, sequencer.the_send, seq_ask.the_send) depth 40

module _ (L : RattleType) (h : node.Ghosts L.Denot Log LogAsk LogTell) (m : machine.Ghosts Log LogAsk LogTell) where
  logs-send : IsSend L → IsSend (logs.the_row L h m)
  logs-send l = search (sendable, crosses, station-send, housed-send, log_ask.the_send) depth 40

  logs-sync : IsSend L → IsSync (logs.the_row L h m)
  logs-sync l = search (sendable, crosses, station-sync, housed-send, log_ask.the_send) depth 40

  first-sync : IsSend L → IsSync (first_nodes.the_field L h m).row
  first-sync l =
      struct_sync (shape (first_nodes.the_type L h m)) (
        search (sendable, crosses) depth 40,
        (
          search (sendable, crosses, station-sync, housed-send, log_ask.the_send) depth 40,
          (search (sendable, crosses, housed-send, in_memory.the_send, sequencer.the_send, seq_ask.the_send) depth 40, tt),
        ),
      )

module _ (L : RattleType) (h : node.Ghosts L.Denot Log LogAsk LogTell) where
  nodes-sync : IsSend L → IsSync (epoch_nodes.the_row L h)
  nodes-sync l = search (sendable, crosses, once_sync, logs-send, logs-sync, opened-send, opened-sync) depth 40

module _ (C : RattleType) (g : node.Ghosts C.Denot Cell CellAsk CellTell) (m : machine.Ghosts Cell CellAsk CellTell) where
  cells-sync : IsSend C → IsSync (cells.the_field C g m).row
  cells-sync c = struct_sync (shape (cells.the_type C g m)) (search (sendable, crosses, station-sync, housed-send, cell_ask.the_send) depth 40, tt)

module _ (C L : RattleType) (g : node.Ghosts C.Denot Cell CellAsk CellTell) (h : node.Ghosts L.Denot Log LogAsk LogTell) where
  pub directory-sync : IsSend C → IsSend L → IsSync (directory.the_row C L g h)
  directory-sync c l =
      let S = directory.the_type C L g h in
      recorded_sync _ _ _ S.to_one (struct_sync (shape S) (
        cells-sync C g cell_machine.ghosts c,
        (first-sync L h log_machine.ghosts l, (search (sendable, crosses, nodes-sync) depth 40, tt)),
      ))
