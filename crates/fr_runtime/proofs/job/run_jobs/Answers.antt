use denote.Exit.{no}
use denote.Param.{layout}
use denote.Param.Send.{sendable}
use mir.Syntax.{named}
use Rattle.std.proofs.Crossing.{crosses}
use Rattle.std.specs.Prelude.{IfOk}
use Rattle.fr_run.proofs.config.Config.TheSendSync as config
use Rattle.fr_runtime_station.proofs.Sent.{directory-sync}
use Rattle.fr_runtime.specs.Job.{Did}
use Rattle.fr_runtime.proofs.Captures.{bound-send, bound-sync, captures-sync}
use Rattle.fr_runtime.proofs.Done.{each-so}
use Rattle.fr_runtime.proofs.job.run_jobs.Goals as goal
use Rattle.fr_runtime.proofs.job.run_jobs.Lts as lts

-- threads may share the closure, whose captures are named, since no lemma can read them from the goal
pub work_each-requires-sync-F : goal.work_each-requires-sync-F
work_each-requires-sync-F g c κs within =
    let bounds = c.type_bounds in
    let all = captures-sync (lts.name-33 g.row.C g.row.L g.row.K g.row.S g.row.W g.row.F g.row.R g.row.K-Store g.C.laws g.L.laws g.K.laws g.S.laws g.W.laws g.F.laws g.R.laws g.K.Store.laws g.C.Node g.C.Node-dict g.bound-2 g.bound-2-dict g.L.Node g.L.Node-dict g.bound-4 g.bound-4-dict g.K.Rack g.K.Rack-dict g.K.Store.ShardStore g.K.Store.ShardStore-dict g.S.ShardStore g.S.ShardStore-dict g.W.Workload g.W.Workload-dict g.F.Faults g.F.Faults-dict g.R.Threads g.R.Threads-dict g.R.Wait g.R.Wait-dict g.C.Destruct-dict g.L.Destruct-dict g.S.Destruct-dict g.W.Destruct-dict g.K.Store.Destruct-dict) (lts.of-20 g.row.C g.row.L g.row.K g.row.S g.row.W g.row.F g.row.R g.row.K-Store g.C.laws g.L.laws g.K.laws g.S.laws g.W.laws g.F.laws g.R.laws g.K.Store.laws g.C.Node g.C.Node-dict g.bound-2 g.bound-2-dict g.L.Node g.L.Node-dict g.bound-4 g.bound-4-dict g.K.Rack g.K.Rack-dict g.K.Store.ShardStore g.K.Store.ShardStore-dict g.S.ShardStore g.S.ShardStore-dict g.W.Workload g.W.Workload-dict g.F.Faults g.F.Faults-dict g.R.Threads g.R.Threads-dict g.R.Wait g.R.Wait-dict g.C.Destruct-dict g.L.Destruct-dict g.S.Destruct-dict g.W.Destruct-dict g.K.Store.Destruct-dict (record { mir = named 6; lft = κs.1.1.1.1.1.1.0 }) (record { mir = named 7; lft = κs.1.1.1.1.1.1.1.0 }) (record { mir = named 8; lft = κs.1.1.1.1.1.1.1.1.0 }) (record { mir = named 9; lft = κs.1.1.1.1.1.1.1.1.1.0 }) (record { mir = named 10; lft = κs.1.1.1.1.1.1.1.1.1.1.0 })) (search (sendable, crosses) depth 40, (search (sendable, crosses) depth 40, (search (sendable, crosses, config.the_sync) depth 40, (search (sendable, crosses, directory-sync) depth 40, (search (sendable, crosses) depth 40, (search (sendable, crosses) depth 40, (search (sendable, crosses) depth 40, tt))))))) in
    record { shared = all.shared }

-- what it asks of the types of the function around it is what their bounds say
pub work_each-requires-clause-accepts : goal.work_each-requires-clause-accepts
work_each-requires-clause-accepts g c κs within = λ i x low e.
    let bounds = c.type_bounds in (
      bound-send 0 (layout g.row.C) no g.row.C bounds.send-C,
      bound-send 1 (layout g.row.L) no g.row.L bounds.send-L,
      bound-send 3 (layout g.row.S) no g.row.S bounds.send-S,
      bound-send 4 (layout g.row.W) no g.row.W bounds.send-W,
      bound-send 7 (layout g.row.K-Store) no g.row.K-Store bounds.send-K-Store,
      bound-sync 2 (layout g.row.K) no g.row.K bounds.sync-K,
      bound-sync 5 (layout g.row.F) no g.row.F bounds.sync-F,
      bound-sync 6 (layout g.row.R) no g.row.R bounds.sync-R,
    )

pub returns : goal.returns
returns g c =
    let said = Did g.W.Workload.given g.W.Workload.heard (g.F.Faults.begun c.args.site.now.faults.now) c.args.turns in
    each-so _ (λ job ran. IfOk ran (said job)) c.args.jobs.items c.work_each.result (λ job ran call. call) c.work_each.ensures.each
