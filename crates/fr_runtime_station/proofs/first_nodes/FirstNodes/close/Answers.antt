use Rattle.std.proofs.Common.{arith, refl}
use Rattle.fr_runtime_station.proofs.first_nodes.FirstNodes.close.Goals as goal

pub returns-clause-each : goal.returns-clause-each
returns-clause-each g c =
    let logs = c.in_ok-close_all.ensures.each refl in
    let one = c.in_ok-put_closed.ensures.each refl in
    omega (arith, logs, one)
