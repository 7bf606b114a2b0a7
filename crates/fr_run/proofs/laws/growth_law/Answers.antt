use Rattle.fr_run.proofs.Growth.{rec_grows, proxy_grows, log_grows}
use Rattle.fr_run.proofs.Cells.{cells_grow}
use Rattle.fr_run.proofs.laws.growth_law.Goals as goal

pub returns : goal.returns
returns c =
    let laws = c.node_laws.ensures in
    record {
      cells = cells_grow laws;
      logs = log_grows laws;
      recoverers = λ w h t run is b r at. let g = rec_grows laws w h t run is b r at in (g.later, g.is, g.grows);
      proxies = proxy_grows laws;
    }
