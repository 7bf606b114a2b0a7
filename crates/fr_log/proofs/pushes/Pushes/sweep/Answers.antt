use Rattle.std.proofs.Common.{map, ap, ◌∙◌}
use Rattle.fr_log.specs.Left.{left_push}
use Rattle.fr_log.proofs.Held.{swept_indexed, swept_held}
use Rattle.fr_log.proofs.pushes.Pushes.sweep.Goals as goal

pub invariant_of-self : goal.invariant_of-self
invariant_of-self c = swept_indexed c.args.popped.now c.self.inside.shelves.items c.sweep_all.new.shelves.items c.self.inside.headers c.self.invariant c.sweep_all.ensures

pub returns : goal.returns
returns c = swept_held c.args.popped.now c.self.inside.shelves.items c.sweep_all.new.shelves.items c.self.inside.headers c.sweep_all.ensures ∙ ap (map (left_push c.args.popped.now)) c.self.view_is
