use Rattle.std.proofs.Common.{◌≡◌, ◌∙◌, ap, map, subst}
use Rattle.std.specs.Prelude.{IfOk}
use Rattle.fr_log.specs.Pushes.{pushed_numbers}
use Rattle.fr_log.proofs.Numbers.{held_numbers}
use Rattle.fr_log.proofs.pushes.Pushes.numbers.Goals as goal

pub returns : goal.returns
returns c =
    subst (λ ns. IfOk c.numbers.result (λ list. list.items ≡ ns)) (held_numbers c.self.inside.shelves.items c.self.inside.headers ∙ ap (map pushed_numbers) c.self.view_is) c.numbers.ensures
