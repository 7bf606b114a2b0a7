use Rattle.std.proofs.Common.{◌∙◌, ap}
use Rattle.std.specs.Ordering.{nat_cmp}
use Rattle.std.specs.BTreeMap.{insert_entry}
use Rattle.fr_log.proofs.Shelves.{put_last}
use Rattle.fr_log.proofs.pushes.shelf.Shelf.put.Goals as goal

pub returns-clause-after : goal.returns-clause-after
returns-clause-after c =
    c.in_ok-insert.ensures.entries ∙ ap (λ es. insert_entry nat_cmp es c.args.version c.args.batch) c.self.view_is ∙ put_last c.args.version c.args.batch c.args.self.now c.requires
