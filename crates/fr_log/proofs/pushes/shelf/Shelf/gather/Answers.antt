use Rattle.std.proofs.Common.{◌≡◌, ◌∙◌, ◌++◌, ap, sym, nat_lt, length, map, rules}
use Rattle.std.specs.Prelude.{filter}
use Rattle.fr_log.specs.Pushes.{as_record}
use Rattle.fr_log.proofs.Shelves.{gathered_full, above_is}
use Rattle.fr_log.proofs.pushes.shelf.Shelf.gather.Goals as goal

pub returns-then-len-most-clause-given : goal.returns-then-len-most-clause-given
returns-then-len-most-clause-given c =
    let above = c.into_iter-version-iterator.ensures.into_iter_gives ∙ c.range-version-items.ensures.between tt ∙ above_is c.args.after _ ∙ ap (filter (λ e. nat_lt c.args.after e.0)) c.self.view_is in
    let full : length c.loop-version.given.items ≡ c.args.most = search rules in
    (gathered_full c.loop-version.given.items (map as_record c.next.new.self) _ (as_record (c.in-Some.version.now, c.in-Some.batch.now)) c.args.most
    (ap (λ es. c.loop-version.given.items ++ map as_record es) (sym c.in-Some.ensures.steps) ∙ c.loop-version.invariant.rows ∙ ap (λ es. c.args.given.now.items ++ map as_record es) above) full).0

pub returns-then-len-most-clause-more : goal.returns-then-len-most-clause-more
returns-then-len-most-clause-more c =
    let above = c.into_iter-version-iterator.ensures.into_iter_gives ∙ c.range-version-items.ensures.between tt ∙ above_is c.args.after _ ∙ ap (filter (λ e. nat_lt c.args.after e.0)) c.self.view_is in
    let full : length c.loop-version.given.items ≡ c.args.most = search rules in
    (gathered_full c.loop-version.given.items (map as_record c.next.new.self) _ (as_record (c.in-Some.version.now, c.in-Some.batch.now)) c.args.most
    (ap (λ es. c.loop-version.given.items ++ map as_record es) (sym c.in-Some.ensures.steps) ∙ c.loop-version.invariant.rows ∙ ap (λ es. c.args.given.now.items ++ map as_record es) above) full).1
