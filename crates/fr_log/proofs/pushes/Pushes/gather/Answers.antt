use Rattle.std.proofs.Common.{◌≡◌, ◌++◌, [], length, take, map, get_or, nat_lt, refl, sym, ◌∙◌, ap, subst, arith}
use Rattle.std.specs.Prelude.{filter, IfOk}
use Rattle.std.proofs.lemmas.List.{get_or_default}
use Rattle.fr_log.specs.Search.{pushed_records}
use Rattle.fr_log.specs.Pushes.{as_record, shelf_of}
use Rattle.fr_log.proofs.Shelves.{past_all, gathered_all}
use Rattle.fr_log.proofs.Held.{records_above}
use Rattle.fr_log.proofs.pushes.Pushes.gather.Goals as goal

pub returns-in-Some-clause-given : goal.returns-in-Some-clause-given
returns-in-Some-clause-given c =
    let ss = c.self.inside.shelves.items in
    let number = c.from.ensures ∙ c.get.ensures.value in
    let is = c.in-Some.ensures.lookup in
    let within = is.3.0 in
    let shelf = is.1 ∙ ap (λ xs. get_or xs c.from.result c.in-Some.shelf.now) c.deref.ensures.value
    ∙ get_or_default ss c.from.result c.in-Some.shelf.now [] (omega (arith, within, ap length c.deref.ensures.value)) ∙ ap (shelf_of ss) number
    in
    let records = ap (λ es. map as_record (filter (λ e. nat_lt c.args.after e.0) es)) shelf ∙ records_above c.args.tag c.args.after ss c.self.inside.headers c.self.invariant
    ∙ ap (λ ps. pushed_records c.args.tag (filter (λ p. nat_lt c.args.after p.version) ps)) c.self.view_is
    in
    subst (λ rs. IfOk c.gather.result (λ x. c.gather.new.given.items ≡ take c.args.most (c.args.given.now.items ++ rs))) records c.gather.ensures.given

pub returns-in-Some-clause-more : goal.returns-in-Some-clause-more
returns-in-Some-clause-more c =
    let ss = c.self.inside.shelves.items in
    let number = c.from.ensures ∙ c.get.ensures.value in
    let is = c.in-Some.ensures.lookup in
    let within = is.3.0 in
    let shelf = is.1 ∙ ap (λ xs. get_or xs c.from.result c.in-Some.shelf.now) c.deref.ensures.value
    ∙ get_or_default ss c.from.result c.in-Some.shelf.now [] (omega (arith, within, ap length c.deref.ensures.value)) ∙ ap (shelf_of ss) number
    in
    let records = ap (λ es. map as_record (filter (λ e. nat_lt c.args.after e.0) es)) shelf ∙ records_above c.args.tag c.args.after ss c.self.inside.headers c.self.invariant
    ∙ ap (λ ps. pushed_records c.args.tag (filter (λ p. nat_lt c.args.after p.version) ps)) c.self.view_is
    in
    subst (λ rs. IfOk c.gather.result (λ x. x ≡ nat_lt c.args.most (length (c.args.given.now.items ++ rs)))) records c.gather.ensures.more

pub returns-in-None-clause-given : goal.returns-in-None-clause-given
returns-in-None-clause-given c =
    let ss = c.self.inside.shelves.items in
    let number = c.from.ensures ∙ c.get.ensures.value in
    let past = c.in-None.ensures.lookup.3 in
    let shelf = ap (shelf_of ss) (sym number) ∙ past_all ss c.from.result (omega (arith, past, ap length c.deref.ensures.value)) in
    let records = ap (λ es. map as_record (filter (λ e. nat_lt c.args.after e.0) es)) (sym shelf) ∙ records_above c.args.tag c.args.after ss c.self.inside.headers c.self.invariant
    ∙ ap (λ ps. pushed_records c.args.tag (filter (λ p. nat_lt c.args.after p.version) ps)) c.self.view_is
    in
    (gathered_all c.args.given.now.items _ _ c.args.most refl (sym records) c.requires).0

pub returns-in-None-clause-more : goal.returns-in-None-clause-more
returns-in-None-clause-more c =
    let ss = c.self.inside.shelves.items in
    let number = c.from.ensures ∙ c.get.ensures.value in
    let past = c.in-None.ensures.lookup.3 in
    let shelf = ap (shelf_of ss) (sym number) ∙ past_all ss c.from.result (omega (arith, past, ap length c.deref.ensures.value)) in
    let records = ap (λ es. map as_record (filter (λ e. nat_lt c.args.after e.0) es)) (sym shelf) ∙ records_above c.args.tag c.args.after ss c.self.inside.headers c.self.invariant
    ∙ ap (λ ps. pushed_records c.args.tag (filter (λ p. nat_lt c.args.after p.version) ps)) c.self.view_is
    in
    (gathered_all c.args.given.now.items _ _ c.args.most refl (sym records) c.requires).1
