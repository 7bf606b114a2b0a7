use Rattle.std.proofs.Common.{rules, ap, ◌∙◌, sym, subst}
use Rattle.std.proofs.lemmas.Fn.{filter_same}
use Rattle.fr_log.specs.Seed.{SeedContent, IsSeed}
use Rattle.fr_log.specs.Left.{is_left, left_seed}
use Rattle.fr_log.proofs.Letting.{left_is_seed}
use Rattle.fr_log.proofs.seed.Seed.sweep.Goals as goal

pub invariant_of-self : goal.invariant_of-self
invariant_of-self c =
    let s : SeedContent = record { epoch = c.self.inside.epoch; first = c.self.inside.first; seeded_to = c.self.inside.seeded_to; records = c.self.inside.records.items } in
    let kept = filter_same _ (is_left c.args.popped.now) _ (λ x b f q. search rules) _ _ c.retain.ensures.filtered in
    subst (λ rs. IsSeed (record s { records = rs })) (sym kept) (left_is_seed c.args.popped.now s c.self.invariant)

pub returns-clause-after : goal.returns-clause-after
returns-clause-after c =
    let s : SeedContent = record { epoch = c.self.inside.epoch; first = c.self.inside.first; seeded_to = c.self.inside.seeded_to; records = c.self.inside.records.items } in
    let kept = filter_same _ (is_left c.args.popped.now) _ (λ x b f q. search rules) _ _ c.retain.ensures.filtered in
    ap (λ rs. record s { records = rs }) kept ∙ ap (left_seed c.args.popped.now) c.self.view_is

pub returns-clause-sound : goal.returns-clause-sound
returns-clause-sound c =
    let s : SeedContent = record { epoch = c.self.inside.epoch; first = c.self.inside.first; seeded_to = c.self.inside.seeded_to; records = c.self.inside.records.items } in
    let kept = filter_same _ (is_left c.args.popped.now) _ (λ x b f q. search rules) _ _ c.retain.ensures.filtered in
    subst (λ rs. IsSeed (record s { records = rs })) (sym kept) (left_is_seed c.args.popped.now s c.self.invariant)
