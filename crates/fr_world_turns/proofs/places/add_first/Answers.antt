use Rattle.std.proofs.Common.{[], ◌∷◌, refl}
use Rattle.fr_world_turns.specs.declared.places.Found.TheVariants.{One}
use Rattle.fr_world_turns.proofs.Grown.{grown, none_under, there}
use Rattle.fr_world_turns.proofs.places.add_first.Goals as goal

pub returns-clause-grows : goal.returns-clause-grows
returns-clause-grows c =
    grown c.args.places.now c.insert.new.self c.args.key.now (One c.args.place) c.in_ok-insert.ensures.updates.0 (none_under c.args.places.now c.args.key.now (c.args.place ∷ []) c.requires)

pub returns-clause-there : goal.returns-clause-there
returns-clause-there c =
    there c.args.places.now c.insert.new.self c.args.key.now (One c.args.place) c.args.place c.in_ok-insert.ensures.updates.0 (λ f e. rw e refl)
