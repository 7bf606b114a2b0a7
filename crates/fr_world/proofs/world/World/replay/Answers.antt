use Rattle.std.proofs.Common.{inr, refl, subst}
use Rattle.fr_world.specs.World.{next_turn}
use Rattle.fr_world.proofs.Replayed.{IsReplayed, goes_on, can_happen}
use Rattle.fr_world.proofs.world.World.replay.Goals as goal

pub loop-number-preserved : goal.loop-number-preserved
loop-number-preserved c =
    let old = c.loop-number.world in
    let it = c.loop-number.number-iterator in
    let steps = c.in-Some.ensures.steps in
    goes_on c.args.config c.args.events.items c.next.new.self.iter.rest.items it.count c.in-Some.event old c.in-Ok-step_owned.next _
    (next_turn old c.in-Some.event) refl c.in-Ok-step_owned.ensures.turn (subst (IsReplayed c.args.config c.args.events.items old it.count) steps.0.0 c.loop-number.invariant) c.next.new.self.count steps.2

pub loop-number-preserved-in-Ok-step_owned : goal.loop-number-preserved-in-Ok-step_owned
loop-number-preserved-in-Ok-step_owned c =
    let steps = c.in-Some.ensures.steps in
    goes_on c.args.config c.args.events.items c.next.new.self.iter.rest.items c.loop-number.number-iterator.count c.in-Some.event c.loop-number.world c.in-Ok-step_owned.next _ (next_turn c.loop-number.world c.in-Some.event) refl
    c.in-Ok-step_owned.ensures.turn (subst (IsReplayed c.args.config c.args.events.items c.loop-number.world c.loop-number.number-iterator.count) steps.0.0 c.loop-number.invariant) c.next.new.self.count steps.2

pub loop-number-preserved-in-Ok-step_owned-2 : goal.loop-number-preserved-in-Ok-step_owned-2
loop-number-preserved-in-Ok-step_owned-2 c =
    let steps = c.in-Some.ensures.steps in
    goes_on c.args.config c.args.events.items c.next.new.self.iter.rest.items c.loop-number.number-iterator.count c.in-Some.event c.loop-number.world c.in-Ok-step_owned.next _ (next_turn c.loop-number.world c.in-Some.event) refl
    c.in-Ok-step_owned.ensures.turn (subst (IsReplayed c.args.config c.args.events.items c.loop-number.world c.loop-number.number-iterator.count) steps.0.0 c.loop-number.invariant) c.next.new.self.count steps.2

pub loop-number-preserved-in-Ok-step_owned-3 : goal.loop-number-preserved-in-Ok-step_owned-3
loop-number-preserved-in-Ok-step_owned-3 c =
    let steps = c.in-Some.ensures.steps in
    goes_on c.args.config c.args.events.items c.next.new.self.iter.rest.items c.loop-number.number-iterator.count c.in-Some.event c.loop-number.world c.in-Ok-step_owned.next _ (next_turn c.loop-number.world c.in-Some.event) refl
    c.in-Ok-step_owned.ensures.turn (subst (IsReplayed c.args.config c.args.events.items c.loop-number.world c.loop-number.number-iterator.count) steps.0.0 c.loop-number.invariant) c.next.new.self.count steps.2

pub loop-number-preserved-in-Ok-step_owned-4 : goal.loop-number-preserved-in-Ok-step_owned-4
loop-number-preserved-in-Ok-step_owned-4 c =
    let steps = c.in-Some.ensures.steps in
    goes_on c.args.config c.args.events.items c.next.new.self.iter.rest.items c.loop-number.number-iterator.count c.in-Some.event c.loop-number.world c.in-Ok-step_owned.next _ (next_turn c.loop-number.world c.in-Some.event) refl
    c.in-Ok-step_owned.ensures.turn (subst (IsReplayed c.args.config c.args.events.items c.loop-number.world c.loop-number.number-iterator.count) steps.0.0 c.loop-number.invariant) c.next.new.self.count steps.2

pub loop-number-preserved-in-Ok-step_owned-5 : goal.loop-number-preserved-in-Ok-step_owned-5
loop-number-preserved-in-Ok-step_owned-5 c =
    let steps = c.in-Some.ensures.steps in
    goes_on c.args.config c.args.events.items c.next.new.self.iter.rest.items c.loop-number.number-iterator.count c.in-Some.event c.loop-number.world c.in-Ok-step_owned.next _ (next_turn c.loop-number.world c.in-Some.event) refl
    c.in-Ok-step_owned.ensures.turn (subst (IsReplayed c.args.config c.args.events.items c.loop-number.world c.loop-number.number-iterator.count) steps.0.0 c.loop-number.invariant) c.next.new.self.count steps.2

pub loop-number-preserved-in-Ok-step_owned-6 : goal.loop-number-preserved-in-Ok-step_owned-6
loop-number-preserved-in-Ok-step_owned-6 c =
    let steps = c.in-Some.ensures.steps in
    goes_on c.args.config c.args.events.items c.next.new.self.iter.rest.items c.loop-number.number-iterator.count c.in-Some.event c.loop-number.world c.in-Ok-step_owned.next _ (next_turn c.loop-number.world c.in-Some.event) refl
    c.in-Ok-step_owned.ensures.turn (subst (IsReplayed c.args.config c.args.events.items c.loop-number.world c.loop-number.number-iterator.count) steps.0.0 c.loop-number.invariant) c.next.new.self.count steps.2

pub loop-number-preserved-in-Ok-step_owned-7 : goal.loop-number-preserved-in-Ok-step_owned-7
loop-number-preserved-in-Ok-step_owned-7 c =
    let steps = c.in-Some.ensures.steps in
    goes_on c.args.config c.args.events.items c.next.new.self.iter.rest.items c.loop-number.number-iterator.count c.in-Some.event c.loop-number.world c.in-Ok-step_owned.next _ (next_turn c.loop-number.world c.in-Some.event) refl
    c.in-Ok-step_owned.ensures.turn (subst (IsReplayed c.args.config c.args.events.items c.loop-number.world c.loop-number.number-iterator.count) steps.0.0 c.loop-number.invariant) c.next.new.self.count steps.2

pub returns-in-Err-clause-memory : goal.returns-in-Err-clause-memory
returns-in-Err-clause-memory c memory =
    let old = c.loop-number.world in
    let it = c.loop-number.number-iterator in
    let steps = c.in-Some.ensures.steps in
    inr (can_happen c.args.config c.args.events.items c.next.new.self.iter.rest.items it.count c.in-Some.event old (subst (IsReplayed c.args.config c.args.events.items old it.count) steps.0.0 c.loop-number.invariant)
    (c.in-Err.ensures.refused.1 memory) c.in-Some.number steps.1)
