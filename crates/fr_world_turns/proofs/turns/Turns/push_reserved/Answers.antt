use Rattle.std.proofs.Common.{sym, subst}
use Rattle.fr_world_turns.specs.Finding.{AreFound, AreGoneFound}
use Rattle.fr_world_turns.proofs.Founds.{are_pushed, gone_are_pushed}
use Rattle.fr_world_turns.proofs.turns.Turns.push_reserved.Goals as goal

pub invariant_of-self : goal.invariant_of-self
invariant_of-self c =
    let h = c.self.inside in (
      subst (λ turns. AreFound turns h.indexed h.places) (sym c.push_reserved.ensures.items) (are_pushed h.turns.items c.args.turn h.indexed h.places c.self.invariant.0),
      subst (λ turns. AreGoneFound turns h.departed h.places) (sym c.push_reserved.ensures.items) (gone_are_pushed h.turns.items c.args.turn h.departed h.places c.self.invariant.1),
    )
