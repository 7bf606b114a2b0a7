use Rattle.std.proofs.Common.{◌<◌, ap, ◌∙◌, sym, subst}
use Rattle.fr_epoch.specs.EndTally.{EndState, has_replied}
use Rattle.fr_epoch.proofs.Ends.{placed, placed_is}
use Rattle.fr_epoch.proofs.end_tally.EndTally.add.Goals as goal

pub listed : goal.listed
listed c =
    let below : c.args.reply.log < c.self.inside.m = subst (λ (s : EndState). c.args.reply.log < s.m) (sym c.self.view_is) c.requires.below in
    let first = ap (λ (s : EndState). has_replied s c.args.reply.log) c.self.view_is ∙ c.requires.first in
    (placed c.self.inside.m c.self.inside.k c.self.inside.count c.self.inside.places c.args.reply c.self.invariant below first).inside

pub bounds-self-inside-self-inside : goal.bounds-self-inside-self-inside
bounds-self-inside-self-inside c =
    let below : c.args.reply.log < c.self.inside.m = subst (λ (s : EndState). c.args.reply.log < s.m) (sym c.self.view_is) c.requires.below in
    let first = ap (λ (s : EndState). has_replied s c.args.reply.log) c.self.view_is ∙ c.requires.first in
    (placed c.self.inside.m c.self.inside.k c.self.inside.count c.self.inside.places c.args.reply c.self.invariant below first).room

pub invariant_of-self : goal.invariant_of-self
invariant_of-self c =
    let below : c.args.reply.log < c.self.inside.m = subst (λ (s : EndState). c.args.reply.log < s.m) (sym c.self.view_is) c.requires.below in
    let first = ap (λ (s : EndState). has_replied s c.args.reply.log) c.self.view_is ∙ c.requires.first in
    let k = placed c.self.inside.m c.self.inside.k c.self.inside.count c.self.inside.places c.args.reply c.self.invariant below first in
    k.kept

pub returns : goal.returns
returns c =
    let below : c.args.reply.log < c.self.inside.m = subst (λ (s : EndState). c.args.reply.log < s.m) (sym c.self.view_is) c.requires.below in
    let first = ap (λ (s : EndState). has_replied s c.args.reply.log) c.self.view_is ∙ c.requires.first in
    let k = placed c.self.inside.m c.self.inside.k c.self.inside.count c.self.inside.places c.args.reply c.self.invariant below first in
    placed_is c.self.inside.m c.self.inside.k c.self.inside.count c.self.inside.places c.args.reply c.args.self.now c.self.view_is k.more c.requires.below c.requires.first
