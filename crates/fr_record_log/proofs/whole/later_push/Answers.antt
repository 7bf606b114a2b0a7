use Rattle.std.proofs.Common.{None, sym, ◌∙◌, ap, subst}
use Rattle.fr_log.specs.Push.{IsPush}
use Rattle.fr_record_log.proofs.Held.{made, are_held, push_is, fits_push}
use Rattle.fr_record_log.proofs.whole.later_push.Goals as goal

pub version_of-version-requires : goal.version_of-version-requires
version_of-version-requires c = (are_held c.args.log.now c.args.index c.args.numbers c.requires.log c.requires.held c.requires.numbers).version

pub push_of-requires-clause-version : goal.push_of-requires-clause-version
push_of-requires-clause-version c = (are_held c.args.log.now c.args.index c.args.numbers c.requires.log c.requires.held c.requires.numbers).version

pub push_of-requires-clause-push : goal.push_of-requires-clause-push
push_of-requires-clause-push c =
    let n = c.args.numbers in
    let bodies = c.in_ok-bodies.bodies.items in
    subst (λ e. IsPush (made e n bodies None)) (sym c.id-epoch.ensures.epoch)
    (fits_push c.args.log.now c.args.index n c.version_of-version.result bodies c.requires.log c.requires.held c.requires.later c.requires.numbers c.version_of-version.ensures c.in_ok-bodies.ensures)

pub returns : goal.returns
returns c =
    let n = c.args.numbers in
    let bodies = c.in_ok-bodies.bodies.items in
    λ d. c.push_of.ensures ∙ ap (λ e. made e n bodies None) c.id-epoch.ensures.epoch
    ∙ push_is c.args.log.now c.args.index n c.version_of-version.result bodies c.requires.log c.requires.held c.requires.later c.requires.numbers c.version_of-version.ensures c.in_ok-bodies.ensures d
