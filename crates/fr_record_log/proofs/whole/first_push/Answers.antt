use Rattle.std.proofs.Common.{ap}
use Rattle.fr_record_log.proofs.Held.{made_mark, mark_is, fits_mark, unmarked_never}
use Rattle.fr_record_log.proofs.Putting.{ok_made}
use Rattle.fr_record_log.proofs.whole.first_push.Goals as goal

pub unreachable-requires : goal.unreachable-requires
unreachable-requires c = unmarked_never c.args.log.now c.requires.log c.requires.held c.in-None.ensures

pub mark_of-requires-clause-known : goal.mark_of-requires-clause-known
mark_of-requires-clause-known c = (fits_mark c.args.log.now c.args.numbers c.requires.log c.requires.held c.requires.numbers).known

pub mark_of-requires-clause-high : goal.mark_of-requires-clause-high
mark_of-requires-clause-high c = (fits_mark c.args.log.now c.args.numbers c.requires.log c.requires.held c.requires.numbers).high

pub returns : goal.returns
returns c =
    let l = c.args.log.now in
    let n = c.args.numbers in
    let state = c.in-Some.state.now in
    ok_made l.pushes 0 c.mark_of.result (made_mark c.id-epoch.result.epoch n state) (made_mark l.epoch n state) c.mark_of.ensures (ap (λ e. made_mark e n state) c.id-epoch.ensures.epoch)
    (mark_is l n state c.requires.log c.requires.held c.requires.numbers c.in-Some.ensures)
