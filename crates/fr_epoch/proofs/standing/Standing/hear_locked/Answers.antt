use Rattle.std.proofs.Common.{◌≡◌, true, length, sym, ap, ◌∙◌}
use Rattle.fr_epoch.specs.Standing.{state_of}
use Rattle.fr_epoch.specs.EndTally.{is_covered}
use Rattle.fr_epoch.specs.Drafting.{with_draft, plan_result, draft_asks, draft_in, shown_in}
use Rattle.fr_epoch.proofs.Planned.{heard_with, covered_is, planned_asks}
use Rattle.fr_epoch.specs.Standing.{phase_of}
use Rattle.fr_epoch.proofs.standing.Standing.hear_locked.Goals as goal

pub returns-clause-asks : goal.returns-clause-asks
returns-clause-asks c =
    let s = c.args.self.now in
    let r = state_of s in
    let law = planned_asks r c.args.epoch c.args.index c.args.durable c.args.known c.args.popped c.in-Some.end (ap phase_of c.requires.locking) (sym c.replied.ensures ∙ c.in-Some.is) (let a = c.is_covered.ensures in let b = c.if-not-is_covered.false in cc (a, b)) in
    let same = ap (draft_asks s.epoch c.args.epoch c.tags-tags.result c.as_slice.result.now) c.in_ok-drafted.ensures.plan in
    c.in_ok-asks.ensures ∙ same ∙ cc (c.tags-tags.ensures.value, c.as_slice.ensures.value, c.in_ok-shown.ensures, law)

pub returns-clause-state : goal.returns-clause-state
returns-clause-state c =
    let r = state_of c.args.self.now in
    let end = c.in-Some.end in
    let covered : is_covered end ≡ true = (let a = c.is_covered.ensures in let b = c.if-not-is_covered.false in cc (a, b)) in
    let shown : c.in_ok-shown.shown.items ≡ shown_in r c.args.index c.args.popped = c.in_ok-shown.ensures in
    let drafted : plan_result c.in_ok-drafted.drafted ≡ draft_in r.ballot r.shape (length r.begins) r.parent end (shown_in r c.args.index c.args.popped) =
    c.in_ok-drafted.ensures.plan ∙ ap (draft_in r.ballot r.shape (length r.begins) r.parent end) (c.deref.ensures.value ∙ shown) in
    c.plan_on.ensures
    ∙ ap (λ xs. with_draft (heard_with r end xs) (plan_result c.in_ok-drafted.drafted)) shown
    ∙ ap (with_draft (heard_with r end (shown_in r c.args.index c.args.popped))) drafted
    ∙ sym (covered_is r c.args.epoch c.args.index c.args.durable c.args.known c.args.popped end (ap phase_of c.requires.locking) (sym c.replied.ensures ∙ c.in-Some.is) covered)
