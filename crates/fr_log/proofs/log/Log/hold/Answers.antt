use Rattle.std.proofs.Common.{ap, sym, subst, ◌∙◌}
use Rattle.fr_log.specs.Refusal.{push_refusal}
use Rattle.fr_log.specs.LogState.{is_push_held}
use Rattle.fr_log.specs.Pushes.{ArePushedBelow}
use Rattle.fr_log.proofs.Pushing.{with_push_is_kept, held_below}
use Rattle.fr_log.proofs.log.Log.hold.Goals as goal

pub hold-requires : goal.hold-requires
hold-requires c =
    subst (ArePushedBelow c.args.push.version) (sym (ap (λ l. l.pushes) c.self.view_is)) (held_below c.args.self.now c.args.push c.requires.taken c.version-version.ensures.sound c.requires.other)

pub invariant_of-self-2 : goal.invariant_of-self-2
invariant_of-self-2 c =
    let taken = ap (λ l. push_refusal l c.args.push) c.self.view_is ∙ c.requires.taken in
    let other = ap (λ l. is_push_held l c.args.push) c.self.view_is ∙ c.requires.other in
    let kept = with_push_is_kept _ c.args.push c.self.inside.durable c.self.inside.known c.self.invariant taken other c.version-version.ensures.sound in
    rw (c.in_ok-hold.ensures.after, c.version-version.ensures.value, c.later-known.ensures, c.known.ensures.value) kept
