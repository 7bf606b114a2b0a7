use Rattle.std.proofs.Common.{◌≡◌, ◌<◌, length, false, true, Some, refl, ◌∙◌, ap, arith, rules}
use Rattle.std.proofs.lemmas.Result.{err_from_is_err_and}
use Rattle.fr_state.specs.Generations.{CoordinatedState, IsGeneration, last_of}
use Rattle.fr_state.specs.Order.{may_follow}
use Rattle.fr_state.proofs.OrderLemmas.{not_ordered, ordered, extended-Ok, extended_sound}
use Rattle.fr_state.proofs.state.CoordState.extend.Goals as goal

pub returns-then-not-may_precede-clause-not_later :
    goal.returns-then-not-may_precede-clause-not_later
returns-then-not-may_precede-clause-not_later c =
    let not_after : may_follow c.last.result c.args.generation ≡ false = cc (c.may_precede.ensures, c.if-not-may_precede.true) in
    (λ _. not_ordered c.args.self.now c.last.result c.args.generation c.last.ensures.sound c.last.ensures.value not_after, λ _. refl)

pub returns-then-not-may_precede-clause-too_many :
    goal.returns-then-not-may_precede-clause-too_many
returns-then-not-may_precede-clause-too_many c =
    let not_after : may_follow c.last.result c.args.generation ≡ false = cc (c.may_precede.ensures, c.if-not-may_precede.true) in
    (λ e. absurd cc, λ p. absurd (not_ordered c.args.self.now c.last.result c.args.generation c.last.ensures.sound c.last.ensures.value not_after p.0))

pub returns-then-len-eq-MOST_GENERATIONS-clause-not_later : goal.returns-then-len-eq-MOST_GENERATIONS-clause-not_later
returns-then-len-eq-MOST_GENERATIONS-clause-not_later c =
    let after : may_follow c.last.result c.args.generation ≡ true = cc (c.may_precede.ensures, c.if-not-may_precede.false) in
    (λ e. absurd cc, λ n. absurd (n (ordered c.args.self.now c.last.result c.args.generation c.last.ensures.sound c.last.ensures.value after)))

pub returns-then-len-eq-MOST_GENERATIONS-clause-too_many : goal.returns-then-len-eq-MOST_GENERATIONS-clause-too_many
returns-then-len-eq-MOST_GENERATIONS-clause-too_many c =
    let after : may_follow c.last.result c.args.generation ≡ true = cc (c.may_precede.ensures, c.if-not-may_precede.false) in
    let full : length c.args.self.now.gens ≡ 64 = rw (← c.self.view_is) (omega arith) in
    (λ _. (ordered c.args.self.now c.last.result c.args.generation c.last.ensures.sound c.last.ensures.value after, full), λ _. refl)

pub returns-in_err-push-clause-not_later : goal.returns-in_err-push-clause-not_later
returns-in_err-push-clause-not_later c =
    let after : may_follow c.last.result c.args.generation ≡ true = cc (c.may_precede.ensures, c.if-not-may_precede.false) in
    let p = err_from_is_err_and c.from_residual.result c.from_residual.ensures.1 in
    (λ e. absurd (cc (p.1, p.2)), λ n. absurd (n (ordered c.args.self.now c.last.result c.args.generation c.last.ensures.sound c.last.ensures.value after)))

pub invariant_of-self-2 : goal.invariant_of-self-2
invariant_of-self-2 c =
    let after : may_follow c.last.result c.args.generation ≡ true = cc (c.may_precede.ensures, c.if-not-may_precede.false) in
    let s : CoordinatedState = record { dropped = c.self.inside.dropped; gens = c.self.inside.gens.items } in
    let last : last_of s.gens ≡ Some c.last.result = ap (λ (t : CoordinatedState). last_of t.gens) c.self.view_is ∙ c.last.ensures.value in
    let room : length s.gens < 64 = omega arith in
    let limits : IsGeneration c.args.generation = search rules in
    rw c.in_ok-push.ensures.items (extended_sound s c.args.generation c.self.invariant limits (ordered s c.last.result c.args.generation c.self.invariant last after) room)

pub returns-clause-ok : goal.returns-clause-ok
returns-clause-ok c =
    let after : may_follow c.last.result c.args.generation ≡ true = cc (c.may_precede.ensures, c.if-not-may_precede.false) in
    let s : CoordinatedState = record { dropped = c.self.inside.dropped; gens = c.self.inside.gens.items } in
    let last : last_of s.gens ≡ Some c.last.result = ap (λ (t : CoordinatedState). last_of t.gens) c.self.view_is ∙ c.last.ensures.value in
    let room : length s.gens < 64 = omega arith in
    rw (← c.self.view_is, c.in_ok-push.ensures.items) (extended-Ok s c.args.generation (ordered s c.last.result c.args.generation c.self.invariant last after) room)

pub returns-clause-not_later : goal.returns-clause-not_later
returns-clause-not_later c =
    let after : may_follow c.last.result c.args.generation ≡ true = cc (c.may_precede.ensures, c.if-not-may_precede.false) in
    (λ e. absurd cc, λ n. absurd (n (ordered c.args.self.now c.last.result c.args.generation c.last.ensures.sound c.last.ensures.value after)))
