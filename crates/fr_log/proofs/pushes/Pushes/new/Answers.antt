use Rattle.std.proofs.Common.{[], ap, ◌∙◌, sym, subst}
use Rattle.fr_log.specs.Pushes.{IsIndexed, pushes_in}
use Rattle.fr_log.proofs.Held.{none_indexed, held_none}
use Rattle.fr_log.proofs.pushes.Pushes.new.Goals as goal

pub invariant_of-result : goal.invariant_of-result
invariant_of-result c = subst (λ ss. IsIndexed ss c.new.result) (sym c.new-2.ensures.items) (subst (IsIndexed []) (sym c.new.ensures) none_indexed)

pub returns : goal.returns
returns c = ap (pushes_in c.new-2.result.items) c.new.ensures ∙ held_none c.new-2.result.items
