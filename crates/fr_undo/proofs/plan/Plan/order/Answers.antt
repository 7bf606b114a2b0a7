use Rattle.std.proofs.Common.{◌≡◌, ◌-◌, true, Some, length, sym, ap, ◌∙◌}
use Rattle.std.specs.Prelude.{slice_get}
use Rattle.fr_undo.proofs.ListRows.{none_left}
use Rattle.fr_undo.proofs.PlanLemmas.{behind_last, last_planned}
use Rattle.fr_undo.proofs.plan.Plan.order.Goals as goal

pub returns-in-Some-clause-next : goal.returns-in-Some-clause-next
returns-in-Some-clause-next c = λ e.
    let plan = c.args.self.now in
    let full : c.is_empty.result ≡ true = cc c.if-not-is_empty.false in
    let get : slice_get plan.rising.items (length plan.rising.items - 1) ≡ Some c.in-Some.last.now = sym (c.in-Some.ensures.value ∙ ap (λ l. slice_get l (length l - 1)) c.deref.ensures.value) in
    (none_left plan.tree.entries (c.is_empty.ensures.0 full), behind_last plan.rising.items c.in-Some.last.now c.args.key.now c.requires.order get (sym c.cmp.ensures ∙ e))

pub returns-in-Some-clause-last : goal.returns-in-Some-clause-last
returns-in-Some-clause-last c = λ e.
    let plan = c.args.self.now in
    let get : slice_get plan.rising.items (length plan.rising.items - 1) ≡ Some c.in-Some.last.now = sym (c.in-Some.ensures.value ∙ ap (λ l. slice_get l (length l - 1)) c.deref.ensures.value) in
    last_planned plan c.in-Some.last.now c.args.key.now get (sym c.cmp.ensures ∙ e)
