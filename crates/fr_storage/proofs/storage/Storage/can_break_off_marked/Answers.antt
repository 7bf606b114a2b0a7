use Rattle.std.proofs.Common.{◌≡◌, false, sym, ap, ◌∙◌}
use Rattle.std.specs.Prelude.{is_some}
use Rattle.std.proofs.lemmas.Bool.{eqb-true}
use Rattle.fr_storage.specs.Storage.{broken_at, marked_fault, marked_calls}
use Rattle.fr_storage.specs.Server.{Server, storage_of}
use Rattle.fr_storage.proofs.BreakOff.{unhindered}
use Rattle.fr_storage.proofs.Broken.{breaks_first}
use Rattle.fr_storage.proofs.storage.Storage.can_break_off_marked.Goals as goal

pub returns-then-eq : goal.returns-then-eq
returns-then-eq g c =
    let n = c.args.self.now in
    let old = storage_of g.S.ShardStore.state n in
    let x = c.args.state.now in
    let at : c.args.version ≡ c.self.inside.applied = eqb-true c.args.version c.self.inside.applied (sym c.eq-2.ensures ∙ c.if-eq.true) in
    let here : old.store.applied ≡ c.args.version = ap (λ (v : Server g.row.S.Denot). (g.S.ShardStore.state v.store).applied) (sym c.self.view_is) ∙ (c.self.invariant.applied c.if-self.false ∙ sym at) in
    let found = breaks_first old.store (marked_calls old x) c.args.version here in
    let works : n.failed ≡ false = sym (ap (λ (v : Server g.row.S.Denot). v.failed) c.self.view_is) ∙ c.if-self.false in
    let takes : is_some (marked_fault old x) ≡ false = sym (ap is_some c.marked_refusal.ensures) ∙ (sym c.is_some.ensures ∙ c.if-is_some.false) in
    (c.if-eq.true ∙ sym found) ∙ unhindered n.failed (is_some (marked_fault old x)) (is_some (broken_at old.store (marked_calls old x) c.args.version)) works takes
