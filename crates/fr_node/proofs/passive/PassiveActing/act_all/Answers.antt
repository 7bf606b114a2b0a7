-- A group that was served, and entered, is where the journal leads, and each of its turns was taken as if it had come alone.
use Rattle.std.proofs.Common.{◌≡◌, Some, ap, sym, subst, refl, length, ◌∙◌}
use Rattle.fr_audit_journal.specs.Housing.{last_number}
use Rattle.fr_audit_journal.specs.Replays.{ends_by_crash, state_after, steps}
use Rattle.fr_node.specs.Groups.{AreRising, AreTaken, after_all, drafts_of, owned_all, told_all}
use Rattle.fr_node.proofs.Grouped.{drafts-rise, found-some, if-some, owned-length, served-group, taken-group, told-length}
use Rattle.fr_node.proofs.passive.PassiveActing.act_all.Goals as goal

pub enter_all-requires-clause-many : goal.enter_all-requires-clause-many
enter_all-requires-clause-many g c =
    let M = g.N.Plain.Machine in
    let owned = g.G.Grouping.owned in
    let s = g.N.Node.state c.self.inside.node in
    let ds = c.in-Some.drafts.items in
    let asks = c.in-Some-2.asks.items in
    let owns : owned_all owned ds ≡ Some asks = ap (owned_all owned) (sym c.as_slice.ensures.value) ∙ found-some (λ v. v.items) _ c.in-Some-2.asks _ c.in_ok-asks.ensures c.in-Some-2.is in
    let told : c.in-Some-3.tells.items ≡ told_all M.after M.told s asks = if-some _ _ c.in-Some-3.tells c.in_ok-tells.ensures.told c.in-Some-3.is in
    ap length told ∙ (told-length M.after M.told s asks ∙ owned-length owned ds asks owns)

pub enter_all-requires-clause-rise : goal.enter_all-requires-clause-rise
enter_all-requires-clause-rise g c =
    let ds = c.in-Some.drafts.items in
    let es = c.self.inside.course.entries in
    let drafted : drafts_of (last_number es) c.args.turns.now ≡ Some ds = found-some (λ v. v.items) _ c.in-Some.drafts _ c.in_ok-drafts.ensures c.in-Some.is in
    subst (λ x. AreRising (last_number x) ds) (sym c.reserve_all.ensures.entries) (drafts-rise (last_number es) c.args.turns.now ds drafted)

pub invariant_of-self-in_err-with_lasts : goal.invariant_of-self-in_err-with_lasts
invariant_of-self-in_err-with_lasts g c =
    let N = g.N.Plain.Named in
    let M = g.N.Plain.Machine in
    let owned = g.G.Grouping.owned in
    let s = g.N.Node.state c.self.inside.node in
    let asks = c.in-Some-2.asks.items in
    let owns : owned_all owned c.in-Some.drafts.items ≡ Some asks = ap (owned_all owned) (sym c.as_slice.ensures.value) ∙ found-some (λ v. v.items) _ c.in-Some-2.asks _ c.in_ok-asks.ensures c.in-Some-2.is in
    let told : c.in-Some-3.tells.items ≡ told_all M.after M.told s asks = if-some _ _ c.in-Some-3.tells c.in_ok-tells.ensures.told c.in-Some-3.is in
    let after : g.N.Node.state c.serve_all.new.node ≡ after_all M.after s asks = if-some _ _ c.in-Some-3.tells c.in_ok-tells.ensures.after c.in-Some-3.is in
    let node = c.enter_all.ensures.node ∙ c.reserve_all.ensures.node in (
      served-group N.wrapped N.unwrapped N.wrapped_tell M.told M.after owned g.met.G.Grouping.is_own _ _ _ _ _ _ _ _ _ _ c.self.invariant.0
          node owns told (c.enter_all.ensures.entries ∙ rw c.reserve_all.ensures.entries refl) after,
      λ files. ap ends_by_crash node ∙ c.self.invariant.1 files,
    )

pub invariant_of-self-2 : goal.invariant_of-self-2
invariant_of-self-2 g c =
    let N = g.N.Plain.Named in
    let M = g.N.Plain.Machine in
    let owned = g.G.Grouping.owned in
    let s = g.N.Node.state c.self.inside.node in
    let asks = c.in-Some-2.asks.items in
    let owns : owned_all owned c.in-Some.drafts.items ≡ Some asks = ap (owned_all owned) (sym c.as_slice.ensures.value) ∙ found-some (λ v. v.items) _ c.in-Some-2.asks _ c.in_ok-asks.ensures c.in-Some-2.is in
    let told : c.in-Some-3.tells.items ≡ told_all M.after M.told s asks = if-some _ _ c.in-Some-3.tells c.in_ok-tells.ensures.told c.in-Some-3.is in
    let after : g.N.Node.state c.serve_all.new.node ≡ after_all M.after s asks = if-some _ _ c.in-Some-3.tells c.in_ok-tells.ensures.after c.in-Some-3.is in
    let node = c.enter_all.ensures.node ∙ c.reserve_all.ensures.node in (
      served-group N.wrapped N.unwrapped N.wrapped_tell M.told M.after owned g.met.G.Grouping.is_own _ _ _ _ _ _ _ _ _ _ c.self.invariant.0
          node owns told (c.enter_all.ensures.entries ∙ rw c.reserve_all.ensures.entries refl) after,
      λ files. ap ends_by_crash node ∙ c.self.invariant.1 files,
    )

pub returns-clause-taken : goal.returns-clause-taken
returns-clause-taken g c =
    let N = g.N.Plain.Named in
    let M = g.N.Plain.Machine in
    let m = steps N.wrapped N.unwrapped N.wrapped_tell M.told M.after in
    let owned = g.G.Grouping.owned in
    let s = g.N.Node.state c.self.inside.node in
    let ds = c.in-Some.drafts.items in
    let es = c.self.inside.course.entries in
    let asks = c.in-Some-2.asks.items in
    let all = c.in_ok-with_lasts.field-0.items in
    let drafted : drafts_of (last_number es) c.args.turns.now ≡ Some ds = found-some (λ v. v.items) _ c.in-Some.drafts _ c.in_ok-drafts.ensures c.in-Some.is in
    let owns : owned_all owned ds ≡ Some asks = ap (owned_all owned) (sym c.as_slice.ensures.value) ∙ found-some (λ v. v.items) _ c.in-Some-2.asks _ c.in_ok-asks.ensures c.in-Some-2.is in
    let told : c.in-Some-3.tells.items ≡ told_all M.after M.told s asks = if-some _ _ c.in-Some-3.tells c.in_ok-tells.ensures.told c.in-Some-3.is in
    let first : c.in_ok-first.first ≡ N.last_of s = c.in_ok-first.ensures ∙ ap N.last_of c.plain.ensures in
    subst (λ p. AreTaken (λ entries. N.last_of (state_after m p.first entries)) p.entries c.enter_all.new.course.entries c.args.turns.now all) c.self.view_is
    (taken-group N.wrapped N.unwrapped N.wrapped_tell M.told M.after owned g.met.G.Grouping.is_own N.last_of _ _ _ _ _ _ _ _ _ _ all c.self.invariant.0
    drafted owns told c.enter_all.ensures.made (c.enter_all.ensures.entries ∙ rw c.reserve_all.ensures.entries refl) (λ grouped. c.in_ok-with_lasts.ensures s first grouped))

pub returns-clause-stands : goal.returns-clause-stands
returns-clause-stands g c =
    let N = g.N.Plain.Named in
    let M = g.N.Plain.Machine in
    let m = steps N.wrapped N.unwrapped N.wrapped_tell M.told M.after in
    let owned = g.G.Grouping.owned in
    let s = g.N.Node.state c.self.inside.node in
    let asks = c.in-Some-2.asks.items in
    let owns : owned_all owned c.in-Some.drafts.items ≡ Some asks = ap (owned_all owned) (sym c.as_slice.ensures.value) ∙ found-some (λ v. v.items) _ c.in-Some-2.asks _ c.in_ok-asks.ensures c.in-Some-2.is in
    let told : c.in-Some-3.tells.items ≡ told_all M.after M.told s asks = if-some _ _ c.in-Some-3.tells c.in_ok-tells.ensures.told c.in-Some-3.is in
    let after : g.N.Node.state c.serve_all.new.node ≡ after_all M.after s asks = if-some _ _ c.in-Some-3.tells c.in_ok-tells.ensures.after c.in-Some-3.is in
    let served =
    served-group N.wrapped N.unwrapped N.wrapped_tell M.told M.after owned g.met.G.Grouping.is_own _ _ _ _ _ _ _ _ _ _ c.self.invariant.0
    (c.enter_all.ensures.node ∙ c.reserve_all.ensures.node) owns told (c.enter_all.ensures.entries ∙ rw c.reserve_all.ensures.entries refl) after in
    ap N.last_of served.state_is ∙ ap (λ p. N.last_of (state_after m p.first c.enter_all.new.course.entries)) c.self.view_is
