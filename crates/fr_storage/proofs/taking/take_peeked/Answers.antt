use Rattle.std.proofs.Common.{◌≡◌, ℕ, true, false, None, max, min, sym, ap, subst, ◌∙◌}
use Rattle.std.proofs.lemmas.Bool.{eq-eqb, eqb-true}
use Rattle.fr_storage.specs.Course.{IsReopened}
use Rattle.fr_storage.specs.Server.{Kept, met_store, storage_of}
use Rattle.fr_storage.specs.Storage.{peeked_calls, peeked_fault, target_of}
use Rattle.fr_storage.specs.Taken.{IsPart}
use Rattle.fr_storage.proofs.Opened.{at_err, none_refused, reopened}
use Rattle.fr_storage.proofs.TakenPeeks.{nothing_missing, part_taken}
use Rattle.fr_storage.proofs.taking.take_peeked.Goals as goal
use Rattle.fr_storage.proofs.taking.take_peeked.Goals.{else-eq-via-then-eq+else-eq-2, else-eq-via-else-eq}

pub returns-then-eq-2-clause-whole : goal.returns-then-eq-2-clause-whole
returns-then-eq-2-clause-whole g c fine taken =
    let store = g.S.ShardStore in
    let old = c.args.storage.now in
    let s = storage_of store.state old in
    let new = c.reopen.new.self in
    let heard = c.hear_peeked-heard in
    let top = c.whole_peeked-applied.result in
    let is = c.whole_peeked-applied.ensures.sound in
    let met : met_store heard.result ≡ true = sym c.met_store.ensures ∙ c.if-not-met_store.false in
    let none : peeked_fault s c.args.epoch c.args.peeked.now ≡ None = sym (heard.ensures.refused fine) ∙ none_refused heard.result met in
    let left : IsReopened s (peeked_calls s c.args.epoch c.args.peeked.now) (storage_of store.state new) =
    reopened store.state store.MayLeave old heard.new.self new (peeked_calls s c.args.epoch c.args.peeked.now) (heard.ensures.leaves fine) c.in_ok-reopen.ensures.found c.reopen.ensures.tag
    (ap (λ (k : Kept). k.tag) (at_err heard.result met heard.ensures.err)) c.reopen.ensures.state c.in_ok-reopen.ensures.spelled in
    let applied : top.0 ≡ max s.store.applied (target_of s c.args.epoch c.args.peeked.now) =
    c.whole_peeked-applied.ensures.applied ∙ ap (λ (v : ℕ). max v (target_of s c.args.epoch c.args.peeked.now)) (sym (is.applied fine)) in
    let at : new.applied ≡ top.0 = sym c.position-reached.ensures.version ∙ eqb-true c.position-reached.result.1 top.0 (sym c.eq.ensures ∙ c.if-eq.true) in
    let over : new.floor ≡ top.1 = sym c.floor.ensures.value ∙ eqb-true c.floor.result top.1 (sym c.eq-then-eq.ensures ∙ c.if-eq-2.true) in
    nothing_missing s c.args.epoch c.args.peeked.now c.whole_peeked-applied.ensures.peeked none (storage_of store.state new) left c.spelling_law.ensures.same is.state (is.bytes fine)
    c.position_law.ensures.peeked_applied c.position_law.ensures.peeked_floor
    (sym c.in_ok-reopen.ensures.position ∙ (at ∙ applied))
    (sym c.in_ok-reopen.ensures.floor
    ∙ (over
    ∙ (c.whole_peeked-applied.ensures.floor
    ∙ (ap (λ (v : ℕ). max v (min c.args.peeked.now.known top.0)) (sym (is.floor fine)) ∙ ap (λ (v : ℕ). max s.store.floor (min c.args.peeked.now.known v)) applied))))

pub returns-else-eq-clause-part : goal.returns-else-eq-clause-part
returns-else-eq-clause-part g c fine =
    let store = g.S.ShardStore in
    let old = c.args.storage.now in
    let s = storage_of store.state old in
    let new = c.reopen.new.self in
    let heard = c.hear_peeked-heard in
    let top = c.whole_peeked-applied.result in
    let is = c.whole_peeked-applied.ensures.sound in
    let met : met_store heard.result ≡ true = sym c.met_store.ensures ∙ c.if-not-met_store.false in
    let none : peeked_fault s c.args.epoch c.args.peeked.now ≡ None = sym (heard.ensures.refused fine) ∙ none_refused heard.result met in
    let left : IsReopened s (peeked_calls s c.args.epoch c.args.peeked.now) (storage_of store.state new) =
    reopened store.state store.MayLeave old heard.new.self new (peeked_calls s c.args.epoch c.args.peeked.now) (heard.ensures.leaves fine) c.in_ok-reopen.ensures.found c.reopen.ensures.tag
    (ap (λ (k : Kept). k.tag) (at_err heard.result met heard.ensures.err)) c.reopen.ensures.state c.in_ok-reopen.ensures.spelled in
    let applied : top.0 ≡ max s.store.applied (target_of s c.args.epoch c.args.peeked.now) =
    c.whole_peeked-applied.ensures.applied ∙ ap (λ (v : ℕ). max v (target_of s c.args.epoch c.args.peeked.now)) (sym (is.applied fine)) in
    let floor : top.1 ≡ max s.store.floor (min c.args.peeked.now.known (max s.store.applied (target_of s c.args.epoch c.args.peeked.now))) =
    c.whole_peeked-applied.ensures.floor
    ∙ (ap (λ (v : ℕ). max v (min c.args.peeked.now.known top.0)) (sym (is.floor fine)) ∙ ap (λ (v : ℕ). max s.store.floor (min c.args.peeked.now.known v)) applied) in
    let here : c.position-reached.result.1 ≡ (store.state new.store).applied = c.position-reached.ensures.version ∙ c.in_ok-reopen.ensures.position in
    let other : (store.state new.store).applied ≡ max s.store.applied (target_of s c.args.epoch c.args.peeked.now)
    → (store.state new.store).floor ≡ max s.store.floor (min c.args.peeked.now.known (max s.store.applied (target_of s c.args.epoch c.args.peeked.now))) → ⊥ =
    λ at over. elim c.else-eq.branch [
      | else-eq-via-then-eq+else-eq-2 w ↦
          let same : w.floor.result ≡ top.1 = w.floor.ensures.value ∙ (c.in_ok-reopen.ensures.floor ∙ (over ∙ sym floor)) in
          let k : false ≡ true = sym w.if-eq-2.false ∙ (w.eq-then-eq.ensures ∙ eq-eqb w.floor.result top.1 same) in cc
      | else-eq-via-else-eq w ↦
          let k : false ≡ true = sym w.if-eq.false ∙ (c.eq.ensures ∙ eq-eqb c.position-reached.result.1 top.0 (here ∙ (at ∙ sym applied))) in cc
    ] in
    subst (λ (v : ℕ). IsPart s (peeked_fault s c.args.epoch c.args.peeked.now) (peeked_calls s c.args.epoch c.args.peeked.now) v (storage_of store.state new)) (sym here)
    (part_taken s c.args.epoch c.args.peeked.now c.whole_peeked-applied.ensures.peeked none (storage_of store.state new) left c.spelling_law.ensures.same is.state (is.bytes fine)
    c.position_law.ensures.peeked_applied c.position_law.ensures.peeked_floor other)
