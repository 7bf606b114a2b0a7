use Rattle.std.proofs.Common.{◌≡◌, false, None, Some, refl, sym, ap, ◌∙◌, subst}
use Rattle.std.specs.Prelude.{◌≢◌, IfSome, Result, Err, OnErr}
use Rattle.fr_undo.specs.declared.fault.StoreFault.TheVariants.{Failed}
use Rattle.fr_storage.specs.declared.fault.StorageFault.{StorageFault}
use Rattle.fr_storage.specs.declared.fault.StorageFault.TheVariants.{Older, Stranger, BelowFloor, NotMyGeneration, Hole, Store}
use Rattle.fr_storage.specs.Server.{Server, met_store, refusal_of, store_fault, IsMarkTrouble}
use Rattle.fr_storage.proofs.Standing.{works_before, on_whole, on_refused, on_course, on_among, on_standing, on_both}
use Rattle.fr_storage.proofs.storage.Storage.follow_all.Goals as goal

pub loop-answer-preserved-in-Ok : goal.loop-answer-preserved-in-Ok
loop-answer-preserved-in-Ok g c =
    let store = g.S.ShardStore in
    let h = c.loop-answer.invariant in
    let f = c.follow.ensures in
    let met : met_store c.follow.result ≡ false = ap met_store c.in-Ok.is in
    record {
      can_next = tt;
      is_finite = tt;
      whole = λ none. on_whole store.state store.MayLeave c.args.self.now c.loop-answer.self c.follow.new.self c.args.answers.items c.loop-answer.answer-iterator.rest.items c.next.new.self.rest.items c.in-Some.answer c.follow.result c.in-Some.ensures.steps.0 (h.whole none) c.in-Ok.ensures.ok;
      met = h.met;
      works = λ fine. f.works met;
      course = λ fine. on_course store.state store.MayLeave c.args.self.now c.loop-answer.self c.follow.new.self c.args.answers.items c.loop-answer.answer-iterator.rest.items c.next.new.self.rest.items c.in-Some.answer c.follow.result c.in-Some.ensures.steps.0 (h.course fine) (f.after (h.works fine) (f.works met)) (f.refused (h.works fine)) None (ap refusal_of c.in-Ok.is) tt;
      among = on_among store.state store.MayLeave c.args.self.now c.loop-answer.self c.follow.new.self c.args.answers.items c.loop-answer.answer-iterator.rest.items c.next.new.self.rest.items c.in-Some.answer c.follow.result c.in-Some.ensures.steps.0 h.among;
      standing = λ pieces is_chosen are one trues standing. on_both store.state store.MayLeave c.args.self.now c.loop-answer.self c.follow.new.self c.args.answers.items c.loop-answer.answer-iterator.rest.items c.next.new.self.rest.items c.in-Some.answer c.follow.result c.in-Some.ensures.steps.0 pieces is_chosen are one (h.standing pieces is_chosen are one trues standing) f.stands (f.works met) f.after f.found;
    }

pub loop-answer-preserved-in-Err-Older : goal.loop-answer-preserved-in-Err-Older
loop-answer-preserved-in-Err-Older g c =
    let store = g.S.ShardStore in
    let h = c.loop-answer.invariant in
    let f = c.follow.ensures in
    let is : c.follow.result ≡ Err Older = c.in-Err-Older.is ∙ ap (λ (fault : StorageFault). Err fault) c.in-Err-Older.field-0-is in
    let met : met_store c.follow.result ≡ false = ap met_store is in
    let fine : c.loop-answer.self.failed ≡ false = works_before c.loop-answer.self.failed c.follow.result met f.met in
    record {
      can_next = tt;
      is_finite = tt;
      whole = λ none. on_refused store.state store.MayLeave c.args.self.now c.loop-answer.self c.follow.new.self c.args.answers.items c.loop-answer.answer-iterator.rest.items c.next.new.self.rest.items c.in-Some.answer c.follow.result c.in-Some.ensures.steps.0 Older (h.whole none) fine (subst (λ (r : Result (Unit {0}) StorageFault). OnErr r (c.follow.new.self ≡ c.loop-answer.self)) is (f.same met)) f.refused (ap refusal_of is);
      met = h.met;
      works = λ fine. f.works met;
      course = λ fine. on_course store.state store.MayLeave c.args.self.now c.loop-answer.self c.follow.new.self c.args.answers.items c.loop-answer.answer-iterator.rest.items c.next.new.self.rest.items c.in-Some.answer c.follow.result c.in-Some.ensures.steps.0 (h.course fine) (f.after (h.works fine) (f.works met)) (f.refused (h.works fine)) (Some Older) (ap refusal_of is) refl;
      among = on_among store.state store.MayLeave c.args.self.now c.loop-answer.self c.follow.new.self c.args.answers.items c.loop-answer.answer-iterator.rest.items c.next.new.self.rest.items c.in-Some.answer c.follow.result c.in-Some.ensures.steps.0 h.among;
      standing = λ pieces is_chosen are one trues standing. on_both store.state store.MayLeave c.args.self.now c.loop-answer.self c.follow.new.self c.args.answers.items c.loop-answer.answer-iterator.rest.items c.next.new.self.rest.items c.in-Some.answer c.follow.result c.in-Some.ensures.steps.0 pieces is_chosen are one (h.standing pieces is_chosen are one trues standing) f.stands (f.works met) f.after f.found;
    }

pub loop-answer-preserved-in-Err-NotMyGeneration : goal.loop-answer-preserved-in-Err-NotMyGeneration
loop-answer-preserved-in-Err-NotMyGeneration g c =
    let store = g.S.ShardStore in
    let h = c.loop-answer.invariant in
    let f = c.follow.ensures in
    let is : c.follow.result ≡ Err NotMyGeneration = c.in-Err-NotMyGeneration.is ∙ ap (λ (fault : StorageFault). Err fault) c.in-Err-NotMyGeneration.field-0-is in
    let met : met_store c.follow.result ≡ false = ap met_store is in
    let fine : c.loop-answer.self.failed ≡ false = works_before c.loop-answer.self.failed c.follow.result met f.met in
    record {
      can_next = tt;
      is_finite = tt;
      whole = λ none. on_refused store.state store.MayLeave c.args.self.now c.loop-answer.self c.follow.new.self c.args.answers.items c.loop-answer.answer-iterator.rest.items c.next.new.self.rest.items c.in-Some.answer c.follow.result c.in-Some.ensures.steps.0 NotMyGeneration (h.whole none) fine (subst (λ (r : Result (Unit {0}) StorageFault). OnErr r (c.follow.new.self ≡ c.loop-answer.self)) is (f.same met)) f.refused (ap refusal_of is);
      met = h.met;
      works = λ fine. f.works met;
      course = λ fine. on_course store.state store.MayLeave c.args.self.now c.loop-answer.self c.follow.new.self c.args.answers.items c.loop-answer.answer-iterator.rest.items c.next.new.self.rest.items c.in-Some.answer c.follow.result c.in-Some.ensures.steps.0 (h.course fine) (f.after (h.works fine) (f.works met)) (f.refused (h.works fine)) (Some NotMyGeneration) (ap refusal_of is) refl;
      among = on_among store.state store.MayLeave c.args.self.now c.loop-answer.self c.follow.new.self c.args.answers.items c.loop-answer.answer-iterator.rest.items c.next.new.self.rest.items c.in-Some.answer c.follow.result c.in-Some.ensures.steps.0 h.among;
      standing = λ pieces is_chosen are one trues standing. on_both store.state store.MayLeave c.args.self.now c.loop-answer.self c.follow.new.self c.args.answers.items c.loop-answer.answer-iterator.rest.items c.next.new.self.rest.items c.in-Some.answer c.follow.result c.in-Some.ensures.steps.0 pieces is_chosen are one (h.standing pieces is_chosen are one trues standing) f.stands (f.works met) f.after f.found;
    }

pub loop-answer-preserved-in-Err-Hole : goal.loop-answer-preserved-in-Err-Hole
loop-answer-preserved-in-Err-Hole g c =
    let store = g.S.ShardStore in
    let h = c.loop-answer.invariant in
    let f = c.follow.ensures in
    let is : c.follow.result ≡ Err Hole = c.in-Err-Hole.is ∙ ap (λ (fault : StorageFault). Err fault) c.in-Err-Hole.field-0-is in
    let met : met_store c.follow.result ≡ false = ap met_store is in
    let fine : c.loop-answer.self.failed ≡ false = works_before c.loop-answer.self.failed c.follow.result met f.met in
    record {
      can_next = tt;
      is_finite = tt;
      whole = λ none. on_refused store.state store.MayLeave c.args.self.now c.loop-answer.self c.follow.new.self c.args.answers.items c.loop-answer.answer-iterator.rest.items c.next.new.self.rest.items c.in-Some.answer c.follow.result c.in-Some.ensures.steps.0 Hole (h.whole none) fine (subst (λ (r : Result (Unit {0}) StorageFault). OnErr r (c.follow.new.self ≡ c.loop-answer.self)) is (f.same met)) f.refused (ap refusal_of is);
      met = h.met;
      works = λ fine. f.works met;
      course = λ fine. on_course store.state store.MayLeave c.args.self.now c.loop-answer.self c.follow.new.self c.args.answers.items c.loop-answer.answer-iterator.rest.items c.next.new.self.rest.items c.in-Some.answer c.follow.result c.in-Some.ensures.steps.0 (h.course fine) (f.after (h.works fine) (f.works met)) (f.refused (h.works fine)) (Some Hole) (ap refusal_of is) refl;
      among = on_among store.state store.MayLeave c.args.self.now c.loop-answer.self c.follow.new.self c.args.answers.items c.loop-answer.answer-iterator.rest.items c.next.new.self.rest.items c.in-Some.answer c.follow.result c.in-Some.ensures.steps.0 h.among;
      standing = λ pieces is_chosen are one trues standing. on_both store.state store.MayLeave c.args.self.now c.loop-answer.self c.follow.new.self c.args.answers.items c.loop-answer.answer-iterator.rest.items c.next.new.self.rest.items c.in-Some.answer c.follow.result c.in-Some.ensures.steps.0 pieces is_chosen are one (h.standing pieces is_chosen are one trues standing) f.stands (f.works met) f.after f.found;
    }

pub loop-answer-preserved : goal.loop-answer-preserved
loop-answer-preserved g c =
    let store = g.S.ShardStore in
    let h = c.loop-answer.invariant in
    let f = c.follow.ensures in
    let works : c.follow.new.self.failed ≡ false = ap (λ (s : Server g.row.S.Denot). s.failed) (sym c.self.view_is) ∙ c.if-self.false in
    let is : c.follow.result ≡ Err (Store c.in-Err-Store.fault) = c.in-Err-Store.is ∙ ap (λ (fault : StorageFault). Err fault) c.in-Err-Store.field-0-is in
    record {
      can_next = tt;
      is_finite = tt;
      whole = λ none. absurd cc;
      met = subst (λ (r : Result (Unit {0}) StorageFault). IfSome (store_fault r) (λ fault. fault ≢ Failed → IsMarkTrouble store.CanMeet store.CanMeetInPlace fault)) is f.trouble;
      works = λ fine. works;
      course = λ fine. on_course store.state store.MayLeave c.args.self.now c.loop-answer.self c.follow.new.self c.args.answers.items c.loop-answer.answer-iterator.rest.items c.next.new.self.rest.items c.in-Some.answer c.follow.result c.in-Some.ensures.steps.0 (h.course fine) (f.after (h.works fine) (works)) (f.refused (h.works fine)) None (ap refusal_of is) tt;
      among = on_among store.state store.MayLeave c.args.self.now c.loop-answer.self c.follow.new.self c.args.answers.items c.loop-answer.answer-iterator.rest.items c.next.new.self.rest.items c.in-Some.answer c.follow.result c.in-Some.ensures.steps.0 h.among;
      standing = λ pieces is_chosen are one trues standing. on_both store.state store.MayLeave c.args.self.now c.loop-answer.self c.follow.new.self c.args.answers.items c.loop-answer.answer-iterator.rest.items c.next.new.self.rest.items c.in-Some.answer c.follow.result c.in-Some.ensures.steps.0 pieces is_chosen are one (h.standing pieces is_chosen are one trues standing) f.stands works f.after f.found;
    }

pub returns-then-self-clause-stands : goal.returns-then-self-clause-stands
returns-then-self-clause-stands g c pieces is_chosen are one trues standing =
    let store = g.S.ShardStore in
    let h = c.loop-answer.invariant in
    let f = c.follow.ensures in
    let next = on_standing store.state store.MayLeave c.args.self.now c.loop-answer.self c.follow.new.self c.args.answers.items c.loop-answer.answer-iterator.rest.items c.next.new.self.rest.items c.in-Some.answer c.follow.result c.in-Some.ensures.steps.0 pieces is_chosen are one (h.standing pieces is_chosen are one trues standing) f.stands in
    (next.0, (λ e. cc), (λ e. cc))

pub returns-in-Err-Stranger-clause-stands : goal.returns-in-Err-Stranger-clause-stands
returns-in-Err-Stranger-clause-stands g c pieces is_chosen are one trues standing =
    let store = g.S.ShardStore in
    let h = c.loop-answer.invariant in
    let f = c.follow.ensures in
    let next = on_standing store.state store.MayLeave c.args.self.now c.loop-answer.self c.follow.new.self c.args.answers.items c.loop-answer.answer-iterator.rest.items c.next.new.self.rest.items c.in-Some.answer c.follow.result c.in-Some.ensures.steps.0 pieces is_chosen are one (h.standing pieces is_chosen are one trues standing) f.stands in
    let is : c.follow.result ≡ Err Stranger = c.in-Err-Stranger.is ∙ ap (λ (fault : StorageFault). Err fault) c.in-Err-Stranger.field-0-is in
    (next.0, (λ e. next.1 (ap refusal_of is ∙ e)), (λ e. next.2 (ap refusal_of is ∙ e)))

pub returns-in-Err-BelowFloor-clause-stands : goal.returns-in-Err-BelowFloor-clause-stands
returns-in-Err-BelowFloor-clause-stands g c pieces is_chosen are one trues standing =
    let store = g.S.ShardStore in
    let h = c.loop-answer.invariant in
    let f = c.follow.ensures in
    let next = on_standing store.state store.MayLeave c.args.self.now c.loop-answer.self c.follow.new.self c.args.answers.items c.loop-answer.answer-iterator.rest.items c.next.new.self.rest.items c.in-Some.answer c.follow.result c.in-Some.ensures.steps.0 pieces is_chosen are one (h.standing pieces is_chosen are one trues standing) f.stands in
    let is : c.follow.result ≡ Err BelowFloor = c.in-Err-BelowFloor.is ∙ ap (λ (fault : StorageFault). Err fault) c.in-Err-BelowFloor.field-0-is in
    (next.0, (λ e. next.1 (ap refusal_of is ∙ e)), (λ e. next.2 (ap refusal_of is ∙ e)))
