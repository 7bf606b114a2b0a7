use Rattle.std.proofs.Common.{refl, ap, ◌∙◌, ◌≡◌, ◌++◌, arith, []}
use Rattle.std.proofs.lemmas.Grind.{common_steps}
use Rattle.std.specs.Vec.Iter.{into_iter_items}
use Rattle.fr_runtime.specs.Job.{all_journals, all_told, all_works, journals_of, told_of, works_of}
use Rattle.fr_runtime.proofs.Gathers.{put-all, put-more}
use Rattle.fr_runtime.proofs.gathered.Gathered.new.Goals as goal

pub loop-thread-init : goal.loop-thread-init
loop-thread-init g c =
    let items = c.into_iter-thread-iterator.ensures.into_iter_gives.0 in
    record {
      can = tt;
      ends = tt;
      journals = ap (λ (l : _). c.args.journals.items ++ all_journals l) items;
      told = ap (λ (l : _). l ++ all_told (into_iter_items c.into_iter-thread-iterator.result)) c.new-told.ensures.items ∙ ap all_told items;
      works = ap (λ (l : _). l ++ all_works (into_iter_items c.into_iter-thread-iterator.result)) c.new-works.ensures.items ∙ ap all_works items;
    }

pub loop-thread-preserved : goal.loop-thread-preserved
loop-thread-preserved g c =
    let step = c.in-Some.ensures.steps.0 in
    let inv = c.loop-thread.invariant in
    let d = c.in-Some.thread in
    let rest = into_iter_items c.next.new.self in
    let added = c.in_ok-add.ensures in
    record {
      can = tt;
      ends = tt;
      journals = put-more all_journals all_journals c.loop-thread.all.journals.items c.add.new.self.journals.items (journals_of d) _ d _ rest added.journals step refl inv.journals;
      told = put-more all_told all_told c.loop-thread.all.told.items c.add.new.self.told.items (told_of d) _ d _ rest added.told step refl inv.told;
      works = put-more all_works all_works c.loop-thread.all.works.items c.add.new.self.works.items (works_of d) _ d _ rest added.works step refl inv.works;
    }

pub returns-clause-journals : goal.returns-clause-journals
returns-clause-journals g c =
    let ended : into_iter_items c.loop-thread.thread-iterator ≡ [] = grind (arith, common_steps) in
    put-all all_journals c.loop-thread.all.journals.items _ _ ended refl c.loop-thread.invariant.journals

pub returns-clause-told : goal.returns-clause-told
returns-clause-told g c =
    let ended : into_iter_items c.loop-thread.thread-iterator ≡ [] = grind (arith, common_steps) in
    put-all all_told c.loop-thread.all.told.items _ _ ended refl c.loop-thread.invariant.told

pub returns-clause-works : goal.returns-clause-works
returns-clause-works g c =
    let ended : into_iter_items c.loop-thread.thread-iterator ≡ [] = grind (arith, common_steps) in
    put-all all_works c.loop-thread.all.works.items _ _ ended refl c.loop-thread.invariant.works
