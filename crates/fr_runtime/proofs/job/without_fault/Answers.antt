use Rattle.std.proofs.Common.{sym, ap, ◌∙◌, ◌≡◌, ◌++◌, ◌∷◌, [], Ok, arith}
use Rattle.std.proofs.lemmas.Grind.{common_steps}
use Rattle.std.proofs.lemmas.List.{append-nil, append_assoc}
use Rattle.std.specs.Vec.Iter.{into_iter_items}
use Rattle.fr_runtime.specs.Job.{oks}
use Rattle.fr_runtime.proofs.Heards.{oks-append}
use Rattle.fr_runtime.proofs.job.without_fault.Goals as goal

pub loop-thread-init : goal.loop-thread-init
loop-thread-init g c = record {
  can = tt;
  ends = tt;
  all = ap (λ (l : _). oks l ++ into_iter_items c.into_iter-thread-iterator.result) c.new-all.ensures.items ∙ c.into_iter-thread-iterator.ensures.into_iter_gives.0;
}

pub loop-thread-preserved : goal.loop-thread-preserved
loop-thread-preserved g c =
    let all = c.loop-thread.all.items in
    let rest = into_iter_items c.next.new.self in
    let next = c.in-Some.ensures.steps.0 ∙ ap (λ (r : _). r ∷ rest) c.in-Ok.is in
    record {
      can = tt;
      ends = tt;
      all = ap (λ (l : _). oks l ++ rest) c.in_ok-put-in-Ok.ensures
          ∙ (ap (λ (l : _). l ++ rest) (oks-append all c.in-Ok.done)
          ∙ (append_assoc (oks all) (Ok c.in-Ok.done ∷ []) rest
          ∙ (ap (λ (l : _). oks all ++ l) (sym next) ∙ c.loop-thread.invariant.all)));
    }

pub returns : goal.returns
returns g c =
    let ended : into_iter_items c.loop-thread.thread-iterator ≡ [] = grind (arith, common_steps) in
    sym c.loop-thread.invariant.all ∙ (ap (λ (l : _). oks c.loop-thread.all.items ++ l) ended ∙ append-nil (oks c.loop-thread.all.items))
