use Rattle.std.proofs.Common.{refl, ap, ◌∙◌, ◌≡◌, ◌++◌, arith, []}
use Rattle.std.proofs.lemmas.Grind.{common_steps}
use Rattle.std.specs.Vec.Iter.{into_iter_items}
use Rattle.fr_runtime_threads.specs.Late.{due_by, due_of, left_by, left_of}
use Rattle.fr_runtime_threads.proofs.Letters.{put-all, put-more}
use Rattle.fr_runtime_threads.proofs.late.Late.next.Goals as goal

pub loop-letter-init : goal.loop-letter-init
loop-letter-init c =
    let items = c.into_iter-letter-iterator.ensures.into_iter_gives.0 ∙ ap (λ v. v.items) c.replace-kept.ensures.value in
    let rest = into_iter_items c.into_iter-letter-iterator.result in
    record {
      can = tt;
      ends = tt;
      due = ap (λ (l : _). l ++ due_of rest) c.new-due.ensures.items ∙ ap due_of items;
      left = ap (λ (l : _). l ++ left_of rest) (ap (λ v. v.items) c.replace-kept.ensures.after ∙ c.new.ensures.items) ∙ ap left_of items;
    }

pub loop-letter-preserved : goal.loop-letter-preserved
loop-letter-preserved c =
    let step = c.in-Some.ensures.steps.0 in
    let inv = c.loop-letter.invariant in
    let l = c.in-Some.letter in
    let rest = into_iter_items c.next.new.self in
    let sorted = c.in_ok-sort.ensures in
    record {
      can = tt;
      ends = tt;
      due = put-more due_of c.loop-letter.due.items c.sort.new.due.items (due_by l) _ l _ rest sorted.due step refl inv.due;
      left = put-more left_of c.loop-letter.self.letters.items c.sort.new.self.letters.items (left_by l) _ l _ rest sorted.left step refl inv.left;
    }

pub returns-clause-due : goal.returns-clause-due
returns-clause-due c =
    let ended : into_iter_items c.loop-letter.letter-iterator ≡ [] = grind (arith, common_steps) in
    put-all due_of c.loop-letter.due.items _ _ ended refl c.loop-letter.invariant.due

pub returns-clause-left : goal.returns-clause-left
returns-clause-left c =
    let ended : into_iter_items c.loop-letter.letter-iterator ≡ [] = grind (arith, common_steps) in
    put-all left_of c.loop-letter.self.letters.items _ _ ended refl c.loop-letter.invariant.left
