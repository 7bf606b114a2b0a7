use Rattle.std.proofs.Common.{◌≡◌, ◌<◌, [], ◌∷◌, ◌++◌, sym, ap, ◌∙◌, arith, length, append-nil}
use Rattle.std.proofs.lemmas.List.{take_all}
use Rattle.std.specs.List.{cons_option}
use Rattle.fr_mutation.specs.Limits.{batch_fault}
use Rattle.fr_mutation.specs.Clip.{clip_one, clipped}
use Rattle.fr_mutation.proofs.ClipLemmas.{clipped-take, clipped_fits}
use Rattle.fr_mutation.proofs.shard.clip.Goals as goal
use Rattle.fr_mutation.proofs.shard.clip.Goals.{in-Some+in_ok-push, in_default}

pub loop-mutation-preserved : goal.loop-mutation-preserved
loop-mutation-preserved c =
    let i = c.loop-mutation.mutation-index in
    let s = c.args.shard.now in
    let within : i < length c.mutations-mutation-items.result.now = omega arith in
    let more = clipped-take c.mutations-mutation-items.result.now s i c.mutation-item.result within c.mutation-item.is in
    let one : c.in_ok-part.field-0 ≡ clip_one s c.mutation-item.result = c.in_ok-part.ensures in
    let pushed : c.match-branch-2.mutations.items ≡ c.loop-mutation.mutations.items ++ cons_option c.in_ok-part.field-0 [] =
    elim c.match-branch-2.branch [
      | in-Some+in_ok-push w ↦ (
          let grown : w.push.new.self.items ≡ c.loop-mutation.mutations.items ++ w.in-Some.part ∷ [] = w.in_ok-push.ensures.items in
          (λ j. (w.mutations-is j).items) ∙ grown ∙ sym (ap (λ o. c.loop-mutation.mutations.items ++ cons_option o []) w.in-Some.is))
      | in_default w ↦ (λ j. (w.mutations-is j).items) ∙ sym (append-nil c.loop-mutation.mutations.items) ∙ sym (ap (λ o. c.loop-mutation.mutations.items ++ cons_option o []) w.in_default.is)
    ] in
    pushed ∙ (λ j. c.loop-mutation.invariant j ++ cons_option (one j) []) ∙ sym more

pub within-requires : goal.within-requires
within-requires c =
    let all : c.loop-mutation.mutations.items ≡ clipped c.args.batch.now c.args.shard.now =
    c.loop-mutation.invariant ∙ ap (λ ms. clipped ms c.args.shard.now) (take_all c.loop-mutation.mutation-index c.mutations-mutation-items.result.now (omega arith) ∙ c.mutations-mutation-items.ensures.mutations) in
    ap batch_fault all ∙ clipped_fits c.args.batch.now c.args.shard.now c.requires (ap batch_fault (sym c.mutations-mutation-items.ensures.mutations) ∙ c.mutations-mutation-items.ensures.within)
