use Rattle.std.proofs.Common.{[], ◌∷◌, ◌++◌, length, subst, sym, ◌∙◌, ap, arith}
use Rattle.std.proofs.lemmas.List.{length_push}
use Rattle.fr_log.specs.Fields.{two}
use Rattle.fr_log.specs.Headers.{headers_in, AreRuns}
use Rattle.fr_log.proofs.Chaining.{in_more, rise_count, runs_more}
use Rattle.fr_log.proofs.pushes.chain.Headers.push.Goals as goal
use Rattle.fr_log.proofs.pushes.chain.Headers.push.Goals.{then-not-add_to_last+in_ok-push, else-not-add_to_last}

pub one_more-len-requires : goal.one_more-len-requires
one_more-len-requires c =
    let k = rise_count 0 c.args.self.now c.args.header c.requires in
    let same = ap length c.self.view_is in
    omega (arith, k, same, c.self.invariant.1)

pub invariant_of-self-2 : goal.invariant_of-self-2
invariant_of-self-2 c =
    let old = c.self.inside.runs.items in
    let g = c.args.header in
    let long = length_push (headers_in old) g in
    elim c.if-not-add_to_last.branch [
      | then-not-add_to_last+in_ok-push w ↦
          let same = ap (λ i. i.runs.items) w.self-inside-is in
          let items = same ∙ w.in_ok-push.ensures.items in
          let all = ap headers_in items ∙ in_more c.add_to_last.new.runs.items w.new.result ∙ two (λ xs ys. xs ++ ys) (c.add_to_last.ensures.no w.if-not-add_to_last.true) w.new.ensures in
          let count = ap length all in
          let some = ap length w.new.ensures in
          (subst AreRuns (sym items) (runs_more c.add_to_last.new.runs.items w.new.result c.add_to_last.ensures.runs (omega (arith, some))), omega (arith, count, long, c.one_more-len.ensures, c.self.invariant.1))
      | else-not-add_to_last w ↦
          let same = ap (λ i. i.runs.items) w.self-inside-is in
          let count = ap length (ap headers_in same ∙ c.add_to_last.ensures.yes w.if-not-add_to_last.false) in
          (subst AreRuns (sym same) c.add_to_last.ensures.runs, omega (arith, count, long, c.one_more-len.ensures, c.self.invariant.1))
    ]

pub returns-clause-after : goal.returns-clause-after
returns-clause-after c =
    let old = c.self.inside.runs.items in
    let g = c.args.header in
    elim c.if-not-add_to_last.branch [
      | then-not-add_to_last+in_ok-push w ↦
          let items = ap (λ i. i.runs.items) w.self-inside-is ∙ w.in_ok-push.ensures.items in
          ap headers_in items ∙ in_more c.add_to_last.new.runs.items w.new.result ∙ two (λ xs ys. xs ++ ys) (c.add_to_last.ensures.no w.if-not-add_to_last.true) w.new.ensures
          ∙ ap (λ hs. hs ++ g ∷ []) c.self.view_is
      | else-not-add_to_last w ↦
          ap (λ i. headers_in i.runs.items) w.self-inside-is ∙ c.add_to_last.ensures.yes w.if-not-add_to_last.false ∙ ap (λ hs. hs ++ g ∷ []) c.self.view_is
    ]
