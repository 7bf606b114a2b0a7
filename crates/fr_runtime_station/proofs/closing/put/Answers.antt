use Rattle.std.proofs.Common.{ap, ◌∙◌, ◌≡◌, ◌++◌, ◌∷◌, [], arith}
use Rattle.std.proofs.lemmas.Grind.{common_steps}
use Rattle.fr_runtime_station.specs.Answering.{all_answer}
use Rattle.fr_runtime_station.proofs.Journals.{answer-more}
use Rattle.fr_runtime_station.proofs.closing.put.Goals as goal

pub returns : goal.returns
returns c =
    let items : c.push_reserved.new.self.items ≡ c.args.journals.now.items ++ c.args.journal ∷ [] = c.push_reserved.ensures.items ∙ ap (λ l. l ++ c.args.journal ∷ []) c.reserve.ensures.items in
    record {
      answers = ap all_answer items ∙ answer-more c.args.journals.now.items c.args.journal c.requires.before c.requires.place;
      more = grind (arith, common_steps);
    }
