use Rattle.std.proofs.Common.{ℕ, sym, ◌∙◌}
use Rattle.std.specs.Ordering.{nat_cmp}
use Rattle.std.specs.FinMap.{FinMap}
use Rattle.fr_log.specs.Fields.{three}
use Rattle.fr_proxy.specs.declared.number.Number.{Number}
use Rattle.fr_proxy.specs.Sequencer.{SeqState}
use Rattle.fr_proxy.proofs.Given.{clones_are_same, unchanged_is_same}
use Rattle.fr_proxy.proofs.sequencer.Sequencer.copy.Goals as goal

pub returns : goal.returns
returns c =
    let h = c.in_ok-clone.ensures.cases in
    let given = unchanged_is_same h.0.given h.1.given (clones_are_same h.0.given.entries h.1.given.entries h.4.1.1) in
    let state : ℕ → ℕ → FinMap nat_cmp Number → SeqState = λ epoch last given. record { epoch = epoch; last = last; given = given } in
    sym h.3 ∙ three state h.4.0 h.4.1.0 given ∙ h.2
