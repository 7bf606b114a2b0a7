use Rattle.std.proofs.Common.{length, ap, ◌∙◌, sym, subst}
use Rattle.fr_log.specs.Headers.{headers_in, AreRuns}
use Rattle.fr_log.proofs.Chaining.{none_in}
use Rattle.fr_log.proofs.pushes.chain.Headers.new.Goals as goal

pub invariant_of-result : goal.invariant_of-result
invariant_of-result c = (subst AreRuns (sym c.new.ensures.items) tt, sym (ap length (ap headers_in c.new.ensures.items ∙ none_in)))

pub returns : goal.returns
returns c = ap headers_in c.new.ensures.items ∙ none_in
