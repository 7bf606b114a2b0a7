use Rattle.std.proofs.Common.{arith, subst, sym, ◌∙◌, ◌≡◌, ◌+◌, ◌-◌, false}
use Rattle.fr_runtime_threads.proofs.recovery.recover.Goals as goal

pub returns-in-None-clause-begins : goal.returns-in-None-clause-begins
returns-in-None-clause-begins g c = λ used turn low high begins.
    let no : g.F.Faults.begun c.args.site.now.faults.now c.args.ballot ((turn - 1) + 1) ≡ false = c.in-None.ensures (turn - 1) (omega arith) in
    let same : (turn - 1) + 1 ≡ turn = omega arith in
    sym (subst (λ n. g.F.Faults.begun c.args.site.now.faults.now c.args.ballot n ≡ false) same no) ∙ begins
