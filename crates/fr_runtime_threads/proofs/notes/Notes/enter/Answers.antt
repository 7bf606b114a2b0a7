use Rattle.std.proofs.Common.{arith, ◌≡◌}
use Rattle.fr_audit_journal.specs.Housing.{last_number}
use Rattle.fr_runtime_threads.proofs.Accounts.{last-is}
use Rattle.fr_runtime_threads.proofs.notes.Notes.enter.Goals as goal

pub invariant_of-self : goal.invariant_of-self
invariant_of-self c =
    let e : last_number c.push_reserved.new.self.entries ≡ c.args.stamp = last-is _ _ _ c.push_reserved.ensures.entries in
    omega (arith, e)
