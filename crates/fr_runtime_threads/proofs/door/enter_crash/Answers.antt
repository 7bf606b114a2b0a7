use Rattle.std.proofs.Common.{ap, ◌∙◌, ◌≡◌, ◌++◌, ◌∷◌, []}
use Rattle.fr_audit_journal.specs.declared.act.Act.TheVariants.{Crashed}
use Rattle.fr_audit_journal.specs.declared.act.Entry.{Entry}
use Rattle.fr_runtime_threads.specs.Account.{account}
use Rattle.fr_runtime_threads.proofs.Accounts.{account-append}
use Rattle.fr_runtime_threads.proofs.door.enter_crash.Goals as goal

-- a crash is no batch, and says nothing of one
pub returns-clause-account : goal.returns-clause-account
returns-clause-account c =
    let es = c.args.notes.now.journal.entries in
    let e : Entry = record { stamp = c.in-Some.stamp; act = Crashed } in
    let n : c.enter.new.self.journal.entries ≡ es ++ e ∷ [] = c.enter.ensures.entries ∙ ap (λ l. l ++ e ∷ []) c.next.ensures.entries in
    ap account n ∙ account-append es e
