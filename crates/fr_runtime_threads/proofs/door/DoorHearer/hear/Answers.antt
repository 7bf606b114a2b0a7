use Rattle.std.proofs.Common.{ap, refl, ◌∙◌, ◌≡◌, ◌++◌, ◌∷◌, [], None, Some}
use Rattle.fr_audit_journal.specs.declared.act.Act.TheVariants.{Heard}
use Rattle.fr_audit_journal.specs.declared.act.Entry.{Entry}
use Rattle.fr_runtime_threads.specs.Account.{Account}
use Rattle.fr_runtime_threads.proofs.Steps.{heard, heard-open, heard-told}
use Rattle.fr_runtime_threads.proofs.door.DoorHearer.hear.Goals as goal

pub invariant_of-self-2 : goal.invariant_of-self-2
invariant_of-self-2 c =
    let old = c.args.self.now in
    let es = old.notes.journal.entries in
    let o = c.in_ok-outcome.outcome in
    let e : Entry = record { stamp = c.in-Some.stamp; act = Heard c.args.from c.args.tell None (Some o) } in
    let n : c.enter.new.self.journal.entries ≡ es ++ e ∷ [] = c.enter.ensures.entries ∙ ap (λ l. l ++ e ∷ []) c.next.ensures.entries in
    let h = heard es c.enter.new.self.journal.entries e o n refl in
    record {
      tells = heard-told es c.enter.new.self.journal.entries o old.told.items old.under_way c.after_saying-self.result h old.tells old.opens c.after_saying-self.ensures;
      opens = heard-open es c.enter.new.self.journal.entries o old.under_way c.after_saying-self.result h old.opens c.after_saying-self.ensures;
    }

pub returns-clause-given : goal.returns-clause-given
returns-clause-given c =
    let es = c.args.self.now.notes.journal.entries in
    let o = c.in_ok-outcome.outcome in
    let e : Entry = record { stamp = c.in-Some.stamp; act = Heard c.args.from c.args.tell None (Some o) } in
    let n : c.enter.new.self.journal.entries ≡ es ++ e ∷ [] = c.enter.ensures.entries ∙ ap (λ l. l ++ e ∷ []) c.next.ensures.entries in
    ap (λ (a : Account). a.given) (heard es c.enter.new.self.journal.entries e o n refl)
