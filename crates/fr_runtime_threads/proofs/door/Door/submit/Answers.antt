use Rattle.std.proofs.Common.{ap, refl, sym, ◌∙◌, ◌≡◌, ◌++◌, ◌∷◌, [], Some}
use Rattle.fr_audit_journal.specs.declared.act.Act.TheVariants.{Submitted}
use Rattle.fr_audit_journal.specs.declared.act.Entry.{Entry}
use Rattle.fr_runtime_threads.specs.declared.order.UnderWay.TheVariants.{Open}
use Rattle.fr_runtime_threads.specs.Account.{Account}
use Rattle.fr_runtime_threads.proofs.Steps.{submitted, submitted-given, submitted-told}
use Rattle.fr_runtime_threads.proofs.door.Door.submit.Goals as goal

pub invariant_of-self-in-Some-take : goal.invariant_of-self-in-Some-take
invariant_of-self-in-Some-take c =
    let old = c.args.self.now in
    let o = c.in-Some-take.order in
    let e : Entry = record { stamp = c.in-Some-2.stamp; act = Submitted o.step o.batch } in
    let n : c.enter.new.self.journal.entries ≡ old.notes.journal.entries ++ e ∷ [] = c.enter.ensures.entries ∙ ap (λ l. l ++ e ∷ []) c.next.ensures.entries in
    let a = submitted old.notes.journal.entries c.enter.new.self.journal.entries e n in
    record {
      tells = submitted-told old.notes.journal.entries c.enter.new.self.journal.entries old.told.items old.under_way Open (ap (λ (x : Account). x.told) a) old.tells old.opens c.requires.shut refl;
      opens = ap (λ (x : Account). x.is_open) a;
    }

pub returns-in-Some-take-clause-given : goal.returns-in-Some-take-clause-given
returns-in-Some-take-clause-given c =
    let old = c.args.self.now in
    let o = c.in-Some-take.order in
    let e : Entry = record { stamp = c.in-Some-2.stamp; act = Submitted o.step o.batch } in
    let n : c.enter.new.self.journal.entries ≡ old.notes.journal.entries ++ e ∷ [] = c.enter.ensures.entries ∙ ap (λ l. l ++ e ∷ []) c.next.ensures.entries in
    let a = submitted old.notes.journal.entries c.enter.new.self.journal.entries e n in
    let k : c.args.kept.now ≡ Some o = sym c.take.ensures.value ∙ c.in-Some-take.is in
    submitted-given old.notes.journal.entries c.enter.new.self.journal.entries o c.args.kept.now c.take.new.self (ap (λ (x : Account). x.given) a) k c.take.ensures.after
