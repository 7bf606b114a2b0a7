use Rattle.std.proofs.Common.{refl, sym, ap, ◌∙◌, ◌≡◌, ◌++◌, ◌∷◌, [], false}
use Rattle.fr_audit_journal.specs.declared.act.Entry.{Entry}
use Rattle.fr_audit_journal.specs.Replays.{steps, gone_after}
use Rattle.fr_audit_journal.specs.Housing.{Housing, end_of, is_gone}
use Rattle.fr_audit_journal.proofs.Appended.{end-is, ended-housed, gone-append}
use Rattle.fr_audit_journal.proofs.housed.Housed.enter_end.Goals as goal

pub invariant_of-self-2 : goal.invariant_of-self-2
invariant_of-self-2 g c =
    let i = c.self.invariant in
    let N = g.N.Plain.Named in
    let M = g.N.Plain.Machine in
    let m = steps N.wrapped N.unwrapped N.wrapped_tell M.told M.after in
    let old : Housing g.row.N.Denot g.row.N-Plain.Denot g.row.N-Plain-Ask.Denot = record { node = c.self.inside.node; place = c.self.inside.journal.node; first = c.self.inside.first.value; entries = c.self.inside.journal.entries; state = g.N.Node.state c.self.inside.node; is_failed = g.N.Node.is_failed c.self.inside.node; kept = c.self.inside.kept } in
    let new : Housing g.row.N.Denot g.row.N-Plain.Denot g.row.N-Plain-Ask.Denot = record { node = c.self.inside.node; place = c.push_reserved.new.self.node; first = c.self.inside.first.value; entries = c.push_reserved.new.self.entries; state = g.N.Node.state c.self.inside.node; is_failed = g.N.Node.is_failed c.self.inside.node; kept = c.self.inside.kept } in
    let there : is_gone old ≡ false = ap is_gone c.self.view_is ∙ c.requires.there in
    let kept = ap (λ h. h.kept) c.self.view_is ∙ c.requires.works.1 in
    let e : Entry = record { stamp = c.args.stamp; act = end_of c.args.is_lost } in
    let entries : c.push_reserved.new.self.entries ≡ c.self.inside.journal.entries ++ e ∷ [] = c.push_reserved.ensures.entries ∙ rw (c.reserve.ensures.entries, c.end_of-act.ensures) refl in
    let place = c.push_reserved.ensures.node ∙ c.reserve.ensures.node in
    let r = ended-housed m M.IsReached old new (g.N.Node.owed c.self.inside.node) e i.0 there kept (end-is c.args.is_lost) place refl entries refl kept in
    let gone = gone-append old.place false old.entries e in
    (r, i.1, (c.is_gone_after-self-inside.ensures ∙ ap (λ n. gone_after n false e.act) (c.node.ensures ∙ c.reserve.ensures.node)) ∙ (sym (gone ∙ ap (λ b. gone_after old.place b e.act) there) ∙ rw (place, entries) refl))
