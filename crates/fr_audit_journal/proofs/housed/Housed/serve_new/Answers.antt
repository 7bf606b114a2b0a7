use Rattle.std.proofs.Common.{refl, sym, ap, ◌∙◌, ◌≡◌, ◌++◌, ◌∷◌, [], false}
use Rattle.fr_audit_journal.specs.declared.act.Act.TheVariants as act
use Rattle.fr_audit_journal.specs.declared.act.Entry.{Entry}
use Rattle.fr_audit_journal.specs.Replays.{steps, gone_at_end}
use Rattle.fr_audit_journal.specs.Housing.{Housing, is_gone}
use Rattle.fr_audit_journal.proofs.Appended.{asked-housed, gone-asked}
use Rattle.fr_audit_journal.proofs.housed.Housed.serve_new.Goals as goal

pub invariant_of-self : goal.invariant_of-self
invariant_of-self g c =
    let i = c.self.invariant in
    let N = g.N.Plain.Named in
    let M = g.N.Plain.Machine in
    let m = steps N.wrapped N.unwrapped N.wrapped_tell M.told M.after in
    let old : Housing g.row.N.Denot g.row.N-Plain.Denot g.row.N-Plain-Ask.Denot = record { node = c.self.inside.node; place = c.self.inside.journal.node; first = c.self.inside.first.value; entries = c.self.inside.journal.entries; state = g.N.Node.state c.self.inside.node; is_failed = g.N.Node.is_failed c.self.inside.node; kept = c.self.inside.kept } in
    let new : Housing g.row.N.Denot g.row.N-Plain.Denot g.row.N-Plain-Ask.Denot = record { node = c.served.new.node; place = c.push_reserved.new.self.node; first = c.self.inside.first.value; entries = c.push_reserved.new.self.entries; state = g.N.Node.state c.served.new.node; is_failed = g.N.Node.is_failed c.served.new.node; kept = c.self.inside.kept } in
    let there : is_gone old ≡ false = ap is_gone c.self.view_is ∙ c.requires.there in
    let free = ap (λ h. h.kept) c.self.view_is ∙ c.requires.works.1 in
    let own = ap N.unwrapped (sym c.wrap-ask.ensures.value) ∙ c.wrap-ask.ensures.back in
    let e : Entry = record { stamp = c.args.stamp; act = act.Asked c.args.from (N.wrapped c.args.ask) (N.wrapped_tell (M.told old.state c.args.ask)) } in
    let tell = c.wrap_tell-tell.ensures.value ∙ ap N.wrapped_tell c.in-Ok.ensures.told in
    let entries : c.push_reserved.new.self.entries ≡ c.self.inside.journal.entries ++ e ∷ [] = c.push_reserved.ensures.entries ∙ rw (c.served.ensures.entries, c.wrap-ask.ensures.value, tell) refl in
    let place = c.push_reserved.ensures.node ∙ c.served.ensures.place in
    let r = asked-housed m M.IsReached old new (g.N.Node.owed c.self.inside.node) (g.N.Node.owed c.served.new.node) c.args.stamp c.args.from c.args.ask c.repeat_law.ensures.stays i.0 there free own place refl entries c.in-Ok.ensures.after free c.in-Ok.ensures.owes_none in
    let gone : gone_at_end old.place false (old.entries ++ e ∷ []) ≡ gone_at_end old.place false old.entries = gone-asked old.place old.entries c.args.stamp c.args.from (N.wrapped c.args.ask) (N.wrapped_tell (M.told old.state c.args.ask)) in
    (r, i.1 ∙ (c.in-Ok.ensures.works ∙ sym (c.served.ensures.fails ∙ rw (c.in-Ok.ensures.works, c.in-Ok.is) refl)), i.2 ∙ (sym gone ∙ rw (place, entries) refl))
