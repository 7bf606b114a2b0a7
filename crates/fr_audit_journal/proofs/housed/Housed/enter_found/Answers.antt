use Rattle.std.proofs.Common.{refl, sym, ap, subst, ◌∙◌, ◌≡◌, ◌++◌, ◌∷◌, [], Some, false}
use Rattle.fr_audit_journal.specs.Replays.{steps, gone_at_end}
use Rattle.fr_audit_journal.specs.Housing.{Housing, before, is_gone, left_kept, found_entry}
use Rattle.fr_audit_journal.proofs.Appended.{found-housed, found-free, found-told, gone-asked}
use Rattle.fr_audit_journal.proofs.housed.Housed.enter_found.Goals as goal

pub invariant_of-self-in-Ok : goal.invariant_of-self-in-Ok
invariant_of-self-in-Ok g c =
    let i = c.self.invariant in
    let N = g.N.Plain.Named in
    let M = g.N.Plain.Machine in
    let m = steps N.wrapped N.unwrapped N.wrapped_tell M.told M.after in
    let old : Housing g.row.N.Denot g.row.N-Plain.Denot g.row.N-Plain-Ask.Denot = record { node = c.self.inside.node; place = c.self.inside.journal.node; first = c.self.inside.first.value; entries = c.self.inside.journal.entries; state = g.N.Node.state c.self.inside.node; is_failed = g.N.Node.is_failed c.self.inside.node; kept = c.self.inside.kept } in
    let new : Housing g.row.N.Denot g.row.N-Plain.Denot g.row.N-Plain-Ask.Denot = record { node = c.served.new.node; place = c.push_reserved.new.self.node; first = c.self.inside.first.value; entries = c.push_reserved.new.self.entries; state = g.N.Node.state c.served.new.node; is_failed = g.N.Node.is_failed c.served.new.node; kept = c.take.new.self } in
    let k = c.in-Some.kept in
    let there : is_gone old ≡ false = ap is_gone c.self.view_is ∙ c.requires.there in
    let works = ap (λ h. h.is_failed) c.self.view_is ∙ c.requires.works in
    let kept : old.kept ≡ Some k = sym c.take.ensures.value ∙ c.in-Some.is in
    let left : left_kept old.kept ≡ old.kept = subst (λ h. left_kept h.kept ≡ h.kept) (sym c.self.view_is) c.requires.found in
    let own = ap N.unwrapped (sym c.wrap-ask.ensures.value) ∙ c.wrap-ask.ensures.back in
    let told = found-told m M.IsReached old (g.N.Node.owed c.self.inside.node) k i.0 kept left (λ s a h. ap N.wrapped_tell (c.repeat_law.ensures.told s a h)) in
    let tell = c.wrap_tell-tell.ensures.value ∙ (ap N.wrapped_tell c.in-Ok.ensures.told ∙ told) in
    let entries : c.push_reserved.new.self.entries ≡ c.self.inside.journal.entries ++ found_entry m (before m old) k ∷ [] = c.push_reserved.ensures.entries ∙ rw (c.served.ensures.entries, c.wrap-ask.ensures.value, tell) refl in
    let place = c.push_reserved.ensures.node ∙ c.served.ensures.place in
    let free = c.in-Ok.ensures.owes_none ∙ found-free m M.IsReached old (g.N.Node.owed c.self.inside.node) k i.0 kept left works in
    let r = found-housed m M.IsReached old new (g.N.Node.owed c.self.inside.node) (g.N.Node.owed c.served.new.node) k c.repeat_law.ensures.stays c.repeat_law.ensures.after i.0 there kept left own place refl entries c.in-Ok.ensures.after c.take.ensures.after free in
    let gone : gone_at_end old.place false (old.entries ++ found_entry m (before m old) k ∷ []) ≡ gone_at_end old.place false old.entries = gone-asked old.place old.entries k.stamp k.from (N.wrapped k.ask) (m.told (before m old) k.ask) in
    (r, i.1 ∙ (works ∙ sym (c.served.ensures.fails ∙ rw (works, c.in-Ok.is) refl)), i.2 ∙ (sym gone ∙ rw (place, entries) refl))

pub returns-in-Ok-clause-there : goal.returns-in-Ok-clause-there
returns-in-Ok-clause-there g c =
    let i = c.self.invariant in
    let N = g.N.Plain.Named in
    let M = g.N.Plain.Machine in
    let m = steps N.wrapped N.unwrapped N.wrapped_tell M.told M.after in
    let old : Housing g.row.N.Denot g.row.N-Plain.Denot g.row.N-Plain-Ask.Denot = record { node = c.self.inside.node; place = c.self.inside.journal.node; first = c.self.inside.first.value; entries = c.self.inside.journal.entries; state = g.N.Node.state c.self.inside.node; is_failed = g.N.Node.is_failed c.self.inside.node; kept = c.self.inside.kept } in
    let k = c.in-Some.kept in
    let there : is_gone old ≡ false = ap is_gone c.self.view_is ∙ c.requires.there in
    let kept : old.kept ≡ Some k = sym c.take.ensures.value ∙ c.in-Some.is in
    let left : left_kept old.kept ≡ old.kept = subst (λ h. left_kept h.kept ≡ h.kept) (sym c.self.view_is) c.requires.found in
    let own = ap N.unwrapped (sym c.wrap-ask.ensures.value) ∙ c.wrap-ask.ensures.back in
    let told = found-told m M.IsReached old (g.N.Node.owed c.self.inside.node) k i.0 kept left (λ s a h. ap N.wrapped_tell (c.repeat_law.ensures.told s a h)) in
    let tell = c.wrap_tell-tell.ensures.value ∙ (ap N.wrapped_tell c.in-Ok.ensures.told ∙ told) in
    let entries : c.push_reserved.new.self.entries ≡ c.self.inside.journal.entries ++ found_entry m (before m old) k ∷ [] = c.push_reserved.ensures.entries ∙ rw (c.served.ensures.entries, c.wrap-ask.ensures.value, tell) refl in
    let place = c.push_reserved.ensures.node ∙ c.served.ensures.place in
    let gone : gone_at_end old.place false (old.entries ++ found_entry m (before m old) k ∷ []) ≡ gone_at_end old.place false old.entries = gone-asked old.place old.entries k.stamp k.from (N.wrapped k.ask) (m.told (before m old) k.ask) in
    let x : gone_at_end c.push_reserved.new.self.node false c.push_reserved.new.self.entries ≡ false = rw (place, entries) (gone ∙ there) in
    x
