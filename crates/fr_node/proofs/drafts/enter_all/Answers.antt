-- An entry more, of the first draft that is left and what its ask was told.
use Rattle.std.proofs.Common.{◌++◌, [], ◌∷◌, length, map, List, sym, ap, ◌∙◌, subst, arith, append_assoc}
use Rattle.std.specs.Vec.Iter.{into_iter_items}
use Rattle.fr_audit_journal.specs.declared.act.Act.TheVariants as act
use Rattle.fr_audit_journal.specs.declared.act.Entry.{Entry}
use Rattle.fr_audit_journal.specs.Housing.{last_number}
use Rattle.fr_node.specs.Groups.{AreRising}
use Rattle.fr_node.specs.declared.drafts.Draft.{Draft}
use Rattle.fr_node.proofs.Grouped.{entered-step, last-entered}
use Rattle.fr_node.proofs.drafts.enter_all.Goals as goal

pub loop-draft-preserved : goal.loop-draft-preserved
loop-draft-preserved g c =
    let inv = c.loop-draft.invariant in
    let ds = into_iter_items c.loop-draft.draft-iterator in
    let rest = into_iter_items c.next.new.self in
    let xs = into_iter_items c.loop-draft.rest in
    let more = into_iter_items c.next-in-loop-draft.new.self in
    let d = c.in-Some.draft in
    let is = c.in-Some.ensures.steps.0 in
    let told = c.in-Some-next.ensures.items in
    let wt = g.M.Named.wrapped_tell in
    let es = c.loop-draft.entries.items in
    let e : Entry = record { stamp = d.stamp; act = act.Asked d.from d.ask c.wrap_tell.result } in
    let put = c.push_reserved.ensures.items ∙ ap (λ x. es ++ record { stamp = d.stamp; act = act.Asked d.from d.ask x } ∷ []) c.wrap_tell.ensures.value in
    record {
      can = tt;
      ends = tt;
      node = c.enter.ensures.node ∙ inv.node;
      made = entered-step ds rest (map wt xs) (map wt more) d (wt c.in-Some-next.tell) es c.push_reserved.new.self.items _ is (ap (map wt) told) put inv.made;
      course = c.enter.ensures.entries ∙ ap (λ (l : List Entry). l ++ e ∷ []) inv.course
          ∙ append_assoc c.args.course.now.entries es (e ∷ []) ∙ ap (λ (l : List Entry). c.args.course.now.entries ++ l) (sym c.push_reserved.ensures.items);
      many = let n = inv.many in let a = ap length is in let b = ap length told in omega arith;
      rise = subst (λ n. AreRising n rest) (sym (last-entered c.loop-draft.course.entries c.enter.new.self.entries e c.enter.ensures.entries))
          (subst (λ (l : List Draft). AreRising (last_number c.loop-draft.course.entries) l) is inv.rise).1;
      room = let room = inv.room in let more = ap length is in let long = c.push_reserved.ensures.len in let same = c.push_reserved.ensures.capacity in omega arith;
      course_room = let room = inv.course_room in let more = ap length is in let less = c.enter.ensures.room in omega arith;
    }
