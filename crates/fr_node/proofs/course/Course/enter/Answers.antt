-- The last stamp and the rise of the stamps, with one entry more.
use Rattle.std.proofs.Common.{subst, sym}
use Rattle.fr_audit_journal.specs.Journal.{IsAbove}
use Rattle.fr_node.specs.Courses.{CourseState}
use Rattle.fr_node.proofs.Courses.{entered}
use Rattle.fr_node.proofs.course.Course.enter.Goals as goal

pub invariant_of-self : goal.invariant_of-self
invariant_of-self c =
    entered (λ s. s.value) c.self.inside.entries.items c.push_reserved.new.self.items c.of.result c.args.entry.now c.self.invariant.1
    (subst (λ (s : CourseState). IsAbove s.entries c.args.entry.now.stamp) (sym c.self.view_is) c.requires.rises) c.push_reserved.ensures.items c.of.ensures
