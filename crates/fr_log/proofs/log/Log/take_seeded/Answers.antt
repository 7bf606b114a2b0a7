use Rattle.std.proofs.Common.{not, ap, ◌∙◌}
use Rattle.fr_log.specs.LogState.{holds}
use Rattle.fr_log.specs.Seeding.{is_empty, is_unpopped}
use Rattle.fr_log.proofs.SeedKept.{taken_is_kept, last_holds}
use Rattle.fr_log.proofs.log.Log.take_seeded.Goals as goal
use Rattle.fr_log.proofs.log.Log.take_seeded.Goals.{in-Some, in-None}

pub invariant_of-self : goal.invariant_of-self
invariant_of-self c =
    let held = ap (λ l. holds l c.args.next.tag) c.self.view_is ∙ last_holds (not c.args.self.now.stopped) (is_unpopped c.args.self.now.popped) (is_empty c.args.self.now.pushes) (holds c.args.self.now c.args.next.tag) c.is_seeding.result c.if-not-is_seeding.false c.is_seeding.ensures in
    elim c.match-self.branch [
      | in-Some w ↦ rw w.self-inside-is (taken_is_kept _ c.self.inside.durable c.self.inside.known w.in-Some.seed c.self.invariant w.in-Some.is c.args.next w.add.new.self w.add.result w.add.ensures.sound held w.add.ensures.after w.add.ensures.err)
      | in-None w ↦ rw w.self-inside-is c.self.invariant
    ]
