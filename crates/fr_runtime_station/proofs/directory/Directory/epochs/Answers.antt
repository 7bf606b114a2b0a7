use Rattle.std.proofs.Common.{ap, ◌∙◌}
use Rattle.std.specs.List.{slice_get}
use Rattle.fr_runtime_station.proofs.Places.{first-stays}
use Rattle.fr_runtime_station.proofs.directory.Directory.epochs.Goals as goal
use Rattle.fr_runtime_station.proofs.directory.Directory.epochs.Goals.{in-Some+in_ok-push-2, in_default}

pub loop-nodes-preserved : goal.loop-nodes-preserved
loop-nodes-preserved g c = elim c.match-chosen.branch [
  | in-Some+in_ok-push-2 w ↦
      ap (λ all. slice_get all.items 0) w.all-is
      ∙ (ap (λ items. slice_get items 0) w.in_ok-push-2.ensures.items ∙ first-stays c.loop-nodes.all.items c.args.self.now.first.chosen w.in-Some.chosen c.loop-nodes.invariant)
  | in_default w ↦ ap (λ all. slice_get all.items 0) w.all-is ∙ c.loop-nodes.invariant
]
