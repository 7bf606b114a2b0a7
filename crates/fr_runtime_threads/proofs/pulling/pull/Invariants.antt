use Rattle.std.proofs.Common.{◌≡◌}
use Rattle.fr_base.specs.declared.place.NodeId.TheVariants.{Storage}
use Rattle.fr_runtime_threads.proofs.pulling.pull.Given as goal

abbrev pub invariant-loop-number : goal.invariant-loop-number
invariant-loop-number g l = l.puller.notes.journal.node ≡ Storage l.fn.storage.tag
