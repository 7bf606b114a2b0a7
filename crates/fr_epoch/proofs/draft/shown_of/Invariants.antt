use Rattle.std.proofs.Common.{◌≡◌, drop}
use Rattle.fr_epoch.specs.Dropping.{shown_of}
use Rattle.fr_epoch.proofs.Droppings.{with_rest}
use Rattle.fr_epoch.proofs.draft.shown_of.Given as goal

-- with what the others show it is what all show
abbrev pub invariant-loop-entry : goal.invariant-loop-entry
invariant-loop-entry l = with_rest l.greatest (shown_of (drop l.entry-index l.shown) l.tag) ≡ shown_of l.shown l.tag
