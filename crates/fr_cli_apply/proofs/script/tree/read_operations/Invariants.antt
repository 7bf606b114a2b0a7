use Rattle.std.proofs.Common.{◌≡◌}
use Rattle.serde_json.specs.View.{view, items_view}
use Rattle.fr_cli_json.specs.Json.{each_of}
use Rattle.fr_cli_apply.specs.Plan.{planned_of, plan_from}
use Rattle.fr_cli_json.proofs.JsonLemmas.{joined}
use Rattle.fr_cli_apply.proofs.script.tree.read_operations.Given as goal

abbrev pub invariant-loop-item : goal.invariant-loop-item
invariant-loop-item l = plan_from (view l.fn.script) ≡ joined l.operations.items (each_of planned_of (items_view l.item-iterator.rest.items))
