use Rattle.std.proofs.Common.{◌≡◌}
use Rattle.serde_json.specs.View.{view, items_view}
use Rattle.fr_cli_json.specs.Json.{each_of}
use Rattle.fr_cli_json.specs.Mutations.{mutation_of, batch_of}
use Rattle.fr_cli_json.proofs.JsonLemmas.{joined}
use Rattle.fr_cli_json.proofs.tree.mutations.read_batch.Given as goal

abbrev pub invariant-loop-item : goal.invariant-loop-item
invariant-loop-item l = batch_of (view l.fn.value) ≡ joined l.mutations.items (each_of mutation_of (items_view l.item-iterator.rest.items))
