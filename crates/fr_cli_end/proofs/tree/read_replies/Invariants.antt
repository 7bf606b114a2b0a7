use Rattle.std.proofs.Common.{◌≡◌}
use Rattle.serde_json.specs.View.{view, items_view}
use Rattle.fr_cli_json.specs.Json.{each_of}
use Rattle.fr_cli_json.proofs.JsonLemmas.{joined}
use Rattle.fr_cli_end.specs.Script.{reply_of, replies_from}
use Rattle.fr_cli_end.proofs.tree.read_replies.Given as goal

abbrev pub invariant-loop-item : goal.invariant-loop-item
invariant-loop-item l = replies_from (view l.fn.script) ≡ joined l.replies.items (each_of reply_of (items_view l.item-iterator.rest.items))
