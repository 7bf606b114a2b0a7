use Rattle.std.proofs.Common.{◌≡◌, length}
use Rattle.fr_cli_json.proofs.HexLemmas.{in_pairs}
use Rattle.fr_cli_json.proofs.JsonLemmas.{joined}
use Rattle.fr_cli_json.proofs.hex_text.bytes_in.Given as goal

abbrev pub invariant-loop-rest : goal.invariant-loop-rest
invariant-loop-rest l = in_pairs l.text ≡ joined l.bytes.items (in_pairs l.rest)

abbrev pub decreases-loop-rest : goal.decreases-loop-rest
decreases-loop-rest l = length l.rest
