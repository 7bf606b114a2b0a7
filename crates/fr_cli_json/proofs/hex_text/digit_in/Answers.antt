use Rattle.std.proofs.Common.{refl, arith}
use Rattle.fr_cli_json.specs.declared.hex_text.TheConstants.{DIGITS}
use Rattle.fr_cli_json.proofs.HexLemmas.{table_agrees}
use Rattle.fr_cli_json.proofs.hex_text.digit_in.Goals as goal

pub returns : goal.returns
returns c = table_agrees DIGITS refl c.args.byte (omega arith)
