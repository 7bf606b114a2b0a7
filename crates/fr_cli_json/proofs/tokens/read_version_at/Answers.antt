use Rattle.std.proofs.Common.{arith}
use Rattle.fr_cli_json.specs.Json.{version_of}
use Rattle.fr_cli_json.proofs.TokenLemmas.{member_read}
use Rattle.fr_cli_json.proofs.tokens.read_version_at.Goals as goal

pub returns-clause-value : goal.returns-clause-value
returns-clause-value c =
    member_read 124 c.args.name.now c.args.reader.now c.open_object.new.reader c.take_key.new.reader c.read_version.new.reader c.close_object.new.reader c.in_ok-version.version version_of (omega arith)
    c.in_ok-open_object.ensures c.in_ok-take_key.ensures (c.in_ok-version.ensures.value 123) c.in_ok-version.ensures.shorter c.in_ok-close_object.ensures
