use Rattle.std.proofs.Common.{codes, arith}
use Rattle.fr_cli_apply.specs.Plan.{each_planned_of}
use Rattle.fr_cli_json.proofs.TokenLemmas.{member_read}
use Rattle.fr_cli_apply.proofs.ScriptLemmas.{whole_read}
use Rattle.fr_cli_apply.proofs.script.tokens.read_whole.Goals as goal

pub returns : goal.returns
returns c =
    let old = c.args.reader.now in
    let r = c.close_object.new.reader in
    let script = c.in_ok-operations.operations.items in
    whole_read 127 old r script (member_read 127 (codes "ops") old c.open_object.new.reader c.take_key.new.reader c.read_operations.new.reader r script each_planned_of (omega arith)
    c.in_ok-open_object.ensures c.in_ok-take_key.ensures c.in_ok-operations.ensures.value c.in_ok-operations.ensures.shorter c.in_ok-close_object.ensures)
