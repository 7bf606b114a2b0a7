use Rattle.std.proofs.Common.{arith}
use Rattle.fr_cli_end.proofs.ScriptLemmas.{three_read}
use Rattle.fr_cli_end.proofs.tokens.read_reply.Goals as goal

pub returns-then-take_end_array-clause-value : goal.returns-then-take_end_array-clause-value
returns-then-take_end_array-clause-value c =
    three_read 125 c.args.reader.now c.open_array.new.reader c.read_index.new.reader c.read_version.new.reader c.read_version-2.new.reader c.take_end_array.new.self c.in_ok-log.log c.in_ok-durable.durable c.in_ok-known.known (omega arith)
    c.in_ok-open_array.ensures (c.in_ok-log.ensures.value 124) c.in_ok-log.ensures.shorter (c.in_ok-durable.ensures.value 124) c.in_ok-durable.ensures.shorter (c.in_ok-known.ensures.value 124) c.in_ok-known.ensures.shorter c.if-take_end_array.ensures
