use Rattle.std.proofs.Common.{◌≡◌, None, sym, ◌∙◌, ap}
use Rattle.fr_mutation.specs.Limits.{batch_fault}
use Rattle.fr_record_log.proofs.Lengths.{batch_short}
use Rattle.fr_record_log.proofs.Records.{ok_short}
use Rattle.fr_record_log.proofs.spelling.batch_bytes.Goals as goal

pub returns-clause-short : goal.returns-clause-short
returns-clause-short c =
    let within : batch_fault c.args.batch.now ≡ None = ap batch_fault (sym c.mutations-mutations.ensures.mutations) ∙ c.mutations-mutations.ensures.within in
    ok_short c.encode.result c.args.batch.now 110007003 c.encode.ensures (batch_short c.args.batch.now within)
