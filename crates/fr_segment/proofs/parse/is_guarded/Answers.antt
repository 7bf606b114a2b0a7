use Rattle.std.proofs.Common.{◌+◌, ◌≤◌, arith}
use Rattle.fr_segment.proofs.GuardBytes.{block_bare}
use Rattle.fr_segment.proofs.parse.is_guarded.Goals as goal

pub returns-in-Some-clause-no : goal.returns-in-Some-clause-no
returns-in-Some-clause-no c e =
    let found = c.in-Some.ensures.some in
    (block_bare c.args.bytes.now (c.args.end + 2) c.args.number _ found, omega (arith, found.within))
