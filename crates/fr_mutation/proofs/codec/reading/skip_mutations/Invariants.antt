use Rattle.std.proofs.Common.{◌≡◌, ◌-◌}
use Rattle.fr_mutation.specs.CodecReading.{mutations_at, found_in}
use Rattle.fr_mutation.proofs.CodecLoops.{with_found}
use Rattle.fr_mutation.proofs.codec.reading.skip_mutations.Given as goal

-- what was found and what is still skipped are all that is found, and end where all of it does
abbrev pub invariant-loop : goal.invariant-loop
invariant-loop l = with_found l.found (found_in (mutations_at l.format (l.count - l.counter) l.rest)) ≡ found_in (mutations_at l.format l.count l.bytes)
