use Rattle.std.proofs.Common.{◌≡◌, ◌-◌}
use Rattle.fr_mutation.specs.CodecReading.{mutations_at}
use Rattle.fr_mutation.proofs.CodecLoops.{with_front}
use Rattle.fr_mutation.proofs.codec.reading.copy_mutations.Given as goal

-- what was copied and what is still read are all that is read
abbrev pub invariant-loop : goal.invariant-loop
invariant-loop l = with_front l.mutations.items (mutations_at l.format (l.count - l.counter) l.rest) ≡ mutations_at l.format l.count l.bytes
