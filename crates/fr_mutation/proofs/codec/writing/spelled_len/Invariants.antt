use Rattle.std.proofs.Common.{◌≡◌, ◌+◌, ◌*◌, ◌≤◌, length, take}
use Rattle.std.specs.List.{flat_map}
use Rattle.fr_mutation.specs.CodecSpelling.{spelled_mutation}
use Rattle.fr_mutation.proofs.codec.writing.spelled_len.Given as goal

-- a front of the mutations is counted, and it fits
abbrev pub invariant-loop-mutation : goal.invariant-loop-mutation
invariant-loop-mutation l = record {
  counted : l.len ≡ 3 + length (flat_map spelled_mutation (take l.mutation-index l.mutations));
  fits : l.len ≤ 3 + 110007 * l.mutation-index;
}
