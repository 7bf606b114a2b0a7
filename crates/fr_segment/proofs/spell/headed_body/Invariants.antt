use Rattle.std.proofs.Common.{◌≡◌, ◌∷◌, take}
use Rattle.fr_segment.specs.File.{body}
use Rattle.fr_segment.specs.Group.{records_of}
use Rattle.fr_segment.proofs.spell.headed_body.Given as goal

abbrev pub invariant-loop-payload : goal.invariant-loop-payload
invariant-loop-payload l = record { bytes : l.bytes.items ≡ body (l.header ∷ records_of (take l.payload-index l.group)) }
