use Rattle.std.proofs.Common.{◌≡◌, drop}
use Rattle.fr_log.specs.Seed.{is_rising_from}
use Rattle.fr_log.proofs.seed.is_rising.Given as goal

-- the answer is that of the records that are left, from the last one on
abbrev pub invariant-loop-record : goal.invariant-loop-record
invariant-loop-record l = is_rising_from l.version l.tag (drop l.record-index l.records) ≡ is_rising_from 0 0 l.records
