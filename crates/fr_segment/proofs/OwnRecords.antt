-- The records of a pair by their place, and a fault while it works.
use Rattle.std.proofs.Common.{◌≡◌, ℕ, zero, suc, ◌+◌, ◌≤◌, Bool, true, false, ◌||◌, List, [], ◌∷◌, length, drop, None, refl, ap, ◌∙◌, arith}
use Rattle.fr_record.specs.declared.fault.RecordFault.{RecordFault}
use Rattle.fr_record.specs.declared.fault.RecordFault.TheVariants.{Memory}
use Rattle.fr_record.specs.Fault.{is_device}
use Rattle.fr_record.specs.State.{record_at}
use Rattle.fr_segment.specs.declared.health.Health.{Health}
use Rattle.fr_segment.specs.declared.health.Health.TheVariants.{Works, Failed, Appending, Replacing}
use Rattle.fr_segment.specs.Health.{has_failed, failed_now}

-- there is none past the end
pub record_behind : (rs : List (List ℕ)) (i : ℕ) → length rs ≤ i → record_at rs i ≡ None
record_behind [] i past = refl
record_behind (r ∷ rs) zero past = absurd (omega (arith, past))
record_behind (r ∷ rs) (suc i) past = record_behind rs i (omega (arith, past))

-- behind the header
pub own_at : (rs : List (List ℕ)) (i : ℕ) → record_at rs (i + 1) ≡ record_at (drop 1 rs) i
own_at [] i = refl
own_at (r ∷ rs) i = let e : i + 1 ≡ suc i = omega arith in ap (λ (k : ℕ). record_at (r ∷ rs) k) e

-- a pair that worked has failed then, with nothing in flight
pub failed_first : (health : Health) → has_failed health ≡ false → failed_now health ≡ Failed
failed_first Works works = refl
failed_first Failed works = absurd (cc works)
failed_first (Appending put) works = absurd (cc works)
failed_first (Replacing put) works = absurd (cc works)

-- a call that meets no fault of the device leaves the file failed only if it was
pub still_flag : (now before : Bool) → now ≡ (before || false) → now ≡ before
still_flag now true is = is
still_flag now false is = is

pub kept_flag : (now before : Bool) (fault : RecordFault) → fault ≡ Memory → now ≡ (before || is_device fault) → now ≡ before
kept_flag now true fault e is = is
kept_flag now false fault e is = is ∙ ap is_device e
