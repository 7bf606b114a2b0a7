use Rattle.std.proofs.Common.{◌≡◌, List, ℕ, Result, Err, ap}
use Rattle.std.specs.Prelude.{◌≢◌, ◌↔◌}
use Rattle.fr_mutation.specs.CodecReading.{decoded}
use Rattle.fr_mutation.specs.declared.codec.fault.DecodeFault.{DecodeFault}
use Rattle.fr_mutation.specs.declared.codec.fault.DecodeFault.TheVariants as fault
use Rattle.fr_part.specs.Answers.{IsNoBatch}
use Rattle.fr_part.proofs.calls.reading.read_batch.Goals as goal

-- bytes whose reading met a fault other than want of memory are no batch
none_decoded : {T : Type 0} (bytes : List ℕ) (met named : DecodeFault) → met ≡ named → named ≢ fault.Memory
    → ((f : DecodeFault) → f ≢ fault.Memory → (◌≡◌ {A = Result T DecodeFault} (Err met) (Err f)) ↔ (decoded bytes ≡ Err f)) → IsNoBatch bytes
none_decoded bytes met named is other refused = let e = (refused named other).0 (ap Err is) in rw e tt

pub returns-in-Err-Short-clause-bad_text : goal.returns-in-Err-Short-clause-bad_text
returns-in-Err-Short-clause-bad_text c =
    λ _. none_decoded c.args.bytes.now _ fault.Short c.in-Err-Short.field-0-is (λ e. cc) c.in-Err-Short.ensures.refused

pub returns-in-Err-UnknownKind-clause-bad_text : goal.returns-in-Err-UnknownKind-clause-bad_text
returns-in-Err-UnknownKind-clause-bad_text c =
    λ _. none_decoded c.args.bytes.now _ fault.UnknownKind c.in-Err-UnknownKind.field-0-is (λ e. cc) c.in-Err-UnknownKind.ensures.refused

pub returns-in-Err-OverLimit-clause-bad_text : goal.returns-in-Err-OverLimit-clause-bad_text
returns-in-Err-OverLimit-clause-bad_text c =
    λ _. none_decoded c.args.bytes.now _ fault.OverLimit c.in-Err-OverLimit.field-0-is (λ e. cc) c.in-Err-OverLimit.ensures.refused

pub returns-in-Err-Inverted-clause-bad_text : goal.returns-in-Err-Inverted-clause-bad_text
returns-in-Err-Inverted-clause-bad_text c =
    λ _. none_decoded c.args.bytes.now _ fault.Inverted c.in-Err-Inverted.field-0-is (λ e. cc) c.in-Err-Inverted.ensures.refused

pub returns-in-Err-NeedlessFormat-clause-bad_text : goal.returns-in-Err-NeedlessFormat-clause-bad_text
returns-in-Err-NeedlessFormat-clause-bad_text c =
    λ _. none_decoded c.args.bytes.now _ fault.NeedlessFormat c.in-Err-NeedlessFormat.field-0-is (λ e. cc) c.in-Err-NeedlessFormat.ensures.refused
