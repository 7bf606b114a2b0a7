-- What is told of a refusal, where the only faults are the device's and want of memory.
use Rattle.std.proofs.Common.{◌≡◌, ◌⊎◌, inl, inr, Bool, true, false, ◌||◌, List, refl, sym, ap, ◌∙◌}
use Rattle.std.specs.Prelude.{Result, Ok, Err, OnOk, OnErr, IfErr}
use Rattle.fr_record.specs.declared.fault.RecordFault.{RecordFault}
use Rattle.fr_record.specs.declared.fault.RecordFault.TheVariants.{Device, Full, Failed, Memory, Broken}
use Rattle.fr_record.specs.Fault.{is_device, met_device}
use Rattle.fr_segment.specs.declared.health.Health.{Health}
use Rattle.fr_segment.specs.File.{Group}
use Rattle.fr_segment.specs.Health.{has_failed, failed_now, owed_by}
use Rattle.fr_segment.specs.Turns.{own_records}
use Rattle.fr_segment.proofs.Reopening.{owed_still, failed_has}

pub on_ok : {X E : Type 0} (A B : Type 0) (r : Result X E) → (A → B) → OnOk r A → OnOk r B
on_ok A B (Ok x) f it = f it
on_ok A B (Err e) f it = tt

pub on_err : {X E : Type 0} (A B : Type 0) (r : Result X E) → (A → B) → OnErr r A → OnErr r B
on_err A B (Ok x) f it = tt
on_err A B (Err e) f it = f it

-- another fault never comes
pub not_of : (fault other : RecordFault) → (fault ≡ Device) ⊎ (fault ≡ Memory) → (other ≡ Device → ⊥) → (other ≡ Memory → ⊥) → fault ≡ other → ⊥
not_of fault other (inl device) no_device no_memory is = no_device (sym is ∙ device)
not_of fault other (inr memory) no_device no_memory is = no_memory (sym is ∙ memory)

pub never_of : {X : Type 0} (r : Result X RecordFault) (other : RecordFault) → IfErr r (λ fault. (fault ≡ Device) ⊎ (fault ≡ Memory)) → (other ≡ Device → ⊥) → (other ≡ Memory → ⊥) → r ≡ Err other → ⊥
never_of (Ok x) other only no_device no_memory is = cc is
never_of (Err fault) other only no_device no_memory is = let same : fault ≡ other = cc is in not_of fault other only no_device no_memory same

-- what is owed stays, and the pair has failed if it had or the device failed
pub owes_err : (fault : RecordFault) (now before : List Group) (after health : Health) → now ≡ before → ((fault ≡ Device → ⊥) → after ≡ health) → (fault ≡ Device → after ≡ failed_now health) → owed_by (own_records now) after ≡ owed_by (own_records before) health
owes_err Device now before after health same else_so fails = ap (λ gs. owed_by (own_records gs) after) same ∙ ap (λ h. owed_by (own_records before) h) (fails refl) ∙ owed_still (own_records before) health
owes_err Full now before after health same else_so fails = ap (λ gs. owed_by (own_records gs) after) same ∙ ap (λ h. owed_by (own_records before) h) (else_so (λ e. cc e))
owes_err Failed now before after health same else_so fails = ap (λ gs. owed_by (own_records gs) after) same ∙ ap (λ h. owed_by (own_records before) h) (else_so (λ e. cc e))
owes_err Memory now before after health same else_so fails = ap (λ gs. owed_by (own_records gs) after) same ∙ ap (λ h. owed_by (own_records before) h) (else_so (λ e. cc e))
owes_err Broken now before after health same else_so fails = ap (λ gs. owed_by (own_records gs) after) same ∙ ap (λ h. owed_by (own_records before) h) (else_so (λ e. cc e))

or_true : (b : Bool) → (b || true) ≡ true
or_true true = refl
or_true false = refl

or_false : (b : Bool) → (b || false) ≡ b
or_false true = refl
or_false false = refl

pub fails_err : (fault : RecordFault) (after health : Health) → ((fault ≡ Device → ⊥) → after ≡ health) → (fault ≡ Device → after ≡ failed_now health) → has_failed after ≡ (has_failed health || is_device fault)
fails_err Device after health else_so fails = ap has_failed (fails refl) ∙ failed_has health ∙ sym (or_true (has_failed health))
fails_err Full after health else_so fails = ap has_failed (else_so (λ e. cc e)) ∙ sym (or_false (has_failed health))
fails_err Failed after health else_so fails = ap has_failed (else_so (λ e. cc e)) ∙ sym (or_false (has_failed health))
fails_err Memory after health else_so fails = ap has_failed (else_so (λ e. cc e)) ∙ sym (or_false (has_failed health))
fails_err Broken after health else_so fails = ap has_failed (else_so (λ e. cc e)) ∙ sym (or_false (has_failed health))

module _ {X : Type 0} (r : Result X RecordFault) (now before : List Group) (after health : Health) where
  pub owes_still : OnErr r (now ≡ before) → OnErr r ((r ≡ Err Device → ⊥) → after ≡ health) → (r ≡ Err Device → after ≡ failed_now health) → OnErr r (owed_by (own_records now) after ≡ owed_by (own_records before) health)
  owes_still = go r
    where
      go : (s : Result X RecordFault) → OnErr s (now ≡ before) → OnErr s ((s ≡ Err Device → ⊥) → after ≡ health) → (s ≡ Err Device → after ≡ failed_now health) → OnErr s (owed_by (own_records now) after ≡ owed_by (own_records before) health)
      go (Ok x) same else_so fails = tt
      go (Err fault) same else_so fails = owes_err fault now before after health same (λ never. else_so (λ e. never (cc e))) (λ e. fails (ap (λ f. Err f) e))

  pub fails_so : OnErr r ((r ≡ Err Device → ⊥) → after ≡ health) → (r ≡ Err Device → after ≡ failed_now health) → OnErr r (has_failed after ≡ (has_failed health || met_device r))
  fails_so = go r
    where
      go : (s : Result X RecordFault) → OnErr s ((s ≡ Err Device → ⊥) → after ≡ health) → (s ≡ Err Device → after ≡ failed_now health) → OnErr s (has_failed after ≡ (has_failed health || met_device s))
      go (Ok x) else_so fails = tt
      go (Err fault) else_so fails = fails_err fault after health (λ never. else_so (λ e. never (cc e))) (λ e. fails (ap (λ f. Err f) e))

  -- of a pair that had failed before
  pub owes_same : OnErr r (now ≡ before) → OnErr r (after ≡ health) → OnErr r (owed_by (own_records now) after ≡ owed_by (own_records before) health)
  owes_same = go r
    where
      go : (s : Result X RecordFault) → OnErr s (now ≡ before) → OnErr s (after ≡ health) → OnErr s (owed_by (own_records now) after ≡ owed_by (own_records before) health)
      go (Ok x) same still = tt
      go (Err fault) same still = ap (λ gs. owed_by (own_records gs) after) same ∙ ap (λ h. owed_by (own_records before) h) still

  pub fails_same : has_failed health ≡ true → OnErr r (after ≡ health) → OnErr r (has_failed after ≡ (has_failed health || met_device r))
  fails_same failed = go r
    where
      go : (s : Result X RecordFault) → OnErr s (after ≡ health) → OnErr s (has_failed after ≡ (has_failed health || met_device s))
      go (Ok x) still = tt
      go (Err fault) still = ap has_failed still ∙ failed ∙ sym (ap (λ (b : Bool). b || is_device fault) failed)
