-- A device that fails when it is told to.
use Rattle.std.specs.Prelude.{◌≡◌, ℕ, ◌+◌, ◌-◌, ◌^◌, min, Bool, true, false, nat_lt, ◌==◌, not, if◌then◌else◌}

pub record FaultyState (D : Type 0) : Type 0 where
  -- the device below
  pub device : D
  -- how many calls there were; at the greatest number of 64 bits the count stays
  pub calls : ℕ
  -- the number of the call that fails; the first call is number 1
  pub due : ℕ
  -- whether all later calls fail too
  pub is_lasting : Bool
  -- how often it failed
  pub failures : ℕ

-- the number after this one; the greatest number of 64 bits stays
abbrev pub one_more : ℕ → ℕ
one_more n = min (n + 1) (2 ^ 64 - 1)

-- whether the call of this number fails
abbrev pub is_due : {D : Type 0} → FaultyState D → ℕ → Bool
is_due f call = if f.is_lasting then not (nat_lt call f.due) else call == f.due

-- whether the next call fails
abbrev pub is_next_due : {D : Type 0} → FaultyState D → Bool
is_next_due f = is_due f (one_more f.calls)

-- one call led from f to g: one that is due does nothing and is counted as a failure, any other is the device's
pub record IsCall {D : Type 0} (Led : D → D → Type 0) (f g : FaultyState D) : Type 0 where
  pub calls : g.calls ≡ one_more f.calls
  pub due : g.due ≡ f.due
  pub is_lasting : g.is_lasting ≡ f.is_lasting
  pub fails : is_next_due f ≡ true → (g.device ≡ f.device) × (g.failures ≡ one_more f.failures)
  pub passes : is_next_due f ≡ false → Led f.device g.device
