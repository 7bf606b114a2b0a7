-- Devices that fail before a file is there.
use Rattle.std.specs.Prelude.{◌≡◌, ℕ, ◌+◌, ◌-◌, ◌^◌, min}

module _ {D : Type 0} (failures_of : D → ℕ) where
  -- the device, which went with the refusal, had come to where its count of failures is one more
  abbrev pub FailsOnceMore : D → Type 0
  FailsOnceMore device = (later : D) × (failures_of later ≡ min (failures_of device + 1) (2 ^ 64 - 1))
