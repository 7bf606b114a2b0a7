-- Why there is no cell or log over a device.
use Rattle.std.specs.Prelude.{◌≡◌, ◌⊎◌, ◌<◌, ℕ}
use Rattle.fr_base.specs.declared.node.NodeFault.{NodeFault}
use Rattle.fr_base.specs.declared.node.NodeFault.TheVariants.{Device, Full}
use Rattle.fr_record.specs.Failing.{FailsOnceMore}

-- the device was refused; or it is there, and fails when its file is made; or it has room for nothing
abbrev pub IsRefusal : {D : Type 0} → (NodeFault → Type 0) → (D → ℕ) → ℕ → NodeFault → Type 0
IsRefusal {D = D} CanRefuse failures_of room fault =
    CanRefuse fault
    ⊎ ((fault ≡ Device) × ((device : D) × FailsOnceMore failures_of device))
    ⊎ ((fault ≡ Full) × (room < 1))
