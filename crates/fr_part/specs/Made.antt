-- Machines that are made: of numbers that are within their limits, and of a text.
use Rattle.std.specs.Prelude.{◌≡◌, ◌≢◌, ◌<◌, ◌≤◌, ◌+◌, ◌^◌, ◌⊎◌, ℕ, List, [], ◌∷◌, Option, IfSome}
use Rattle.fr_base.specs.Shape.{shape_of}
use Rattle.fr_state.specs.Generations.{CoordinatedState}
use Rattle.fr_state.specs.Spelling.{spelling}
use Rattle.fr_undo.specs.State.{fresh}
use Rattle.fr_undo.specs.Undo.{with_bytes}
use Rattle.fr_epoch.specs.Recoverer.{new_recoverer}
use Rattle.fr_proxy.specs.Proxy.{new_proxy}
use Rattle.fr_part.specs.Calls.{IsAmong}
use Rattle.fr_part.specs.Hear.{StandsAt}
use Rattle.fr_part.specs.declared.calls.making.ProxyNumbers.{ProxyNumbers}
use Rattle.fr_part.specs.declared.part.Part.{Part}
use Rattle.fr_part.specs.declared.part.Part.TheVariants as part
use Rattle.fr_part.specs.declared.seat.Seat.{Seat}
use Rattle.fr_part.specs.declared.said.Said.TheVariants as said

-- such a machine is there and took no turn yet, or all is as it was
abbrev pub IsMadeAs : ℕ → Option Seat → Option Seat → (Part → Type 0) → Type 0
IsMadeAs status old new Is =
    (status ≡ 0 → IfSome new (λ s. Is s.part × (s.said ≡ said.Nothing))) × (status ≢ 0 → new ≡ old)

-- why nothing is made: out of memory, a number beyond its limit, or a text that is none
abbrev pub IsUnmade : ℕ → Type 0
IsUnmade status = IsAmong (1 ∷ 6 ∷ 7 ∷ []) status

-- ---- numbers that are beyond their limits

-- an epoch is at least 256, and below 2^48
abbrev pub IsNoEpoch : ℕ → Type 0
IsNoEpoch epoch = (epoch < 256) ⊎ (2 ^ 48 ≤ epoch)

-- each tag is on one log at least and on all of them at most, and there are at most 16 logs
abbrev pub IsNoShape : ℕ → ℕ → Type 0
IsNoShape m k = (k < 1) ⊎ ((m < k) ⊎ (16 < m))

abbrev pub IsNoLog : ℕ → ℕ → ℕ → ℕ → Type 0
IsNoLog epoch index m k = IsNoEpoch epoch ⊎ (IsNoShape m k ⊎ (m ≤ index))

abbrev pub IsNoSequencer : ℕ → ℕ → Type 0
IsNoSequencer epoch last = IsNoEpoch epoch ⊎ (2 ^ 62 ≤ last)

abbrev pub IsNoProxy : ProxyNumbers → Type 0
IsNoProxy at = IsNoEpoch at.epoch ⊎ ((2 ^ 62 ≤ at.known) ⊎ ((15 < at.number) ⊎ IsNoShape at.m at.k))

-- a ballot is that of an epoch, there are 1 to 9 coordinators, and m and k are those of a shape, or both 0
abbrev pub IsNoRecoverer : ℕ → ℕ → ℕ → ℕ → Type 0
IsNoRecoverer ballot coordinators m k =
    IsNoEpoch ballot ⊎ ((coordinators < 1) ⊎ ((9 < coordinators) ⊎ (IsNoShape m k × (0 < m + k))))

-- ---- machines that are made of a text

abbrev pub IsProxyMade : ProxyNumbers → Part → Type 0
IsProxyMade at p =
    (begins : List (List ℕ)) × (p ≡ part.Proxy (new_proxy at.epoch at.number at.m at.k begins at.known))

abbrev pub IsRecovererMade : ℕ → ℕ → ℕ → ℕ → Part → Type 0
IsRecovererMade ballot coordinators m k p =
    (begins : List (List ℕ)) × (p ≡ part.Recoverer (new_recoverer ballot coordinators begins (shape_of m k)))

abbrev pub IsStorageMade : ℕ → Part → Type 0
IsStorageMade tag p =
    (x : CoordinatedState) × StandsAt p (record { tag = tag; state = x; store = with_bytes fresh (spelling x) })
