-- The headers of a log's pushes, held as runs that go evenly.
use Rattle.std.specs.Prelude.{ℕ, zero, suc, ◌+◌, ◌*◌, ◌<◌, ◌≤◌, ◌^◌, Bool, ◌==◌, ◌&&◌, is_none, List, [], ◌∷◌, ◌++◌, map, length, Option, None, Some}
use Rattle.std.specs.List.{AllByRecursion}
use Rattle.fr_state.specs.Generations.{CoordinatedState}
use Rattle.fr_log.specs.declared.pushes.header.PushHeader.{PushHeader}
use Rattle.fr_log.specs.declared.pushes.header.PushNumbers.{PushNumbers}
use Rattle.fr_log.specs.Push.{PushContent}

-- the header that follows one evenly: no mark, of the same epoch, its version and what is known greater by a step
abbrev pub next : PushHeader → ℕ → PushHeader
next h step = record { epoch = h.epoch; prev = h.version; version = h.version + step; known = h.known + step; mark = None }

-- a header, and so many more that follow evenly
unfoldable pub evenly : PushHeader → ℕ → ℕ → List PushHeader
evenly h step zero = h ∷ []
evenly h step (suc more) = h ∷ evenly (next h step) step more

-- a run has a step, and its versions are in range
pub record IsRun (h : PushHeader) (step more : ℕ) : Type 0 where
  pub steps : 1 ≤ step
  pub within : h.version + more * step < 2 ^ 62

-- the headers of runs, one run after the other
unfoldable pub headers_in : List (List PushHeader) → List PushHeader
headers_in [] = []
headers_in (r ∷ rs) = r ++ headers_in rs

-- no run is without headers
abbrev pub AreRuns : List (List PushHeader) → Type 0
AreRuns rs = AllByRecursion (λ r. 0 < length r) rs

-- the version of the first header, 0 if there is none
abbrev pub begins : List PushHeader → ℕ
begins [] = 0
begins (h ∷ hs) = h.version

-- the mark of the first header, if it has one
abbrev pub first_mark : List PushHeader → Option CoordinatedState
first_mark [] = None
first_mark (h ∷ hs) = h.mark

-- the version of the header at a place, if there is one
abbrev pub version_at : List PushHeader → ℕ → Option ℕ
version_at [] place = None
version_at (h ∷ hs) zero = Some h.version
version_at (h ∷ hs) (suc place) = version_at hs place

-- whether a push is no mark, of this epoch, and behind this version
abbrev pub follows_as : PushContent → ℕ → ℕ → Bool
follows_as p epoch prev = (p.epoch == epoch) && ((p.prev == prev) && is_none p.mark)

-- whether a header is no mark, and of this epoch, behind this version and with so much known
abbrev pub is_numbered : PushHeader → ℕ → ℕ → ℕ → Bool
is_numbered h epoch prev known = (h.epoch == epoch) && ((h.prev == prev) && ((h.known == known) && is_none h.mark))

-- the numbers of headers
abbrev pub numbers_in : List PushHeader → List PushNumbers
numbers_in hs = map (λ h. record { prev = h.prev; version = h.version; known = h.known }) hs
