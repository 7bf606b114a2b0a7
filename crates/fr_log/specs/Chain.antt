-- What the pushes of a log are to one another.
use Rattle.std.specs.Prelude.{◌≡◌, ℕ, ◌<◌, ◌≤◌, nat_le, Bool, false, List, [], ◌∷◌, None, IsTrue, IsSome, IsNone, IfSome, All}
use Rattle.std.specs.List.{list_all}
use Rattle.fr_log.specs.Seed.{SeedContent, IsSeed}
use Rattle.fr_log.specs.Push.{PushContent, IsPush}
use Rattle.fr_log.specs.Left.{is_rising_popped}
use Rattle.fr_log.specs.LogState.{LogState, Header, holds, seeded_to_of, headers_of, durable_of, known_of}

-- each push follows the one before it, and the first one this version
abbrev pub IsChain : ℕ → List Header → Type 0
IsChain version [] = Unit {0}
IsChain version (h ∷ hs) = (h.prev ≡ version) × ((h.prev < h.version) × ((h.known ≤ h.prev) × IsChain h.version hs))

-- the first push is a mark, and no later one is
abbrev pub BeginsWithMark : List Header → Type 0
BeginsWithMark [] = Unit {0}
BeginsWithMark (h ∷ hs) = IsSome h.mark × All (λ later. IsNone later.mark) hs

-- a seed within its limits, of an epoch e and of tags that a log of it holds
pub record IsOwnSeed (e : ℕ) (is_mine : ℕ → Bool) (s : SeedContent) : Type 0 where
  pub within : IsSeed s
  pub epoch : s.epoch ≡ e
  pub tags : IsTrue (list_all (λ r. is_mine r.tag) s.records)

-- a push within its limits, of an epoch e and of tags that a log of it holds
pub record IsOwnPush (e : ℕ) (is_mine : ℕ → Bool) (p : PushContent) : Type 0 where
  pub within : IsPush p
  pub epoch : p.epoch ≡ e
  pub tags : IsTrue (list_all (λ b. is_mine b.tag) p.bodies)

-- what is true of every log: its pushes form one chain from its seed on, which begins with the mark; what is popped is known, and of
-- tags that it holds
pub record IsLog (l : LogState) : Type 0 where
  pub k_low : 1 ≤ l.k
  pub k_high : l.k ≤ l.m
  pub m_high : l.m ≤ 16
  pub index_high : l.index < l.m
  pub unseeded : l.seed ≡ None → l.pushes ≡ []
  pub unlocked : l.seed ≡ None → l.stopped ≡ false
  pub own_seed : IfSome l.seed (IsOwnSeed l.epoch (holds l))
  pub own_pushes : All (IsOwnPush l.epoch (holds l)) l.pushes
  pub chain : IsChain (seeded_to_of l.seed) (headers_of l)
  pub marked : BeginsWithMark (headers_of l)
  pub unpopped : l.seed ≡ None → l.popped ≡ []
  pub popped_rise : IsTrue (is_rising_popped 0 l.popped)
  pub popped_held : IsTrue (list_all (λ p. holds l p.tag) l.popped)
  pub popped_known : IsTrue (list_all (λ p. nat_le p.version (known_of l)) l.popped)

-- the two numbers that are kept beside what they are read off
pub record IsKept (l : LogState) (durable known : ℕ) : Type 0 where
  pub log : IsLog l
  pub durable_is : durable ≡ durable_of l
  pub known_is : known ≡ known_of l
