-- What covering is for: as long as more than m - k logs reply, each tag has a holder among them.
use Rattle.std.specs.Prelude.{◌≡◌, ℕ, ◌+◌, ◌<◌, ◌≤◌, ◌↔◌, false, nat_eq, List, length, IsTrue, All, Contains}
use Rattle.std.specs.List.{IsDistinct}
use Rattle.fr_tags.specs.Placement.{holders, is_held, log_count, covers}

-- n distinct logs of the m
pub record AreDistinctLogs (m n : ℕ) (logs : List ℕ) : Type 0 where
  pub many : length logs ≡ n
  pub distinct : IsDistinct nat_eq logs
  pub below : All (λ log. log < m) logs

-- the holders of a tag are k distinct logs
abbrev pub EachTagHasHolders : Type 0
EachTagHasHolders = (t m k : ℕ) → k ≤ m → AreDistinctLogs m k (holders t m k)

-- a log holds a tag exactly if it is one of its holders
abbrev pub HeldByHolders : Type 0
HeldByHolders = (t m k log : ℕ) → IsTrue (is_held t m k log) ↔ Contains (holders t m k) log

-- a covering set has a holder of every tag
abbrev pub CoveringMeetsEachTag : Type 0
CoveringMeetsEachTag =
    (t m k : ℕ) (logs : List ℕ) → k ≤ m → IsTrue (covers m k logs) → (log : ℕ) × (log < m) × Contains logs log × IsTrue (is_held t m k log)

-- If m - k logs or fewer have replied, all holders of a tag may be missing: for every tag, and for every number up to
-- m - k, there are so many distinct logs of which none holds the tag.
abbrev pub FewerMayMissEachTag : Type 0
FewerMayMissEachTag =
    (t m k n : ℕ) → n + k ≤ m → (logs : List ℕ) × AreDistinctLogs m n logs × All (λ log. is_held t m k log ≡ false) logs

-- of a tag's holders one is left if fewer than k of the m logs are lost
abbrev pub HolderIsLeft : Type 0
HolderIsLeft =
    (t m k : ℕ) (lost : List ℕ) → k ≤ m → log_count m lost < k → (log : ℕ) × (log < m) × IsTrue (is_held t m k log) × ¬ Contains lost log

-- distinct logs of the m are each counted
abbrev pub DistinctLogsCount : Type 0
DistinctLogsCount = (m n : ℕ) (logs : List ℕ) → AreDistinctLogs m n logs → log_count m logs ≡ n
