-- The options of `end`.
use Rattle.std.specs.Prelude.{ℕ}

-- the locked generation: how many logs it has, and on how many of them each tag is
pub record LockedLogs : Type 0 where
  pub logs : ℕ
  pub degree : ℕ
