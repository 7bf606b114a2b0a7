-- The shape of a generation: how many logs it has, and on how many of them each tag stands.
use Rattle.std.specs.Prelude.{◌≤◌, ℕ, Bool, ◌&&◌, nat_le, Option, None, Some, if◌then◌else◌}

pub record ShapeContent : Type 0 where
  pub m : ℕ
  pub k : ℕ

-- each tag on one log at least and on all of them at most, and at most 16 logs
pub record IsShape (s : ShapeContent) : Type 0 where
  pub k_low : 1 ≤ s.k
  pub k_high : s.k ≤ s.m
  pub m_high : s.m ≤ 16

-- whether two numbers are those of a shape
abbrev pub is_shape : ℕ → ℕ → Bool
is_shape m k = nat_le 1 k && (nat_le k m && nat_le m 16)

-- the shape of these numbers, if they are those of one
abbrev pub shape_of : ℕ → ℕ → Option ShapeContent
shape_of m k = if is_shape m k then Some (record { m = m; k = k }) else None
