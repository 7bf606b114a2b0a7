-- Numbers as bytes, the highest byte first.
use Rattle.std.specs.Prelude.{ℕ, ◌<◌, List, take, drop, All}
use Rattle.std.specs.Int.{Width, byte_len, from_be_bytes}

-- each element is a byte
abbrev pub AreBytes : List ℕ → Type 0
AreBytes bytes = All (λ b. b < 256) bytes

-- the number that the bytes from a place on spell, as many of them as the width has
abbrev pub number_at : Width → ℕ → List ℕ → ℕ
number_at w at bytes = from_be_bytes w (take (byte_len w) (drop at bytes))
