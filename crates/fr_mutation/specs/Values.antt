-- The values that mutations with a parameter make of an old value.
use Rattle.std.specs.Prelude.{ℕ, ◌+◌, ◌-◌, List, [], ◌∷◌, ◌++◌, length, take, replicate, nat_lt, if◌then◌else◌, bit_and, bit_or, bit_xor}
use Rattle.fr_mutation.specs.LittleEndian.{number_of, low_bytes}
use Rattle.fr_mutation.specs.declared.bitwise.Bitwise.{Bitwise}
use Rattle.fr_mutation.specs.declared.bitwise.Bitwise.TheVariants as bits

-- the byte string with n bytes: cut at its end, or extended there with zero bytes
unfoldable pub fitted : ℕ → List ℕ → List ℕ
fitted n bytes = take n bytes ++ replicate (n - length bytes) 0

-- what f makes of the first bytes, of the second bytes, and so on
abbrev pub bytewise : (ℕ → ℕ → ℕ) → List ℕ → List ℕ → List ℕ
bytewise f [] bs = []
bytewise f (a ∷ bytes) [] = []
bytewise f (a ∷ bytes) (b ∷ bs) = f a b ∷ bytewise f bytes bs

-- the bits that both have, that either has, that one of them has
abbrev pub byte_of : Bitwise → ℕ → ℕ → ℕ
byte_of bits.And = bit_and
byte_of bits.Or = bit_or
byte_of bits.Xor = bit_xor

-- the sum of both as numbers; a carry past the last byte is lost
abbrev pub sum_of : List ℕ → List ℕ → List ℕ
sum_of old param = low_bytes (length param) (number_of (fitted (length param) old) + number_of param)

abbrev pub and_of : List ℕ → List ℕ → List ℕ
and_of old param = bytewise bit_and (fitted (length param) old) param

abbrev pub or_of : List ℕ → List ℕ → List ℕ
or_of old param = bytewise bit_or (fitted (length param) old) param

abbrev pub xor_of : List ℕ → List ℕ → List ℕ
xor_of old param = bytewise bit_xor (fitted (length param) old) param

-- whichever spells the greater number
abbrev pub greater_of : List ℕ → List ℕ → List ℕ
greater_of old param = if nat_lt (number_of (fitted (length param) old)) (number_of param) then param else fitted (length param) old

-- whichever spells the smaller number
abbrev pub smaller_of : List ℕ → List ℕ → List ℕ
smaller_of old param = if nat_lt (number_of param) (number_of (fitted (length param) old)) then param else fitted (length param) old
