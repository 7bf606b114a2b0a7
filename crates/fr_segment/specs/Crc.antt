-- CRC32C, the checksum of Castagnoli, bit by bit.
use Rattle.std.specs.Prelude.{ℕ, zero, suc, ◌*◌, ◌/◌, ◌%◌, bit_xor, List, ◌++◌, fold}
use Rattle.std.specs.Int.{w64, to_be_bytes}

-- One step of the division, the lowest bit first: the bit goes, and if it was 1, the polynomial 0x82F63B78 is added
-- without carries.
unfoldable pub bit_step : ℕ → ℕ
bit_step s = bit_xor (s / 2) (s % 2 * 2197175160)

-- so many such steps
unfoldable pub bit_steps : ℕ → ℕ → ℕ
bit_steps zero s = s
bit_steps (suc n) s = bit_steps n (bit_step s)

-- the state after one byte more
unfoldable pub byte_step : ℕ → ℕ → ℕ
byte_step s b = bit_steps 8 (bit_xor s b)

-- the state after these bytes, from a state
abbrev pub crc_from : ℕ → List ℕ → ℕ
crc_from s bytes = fold byte_step s bytes

-- the checksum of bytes: from the state of 32 ones, and all bits turned at the end
unfoldable pub crc : List ℕ → ℕ
crc bytes = bit_xor (crc_from 4294967295 bytes) 4294967295

-- the checksum of a number, as eight bytes, and the bytes behind it
unfoldable pub sum_of : ℕ → List ℕ → ℕ
sum_of number bytes = crc (to_be_bytes w64 number ++ bytes)
