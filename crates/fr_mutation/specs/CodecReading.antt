-- Reading a batch from left to right, up to the first fault that is met. Each field is a value and the bytes after it.
use Rattle.std.specs.Prelude.{◌≡◌, ℕ, zero, suc, ◌-◌, Bool, List, [], ◌∷◌, length, take, drop, nat_lt, Option, None, Some, Result, Ok, Err, if◌then◌else◌}
use Rattle.std.specs.Int.{Width, w16, w32, byte_len, from_be_bytes}
use Rattle.std.specs.List.{list_any}
use Rattle.std.specs.Ordering.{is_lt}
use Rattle.fr_base.specs.Bytes.{bytes_cmp}
use Rattle.fr_mutation.specs.declared.codec.fault.DecodeFault.{DecodeFault}
use Rattle.fr_mutation.specs.declared.codec.fault.DecodeFault.TheVariants.{Short, UnknownKind, OverLimit, Inverted, NeedlessFormat}
use Rattle.fr_mutation.specs.declared.codec.kind.Kind.{Kind}
use Rattle.fr_mutation.specs.declared.codec.kind.Kind.TheVariants as kinds
use Rattle.fr_mutation.specs.declared.mutation.Mutation.{Mutation}
use Rattle.fr_mutation.specs.declared.mutation.Mutation.TheVariants.{Clear}
use Rattle.fr_mutation.specs.declared.codec.format.Format.{Format}
use Rattle.fr_mutation.specs.CodecKind.{kind_of, mutation_of}
use Rattle.fr_mutation.specs.CodecFormat.{format_with, is_compare_and_clear, has_kind, is_needless}

-- a value goes on to the next step, a fault ends the reading
infixl 10 ◌>>=◌
abbrev pub ◌>>=◌ : {A B : Type 0} → Result A DecodeFault → (A → Result B DecodeFault) → Result B DecodeFault
(Ok x) >>= next = next x
(Err fault) >>= next = Err fault

-- that many bytes
abbrev pub bytes_at : ℕ → List ℕ → Result (List ℕ × List ℕ) DecodeFault
bytes_at len bytes = if nat_lt (length bytes) len then Err Short else Ok (take len bytes, drop len bytes)

-- the first byte
abbrev pub byte_at : List ℕ → Result (ℕ × List ℕ) DecodeFault
byte_at [] = Err Short
byte_at (byte ∷ rest) = Ok (byte, rest)

-- a number, most significant byte first, which is at most the limit
unfoldable pub number_at : Width → ℕ → List ℕ → Result (ℕ × List ℕ) DecodeFault
number_at width limit bytes = do
  front ← bytes_at (byte_len width) bytes
  if nat_lt limit (from_be_bytes width front.0) then Err OverLimit else Ok (from_be_bytes width front.0, front.1)

-- a length, which is at most the limit, and so many bytes
unfoldable pub field_at : Width → ℕ → List ℕ → Result (List ℕ × List ℕ) DecodeFault
field_at width limit bytes = do
  len ← number_at width limit bytes
  bytes_at len.0 len.1

-- a key, or an end of a clear
abbrev pub key_at : List ℕ → Result (List ℕ × List ℕ) DecodeFault
key_at = field_at w16 10000

-- a value or a parameter
abbrev pub operand_at : List ℕ → Result (List ℕ × List ℕ) DecodeFault
operand_at = field_at w32 100000

-- a byte that stands for no format or for no kind is a fault
abbrev pub known : {A : Type 0} → Option A → Result A DecodeFault
known None = Err UnknownKind
known (Some x) = Ok x

-- the byte of a mutation's kind, which the format has
unfoldable pub kind_at : Format → List ℕ → Result (Kind × List ℕ) DecodeFault
kind_at format bytes = do
  byte ← byte_at bytes
  kind ← known (kind_of byte.0)
  if has_kind format kind then Ok (kind, byte.1) else Err UnknownKind

-- the two ends of a clear, which are compared once both are read
unfoldable pub clear_at : List ℕ → Result (Mutation × List ℕ) DecodeFault
clear_at bytes = do
  begin ← key_at bytes
  end ← key_at begin.1
  if is_lt (bytes_cmp end.0 begin.0) then Err Inverted else Ok (Clear begin.0 end.0, end.1)

-- a key, and a value or a parameter
unfoldable pub keyed_at : Kind → List ℕ → Result (Mutation × List ℕ) DecodeFault
keyed_at kind bytes = do
  key ← key_at bytes
  operand ← operand_at key.1
  Ok (mutation_of kind key.0 operand.0, operand.1)

-- what stands behind the kind: for a clear its ends, else a key with a value or a parameter
abbrev pub fields_at : Kind → List ℕ → Result (Mutation × List ℕ) DecodeFault
fields_at kinds.Clear bytes = clear_at bytes
fields_at kind bytes = keyed_at kind bytes

-- one mutation
unfoldable pub mutation_at : Format → List ℕ → Result (Mutation × List ℕ) DecodeFault
mutation_at format bytes = do
  kind ← kind_at format bytes
  fields_at kind.0 kind.1

-- that many mutations, one after the other
unfoldable pub mutations_at : Format → ℕ → List ℕ → Result (List Mutation × List ℕ) DecodeFault
mutations_at format zero bytes = Ok ([], bytes)
mutations_at format (suc n) bytes = do
  first ← mutation_at format bytes
  others ← mutations_at format n first.1
  Ok (first.0 ∷ others.0, others.1)

-- mutations that were written in the second format without need are a fault
abbrev pub checked : Format → List Mutation × List ℕ → Result (List Mutation × List ℕ) DecodeFault
checked format read = if is_needless format (list_any is_compare_and_clear read.0) then Err NeedlessFormat else Ok read

-- that many mutations, which are looked at together once all were read
abbrev pub checked_at : Format → ℕ → List ℕ → Result (List Mutation × List ℕ) DecodeFault
checked_at format n bytes = do
  read ← mutations_at format n bytes
  checked format read

-- the byte of the format
unfoldable pub format_at : List ℕ → Result (Format × List ℕ) DecodeFault
format_at bytes = do
  byte ← byte_at bytes
  format ← known (format_with byte.0)
  Ok (format, byte.1)

-- the format, and how many mutations follow: at most 1,000
unfoldable pub header_at : List ℕ → Result (Format × ℕ × List ℕ) DecodeFault
header_at bytes = do
  format ← format_at bytes
  count ← number_at w16 1000 format.1
  Ok (format.0, count.0, count.1)

-- whether a compare-and-clear was read, and the bytes after what was read
abbrev pub found_in : Result (List Mutation × List ℕ) DecodeFault → Result (Bool × List ℕ) DecodeFault
found_in read = read >>= λ x. Ok (list_any is_compare_and_clear x.0, x.1)

-- the bytes after what was read
abbrev pub rest_of : Result (List Mutation × List ℕ) DecodeFault → Result (List ℕ) DecodeFault
rest_of read = read >>= λ x. Ok x.1

-- what was read
abbrev pub items_of : Result (List Mutation × List ℕ) DecodeFault → Result (List Mutation) DecodeFault
items_of read = read >>= λ x. Ok x.0

-- a batch, and the bytes after it
unfoldable pub read_batch : List ℕ → Result (List Mutation × List ℕ) DecodeFault
read_batch bytes = do
  header ← header_at bytes
  checked_at header.0 header.1 header.2

-- a batch, and how many bytes it took: what `decode` answers
unfoldable pub decoded : List ℕ → Result (List Mutation × ℕ) DecodeFault
decoded bytes = do
  read ← read_batch bytes
  Ok (read.0, length bytes - length read.1)

-- the code answers what reading does, its value seen by view
abbrev pub Reads : {A B : Type 0} → (A → B) → Result A DecodeFault → Result B DecodeFault → Type 0
Reads view (Ok x) reading = reading ≡ Ok (view x)
Reads view (Err fault) reading = reading ≡ Err fault
