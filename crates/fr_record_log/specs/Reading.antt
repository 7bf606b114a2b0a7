-- What the bytes of a record of a log are read as. Each field is a value and the bytes after it.
use Rattle.std.specs.Prelude.{◌≡◌, ℕ, zero, suc, ◌+◌, ◌^◌, Bool, true, false, ◌==◌, ◌&&◌, nat_lt, nat_le, List, [], ◌∷◌, length, take, drop, Option, None, Some, Result, Ok, Err, if◌then◌else◌}
use Rattle.std.specs.Int.{w32, w64, from_be_bytes}
use Rattle.fr_mutation.specs.declared.codec.fault.DecodeFault.{DecodeFault}
use Rattle.fr_mutation.specs.declared.mutation.Mutation.{Mutation}
use Rattle.fr_mutation.specs.CodecReading.{decoded}
use Rattle.fr_tags.specs.declared.body.Body.{Body}
use Rattle.fr_tags.specs.Bodies as bodies
use Rattle.fr_state.specs.declared.fault.StateDecodeFault.{StateDecodeFault}
use Rattle.fr_state.specs.Generations.{CoordinatedState}
use Rattle.fr_state.specs.Reading.{reading}
use Rattle.fr_log.specs.declared.records.SeedRecord.{SeedRecord}
use Rattle.fr_log.specs.declared.ask.LogAsk.TheVariants.{Seed, Push, Lock}
use Rattle.fr_log.specs.declared.popped.PoppedTag.{PoppedTag}
use Rattle.fr_log.specs.Seed.{SeedContent}
use Rattle.fr_log.specs.Push.{PushContent}
use Rattle.fr_log.specs.LogState.{LogState}
use Rattle.fr_record_node.specs.declared.fault.RecordReadFault.{RecordReadFault}
use Rattle.fr_record_node.specs.declared.fault.RecordReadFault.TheVariants.{Broken}
use Rattle.fr_record_log.specs.declared.reading.Numbers.{Numbers}
use Rattle.fr_record_log.specs.declared.change.Change.{Change}
use Rattle.fr_record_log.specs.declared.change.Change.TheVariants.{Asked, Seeded, LetGo}

-- one step of reading after another: if one finds nothing, nothing is found
infixl 10 ◌>>=◌
abbrev pub ◌>>=◌ : {A B : Type 0} → Option A → (A → Option B) → Option B
(Some x) >>= next = next x
None >>= next = None

-- the first byte
abbrev pub byte_at : List ℕ → Option (ℕ × List ℕ)
byte_at [] = None
byte_at (byte ∷ rest) = Some (byte, rest)

-- so many bytes
abbrev pub bytes_at : ℕ → List ℕ → Option (List ℕ × List ℕ)
bytes_at len bytes = if nat_lt (length bytes) len then None else Some (take len bytes, drop len bytes)

-- a number of eight bytes
unfoldable pub number_at : List ℕ → Option (ℕ × List ℕ)
number_at bytes = do
  front ← bytes_at 8 bytes
  Some (from_be_bytes w64 front.0, front.1)

-- a length of four bytes
unfoldable pub length_at : List ℕ → Option (ℕ × List ℕ)
length_at bytes = do
  front ← bytes_at 4 bytes
  Some (from_be_bytes w32 front.0, front.1)

-- a version, below 2^62
unfoldable pub version_at : List ℕ → Option (ℕ × List ℕ)
version_at bytes = do
  number ← number_at bytes
  if nat_lt number.0 (2 ^ 62) then Some number else None

-- a tag, below 32
unfoldable pub tag_at : List ℕ → Option (ℕ × List ℕ)
tag_at bytes = do
  byte ← byte_at bytes
  if nat_lt byte.0 32 then Some byte else None

-- the batch that took so many bytes
abbrev pub whole : ℕ → Result (List Mutation × ℕ) DecodeFault → Option (List Mutation)
whole len (Ok x) = if x.1 == len then Some x.0 else None
whole len (Err fault) = None

-- the batch that all of the bytes spell
abbrev pub batch_of : List ℕ → Option (List Mutation)
batch_of bytes = whole (length bytes) (decoded bytes)

abbrev pub found : Result CoordinatedState StateDecodeFault → Option CoordinatedState
found (Ok s) = Some s
found (Err fault) = None

-- the coordinated state that all of the bytes spell
abbrev pub state_of : List ℕ → Option CoordinatedState
state_of bytes = found (reading bytes)

-- the tag of a body, the bytes of its batch, and the bytes after it
unfoldable pub text_at : List ℕ → Option (ℕ × List ℕ × List ℕ)
text_at bytes = do
  tag ← tag_at bytes
  len ← length_at tag.1
  text ← bytes_at len.0 len.1
  Some (tag.0, text.0, text.1)

-- a body
unfoldable pub body_at : List ℕ → Option (Body × List ℕ)
body_at bytes = do
  text ← text_at bytes
  batch ← batch_of text.1
  Some (record { tag = text.0; batch = batch }, text.2)

-- so many bodies, one after the other
unfoldable pub bodies_at : ℕ → List ℕ → Option (List Body × List ℕ)
bodies_at zero bytes = Some ([], bytes)
bodies_at (suc n) bytes = do
  first ← body_at bytes
  others ← bodies_at n first.1
  Some (first.0 ∷ others.0, others.1)

abbrev pub is_end : List ℕ → Bool
is_end [] = true
is_end (byte ∷ rest) = false

-- the bodies that all of the bytes spell
unfoldable pub bodies_of : List ℕ → Option (List Body)
bodies_of bytes = do
  count ← byte_at bytes
  read ← bodies_at count.0 count.1
  if is_end read.1 then Some read.0 else None

-- the numbers of a push
unfoldable pub numbers_at : List ℕ → Option (Numbers × List ℕ)
numbers_at bytes = do
  prev ← version_at bytes
  version ← version_at prev.1
  known ← version_at version.1
  Some (record { prev = prev.0; version = version.0; known = known.0 }, known.1)

-- whether a push of these numbers and bodies is one
abbrev pub is_push : Numbers → List Body → Bool
is_push n bs = nat_lt n.prev n.version && (nat_le n.version (n.prev + 1000000) && (nat_le n.known n.prev && bodies.is_rising_from 0 bs))

-- the push of an epoch that the bytes behind 03 spell
unfoldable pub push_of : ℕ → List ℕ → Option PushContent
push_of epoch bytes = do
  numbers ← numbers_at bytes
  bs ← bodies_of numbers.1
  if is_push numbers.0 bs then Some (record { epoch = epoch; prev = numbers.0.prev; version = numbers.0.version; known = numbers.0.known; bodies = bs; mark = None }) else None

-- whether a mark of these numbers is one
abbrev pub is_mark : Numbers → Bool
is_mark n = (n.version == n.prev + 1) && nat_le n.known n.prev

-- the mark of an epoch that the bytes behind 04 spell
unfoldable pub mark_of : ℕ → List ℕ → Option PushContent
mark_of epoch bytes = do
  numbers ← numbers_at bytes
  state ← state_of numbers.1
  if is_mark numbers.0 then Some (record { epoch = epoch; prev = numbers.0.prev; version = numbers.0.version; known = numbers.0.known; bodies = []; mark = Some state }) else None

-- whether four numbers are those of a log
abbrev pub is_own : LogState → ℕ → ℕ → ℕ → ℕ → Bool
is_own l epoch index m k = (epoch == l.epoch) && ((index == l.index) && ((m == l.m) && (k == l.k)))

-- the bytes behind the four numbers of a log
unfoldable pub own_at : LogState → List ℕ → Option (List ℕ)
own_at l bytes = do
  epoch ← number_at bytes
  index ← byte_at epoch.1
  m ← byte_at index.1
  k ← byte_at m.1
  if is_own l epoch.0 index.0 m.0 k.0 then Some k.1 else None

-- whether a seed between these versions is one
abbrev pub is_range : ℕ → ℕ → Bool
is_range first seeded_to = nat_le 1 first && nat_le first (seeded_to + 1)

-- the seed of a log, but for its records, that the bytes behind 01 spell
unfoldable pub head_of : LogState → List ℕ → Option SeedContent
head_of l bytes = do
  rest ← own_at l bytes
  first ← version_at rest
  seeded_to ← version_at first.1
  if is_range first.0 seeded_to.0 && is_end seeded_to.1 then Some (record { epoch = l.epoch; first = first.0; seeded_to = seeded_to.0; records = [] }) else None

-- the record of a seed that the bytes behind 02 spell
unfoldable pub seeded_of : List ℕ → Option SeedRecord
seeded_of bytes = do
  version ← version_at bytes
  tag ← tag_at version.1
  batch ← batch_of tag.1
  Some (record { version = version.0; tag = tag.0; batch = batch })

-- nothing stands behind 05
abbrev pub lock_of : LogState → List ℕ → Option Change
lock_of l bytes = if is_end bytes then Some (Asked (Lock l.epoch)) else None

-- the tag and the version that the bytes behind 06 spell
unfoldable pub popped_of : List ℕ → Option PoppedTag
popped_of bytes = do
  tag ← tag_at bytes
  version ← version_at tag.1
  if is_end version.1 then Some (record { tag = tag.0; version = version.0 }) else None

-- what a log does by a record of this kind
abbrev pub change_of : LogState → ℕ → List ℕ → Option Change
change_of l kind bytes =
    if kind == 1 then head_of l bytes >>= (λ s. Some (Asked (Seed s)))
    else if kind == 2 then seeded_of bytes >>= (λ r. Some (Seeded r))
    else if kind == 3 then push_of l.epoch bytes >>= (λ p. Some (Asked (Push p)))
    else if kind == 4 then mark_of l.epoch bytes >>= (λ p. Some (Asked (Push p)))
    else if kind == 5 then lock_of l bytes
    else if kind == 6 then popped_of bytes >>= (λ p. Some (LetGo p))
    else None

-- what a log does by a record
unfoldable pub change_at : LogState → List ℕ → Option Change
change_at l bytes = do
  kind ← byte_at bytes
  change_of l kind.0 kind.1

-- the code finds what reading does, its value seen by view; what it finds broken is no such field
abbrev pub Finds : {A B : Type 0} → (A → B) → Result A RecordReadFault → Option B → Type 0
Finds view (Ok x) reading = reading ≡ Some (view x)
Finds view (Err fault) reading = fault ≡ Broken → reading ≡ None
