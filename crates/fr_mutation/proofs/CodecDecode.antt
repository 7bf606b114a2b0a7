-- What `decode` answers, from what its steps found.
use Rattle.std.proofs.Common.{◌≡◌, ◌≢◌, ℕ, zero, suc, ◌-◌, Bool, true, false, cond, ltb, List, [], ◌∷◌, length, take, drop, Option, Some, None, Result, Ok, Err, refl, sym, ap, ◌∙◌}
use Rattle.std.specs.Prelude.{◌↔◌, IsOk, is_ok}
use Rattle.std.specs.List.{list_any}
use Rattle.std.specs.Int.{Width, w16, w32, byte_len, from_be_bytes}
use Rattle.std.specs.Ordering.{is_lt}
use Rattle.fr_base.specs.Bytes.{bytes_cmp}
use Rattle.fr_mutation.specs.declared.codec.fault.DecodeFault.{DecodeFault}
use Rattle.fr_mutation.specs.declared.codec.fault.DecodeFault.TheVariants.{Short, UnknownKind, OverLimit, Inverted, Memory, NeedlessFormat}
use Rattle.fr_mutation.specs.declared.codec.format.Format.{Format}
use Rattle.fr_mutation.specs.declared.codec.kind.Kind.{Kind}
use Rattle.fr_mutation.specs.declared.codec.kind.Kind.TheVariants as kinds
use Rattle.fr_mutation.specs.declared.mutation.Mutation.{Mutation}
use Rattle.fr_mutation.specs.declared.mutation.Mutation.TheVariants.{Clear}
use Rattle.fr_mutation.specs.CodecKind.{kind_of, mutation_of}
use Rattle.fr_mutation.specs.CodecFormat.{format_with, is_compare_and_clear, has_kind, is_needless}
use Rattle.fr_mutation.specs.CodecReading.{◌>>=◌, byte_at, bytes_at, number_at, field_at, key_at, operand_at, known, kind_at, clear_at, keyed_at, fields_at, mutation_at, mutations_at, checked, checked_at, format_at, header_at, rest_of, items_of, read_batch, decoded}

-- ---- reading itself takes no memory

abbrev NoMemory : {A : Type 0} → Result A DecodeFault → Type 0
NoMemory r = r ≢ Err Memory

then_none : {A B : Type 0} (r : Result A DecodeFault) (f : A → Result B DecodeFault) → NoMemory r → ((x : A) → NoMemory (f x)) → NoMemory (r >>= f)
then_none (Ok x) f h k = k x
then_none (Err d) f h k = λ e. h cc

test_none : {A : Type 0} (b : Bool) (r s : Result A DecodeFault) → NoMemory r → NoMemory s → NoMemory (cond b r s)
test_none true r s h k = h
test_none false r s h k = k

ok_none : {A : Type 0} (x : A) → NoMemory (Ok x)
ok_none x e = cc

bytes_none : (len : ℕ) (bytes : List ℕ) → NoMemory (bytes_at len bytes)
bytes_none len bytes = test_none (ltb (length bytes) len) (Err Short) (Ok (take len bytes, drop len bytes)) (λ e. cc) (λ e. cc)

byte_none : (bytes : List ℕ) → NoMemory (byte_at bytes)
byte_none [] e = cc
byte_none (b ∷ bytes) e = cc

number_none : (w : Width) (limit : ℕ) (bytes : List ℕ) → NoMemory (number_at w limit bytes)
unfolding number_at
number_none w limit bytes =
    then_none (bytes_at (byte_len w) bytes) _ (bytes_none (byte_len w) bytes) (λ (x : List ℕ × List ℕ).
    test_none (ltb limit (from_be_bytes w x.0)) (Err OverLimit) (Ok (from_be_bytes w x.0, x.1)) (λ e. cc) (λ e. cc))

field_none : (w : Width) (limit : ℕ) (bytes : List ℕ) → NoMemory (field_at w limit bytes)
unfolding field_at
field_none w limit bytes = then_none (number_at w limit bytes) _ (number_none w limit bytes) (λ (x : ℕ × List ℕ). bytes_none x.0 x.1)

known_none : {A : Type 0} (o : Option A) → NoMemory (known o)
known_none None e = cc
known_none (Some x) e = cc

kind_none : (format : Format) (bytes : List ℕ) → NoMemory (kind_at format bytes)
unfolding kind_at
kind_none format bytes =
    then_none (byte_at bytes) _ (byte_none bytes) (λ (b : ℕ × List ℕ).
    then_none (known (kind_of b.0)) _ (known_none (kind_of b.0)) (λ (k : Kind).
    test_none (has_kind format k) (Ok (k, b.1)) (Err UnknownKind) (λ e. cc) (λ e. cc)))

clear_none : (bytes : List ℕ) → NoMemory (clear_at bytes)
unfolding clear_at
clear_none bytes =
    then_none (key_at bytes) _ (field_none w16 10000 bytes) (λ (b : List ℕ × List ℕ).
    then_none (key_at b.1) _ (field_none w16 10000 b.1) (λ (x : List ℕ × List ℕ).
    test_none (is_lt (bytes_cmp x.0 b.0)) (Err Inverted) (Ok (Clear b.0 x.0, x.1)) (λ e. cc) (λ e. cc)))

keyed_none : (kind : Kind) (bytes : List ℕ) → NoMemory (keyed_at kind bytes)
unfolding keyed_at
keyed_none kind bytes =
    then_none (key_at bytes) _ (field_none w16 10000 bytes) (λ (k : List ℕ × List ℕ).
    then_none (operand_at k.1) _ (field_none w32 100000 k.1) (λ (x : List ℕ × List ℕ). ok_none (mutation_of kind k.0 x.0, x.1)))

fields_none : (kind : Kind) (bytes : List ℕ) → NoMemory (fields_at kind bytes)
fields_none kinds.Clear bytes = clear_none bytes
fields_none kind bytes = keyed_none kind bytes

mutation_none : (format : Format) (bytes : List ℕ) → NoMemory (mutation_at format bytes)
unfolding mutation_at
mutation_none format bytes = then_none (kind_at format bytes) _ (kind_none format bytes) (λ (k : Kind × List ℕ). fields_none k.0 k.1)

mutations_none : (format : Format) (n : ℕ) (bytes : List ℕ) → NoMemory (mutations_at format n bytes)
unfolding mutations_at
mutations_none format zero bytes = ok_none ([], bytes)
mutations_none format (suc n) bytes =
    then_none (mutation_at format bytes) _ (mutation_none format bytes) (λ (m : Mutation × List ℕ).
    then_none (mutations_at format n m.1) _ (mutations_none format n m.1) (λ (x : List Mutation × List ℕ). ok_none (m.0 ∷ x.0, x.1)))

checked_none : (format : Format) (n : ℕ) (bytes : List ℕ) → NoMemory (checked_at format n bytes)
checked_none format n bytes =
    then_none (mutations_at format n bytes) _ (mutations_none format n bytes) (λ (x : List Mutation × List ℕ).
    test_none (is_needless format (list_any is_compare_and_clear x.0)) (Err NeedlessFormat) (Ok x) (λ e. cc) (λ e. cc))

format_none : (bytes : List ℕ) → NoMemory (format_at bytes)
unfolding format_at
format_none bytes =
    then_none (byte_at bytes) _ (byte_none bytes) (λ (b : ℕ × List ℕ).
    then_none (known (format_with b.0)) _ (known_none (format_with b.0)) (λ (f : Format). ok_none (f, b.1)))

header_none : (bytes : List ℕ) → NoMemory (header_at bytes)
unfolding header_at
header_none bytes =
    then_none (format_at bytes) _ (format_none bytes) (λ (f : Format × List ℕ).
    then_none (number_at w16 1000 f.1) _ (number_none w16 1000 f.1) (λ (x : ℕ × List ℕ). ok_none (f.0, x.0, x.1)))

pub decoded_none : (bytes : List ℕ) → decoded bytes ≢ Err Memory
unfolding decoded read_batch
decoded_none bytes =
    then_none (read_batch bytes) _
    (then_none (header_at bytes) _ (header_none bytes) (λ (h : Format × ℕ × List ℕ). checked_none h.0 h.1 h.2))
    (λ (x : List Mutation × List ℕ). ok_none (x.0, length bytes - length x.1))

-- ---- what the steps found

pub faulty_header : (bytes : List ℕ) (fault : DecodeFault) → header_at bytes ≡ Err fault → decoded bytes ≡ Err fault
unfolding decoded read_batch
faulty_header bytes fault e = rw e refl

abbrev counted : List ℕ → Result (List Mutation × List ℕ) DecodeFault → Result (List Mutation × ℕ) DecodeFault
counted bytes read = read >>= λ x. Ok (x.0, length bytes - length x.1)

pub faulty_mutation : (bytes : List ℕ) (format : Format) (count : ℕ) (front : List ℕ) (fault : DecodeFault) → header_at bytes ≡ Ok (format, count, front) → rest_of (checked_at format count front) ≡ Err fault → decoded bytes ≡ Err fault
unfolding decoded read_batch
faulty_mutation bytes format count front fault e f = rw e (ended (checked_at format count front) (fault_of_rest (checked_at format count front) f))
  where
    fault_of_rest : (r : Result (List Mutation × List ℕ) DecodeFault) → rest_of r ≡ Err fault → r ≡ Err fault
    fault_of_rest (Ok x) h = absurd cc
    fault_of_rest (Err d) h = cc

    ended : (r : Result (List Mutation × List ℕ) DecodeFault) → r ≡ Err fault → counted bytes r ≡ Err fault
    ended (Ok x) h = absurd cc
    ended (Err d) h = cc

abbrev done : {A : Type 0} → A → Result A DecodeFault
done x = Ok x

-- mutations whose format is needed
checked_ok : (format : Format) (r : Result (List Mutation × List ℕ) DecodeFault) (rest : List ℕ) → rest_of (r >>= checked format) ≡ Ok rest → (x : List Mutation × List ℕ) × (r ≡ Ok x) × (checked format x ≡ Ok x) × (x.1 ≡ rest)
checked_ok format (Ok x) rest e = go (is_needless format (list_any is_compare_and_clear x.0)) refl e
  where
    go : (b : Bool) → is_needless format (list_any is_compare_and_clear x.0) ≡ b → rest_of (cond b (Err NeedlessFormat) (Ok x)) ≡ Ok rest
        → (y : List Mutation × List ℕ) × (done x ≡ Ok y) × (checked format y ≡ Ok y) × (y.1 ≡ rest)
    go true h e = absurd cc
    go false h e = (x, refl, ap (λ (b : Bool). cond b (Err NeedlessFormat) (Ok x)) h, cc)
checked_ok format (Err d) rest e = absurd cc

pub can_be_copied : (format : Format) (count : ℕ) (front rest : List ℕ) → rest_of (checked_at format count front) ≡ Ok rest → IsOk (mutations_at format count front)
can_be_copied format count front rest e = let x = checked_ok format (mutations_at format count front) rest e in ap is_ok x.1

pub is_read : (bytes : List ℕ) (format : Format) (count : ℕ) (front rest : List ℕ) (ms : List Mutation) → header_at bytes ≡ Ok (format, count, front) → rest_of (checked_at format count front) ≡ Ok rest
    → items_of (mutations_at format count front) ≡ Ok ms → read_batch bytes ≡ Ok (ms, rest)
unfolding read_batch
is_read bytes format count front rest ms e f g =
    let x = checked_ok format (mutations_at format count front) rest f in
    let items : items_of (Ok x.0) ≡ Ok ms = ap items_of (sym x.1) ∙ g in
    let m-is : x.0.0 ≡ ms = cc in
    rw e (
    ap (λ r. r >>= checked format) x.1
    ∙ x.2
    ∙ ap (λ (r : List ℕ). Ok (x.0.0, r)) x.3
    ∙ ap (λ (m : List Mutation). Ok (m, rest)) m-is)

pub is_decoded : (bytes rest : List ℕ) (ms : List Mutation) → read_batch bytes ≡ Ok (ms, rest) → decoded bytes ≡ Ok (ms, length bytes - length rest)
unfolding decoded
is_decoded bytes rest ms e = rw e refl

pub something_is_decoded : (bytes : List ℕ) (format : Format) (count : ℕ) (front rest : List ℕ) → header_at bytes ≡ Ok (format, count, front) → rest_of (checked_at format count front) ≡ Ok rest → IsOk (decoded bytes)
unfolding decoded read_batch
something_is_decoded bytes format count front rest e f = rw e (some (checked_at format count front) f)
  where
    some : (r : Result (List Mutation × List ℕ) DecodeFault) → rest_of r ≡ Ok rest → IsOk {T = List Mutation × ℕ} (r >>= λ x. Ok (x.0, length bytes - length x.1))
    some (Ok x) f = refl
    some (Err d) f = absurd cc

-- ---- which fault is answered

abbrev pub SameRefusals : {A : Type 0} → Result A DecodeFault → Result A DecodeFault → Type 0
SameRefusals answer reading = (fault : DecodeFault) → fault ≢ Memory → ((answer ≡ Err fault) ↔ (reading ≡ Err fault))

pub refuses : {A : Type 0} (answer reading : Result A DecodeFault) (d : DecodeFault) → answer ≡ Err d → reading ≡ Err d → SameRefusals answer reading
refuses answer reading d p q = λ fault other. ((λ e. cc), (λ e. cc))

pub lacks : {A : Type 0} (answer reading : Result A DecodeFault) → answer ≡ Err Memory → IsOk reading → SameRefusals answer reading
lacks answer (Ok x) p q = λ fault other. ((λ e. absurd (other cc)), (λ e. cc))
lacks answer (Err d) p q = absurd cc

pub answers : {A : Type 0} (answer reading : Result A DecodeFault) (x : A) → answer ≡ Ok x → reading ≡ Ok x → SameRefusals answer reading
answers answer reading x p q = λ fault other. ((λ e. cc), (λ e. cc))

-- a fault that reading meets is not `Memory`
pub hides_none : {A : Type 0} (answer reading : Result A DecodeFault) (d : DecodeFault) → answer ≡ Err d → reading ≡ Err d → reading ≢ Err Memory → answer ≡ Err Memory → IsOk reading
hides_none answer reading d p q none m = absurd (none cc)
