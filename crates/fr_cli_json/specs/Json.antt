-- How the JSON of a script is read: objects of exactly the named members, numbers in digits alone, bytes in lower case hex.
use Rattle.std.specs.Prelude.{ℕ, ◌^◌, ◌==◌, ◌&&◌, ◌||◌, List, [], ◌∷◌, Bool, nat_lt, nat_le, if◌then◌else◌, Option, Some, None, option_map, option_and_then, Result, Ok, Err}
use Rattle.std.specs.List.{list_all}
use Rattle.std.specs.Str.{is_utf8}
use Rattle.hex.specs.Hex.{decode_of}
use Rattle.hex.specs.declared.error.FromHexError.{FromHexError}
use Rattle.serde_json.specs.Data.{Data, Items, no_items, item, Members, no_members, member}
use Rattle.serde_json.specs.Read.{read}
use Rattle.serde_json.specs.Find.{get, as_number, as_u64, as_str, as_object}
use Rattle.serde_json.specs.Events.{members_len}

-- the value that a text is, or None if it is no JSON
abbrev pub data_of : List ℕ → Option Data
data_of text = if is_utf8 text then read text else None

-- the value at the name, in an object of exactly n members
abbrev pub only : ℕ → List ℕ → Data → Option Data
only n name d = option_and_then (λ ms. if members_len ms == n then get name d else None) (as_object d)

abbrev pub one_of : Members → Option (List ℕ × Data)
one_of no_members = None
one_of (member name d no_members) = Some (name, d)
one_of (member name d (member other e more)) = None

-- the name and the value of an object's one member
abbrev pub one_member : Data → Option (List ℕ × Data)
one_member d = option_and_then one_of (as_object d)

-- a number that fits 64 bits, written in digits alone
abbrev pub natural_of : Data → Option ℕ
natural_of d = option_and_then as_u64 (as_number d)

-- a version: a number below 2^62, written in digits alone
abbrev pub version_of : Data → Option ℕ
version_of d = option_and_then (λ n. if nat_lt n (2 ^ 62) then Some n else None) (natural_of d)

-- the version under a name, in an object of that member alone
abbrev pub version_at : List ℕ → Data → Option ℕ
version_at name fields = option_and_then version_of (only 1 name fields)

-- `0` to `9`, or `a` to `f`
abbrev pub is_lower_digit : ℕ → Bool
is_lower_digit c = (nat_le 48 c && nat_le c 57) || (nat_le 97 c && nat_le c 102)

abbrev pub ok_of : {A : Type 0} → Result A FromHexError → Option A
ok_of (Ok a) = Some a
ok_of (Err e) = None

-- the bytes of a text of lower case hex digits, two a byte
abbrev pub unhex : List ℕ → Option (List ℕ)
unhex text = if list_all is_lower_digit text then ok_of (decode_of text) else None

abbrev pub bytes_of : Data → Option (List ℕ)
bytes_of d = option_and_then unhex (as_str d)

-- the byte strings under two names, in an object of exactly these two
abbrev pub pair_of : List ℕ → List ℕ → Data → Option (List ℕ × List ℕ)
pair_of first second d =
    option_and_then (λ a. option_map (λ b. (a, b)) (option_and_then bytes_of (only 2 second d)))
    (option_and_then bytes_of (only 2 first d))

-- each item as f reads it, or None if f reads one of them as nothing
abbrev pub each_of : {A : Type 0} → (Data → Option A) → Items → Option (List A)
each_of f no_items = Some []
each_of f (item d ds) = option_and_then (λ a. option_map (λ rest. a ∷ rest) (each_of f ds)) (f d)
