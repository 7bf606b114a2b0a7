-- Reading a value member by member and item by item.
use Rattle.std.proofs.Common.{◌≡◌, ◌≢◌, ℕ, ◌==◌, ◌++◌, List, [], ◌∷◌, length, Bool, true, false, if◌then◌else◌, Option, Some, None, option_map, String, Global, string_bytes, refl, sym, ap, arith, append_assoc}
use Rattle.std.proofs.lemmas.Bool.{eq-eqb}
use Rattle.std.proofs.lemmas.Bool.Decides.{nat_tests}
use Rattle.std.proofs.lemmas.Str.{IsUtf8-from_is_utf8, is_utf8-from_IsUtf8}
use Rattle.std.specs.Str.{IsUtf8, is_utf8}
use Rattle.serde_json.specs.Read.{read}
use Rattle.serde_json.specs.Data.{Data, Items, item, Members}
use Rattle.serde_json.specs.Events.{members_len}
use Rattle.serde_json.specs.Find.{get, as_object}
use Rattle.serde_json.specs.View.{view, members_view}
use Rattle.serde_json.specs.declared.value.Value.{Value}
use Rattle.fr_cli_json.specs.Json.{data_of, only, one_of, each_of}

pub only_here : (n : ℕ) (name : List ℕ) (d : Data) (ms : Members) → Some ms ≡ as_object d → members_len ms ≡ n → only n name d ≡ get name d
only_here n name d ms e h = rw (← e) (rw (eq-eqb (members_len ms) n h) refl)

pub only_other : (n : ℕ) (name : List ℕ) (d : Data) (ms : Members) → Some ms ≡ as_object d → members_len ms ≢ n → only n name d ≡ None
only_other n name d ms e h =
    let apart : (members_len ms == n) ≡ false = grind (arith, nat_tests) in
    rw (← e) (rw apart refl)

abbrev pub Entry : Type 0
Entry = String Global × Value

-- the one entry of a map
pub one_here : (es : List Entry) (name : String Global) (v : Value) (left : List Entry) → es ≡ (name, v) ∷ left → length left ≡ 0 → one_of (members_view es) ≡ Some (string_bytes name, view v)
one_here es name v [] e h = rw e refl
one_here es name v (m ∷ more) e h = absurd (omega arith)

pub one_other : (es : List Entry) → length es ≢ 1 → one_of (members_view es) ≡ None
one_other [] h = refl
one_other (m ∷ []) h = absurd (h refl)
one_other (m ∷ (n ∷ more)) h = refl

module _ {A : Type 0} where
  -- what was read so far, and then the rest
  abbrev pub joined : List A → Option (List A) → Option (List A)
  joined front rest = option_map (λ more. front ++ more) rest

  pub joined-none : (rest : Option (List A)) → joined [] rest ≡ rest
  joined-none None = refl
  joined-none (Some more) = refl

  pub joined-item : (front : List A) (a : A) (rest : Option (List A)) → joined front (option_map (λ more. a ∷ more) rest) ≡ joined (front ++ a ∷ []) rest
  joined-item front a None = refl
  joined-item front a (Some more) = ap Some (sym (append_assoc front (a ∷ []) more))

  -- one more item is read
  pub joined_more : (f : Data → Option A) (front : List A) (d : Data) (ds : Items) (a : A) → f d ≡ Some a → joined front (each_of f (item d ds)) ≡ joined (front ++ a ∷ []) (each_of f ds)
  joined_more f front d ds a e = rw e (joined-item front a (each_of f ds))

  -- an item that is read as nothing
  pub joined_bad : (f : Data → Option A) (front : List A) (d : Data) (ds : Items) → f d ≡ None → joined front (each_of f (item d ds)) ≡ None
  joined_bad f front d ds e = rw e refl

pub data_here : (text : List ℕ) (d : Data) → IsUtf8 text → read text ≡ Some d → data_of text ≡ Some d
data_here text d is e = rw (is_utf8-from_IsUtf8 text is) e

data_none_at : (text : List ℕ) (b : Bool) → (b ≡ true → read text ≡ None) → (if b then read text else None) ≡ None
data_none_at text true h = h refl
data_none_at text false h = refl

pub data_none : (text : List ℕ) → (IsUtf8 text → read text ≡ None) → data_of text ≡ None
data_none text h = data_none_at text (is_utf8 text) (λ e. h (IsUtf8-from_is_utf8 text e))
