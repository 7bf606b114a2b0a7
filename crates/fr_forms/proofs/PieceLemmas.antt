-- Values read piece by piece.
use Rattle.std.proofs.Common.{◌≡◌, ℕ, ◌-◌, ◌^◌, ◌<◌, ◌≤◌, ◌&&◌, ◌==◌, nat_lt, nat_le, Bool, true, false, List, ◌∷◌, length, drop, slice_index, Some, None, refl, sym, ◌∙◌, subst}
use Rattle.std.proofs.lemmas.Bool.{eq-eqb}
use Rattle.std.specs.Float.{binary64, float_is_finite}
use Rattle.fast_float.specs.Text.{Parts, scan, digits_of, nearest, with_sign}
use Rattle.json.specs.Token.{Token}
use Rattle.json.specs.Json as json
use Rattle.json.specs.Json.{after_end_array, read_key}
use Rattle.json.proofs.Grammar.{value_is}
use Rattle.serde_json.specs.Data.{Data, Num, unsigned, negative, float, boolean, null, string, number, array, object, Items, item, Members, no_members, put}
use Rattle.serde_json.specs.Read.{number_of, number_from, float_of, is_integer}
use Rattle.fr_cli_json.specs.Tokens.{BeginsWith, BeginsWithItems, BeginsWithMembers}
use Rattle.fr_forms.specs.Pieces.{HasValue}
use Rattle.fr_cli_json.proofs.TokenLemmas.{a_string, a_number, an_array, an_object, no_more_members, one_more_item, one_more_member}

-- the same tokens, and a tree that is seen as the same value
pub begins_at : (depth : ℕ) (ts old r : List Token) (d seen : Data) → old ≡ ts → seen ≡ d → BeginsWith depth ts d r → BeginsWith depth old seen r
begins_at depth ts old r d seen is same h = subst (λ x. BeginsWith depth old x r) (sym same) (subst (λ xs. BeginsWith depth xs d r) (sym is) h)

pub a_boolean : (depth : ℕ) (b : Bool) (r : List Token) → BeginsWith depth (Token.boolean b ∷ r) (boolean b) r
a_boolean depth b r = (json.boolean b, value_is depth (Token.boolean b ∷ r), refl)

pub a_null : (depth : ℕ) (r : List Token) → BeginsWith depth (Token.null ∷ r) null r
a_null depth r = (json.null, value_is depth (Token.null ∷ r), refl)

module _ (depth : ℕ) (first : List Token) where
  -- ---- an object whose members go in among those found before

  abbrev pub MembersLeft : ℕ → Members → List Token → Type 0
  MembersLeft n found now = (all : Members) (r : List Token) → BeginsWithMembers depth n now found all r → BeginsWithMembers depth (length first) first no_members all r

  pub no_member_seen : MembersLeft (length first) no_members first
  no_member_seen all r h = h

  pub one_member_seen : (n : ℕ) (found : Members) (k : List ℕ) (now s mid : List Token) (d : Data) → 0 < n → read_key now ≡ Some (Some k, s) → BeginsWith depth s d mid → MembersLeft n found now → MembersLeft (n - 1) (put k d found) mid
  one_member_seen n found k now s mid d some named one before all r h = before all r (one_more_member depth n k now s mid r d found all some named one h)

  pub all_members_seen : (n : ℕ) (found : Members) (now r : List Token) → length now ≤ n → read_key now ≡ Some (None, r) → MembersLeft n found now → BeginsWithMembers depth (length first) first no_members found r
  all_members_seen n found now r enough over before = before found r (no_more_members depth n now r found enough over)

-- ---- arrays and objects that are read in parts, each of which is some value

module _ (depth : ℕ) (first : List Token) where
  -- the array has some items, once those that are left begin the tokens `now`
  abbrev pub SomeLeft : ℕ → List Token → Type 0
  SomeLeft n now = (ds : Items) (r : List Token) → BeginsWithItems depth n now ds r → (all : Items) × BeginsWithItems depth (length first) first all r

  pub none_passed : SomeLeft (length first) first
  none_passed ds r h = (ds, h)

  pub one_passed : (n : ℕ) (now mid : List Token) → 0 < n → after_end_array now ≡ None → HasValue depth now mid → SomeLeft n now → SomeLeft (n - 1) mid
  one_passed n now mid some going one before ds r h = before (item one.0 ds) r (one_more_item depth n now mid r one.0 ds some going one.1 h)

-- ---- values without parts, where it does not matter which they are

pub string_there : (depth : ℕ) (s : List ℕ) (old r : List Token) → old ≡ Token.string s ∷ r → HasValue depth old r
string_there depth s old r is = (string s, begins_at depth (Token.string s ∷ r) old r (string s) (string s) is refl (a_string depth s r))

pub number_there : (depth : ℕ) (s : List ℕ) (n : Num) (old r : List Token) → number_of s ≡ Some n → old ≡ Token.number s ∷ r → HasValue depth old r
number_there depth s n old r fits is = (number n, begins_at depth (Token.number s ∷ r) old r (number n) (number n) is refl (a_number depth s n r fits))

pub boolean_there : (depth : ℕ) (b : Bool) (old r : List Token) → old ≡ Token.boolean b ∷ r → HasValue depth old r
boolean_there depth b old r is = (boolean b, begins_at depth (Token.boolean b ∷ r) old r (boolean b) (boolean b) is refl (a_boolean depth b r))

pub null_there : (depth : ℕ) (old r : List Token) → old ≡ Token.null ∷ r → HasValue depth old r
null_there depth old r is = (null, begins_at depth (Token.null ∷ r) old r null null is refl (a_null depth r))

pub array_there : (depth : ℕ) (old ts r : List Token) (ds : Items) → 0 < depth → old ≡ Token.begin_array ∷ ts → BeginsWithItems (depth - 1) (length ts) ts ds r → HasValue depth old r
array_there depth old ts r ds some is h = (array ds, begins_at depth (Token.begin_array ∷ ts) old r (array ds) (array ds) is refl (an_array depth ts r ds some h))

pub object_there : (depth : ℕ) (old ts r : List Token) (ms : Members) → 0 < depth → old ≡ Token.begin_object ∷ ts → BeginsWithMembers (depth - 1) (length ts) ts no_members ms r → HasValue depth old r
object_there depth old ts r ms some is h = (object ms, begins_at depth (Token.begin_object ∷ ts) old r (object ms) (object ms) is refl (an_object depth ts r ms some h))

-- ---- numbers that a double can come near

finite_found : (sign : Bool) (p : Parts) → float_is_finite (nearest binary64 sign p) ≡ true → (n : Num) × (float_of sign p ≡ Some n)
finite_found sign p e = (float (nearest binary64 sign p), rw e)

by_size : (p : Parts) → float_is_finite (nearest binary64 false p) ≡ true → (s : Bool) → (is_integer p && nat_lt (digits_of p) (2 ^ 64)) ≡ s → (n : Num) × (number_from false p ≡ Some n)
by_size p e true h = (unsigned (digits_of p), rw h)
by_size p e false h = let f = finite_found false p e in (f.0, rw h f.1)

by_sign : (p : Parts) → float_is_finite (nearest binary64 true p) ≡ true → (s : Bool) → (is_integer p && nat_lt 0 (digits_of p) && nat_le (digits_of p) (2 ^ 63)) ≡ s → (n : Num) × (number_from true p ≡ Some n)
by_sign p e true h = (negative (with_sign true (digits_of p)), rw h)
by_sign p e false h = let f = finite_found true p e in (f.0, rw h f.1)

pub number_found : (sign : Bool) (p : Parts) → float_is_finite (nearest binary64 sign p) ≡ true → (n : Num) × (number_from sign p ≡ Some n)
number_found false p e = by_size p e (is_integer p && nat_lt (digits_of p) (2 ^ 64)) refl
number_found true p e = by_sign p e (is_integer p && nat_lt 0 (digits_of p) && nat_le (digits_of p) (2 ^ 63)) refl

pub signed_in_range : (s : List ℕ) (p : Parts) (b : Bool) → slice_index s 0 ≡ 45 → p ≡ scan (drop 1 s) → b ≡ float_is_finite (nearest binary64 true p) → b ≡ true → (n : Num) × (number_of s ≡ Some n)
unfolding number_of number_found
signed_in_range s p b first parts finite holds =
    let f = number_found true (scan (drop 1 s)) (subst (λ q. float_is_finite (nearest binary64 true q) ≡ true) parts (sym finite ∙ holds)) in
    (f.0, rw (eq-eqb (slice_index s 0) 45 first) f.1)

pub plain_in_range : (s : List ℕ) (p : Parts) (b : Bool) → (slice_index s 0 == 45) ≡ false → p ≡ scan s → b ≡ float_is_finite (nearest binary64 false p) → b ≡ true → (n : Num) × (number_of s ≡ Some n)
unfolding number_of number_found
plain_in_range s p b first parts finite holds =
    let f = number_found false (scan s) (subst (λ q. float_is_finite (nearest binary64 false q) ≡ true) parts (sym finite ∙ holds)) in
    (f.0, rw first f.1)
