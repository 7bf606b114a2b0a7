-- Values read token by token.
use Rattle.std.proofs.Common.{◌≡◌, ◌≢◌, ℕ, ◌-◌, ◌^◌, ◌<◌, ◌≤◌, ◌==◌, ◌++◌, List, [], ◌∷◌, length, codes, Bool, true, false, Option, Some, None, option_map, option_and_then, Ordering, Less, Equal, Greater, nat_cmp, is_eq, refl, sym, ap, ◌∙◌, subst, arith, append-nil, lt-ltb, slice_index, true≢false}
use Rattle.std.specs.Prelude.{SomeIff, IfSome}
use Rattle.std.specs.Cmp.Lexicographic.{slice_cmp}
use Rattle.std.specs.Ordering.{match_ordering}
use Rattle.json.specs.Token.{Token}
use Rattle.json.specs.Json as json
use Rattle.json.specs.Json.{value, items, members, parse_map, after_end_array, read_key}
use Rattle.json.specs.Lex.{tokens}
use Rattle.json.proofs.Grammar.{value_is, value-begin_array, value-begin_object, items_end, items_more, members_end, members_more, read_key-shorter}
use Rattle.fast_float.specs.Text.{minus, scan, digits_of, IsInteger}
use Rattle.serde_json.specs.Data.{Data, Num, unsigned, number, string, array, object, Items, no_items, item, Members, no_members, member, put}
use Rattle.serde_json.specs.Read.{read, number_of, of_json, of_items, of_members}
use Rattle.serde_json.specs.Find.{get_member, as_array}
use Rattle.serde_json.specs.Events.{members_len}
use Rattle.serde_json.proofs.Views.{get_member-put, get_member-put_other}
use Rattle.std.proofs.lemmas.Map.Text.{is_eq-slice_cmp}
use Rattle.std.proofs.lemmas.Slice.Eq.{bytes_eq-Decides}
use Rattle.std.specs.Str.{bytes_eq, IsUtf8}
use Rattle.fr_cli_json.specs.Json.{only, one_member, each_of, bytes_of, pair_of, version_of}
use Rattle.fr_cli_json.specs.Tokens.{BeginsWith, BeginsWithItems, BeginsWithMembers, Gives, GivesTwo}
use Rattle.fr_cli_json.proofs.JsonLemmas.{joined, joined-none, joined_more, data_here}

pub a_string : (depth : ℕ) (s : List ℕ) (r : List Token) → BeginsWith depth (Token.string s ∷ r) (string s) r
a_string depth s r = (json.string s, value_is depth (Token.string s ∷ r), refl)

pub a_number : (depth : ℕ) (s : List ℕ) (n : Num) (r : List Token) → number_of s ≡ Some n → BeginsWith depth (Token.number s ∷ r) (number n) r
a_number depth s n r e = (json.number s, value_is depth (Token.number s ∷ r), ap (option_map number) e)

-- ---- arrays

pub no_more_items : (depth n : ℕ) (ts r : List Token) → length ts ≤ n → after_end_array ts ≡ Some r → BeginsWithItems depth n ts no_items r
no_more_items depth n ts r enough e = (json.no_items, items_end (value depth) n ts r enough e, refl)

pub one_more_item : (depth n : ℕ) (ts mid r : List Token) (d : Data) (ds : Items) → 0 < n → after_end_array ts ≡ None → BeginsWith depth ts d mid → BeginsWithItems depth (n - 1) mid ds r → BeginsWithItems depth n ts (item d ds) r
one_more_item depth n ts mid r d ds some going one more = (
  json.item one.0 more.0,
  items_more (value depth) n ts mid one.0 some going one.1 ∙ ap (parse_map (json.item one.0)) more.1,
  ap (option_and_then (λ x. option_map (item x) (of_items more.0))) one.2 ∙ ap (option_map (item d)) more.2,
)

pub an_array : (depth : ℕ) (ts r : List Token) (ds : Items) → 0 < depth → BeginsWithItems (depth - 1) (length ts) ts ds r → BeginsWith depth (Token.begin_array ∷ ts) (array ds) r
an_array depth ts r ds some h = (json.array h.0, value-begin_array depth ts some ∙ ap (parse_map json.array) h.1, ap (option_map array) h.2)

-- ---- objects

pub no_more_members : (depth n : ℕ) (ts r : List Token) (found : Members) → length ts ≤ n → read_key ts ≡ Some (None, r) → BeginsWithMembers depth n ts found found r
no_more_members depth n ts r found enough e = (json.no_members, members_end (value depth) n ts r enough e, refl)

pub one_more_member : (depth n : ℕ) (k : List ℕ) (ts s mid r : List Token) (d : Data) (found all : Members) → 0 < n → read_key ts ≡ Some (Some k, s) → BeginsWith depth s d mid
    → BeginsWithMembers depth (n - 1) mid (put k d found) all r → BeginsWithMembers depth n ts found all r
one_more_member depth n k ts s mid r d found all some named one more = (
  json.member k one.0 more.0,
  members_more (value depth) n k ts s mid one.0 some named one.1 ∙ ap (parse_map (json.member k one.0)) more.1,
  ap (option_and_then (λ x. of_members more.0 (put k x found))) one.2 ∙ more.2,
)

pub an_object : (depth : ℕ) (ts r : List Token) (all : Members) → 0 < depth → BeginsWithMembers (depth - 1) (length ts) ts no_members all r → BeginsWith depth (Token.begin_object ∷ ts) (object all) r
an_object depth ts r all some h = (json.object h.0, value-begin_object depth ts some ∙ ap (parse_map json.object) h.1, ap (option_map object) h.2)

-- an object of one member
pub of_one : (depth : ℕ) (k : List ℕ) (ts s mid r : List Token) (d : Data) → 0 < depth → read_key ts ≡ Some (Some k, s) → BeginsWith (depth - 1) s d mid → length mid < length s → read_key mid ≡ Some (None, r)
    → BeginsWith depth (Token.begin_object ∷ ts) (object (member k d no_members)) r
of_one depth k ts s mid r d some named one less over =
    let shorter = read_key-shorter ts (Some k) s named in
    let n = length ts in
    an_object depth ts r (member k d no_members) some (one_more_member (depth - 1) n k ts s mid r d no_members (member k d no_members) (omega arith) named one (no_more_members (depth - 1) (n - 1) mid r (member k d no_members) (omega arith) over))

-- an object of two members
pub of_two : (depth : ℕ) (k l : List ℕ) (ts s mid t last r : List Token) (d e : Data) → 0 < depth → read_key ts ≡ Some (Some k, s) → BeginsWith (depth - 1) s d mid → length mid < length s
    → read_key mid ≡ Some (Some l, t) → BeginsWith (depth - 1) t e last → length last < length t → read_key last ≡ Some (None, r)
    → BeginsWith depth (Token.begin_object ∷ ts) (object (put l e (member k d no_members))) r
of_two depth k l ts s mid t last r d e some named one less named_too two less_too over =
    let shorter = read_key-shorter ts (Some k) s named in
    let shorter_too = read_key-shorter mid (Some l) t named_too in
    let n = length ts in
    let all = put l e (member k d no_members) in
    let rest = no_more_members (depth - 1) (n - 1 - 1) last r all (omega arith) over in
    let second = one_more_member (depth - 1) (n - 1) l mid t last r e (member k d no_members) all (omega arith) named_too two rest in
    an_object depth ts r all some (one_more_member (depth - 1) n k ts s mid r d no_members all (omega arith) named one second)

two_at : (o : Ordering) (k l : List ℕ) (d e : Data) → is_eq o ≡ false
    → members_len (match_ordering o (member l e (member k d no_members)) (member k e no_members) (member k d (member l e no_members))) ≡ 2
two_at Less k l d e apart = refl
two_at Equal k l d e apart = absurd (true≢false apart)
two_at Greater k l d e apart = refl

differ : (xs ys : List ℕ) (b : Bool) → bytes_eq xs ys ≡ b → (xs ≡ ys → ⊥) → b ≡ false
differ xs ys true e other = absurd (other ((bytes_eq-Decides xs ys).0 e))
differ xs ys false e other = refl

two_members : (k l : List ℕ) (d e : Data) → k ≢ l → members_len (put l e (member k d no_members)) ≡ 2
two_members k l d e apart = two_at (slice_cmp nat_cmp l k) k l d e (is_eq-slice_cmp l k ∙ differ l k _ refl (λ h. apart (sym h)))

only_two : (name : List ℕ) (x : Option Data) (ms : Members) → members_len ms ≡ 2 → get_member name ms ≡ x → only 2 name (object ms) ≡ x
only_two name x ms two found = rw two found

-- the first and the second member of an object of two
pub first_of_two : (k l : List ℕ) (d e : Data) → k ≢ l → only 2 k (object (put l e (member k d no_members))) ≡ Some d
first_of_two k l d e apart =
    only_two k (Some d) (put l e (member k d no_members)) (two_members k l d e apart) (get_member-put_other k l e (member k d no_members) apart ∙ get_member-put k d no_members)

pub second_of_two : (k l : List ℕ) (d e : Data) → k ≢ l → only 2 l (object (put l e (member k d no_members))) ≡ Some e
second_of_two k l d e apart = only_two l (Some e) (put l e (member k d no_members)) (two_members k l d e apart) (get_member-put l e (member k d no_members))

-- the only member of an object
pub only_one : (k : List ℕ) (d : Data) → only 1 k (object (member k d no_members)) ≡ Some d
only_one k d = get_member-put k d no_members

-- ---- a list that grows at its end

module _ {A : Type 0} (f : Data → Option A) (depth : ℕ) (first : List Token) where
  -- all items, once those that are left begin the tokens `now`
  abbrev pub AllRead : ℕ → List A → List Token → Type 0
  AllRead n front now = (ds : Items) (r : List Token) → BeginsWithItems depth n now ds r → (all : Items) × BeginsWithItems depth (length first) first all r × (each_of f all ≡ joined front (each_of f ds))

  pub none_read : AllRead (length first) [] first
  none_read ds r h = (ds, h, sym (joined-none (each_of f ds)))

  pub one_more_read : (n : ℕ) (front : List A) (now mid : List Token) (a : A) → 0 < n → after_end_array now ≡ None → Gives f depth now a mid → AllRead n front now → AllRead (n - 1) (front ++ a ∷ []) mid
  one_more_read n front now mid a some going one before ds r h =
      let b = before (item one.0 ds) r (one_more_item depth n now mid r one.0 ds some going one.1 h) in
      (b.0, b.1, b.2 ∙ joined_more f front one.0 ds a one.2)

  pub all_read : (n : ℕ) (front : List A) (now r : List Token) → length now ≤ n → after_end_array now ≡ Some r → AllRead n front now → (all : Items) × BeginsWithItems depth (length first) first all r × (each_of f all ≡ Some front)
  all_read n front now r enough over before =
      let b = before no_items r (no_more_items depth n now r enough over) in
      (b.0, b.1, b.2 ∙ ap Some (append-nil front))

-- ---- the whole text

pub whole_text : (text : List ℕ) (d : Data) → BeginsWith 127 (tokens text) d [] → read text ≡ Some d
whole_text text d h = ap (λ o. option_and_then of_json (option_and_then (λ p. json.if_last p.0 p.1) o)) h.1 ∙ h.2

-- ---- the parts of a script

-- where f reads the tokens' value as a, and g reads all that f reads
pub given_by : {A B : Type 0} (f : Data → Option A) (g : A → Option B) (depth : ℕ) (ts r : List Token) (a : A) (b : B) → Gives f depth ts a r → g a ≡ Some b → Gives (λ d. option_and_then g (f d)) depth ts b r
given_by f g depth ts r a b h e = (h.0, h.1, ap (option_and_then g) h.2 ∙ e)

-- an object of two members, in either order
module _ {A B : Type 0} (f : Data → Option A) (g : Data → Option B) (depth : ℕ) (k l : List ℕ) (apart : k ≢ l) (old ts s mid t last r : List Token) (a : A) (b : B) where
  pub two_read : 0 < depth → old ≡ Token.begin_object ∷ ts → read_key ts ≡ Some (Some k, s) → Gives f (depth - 1) s a mid → length mid < length s → read_key mid ≡ Some (Some l, t) → Gives g (depth - 1) t b last → length last < length t
      → read_key last ≡ Some (None, r) → GivesTwo f g k l depth old a b r
  two_read some opened named one less named_too two less_too over =
      let d = one.0 in
      let e = two.0 in
      let all = object (put l e (member k d no_members)) in (
        all,
        subst (λ xs. BeginsWith depth xs all r) (sym opened) (of_two depth k l ts s mid t last r d e some named one.1 less named_too two.1 less_too over),
        ap (option_and_then f) (first_of_two k l d e apart) ∙ one.2,
        ap (option_and_then g) (second_of_two k l d e apart) ∙ two.2,
      )

  pub two_turned : 0 < depth → old ≡ Token.begin_object ∷ ts → read_key ts ≡ Some (Some l, s) → Gives g (depth - 1) s b mid → length mid < length s → read_key mid ≡ Some (Some k, t) → Gives f (depth - 1) t a last → length last < length t
      → read_key last ≡ Some (None, r) → GivesTwo f g k l depth old a b r
  two_turned some opened named one less named_too two less_too over =
      let d = one.0 in
      let e = two.0 in
      let all = object (put k e (member l d no_members)) in (
        all,
        subst (λ xs. BeginsWith depth xs all r) (sym opened) (of_two depth l k ts s mid t last r d e some named one.1 less named_too two.1 less_too over),
        ap (option_and_then f) (second_of_two l k d e (λ h. apart (sym h))) ∙ two.2,
        ap (option_and_then g) (first_of_two l k d e (λ h. apart (sym h))) ∙ one.2,
      )

pub pair_read : (k l : List ℕ) (depth : ℕ) (ts r : List Token) (a b : List ℕ) → GivesTwo bytes_of bytes_of k l depth ts a b r → Gives (pair_of k l) depth ts (a, b) r
pair_read k l depth ts r a b h = (h.0, h.1, rw (h.2, h.3) refl)

-- an object of one member
module _ {A : Type 0} (depth : ℕ) (k : List ℕ) (old ts s mid r : List Token) (a : A) where
  -- which names what is read
  pub named_read : (f : List ℕ → Data → Option A) → 0 < depth → old ≡ Token.begin_object ∷ ts → read_key ts ≡ Some (Some k, s) → Gives (f k) (depth - 1) s a mid → length mid < length s → read_key mid ≡ Some (None, r)
      → Gives (λ d. option_and_then (λ m. f m.0 m.1) (one_member d)) depth old a r
  named_read f some opened named one less over =
      let all = object (member k one.0 no_members) in
      (all, subst (λ xs. BeginsWith depth xs all r) (sym opened) (of_one depth k ts s mid r one.0 some named one.1 less over), one.2)

  -- whose name is known
  pub member_read : (f : Data → Option A) → 0 < depth → old ≡ Token.begin_object ∷ ts → read_key ts ≡ Some (Some k, s) → Gives f (depth - 1) s a mid → length mid < length s → read_key mid ≡ Some (None, r)
      → Gives (λ d. option_and_then f (only 1 k d)) depth old a r
  member_read f some opened named one less over =
      let all = object (member k one.0 no_members) in
      (all, subst (λ xs. BeginsWith depth xs all r) (sym opened) (of_one depth k ts s mid r one.0 some named one.1 less over), ap (option_and_then f) (only_one k one.0) ∙ one.2)

pub list_read : {A : Type 0} (f : Data → Option A) (depth : ℕ) (old first r : List Token) (n : ℕ) (xs : List A) (now : List Token) → 0 < depth → old ≡ Token.begin_array ∷ first → length now ≤ n → after_end_array now ≡ Some r
    → AllRead f (depth - 1) first n xs now → Gives (λ d. option_and_then (each_of f) (as_array d)) depth old xs r
list_read f depth old first r n xs now some opened enough over before =
    let all = all_read f (depth - 1) first n xs now r enough over before in
    (array all.0, subst (λ xs. BeginsWith depth xs (array all.0) r) (sym opened) (an_array depth first r all.0 some all.1), all.2)

-- a number that is written in digits alone
pub digits_alone : (s : List ℕ) (n : ℕ) → (slice_index s 0 == minus) ≡ false → IsInteger (scan s) → digits_of (scan s) < 2 ^ 64 → n ≡ digits_of (scan s) → number_of s ≡ Some (unsigned n)
unfolding number_of
digits_alone s n plain h fits e =
    rw (plain, lt-ltb 0 (length (scan s).whole) h.0, h.1, h.2, lt-ltb (digits_of (scan s)) (2 ^ 64) fits, e) refl

pub digits_found : (s : List ℕ) (o : Option ℕ) → (slice_index s 0 == minus) ≡ false → SomeIff o (IsInteger (scan s) × (digits_of (scan s) < 2 ^ 64)) (digits_of (scan s)) → IfSome o (λ n. number_of s ≡ Some (unsigned n))
digits_found s None plain h = tt
digits_found s (Some n) plain h = digits_alone s n plain h.0.0 h.0.1 h.1
