-- Why each key is in one shard, and which shards a mutation meets.
use Rattle.std.proofs.Common.{◌≡◌, ℕ, zero, suc, ◌+◌, ◌-◌, ◌<◌, Bool, true, false, not, cond, ◌&&◌, nat_eq, nat_lt, List, [], ◌∷◌, length, get_or, Option, None, Some, refl, sym, ◌∙◌, ap, subst, inl, inr, arith}
use Rattle.std.specs.Prelude.{slice_get, is_some}
use Rattle.std.specs.Bool.{then_some}
use Rattle.std.specs.Option.{option_map_or}
use Rattle.std.specs.List.{filter, All, Contains, range_with_len}
use Rattle.std.specs.List.Sorted.{IsStrictlyIncreasing}
use Rattle.std.specs.Ordering.{is_le, is_lt, is_eq}
use Rattle.std.proofs.lemmas.Cmp.{tied_itself}
use Rattle.std.proofs.lemmas.Bool.{cases_lt, lt-ltb, le-ltb, eqb-true, eq-eqb, ne_eqb, and_parts, and_from}
use Rattle.std.proofs.lemmas.Option.{slice_get-get_or, slice_get_past}
use Rattle.std.proofs.lemmas.List.Elements.{All-contains, All-filter, filter_passes}
use Rattle.std.proofs.lemmas.List.Kept.{IsStrictlyIncreasing-filter}
use Rattle.std.proofs.lemmas.List.FromFn.{length-range_with_len, get_or-range_with_len}
use Rattle.fr_base.specs.Bytes.{bytes_cmp, bytes_total, bytes_exact, is_same}
use Rattle.fr_base.proofs.MapLemmas.{one_key}
use Rattle.fr_mutation.specs.Mutation.{key_of, touches, is_between}
use Rattle.fr_mutation.specs.Shard.{in_shard}
use Rattle.fr_mutation.specs.declared.mutation.Mutation.{Mutation}
use Rattle.fr_mutation.specs.declared.mutation.Mutation.TheVariants.{Set, Clear, Atomic}
use Rattle.fr_mutation.specs.declared.shard.Shard.{Shard}
use Rattle.fr_tags.specs.Shards.{shard_at, begun, tag_of, meets_range, meets, tags_of}
use Rattle.fr_tags.specs.ShardLaw.{EachKeyIsInOneShard, TagsAreOfTouchedKeys, TagsRise}
use Rattle.fr_mutation.specs.Clip.{later, earlier, clip_clear}
use Rattle.fr_mutation.proofs.MutationLemmas.{touches_key}
use Rattle.fr_mutation.proofs.Order.{lt-le, le_lt_trans, le_itself, later_le, earlier_lt}
use Rattle.fr_tags.proofs.ShardLemmas.{IsWhole, whole, at_or_below, some_begun, begun_within, tag_within}

-- a key is below the end of a shard where no more shards begin at or below it
below_end : (begins : List (List ℕ)) (key : List ℕ) (t : ℕ) → IsWhole begins → option_map_or (λ limit. is_lt (bytes_cmp key limit)) (slice_get begins (t + 1)) true ≡ not (nat_lt (t + 1) (begun begins key))
below_end begins key t w = elim (cases_lt (t + 1) (length begins)) [
  | inl within ↦
      ap (λ next. option_map_or (λ limit. is_lt (bytes_cmp key limit)) next true) (slice_get-get_or begins (t + 1) [] within)
      ∙ lt-le key (get_or begins (t + 1) [])
      ∙ ap not (at_or_below begins key (t + 1) [] w.rising within)
  | inr past ↦
      ap (λ next. option_map_or (λ limit. is_lt (bytes_cmp key limit)) next true) (slice_get_past begins (t + 1) past)
      ∙ (let few = begun_within begins key in ap not (sym (le-ltb (t + 1) (begun begins key) (omega (arith, few, past)))))
]

-- a shard has the keys of its tag
pub in_shard-at : (begins : List (List ℕ)) (key : List ℕ) (t : ℕ) → IsWhole begins → t < length begins → in_shard (shard_at begins t) key ≡ nat_eq (tag_of begins key) t
in_shard-at begins key t w within =
    ap (λ b. b && option_map_or (λ limit. is_lt (bytes_cmp key limit)) (slice_get begins (t + 1)) true) (at_or_below begins key t [] w.rising within)
    ∙ ap (λ b. nat_lt t (begun begins key) && b) (below_end begins key t w)
    ∙ last (begun begins key) (some_begun begins key w)
  where
    last : (n : ℕ) → 0 < n → (nat_lt t n && not (nat_lt (t + 1) n)) ≡ nat_eq (n - 1) t
    last n some = elim (cases_lt t n) [
      | inl more ↦ elim (cases_lt (t + 1) n) [
        | inl far ↦ rw (lt-ltb t n more, lt-ltb (t + 1) n far, ne_eqb (n - 1) t (λ e. absurd (omega (arith, e, far)))) refl
        | inr here ↦ rw (lt-ltb t n more, le-ltb (t + 1) n here, eq-eqb (n - 1) t (omega arith)) refl
      ]
      | inr fewer ↦ rw (le-ltb t n fewer, ne_eqb (n - 1) t (λ e. absurd (omega (arith, e, fewer, some)))) refl
    ]

pub each_key_is_in_one_shard : EachKeyIsInOneShard
each_key_is_in_one_shard begins key t e within =
    let same = in_shard-at begins key t (whole begins e) within in
    (λ inside. eqb-true (tag_of begins key) t (sym same ∙ inside), λ tagged. same ∙ eq-eqb (tag_of begins key) t tagged)

-- a shard with a key of a range meets the range
pub meets_range-from : (begin end : List ℕ) (s : Shard) (key : List ℕ) → in_shard s key ≡ true → is_between begin end key ≡ true → meets_range begin end s ≡ true
meets_range-from begin end s key inside acts =
    let shard_parts = and_parts (is_le (bytes_cmp s.begin key)) (option_map_or (λ limit. is_lt (bytes_cmp key limit)) s.end true) inside in
    let range_parts = and_parts (is_le (bytes_cmp begin key)) (is_lt (bytes_cmp key end)) acts in
    le_lt_trans (later begin s.begin) key (earlier end s.end)
    (later_le begin s.begin key ∙ and_from (is_le (bytes_cmp begin key)) (is_le (bytes_cmp s.begin key)) range_parts.0 shard_parts.0)
    (under s.end range_parts.1 shard_parts.1)
  where
    under : (o : Option (List ℕ)) → is_lt (bytes_cmp key end) ≡ true → option_map_or (λ limit. is_lt (bytes_cmp key limit)) o true ≡ true → is_lt (bytes_cmp key (earlier end o)) ≡ true
    under None l h = l
    under (Some limit) l h = earlier_lt end limit key ∙ and_from (is_lt (bytes_cmp key end)) (is_lt (bytes_cmp key limit)) l h

-- and a shard that meets a range has a key of it
pub key_of_range : (begin end : List ℕ) (s : Shard) → meets_range begin end s ≡ true → (key : List ℕ) × (in_shard s key ≡ true) × (is_between begin end key ≡ true)
key_of_range begin end s met =
    let key = later begin s.begin in
    let begins' = and_parts (is_le (bytes_cmp begin key)) (is_le (bytes_cmp s.begin key)) (sym (later_le begin s.begin key) ∙ le_itself key) in
    let ends = under key s.end met in (
      key,
      and_from (is_le (bytes_cmp s.begin key)) (option_map_or (λ limit. is_lt (bytes_cmp key limit)) s.end true) begins'.1 ends.1,
      and_from (is_le (bytes_cmp begin key)) (is_lt (bytes_cmp key end)) begins'.0 ends.0,
    )
  where
    under : (key : List ℕ) (o : Option (List ℕ)) → is_lt (bytes_cmp key (earlier end o)) ≡ true → (is_lt (bytes_cmp key end) ≡ true) × (option_map_or (λ limit. is_lt (bytes_cmp key limit)) o true ≡ true)
    under key None l = (l, refl)
    under key (Some limit) l = and_parts (is_lt (bytes_cmp key end)) (is_lt (bytes_cmp key limit)) (sym (earlier_lt end limit key) ∙ l)

-- ---- which shards a mutation meets

same_shard : (k : List ℕ) (s : Shard) (key : List ℕ) → in_shard s key ≡ true → is_same k key ≡ true → in_shard s k ≡ true
same_shard k s key inside acts = subst (λ q. in_shard s q ≡ true) (sym (one_key bytes_exact k key acts)) inside

is_some-then_some : {T : Type 0} (b : Bool) (x : T) → is_some (then_some b x) ≡ b
is_some-then_some true x = refl
is_some-then_some false x = refl

-- a mutation with a key meets the shards that have the key
pub meets-keyed : (mutation : Mutation) (key : List ℕ) (s : Shard) → key_of mutation ≡ Some key → meets mutation s ≡ in_shard s key
meets-keyed mutation key s e =
    ap (λ o. is_some (option_map_or (λ k. then_some (in_shard s k) mutation) o (clip_clear s mutation))) e
    ∙ is_some-then_some (in_shard s key) mutation

-- and a clear those with a key of its range
pub meets-clear : (begin end : List ℕ) (s : Shard) → meets (Clear begin end) s ≡ meets_range begin end s
meets-clear begin end s = is_some-then_some (meets_range begin end s) (Clear (later begin s.begin) (earlier end s.end))

-- what holds of a clear, and of each mutation with a key, holds of every mutation
by_key : (P : Mutation → Type 0) → ((begin end : List ℕ) → P (Clear begin end)) → ((mutation : Mutation) (key : List ℕ) → key_of mutation ≡ Some key → P mutation) → (mutation : Mutation) → P mutation
by_key P c k (Set key value) = k (Set key value) key refl
by_key P c k (Clear begin end) = c begin end
by_key P c k (Atomic op key param) = k (Atomic op key param) key refl

-- a mutation that acts on a key of a shard meets the shard
pub meets-from : (mutation : Mutation) (s : Shard) (key : List ℕ) → in_shard s key ≡ true → touches mutation key ≡ true → meets mutation s ≡ true
meets-from mutation s key inside =
    by_key (λ m. touches m key ≡ true → meets m s ≡ true)
    (λ begin end acts. meets-clear begin end s ∙ meets_range-from begin end s key inside acts)
    (λ m k e acts. meets-keyed m k s e ∙ same_shard k s key inside (sym (touches_key m k e key) ∙ acts))
    mutation

-- and a shard that a mutation meets has a key on which it acts
pub key_of_met : (mutation : Mutation) (s : Shard) → meets mutation s ≡ true → (key : List ℕ) × (in_shard s key ≡ true) × (touches mutation key ≡ true)
key_of_met mutation s =
    by_key (λ m. meets m s ≡ true → (key : List ℕ) × (in_shard s key ≡ true) × (touches m key ≡ true))
    (λ begin end met. key_of_range begin end s (sym (meets-clear begin end s) ∙ met))
    (λ m k e met. (k, sym (meets-keyed m k s e) ∙ met, touches_key m k e k ∙ ap is_eq (tied_itself bytes_total k)))
    mutation

pub Contains-filter : {X : Type 0} (p : X → Bool) (xs : List X) (x : X) → Contains xs x → p x ≡ true → Contains (filter p xs) x
Contains-filter p [] x (k, l, e) passes = absurd (omega (arith, l))
Contains-filter p (y ∷ xs) x (zero, l, e) passes =
    let here : p y ≡ true = subst (λ z. p z ≡ true) (sym e) passes in
    rw here (0, omega arith, e)
Contains-filter p (y ∷ xs) x (suc k, l, e) passes =
    let rest = Contains-filter p xs x (k, omega (arith, l), e) passes in
    elim (p y) as (λ b. Contains (cond b (y ∷ filter p xs) (filter p xs)) x) [
      | true ↦ (suc rest.0, omega (arith, rest.1), rest.2)
      | false ↦ rest
    ]

pub below_range : (n : ℕ) → All (λ t. t < n) (range_with_len 0 n)
below_range n k d l =
    let many = length-range_with_len 0 n in
    let here = get_or-range_with_len 0 n k d (omega (arith, l, many)) in
    omega (arith, l, many, here)

pub Contains-range : (n t : ℕ) → t < n → Contains (range_with_len 0 n) t
Contains-range n t l = (t, (let many = length-range_with_len 0 n in omega (arith, l, many)), get_or-range_with_len 0 n t t l ∙ omega arith)

pub tags_are_of_touched_keys : TagsAreOfTouchedKeys
tags_are_of_touched_keys begins mutation t e = (λ has. from_tag has, λ (key, acts, tagged). to_tag key acts tagged)
  where
    from_tag : Contains (tags_of begins mutation) t → (key : List ℕ) × (touches mutation key ≡ true) × (tag_of begins key ≡ t)
    from_tag has =
        let s = shard_at begins t in
        let within : t < length begins = All-contains (λ u. u < length begins) (tags_of begins mutation) t (All-filter (λ u. meets mutation (shard_at begins u)) (λ u. u < length begins) (range_with_len 0 (length begins)) (below_range (length begins))) has in
        let met : meets mutation s ≡ true = All-contains (λ u. meets mutation (shard_at begins u) ≡ true) (tags_of begins mutation) t (filter_passes (λ u. meets mutation (shard_at begins u)) (range_with_len 0 (length begins))) has in
        let found = key_of_met mutation s met in
        (found.0, found.2, eqb-true (tag_of begins found.0) t (sym (in_shard-at begins found.0 t (whole begins e) within) ∙ found.1))

    to_tag : (key : List ℕ) → touches mutation key ≡ true → tag_of begins key ≡ t → Contains (tags_of begins mutation) t
    to_tag key acts tagged =
        let w = whole begins e in
        let within : t < length begins = subst (λ u. u < length begins) tagged (tag_within begins key w) in
        let inside : in_shard (shard_at begins t) key ≡ true = in_shard-at begins key t w within ∙ eq-eqb (tag_of begins key) t tagged in
        Contains-filter (λ u. meets mutation (shard_at begins u)) (range_with_len 0 (length begins)) t (Contains-range (length begins) t within) (meets-from mutation (shard_at begins t) key inside acts)

pub range_rises : (n : ℕ) → IsStrictlyIncreasing (range_with_len 0 n)
range_rises n k l =
    let many = length-range_with_len 0 n in
    let here = get_or-range_with_len 0 n k 0 (omega (arith, l, many)) in
    let next = get_or-range_with_len 0 n (k + 1) 0 (omega (arith, l, many)) in
    omega (arith, here, next)

-- tags rise
pub tags_rise : TagsRise
tags_rise begins mutation = IsStrictlyIncreasing-filter (λ t. meets mutation (shard_at begins t)) (range_with_len 0 (length begins)) (range_rises (length begins))
