-- What a clip does at a key.
use Rattle.std.proofs.Common.{◌≡◌, ℕ, ◌<◌, ◌≤◌, Bool, true, false, cond, ◌||◌, ◌&&◌, List, [], ◌∷◌, Option, None, Some, refl, sym, ap, ◌∙◌, length, arith, suc, take, get_or, ◌+◌, ◌++◌}
use Rattle.std.proofs.lemmas.List.{take_more}
use Rattle.std.proofs.lemmas.List.Elements.{filter_map-append}
use Rattle.std.proofs.lemmas.Bool.Decides.{nat_tests}
use Rattle.std.specs.Bool.{then_some}
use Rattle.std.specs.Option.{option_map_or, option_or, ForSome}
use Rattle.std.specs.Ordering.{is_le, is_lt, is_eq}
use Rattle.std.proofs.lemmas.Cmp.{tied_itself}
use Rattle.std.specs.Prelude.{nat_lt}
use Rattle.std.specs.List.{cons_option}
use Rattle.std.specs.FinMap.{get, same_map, get-retain_keys}
use Rattle.fr_base.specs.Bytes.{bytes_cmp, bytes_total, bytes_exact, is_same}
use Rattle.fr_base.specs.Map.{Map}
use Rattle.fr_base.proofs.MapLemmas.{one_key}
use Rattle.fr_mutation.specs.declared.mutation.Mutation.{Mutation}
use Rattle.fr_mutation.specs.declared.mutation.Mutation.TheVariants.{Set, Clear, Atomic}
use Rattle.fr_mutation.specs.declared.shard.Shard.{Shard}
use Rattle.fr_mutation.specs.Mutation.{key_of, is_between, touches, touched, new_value, value_after, value_after_all, after}
use Rattle.fr_mutation.specs.Shard.{in_shard, part, EndsFit}
use Rattle.fr_mutation.specs.Limits.{clear_fault, mutation_fault, first_fault, batch_fault}
use Rattle.fr_mutation.specs.declared.fault.BatchFault.TheVariants.{KeyTooLong, Inverted, TooMany}
use Rattle.fr_mutation.specs.Clip.{later, earlier, clear_of, clip_clear, clip_one, clipped}
use Rattle.fr_mutation.proofs.MutationLemmas.{touches_key, get-after, or_none}
use Rattle.fr_mutation.proofs.LimitLemmas.{cond_none, option_or_none}
use Rattle.fr_mutation.proofs.Order.{later_le, earlier_lt, nothing_between, le_itself, lt_one_way}

-- what a clip of one mutation is
clip_keyed : (s : Shard) (mutation : Mutation) (key : List ℕ) → key_of mutation ≡ Some key → clip_one s mutation ≡ then_some (in_shard s key) mutation
clip_keyed s mutation key e = ap (λ o. option_map_or (λ k. then_some (in_shard s k) mutation) o (clip_clear s mutation)) e

-- a mutation with no key is a clear
unkeyed : (P : Mutation → Type 0) (mutation : Mutation) → key_of mutation ≡ None → ((begin end : List ℕ) → P (Clear begin end)) → P mutation
unkeyed P (Set key value) e p = cc
unkeyed P (Clear begin end) e p = p begin end
unkeyed P (Atomic op key param) e p = cc

-- whether a mutation, if there is one, acts on a key
abbrev pub acts_on : Option Mutation → List ℕ → Bool
acts_on o q = option_map_or (λ mutation. touches mutation q) o false

and4 : (a b c d : Bool) → ((a && b) && (c && d)) ≡ ((a && c) && (b && d))
and4 false b c d = refl
and4 true false false d = refl
and4 true false true d = refl
and4 true true false d = refl
and4 true true true d = refl

and3 : (a b c : Bool) → ((a && b) && c) ≡ ((a && c) && (b && true))
and3 false b c = refl
and3 true false false = refl
and3 true false true = refl
and3 true true false = refl
and3 true true true = refl

between_clip : (s : Shard) (begin end q : List ℕ) → is_between (later begin s.begin) (earlier end s.end) q ≡ (is_between begin end q && in_shard s q)
between_clip s begin end q = go s.end
  where
    go : (o : Option (List ℕ)) → is_between (later begin s.begin) (earlier end o) q ≡ (is_between begin end q && (is_le (bytes_cmp s.begin q) && option_map_or (λ limit. is_lt (bytes_cmp q limit)) o true))
    go None = ap (λ b. b && is_lt (bytes_cmp q end)) (later_le begin s.begin q) ∙ and3 (is_le (bytes_cmp begin q)) (is_le (bytes_cmp s.begin q)) (is_lt (bytes_cmp q end))
    go (Some limit) =
        (λ i. later_le begin s.begin q i && earlier_lt end limit q i)
        ∙ and4 (is_le (bytes_cmp begin q)) (is_le (bytes_cmp s.begin q)) (is_lt (bytes_cmp q end)) (is_lt (bytes_cmp q limit))

clear_acts : (begin end q : List ℕ) → acts_on (clear_of begin end) q ≡ is_between begin end q
clear_acts begin end q = go (is_lt (bytes_cmp begin end)) refl
  where
    go : (r : Bool) → is_lt (bytes_cmp begin end) ≡ r → acts_on (then_some r (Clear begin end)) q ≡ is_between begin end q
    go true e = refl
    go false e = sym (nothing_between begin end q e)

kept_acts : (s : Shard) (mutation : Mutation) (key q : List ℕ) → key_of mutation ≡ Some key → acts_on (then_some (in_shard s key) mutation) q ≡ (is_same key q && in_shard s q)
kept_acts s mutation key q e = go (in_shard s key) (is_same key q) refl refl
  where
    go : (a b : Bool) → in_shard s key ≡ a → is_same key q ≡ b → acts_on (then_some a mutation) q ≡ (b && in_shard s q)
    go true true f g = touches_key mutation key e q ∙ g ∙ sym (sym (ap (in_shard s) (one_key bytes_exact key q g)) ∙ f)
    go true false f g = touches_key mutation key e q ∙ g
    go false true f g = sym (sym (ap (in_shard s) (one_key bytes_exact key q g)) ∙ f)
    go false false f g = refl

-- a clip of a mutation acts where the mutation acts in the shard
pub clip_acts : (s : Shard) (mutation : Mutation) (q : List ℕ) → acts_on (clip_one s mutation) q ≡ (touches mutation q && in_shard s q)
clip_acts s mutation q = go (key_of mutation) refl
  where
    go : (o : Option (List ℕ)) → key_of mutation ≡ o → acts_on (clip_one s mutation) q ≡ (touches mutation q && in_shard s q)
    go None e = unkeyed (λ m. acts_on (clip_one s m) q ≡ (touches m q && in_shard s q)) mutation e (λ begin end. clear_acts (later begin s.begin) (earlier end s.end) q ∙ between_clip s begin end q)
    go (Some key) e =
        ap (λ o. acts_on o q) (clip_keyed s mutation key e)
        ∙ kept_acts s mutation key q e
        ∙ ap (λ b. b && in_shard s q) (sym (touches_key mutation key e q))

then_some_is : {T : Type 0} (b : Bool) (x y : T) → then_some b x ≡ Some y → (b ≡ true) × (x ≡ y)
then_some_is true x y e = (refl, cc)
then_some_is false x y e = cc

-- and gives the value that the mutation gives
pub clip_value : (s : Shard) (mutation kept : Mutation) → clip_one s mutation ≡ Some kept → (old : Option (List ℕ)) → new_value kept old ≡ new_value mutation old
clip_value s mutation kept f old = go (key_of mutation) refl
  where
    go : (o : Option (List ℕ)) → key_of mutation ≡ o → new_value kept old ≡ new_value mutation old
    go None e = unkeyed (λ m. clip_one s m ≡ Some kept → new_value kept old ≡ new_value m old) mutation e (λ begin end h.
        ap (λ m. new_value m old) (sym ((then_some_is (is_lt (bytes_cmp (later begin s.begin) (earlier end s.end))) (Clear (later begin s.begin) (earlier end s.end)) kept h).1))) f
    go (Some key) e = ap (λ m. new_value m old) (sym ((then_some_is (in_shard s key) mutation kept (sym (clip_keyed s mutation key e) ∙ f)).1))

cond_both : {X : Type 0} (a b : Bool) (x y : X) → cond (a && b) x y ≡ cond b (cond a x y) y
cond_both true true x y = refl
cond_both true false x y = refl
cond_both false true x y = refl
cond_both false false x y = refl

-- the first mutation and its clip
first_clipped : (s : Shard) (mutation : Mutation) (mutations : List Mutation) (q : List ℕ) (old : Option (List ℕ))
    → value_after_all (cons_option (clip_one s mutation) mutations) q old ≡ value_after_all mutations q (cond (in_shard s q) (value_after mutation q old) old)
first_clipped s mutation mutations q old = go (clip_one s mutation) refl
  where
    both : cond (touches mutation q && in_shard s q) (new_value mutation old) old ≡ cond (in_shard s q) (value_after mutation q old) old
    both = cond_both (touches mutation q) (in_shard s q) (new_value mutation old) old

    go : (o : Option Mutation) → clip_one s mutation ≡ o → value_after_all (cons_option o mutations) q old ≡ value_after_all mutations q (cond (in_shard s q) (value_after mutation q old) old)
    go None e = ap (value_after_all mutations q) (ap (λ b. cond b (new_value mutation old) old) (sym (ap (λ o. acts_on o q) e) ∙ clip_acts s mutation q) ∙ both)
    go (Some kept) e = ap (value_after_all mutations q) (
        ap (λ v. cond (touches kept q) v old) (clip_value s mutation kept e old)
        ∙ ap (λ b. cond b (new_value mutation old) old) (sym (ap (λ o. acts_on o q) e) ∙ clip_acts s mutation q) ∙ both)

pub clipped_inside : (mutations : List Mutation) (s : Shard) (q : List ℕ) (old : Option (List ℕ)) → in_shard s q ≡ true → value_after_all (clipped mutations s) q old ≡ value_after_all mutations q old
clipped_inside [] s q old e = refl
clipped_inside (mutation ∷ mutations) s q old e =
    first_clipped s mutation (clipped mutations s) q old
    ∙ ap (λ b. value_after_all (clipped mutations s) q (cond b (value_after mutation q old) old)) e
    ∙ clipped_inside mutations s q (value_after mutation q old) e

pub clipped_outside : (mutations : List Mutation) (s : Shard) (q : List ℕ) (old : Option (List ℕ)) → in_shard s q ≡ false → value_after_all (clipped mutations s) q old ≡ old
clipped_outside [] s q old e = refl
clipped_outside (mutation ∷ mutations) s q old e =
    first_clipped s mutation (clipped mutations s) q old
    ∙ ap (λ b. value_after_all (clipped mutations s) q (cond b (value_after mutation q old) old)) e
    ∙ clipped_outside mutations s q old e

pub get-part : (m : Map) (s : Shard) (q : List ℕ) → get (part m s) q ≡ cond (in_shard s q) (get m q) None
get-part m s q = get-retain_keys m (in_shard s) q (λ x e. ap (in_shard s) (sym (bytes_exact q x e)))

pub after-clipped : (m : Map) (mutations : List Mutation) (s : Shard) → after (part m s) (clipped mutations s) ≡ part (after m mutations) s
after-clipped m mutations s = same_map bytes_total bytes_exact _ _ (λ q.
    get-after (part m s) (clipped mutations s) q
    ∙ ap (value_after_all (clipped mutations s) q) (get-part m s q)
    ∙ at q (in_shard s q) refl
    ∙ sym (get-part (after m mutations) s q))
  where
    at : (q : List ℕ) (b : Bool) → in_shard s q ≡ b → value_after_all (clipped mutations s) q (cond b (get m q) None) ≡ cond b (get (after m mutations) q) None
    at q true e = clipped_inside mutations s q (get m q) e ∙ sym (get-after m mutations q)
    at q false e = clipped_outside mutations s q None e

-- ---- where a clip acts

or_and : (a b c : Bool) → ((a && c) || (b && c)) ≡ ((a || b) && c)
or_and true true true = refl
or_and true true false = refl
or_and true false true = refl
or_and true false false = refl
or_and false b c = refl

touched-cons_option : (o : Option Mutation) (mutations : List Mutation) (q : List ℕ) → touched (cons_option o mutations) q ≡ (acts_on o q || touched mutations q)
touched-cons_option None mutations q = refl
touched-cons_option (Some mutation) mutations q = refl

pub touched-clipped : (mutations : List Mutation) (s : Shard) (q : List ℕ) → touched (clipped mutations s) q ≡ (touched mutations q && in_shard s q)
touched-clipped [] s q = refl
touched-clipped (mutation ∷ mutations) s q =
    touched-cons_option (clip_one s mutation) (clipped mutations s) q
    ∙ (λ i. clip_acts s mutation q i || touched-clipped mutations s q i)
    ∙ or_and (touches mutation q) (touched mutations q) (in_shard s q)

-- what a clip keeps acts on some key
clip_acts_somewhere : (s : Shard) (mutation kept : Mutation) → clip_one s mutation ≡ Some kept → (q : List ℕ) × (touches kept q ≡ true)
clip_acts_somewhere s mutation kept f = go (key_of mutation) refl
  where
    go : (o : Option (List ℕ)) → key_of mutation ≡ o → (q : List ℕ) × (touches kept q ≡ true)
    go None e = unkeyed (λ m. clip_one s m ≡ Some kept → (q : List ℕ) × (touches kept q ≡ true)) mutation e (λ begin end h.
        let parts = then_some_is (is_lt (bytes_cmp (later begin s.begin) (earlier end s.end))) (Clear (later begin s.begin) (earlier end s.end)) kept h in
        (later begin s.begin, ap (λ m. touches m (later begin s.begin)) (sym parts.1) ∙ (λ i. le_itself (later begin s.begin) i && parts.0 i))) f
    go (Some key) e =
        let same = (then_some_is (in_shard s key) mutation kept (sym (clip_keyed s mutation key e) ∙ f)).1 in
        (key, ap (λ m. touches m key) (sym same) ∙ touches_key mutation key e key ∙ ap is_eq (tied_itself bytes_total key))

and_parts : (a b : Bool) → (a && b) ≡ true → (a ≡ true) × (b ≡ true)
and_parts true b e = (refl, e)
and_parts false b e = cc

and_true : (a b : Bool) → b ≡ true → false ≡ (a && b) → a ≡ false
and_true true b e f = sym (f ∙ e)
and_true false b e f = refl

pub untouched_from_empty : (mutations : List Mutation) (s : Shard) → clipped mutations s ≡ [] → (q : List ℕ) → in_shard s q ≡ true → touched mutations q ≡ false
untouched_from_empty mutations s e q inside = and_true (touched mutations q) (in_shard s q) inside (sym (ap (λ ms. touched ms q) e) ∙ touched-clipped mutations s q)

pub empty_from_untouched : (mutations : List Mutation) (s : Shard) → ((q : List ℕ) → in_shard s q ≡ true → touched mutations q ≡ false) → clipped mutations s ≡ []
empty_from_untouched [] s h = refl
empty_from_untouched (mutation ∷ mutations) s h =
    go (clip_one s mutation) refl (empty_from_untouched mutations s (λ q inside. (or_none (touches mutation q) (touched mutations q) (h q inside)).1))
  where
    go : (o : Option Mutation) → clip_one s mutation ≡ o → clipped mutations s ≡ [] → cons_option (clip_one s mutation) (clipped mutations s) ≡ []
    go None e rest = ap (λ o. cons_option o (clipped mutations s)) e ∙ rest
    go (Some kept) e rest =
        let there = clip_acts_somewhere s mutation kept e in
        let parts = and_parts (touches mutation there.0) (in_shard s there.0) (sym (clip_acts s mutation there.0) ∙ ap (λ o. acts_on o there.0) e ∙ there.1) in
        let never : touches mutation there.0 ≡ false = (or_none (touches mutation there.0) (touched mutations there.0) (h there.0 parts.1)).0 in
        let ever : touches mutation there.0 ≡ true = parts.0 in
        cc

-- ---- clipped again

cond_same : {X : Type 0} (b : Bool) (x : X) → cond b x x ≡ x
cond_same true x = refl
cond_same false x = refl

later-later : (a b : List ℕ) → later (later a b) b ≡ later a b
later-later a b = go (is_lt (bytes_cmp a b)) refl
  where
    go : (r : Bool) → is_lt (bytes_cmp a b) ≡ r → later (cond r b a) b ≡ cond r b a
    go true e = cond_same (is_lt (bytes_cmp b b)) b
    go false e = ap (λ r. cond r b a) e

earlier-earlier : (end : List ℕ) (o : Option (List ℕ)) → earlier (earlier end o) o ≡ earlier end o
earlier-earlier end None = refl
earlier-earlier end (Some limit) = go (is_lt (bytes_cmp limit end)) refl
  where
    go : (r : Bool) → is_lt (bytes_cmp limit end) ≡ r → earlier (cond r limit end) (Some limit) ≡ cond r limit end
    go true e = cond_same (is_lt (bytes_cmp limit limit)) limit
    go false e = ap (λ r. cond r limit end) e

clip_again : (s : Shard) (mutation kept : Mutation) → clip_one s mutation ≡ Some kept → clip_one s kept ≡ Some kept
clip_again s mutation kept f = go (key_of mutation) refl
  where
    go : (o : Option (List ℕ)) → key_of mutation ≡ o → clip_one s kept ≡ Some kept
    go None e = unkeyed (λ m. clip_one s m ≡ Some kept → clip_one s kept ≡ Some kept) mutation e (λ begin end h.
        ap (clip_one s) (sym (then_some_is (is_lt (bytes_cmp (later begin s.begin) (earlier end s.end))) (Clear (later begin s.begin) (earlier end s.end)) kept h).1)
        ∙ (λ i. clear_of (later-later begin s.begin i) (earlier-earlier end s.end i))
        ∙ h) f
    go (Some key) e = ap (clip_one s) (sym (then_some_is (in_shard s key) mutation kept (sym (clip_keyed s mutation key e) ∙ f)).1) ∙ f

pub clipped-clipped : (mutations : List Mutation) (s : Shard) → clipped (clipped mutations s) s ≡ clipped mutations s
clipped-clipped [] s = refl
clipped-clipped (mutation ∷ mutations) s = go (clip_one s mutation) refl (clipped-clipped mutations s)
  where
    go : (o : Option Mutation) → clip_one s mutation ≡ o → clipped (clipped mutations s) s ≡ clipped mutations s → clipped (cons_option o (clipped mutations s)) s ≡ cons_option o (clipped mutations s)
    go None e rest = rest
    go (Some kept) e rest = λ i. cons_option (clip_again s mutation kept e i) (rest i)

-- ---- within the limits

fits : (key : List ℕ) → length key ≤ 10000 → nat_lt 10000 (length key) ≡ false
fits key h = grind (arith, nat_tests)

fits_later : (a b : List ℕ) → nat_lt 10000 (length a) ≡ false → nat_lt 10000 (length b) ≡ false → nat_lt 10000 (length (later a b)) ≡ false
fits_later a b e f = elim (is_lt (bytes_cmp a b)) as (λ r. nat_lt 10000 (length (cond r b a)) ≡ false) [ true ↦ f | false ↦ e ]

fits_earlier : (end : List ℕ) (o : Option (List ℕ)) → nat_lt 10000 (length end) ≡ false → ForSome o (λ limit. length limit ≤ 10000) → nat_lt 10000 (length (earlier end o)) ≡ false
fits_earlier end None e f = e
fits_earlier end (Some limit) e f = elim (is_lt (bytes_cmp limit end)) as (λ r. nat_lt 10000 (length (cond r limit end)) ≡ false) [ true ↦ fits limit (f limit refl) | false ↦ e ]

clear_fits : (begin end : List ℕ) → nat_lt 10000 (length begin) ≡ false → nat_lt 10000 (length end) ≡ false → is_lt (bytes_cmp begin end) ≡ true → clear_fault begin end ≡ None
clear_fits begin end e f g = λ i. cond (e i || f i) (Some KeyTooLong) (cond (lt_one_way begin end g i) (Some Inverted) None)

clip_fits : (s : Shard) (mutation kept : Mutation) → EndsFit s → mutation_fault mutation ≡ None → clip_one s mutation ≡ Some kept → mutation_fault kept ≡ None
clip_fits s mutation kept ends h f = go (key_of mutation) refl
  where
    go : (o : Option (List ℕ)) → key_of mutation ≡ o → mutation_fault kept ≡ None
    go None e = unkeyed (λ m. mutation_fault m ≡ None → clip_one s m ≡ Some kept → mutation_fault kept ≡ None) mutation e (λ begin end h f.
        let lengths = cond_none _ _ _ h in
        let each = or_none (nat_lt 10000 (length begin)) (nat_lt 10000 (length end)) lengths.0 in
        let parts = then_some_is (is_lt (bytes_cmp (later begin s.begin) (earlier end s.end))) (Clear (later begin s.begin) (earlier end s.end)) kept f in
        ap mutation_fault (sym parts.1)
        ∙ clear_fits (later begin s.begin) (earlier end s.end) (fits_later begin s.begin each.0 (fits s.begin ends.0)) (fits_earlier end s.end each.1 ends.1) parts.0) h f
    go (Some key) e = ap mutation_fault (sym (then_some_is (in_shard s key) mutation kept (sym (clip_keyed s mutation key e) ∙ f)).1) ∙ h

clipped_first_fault : (mutations : List Mutation) (s : Shard) → EndsFit s → first_fault mutations ≡ None → first_fault (clipped mutations s) ≡ None
clipped_first_fault [] s ends h = refl
clipped_first_fault (mutation ∷ mutations) s ends h =
    let parts = option_or_none (mutation_fault mutation) (first_fault mutations) h in
    go (clip_one s mutation) refl parts.0 (clipped_first_fault mutations s ends parts.1)
  where
    go : (o : Option Mutation) → clip_one s mutation ≡ o → mutation_fault mutation ≡ None → first_fault (clipped mutations s) ≡ None → first_fault (cons_option o (clipped mutations s)) ≡ None
    go None e first rest = rest
    go (Some kept) e first rest = λ i. option_or (clip_fits s mutation kept ends first e i) (rest i)

length-clipped : (mutations : List Mutation) (s : Shard) → length (clipped mutations s) ≤ length mutations
length-clipped [] s = omega arith
length-clipped (mutation ∷ mutations) s = elim (clip_one s mutation) as (λ o. length (cons_option o (clipped mutations s)) ≤ suc (length mutations)) [
  | None ↦ (let rest = length-clipped mutations s in omega arith)
  | Some kept ↦ (let rest = length-clipped mutations s in omega arith)
]

fewer : (a b : ℕ) → a ≤ b → nat_lt 1000 b ≡ false → nat_lt 1000 a ≡ false
fewer a b h e = grind (arith, nat_tests)

-- a clip keeps the limits of a batch
pub clipped_fits : (mutations : List Mutation) (s : Shard) → EndsFit s → batch_fault mutations ≡ None → batch_fault (clipped mutations s) ≡ None
clipped_fits mutations s ends h =
    let parts = cond_none _ _ _ h in
    let few : nat_lt 1000 (length (clipped mutations s)) ≡ false = fewer (length (clipped mutations s)) (length mutations) (length-clipped mutations s) parts.0 in
    ap (λ b. cond b (Some TooMany) (first_fault (clipped mutations s))) few ∙ clipped_first_fault mutations s ends parts.1

-- ---- one mutation after the other

pub clipped-take : (mutations : List Mutation) (s : Shard) (i : ℕ) (mutation : Mutation) → i < length mutations → mutation ≡ get_or mutations i mutation
    → clipped (take (i + 1) mutations) s ≡ clipped (take i mutations) s ++ cons_option (clip_one s mutation) []
clipped-take mutations s i mutation h e =
    ap (λ ms. clipped ms s) (take_more mutations i mutation h ∙ ap (λ m. take i mutations ++ m ∷ []) (sym e))
    ∙ filter_map-append (clip_one s) (take i mutations) (mutation ∷ [])
