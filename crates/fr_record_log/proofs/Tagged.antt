-- The bodies of a push, tag by tag, as they stand among all pushes.
use Rattle.std.proofs.Common.{◌≡◌, ℕ, zero, suc, ◌+◌, ◌<◌, ◌≤◌, true, false, List, [], ◌∷◌, ◌++◌, length, get_or, All, Option, Some, None, refl, sym, ap, ◌∙◌, arith, inl, inr}
use Rattle.std.specs.Prelude.{◌⊎◌, ◌==◌, nat_lt, nat_le, filter, IsTrue}
use Rattle.std.proofs.lemmas.Bool.{and_parts, leb-true, lt-ltb, le-ltb, eq-eqb, ne_eqb, cases_order}
use Rattle.std.proofs.lemmas.List.Elements.{All-head, All-tail}
use Rattle.fr_mutation.specs.declared.mutation.Mutation.{Mutation}
use Rattle.fr_tags.specs.declared.body.Body.{Body}
use Rattle.fr_tags.specs.Bodies.{batch_of, is_rising_from}
use Rattle.fr_log.specs.Push.{PushContent}
use Rattle.fr_log.specs.Pushes.{batch_at, pushed_batches}
use Rattle.fr_log.specs.LogState.{headers}
use Rattle.fr_log.specs.Chain.{IsChain}
use Rattle.fr_record_log.specs.Limits.{IsSoundBody}
use Rattle.fr_record_log.specs.Spelled.{body_of, tagged}

-- ---- the batch of a tag at the version of a push

-- the pushes of a chain are above the version from which it goes on
chain_above : (version : ℕ) (ps : List PushContent) → IsChain version (headers ps) → (i : ℕ) (d : PushContent) → i < length ps → version < (get_or ps i d).version
chain_above version [] chain i d within = absurd (omega (arith, within))
chain_above version (p ∷ ps) (follows, (rises, (known, rest))) zero d within = omega (arith, follows, rises)
chain_above version (p ∷ ps) (follows, (rises, (known, rest))) (suc i) d within =
    let k = chain_above p.version ps rest i d (omega (arith, within)) in
    omega (arith, follows, rises, k)

none_above : (tag low version : ℕ) (ps : List PushContent) → IsChain version (headers ps) → low ≤ version → batch_at low (pushed_batches tag ps) ≡ None
none_above tag low version [] chain le = refl
none_above tag low version (p ∷ ps) (follows, (rises, (known, rest))) le = go (batch_of tag p.bodies) refl (none_above tag low p.version ps rest (omega (arith, follows, rises, le)))
  where
    go : (o : Option (List Mutation)) → batch_of tag p.bodies ≡ o → batch_at low (pushed_batches tag ps) ≡ None → batch_at low (pushed_batches tag (p ∷ ps)) ≡ None
    go None e later = rw e later
    go (Some b) e later =
        let other : (p.version == low) ≡ false = ne_eqb p.version low (λ same. omega (arith, follows, rises, le, same)) in
        rw e (rw other later)

-- no other push has that version
pub batch_is : (tag version : ℕ) (ps : List PushContent) (i : ℕ) (d : PushContent) → IsChain version (headers ps) → i < length ps → batch_at (get_or ps i d).version (pushed_batches tag ps) ≡ batch_of tag (get_or ps i d).bodies
batch_is tag version [] i d chain within = absurd (omega (arith, within))
batch_is tag version (p ∷ ps) zero d (follows, (rises, (known, rest))) within = go (batch_of tag p.bodies) refl
  where
    go : (o : Option (List Mutation)) → batch_of tag p.bodies ≡ o → batch_at p.version (pushed_batches tag (p ∷ ps)) ≡ batch_of tag p.bodies
    go None e = rw e (none_above tag p.version p.version ps rest (omega arith))
    go (Some b) e = rw e (rw (eq-eqb p.version p.version refl) refl)
batch_is tag version (p ∷ ps) (suc i) d (follows, (rises, (known, rest))) within = go (batch_of tag p.bodies) refl (batch_is tag p.version ps i d rest (omega (arith, within)))
  where
    q : PushContent
    q = get_or ps i d

    go : (o : Option (List Mutation)) → batch_of tag p.bodies ≡ o → batch_at q.version (pushed_batches tag ps) ≡ batch_of tag q.bodies → batch_at q.version (pushed_batches tag (p ∷ ps)) ≡ batch_of tag q.bodies
    go None e later = rw e later
    go (Some b) e later =
        let above = chain_above p.version ps rest i d (omega (arith, within)) in
        let other : (p.version == q.version) ≡ false = ne_eqb p.version q.version (λ same. omega (arith, above, same)) in
        rw e (rw other later)

-- ---- bodies by rising tags

abbrev low : ℕ → List Body → List Body
low n bs = filter (λ (b : Body). nat_lt b.tag n) bs

none_low : (n least : ℕ) (bs : List Body) → is_rising_from least bs ≡ true → n ≤ least → low n bs ≡ []
none_low n least [] rising le = refl
none_low n least (b ∷ bs) rising le =
    let parts = and_parts (nat_le least b.tag) (is_rising_from (b.tag + 1) bs) rising in
    let here = leb-true least b.tag parts.0 in
    let out : nat_lt b.tag n ≡ false = le-ltb b.tag n (omega (arith, here, le)) in
    rw out (none_low n (b.tag + 1) bs parts.1 (omega (arith, here, le)))

none_of : (n least : ℕ) (bs : List Body) → is_rising_from least bs ≡ true → n < least → batch_of n bs ≡ None
none_of n least [] rising le = refl
none_of n least (b ∷ bs) rising le =
    let parts = and_parts (nat_le least b.tag) (is_rising_from (b.tag + 1) bs) rising in
    let here = leb-true least b.tag parts.0 in
    let other : (b.tag == n) ≡ false = ne_eqb b.tag n (λ e. omega (arith, here, le, e)) in
    rw other (none_of n (b.tag + 1) bs parts.1 (omega (arith, here, le)))

-- those below the next tag are those below this one, and its own
low_more : (n least : ℕ) (bs : List Body) → is_rising_from least bs ≡ true → low (suc n) bs ≡ low n bs ++ body_of n (batch_of n bs)
low_more n least [] rising = refl
low_more n least (b ∷ bs) rising = go (cases_order b.tag n) (low_more n (b.tag + 1) bs later)
  where
    later : is_rising_from (b.tag + 1) bs ≡ true
    later = (and_parts (nat_le least b.tag) (is_rising_from (b.tag + 1) bs) rising).1

    go : (b.tag ≡ n) ⊎ ((b.tag < n) ⊎ (n < b.tag)) → low (suc n) bs ≡ low n bs ++ body_of n (batch_of n bs) → low (suc n) (b ∷ bs) ≡ low n (b ∷ bs) ++ body_of n (batch_of n (b ∷ bs))
    go (inl same) rest =
        let yes : nat_lt b.tag (suc n) ≡ true = lt-ltb b.tag (suc n) (omega (arith, same)) in
        let no : nat_lt b.tag n ≡ false = le-ltb b.tag n (omega (arith, same)) in
        let is : (b.tag == n) ≡ true = eq-eqb b.tag n same in
        rw (yes, no, is, none_low (suc n) (b.tag + 1) bs later (omega (arith, same)), none_low n (b.tag + 1) bs later (omega (arith, same)))
        (ap (λ t. record { tag = t; batch = b.batch } ∷ []) same)
    go (inr (inl less)) rest =
        let yes : nat_lt b.tag (suc n) ≡ true = lt-ltb b.tag (suc n) (omega (arith, less)) in
        let here : nat_lt b.tag n ≡ true = lt-ltb b.tag n less in
        let other : (b.tag == n) ≡ false = ne_eqb b.tag n (λ e. omega (arith, less, e)) in
        rw (yes, here, other) (ap (λ xs. b ∷ xs) rest)
    go (inr (inr more)) rest =
        let no : nat_lt b.tag (suc n) ≡ false = le-ltb b.tag (suc n) (omega (arith, more)) in
        let here : nat_lt b.tag n ≡ false = le-ltb b.tag n (omega (arith, more)) in
        let other : (b.tag == n) ≡ false = ne_eqb b.tag n (λ e. omega (arith, more, e)) in
        rw (no, here, other, none_low (suc n) (b.tag + 1) bs later (omega (arith, more)), none_low n (b.tag + 1) bs later (omega (arith, more)), none_of n (b.tag + 1) bs later (omega (arith, more))) refl

low_none : (bs : List Body) → low 0 bs ≡ []
low_none [] = refl
low_none (b ∷ bs) = rw (le-ltb b.tag 0 (omega arith)) (low_none bs)

low_all : (n : ℕ) (bs : List Body) → All (λ (b : Body). b.tag < n) bs → low n bs ≡ bs
low_all n [] all = refl
low_all n (b ∷ bs) all = rw (lt-ltb b.tag n (All-head (λ (x : Body). x.tag < n) b bs all)) (ap (λ xs. b ∷ xs) (low_all n bs (All-tail (λ (x : Body). x.tag < n) b bs all)))

tagged_low : (n version : ℕ) (ps : List PushContent) (bs : List Body) → is_rising_from 0 bs ≡ true → ((t : ℕ) → batch_at version (pushed_batches t ps) ≡ batch_of t bs) → tagged n version ps ≡ low n bs
unfolding tagged
tagged_low zero version ps bs rising agrees = sym (low_none bs)
tagged_low (suc n) version ps bs rising agrees =
    two_lists (tagged n version ps) (low n bs) (body_of n (batch_at version (pushed_batches n ps))) (body_of n (batch_of n bs)) (tagged_low n version ps bs rising agrees) (ap (body_of n) (agrees n)) ∙ sym (low_more n 0 bs rising)
  where
    two_lists : (a b x y : List Body) → a ≡ b → x ≡ y → a ++ x ≡ b ++ y
    two_lists a b x y e h = cc

all_tags : (bs : List Body) → All IsSoundBody bs → All (λ (b : Body). b.tag < 32) bs
all_tags bs sound = λ k d within. (sound k d within).tag

-- the bodies of a push are those at its version, tag by tag
pub tagged_is : (version : ℕ) (ps : List PushContent) (i : ℕ) (d : PushContent) → IsChain version (headers ps) → i < length ps → IsTrue (is_rising_from 0 (get_or ps i d).bodies) → All IsSoundBody (get_or ps i d).bodies
    → tagged 32 (get_or ps i d).version ps ≡ (get_or ps i d).bodies
tagged_is version ps i d chain within rising sound =
    tagged_low 32 (get_or ps i d).version ps (get_or ps i d).bodies rising (λ t. batch_is t version ps i d chain within) ∙ low_all 32 (get_or ps i d).bodies (all_tags (get_or ps i d).bodies sound)

-- one tag more
pub tagged_more : (n version : ℕ) (ps : List PushContent) → tagged (n + 1) version ps ≡ tagged n version ps ++ body_of n (batch_at version (pushed_batches n ps))
unfolding tagged
tagged_more n version ps = let e : n + 1 ≡ suc n = omega arith in ap (λ k. tagged k version ps) e

pub tagged_none : (version : ℕ) (ps : List PushContent) → tagged 0 version ps ≡ []
unfolding tagged
tagged_none version ps = refl
