-- Batches on the shelves of their tags.
use Rattle.std.proofs.Common.{◌≡◌, ℕ, zero, suc, ◌+◌, ◌-◌, ◌<◌, ◌≤◌, Bool, true, false, not, ◌&&◌, List, [], ◌∷◌, ◌++◌, length, take, get_or, drop, cond, nat_lt, nat_le, eqb, Option, None, Some, refl, sym, ◌∙◌, ap, subst, inl, inr, arith}
use Rattle.std.specs.Prelude.{filter, IsSome, IfSome, Result, Ok, Err, OnErr}
use Rattle.std.specs.List.{AllByRecursion}
use Rattle.std.specs.Map.{lookup, keys_of}
use Rattle.std.specs.BTreeMap.{insert_entry, is_at}
use Rattle.std.specs.Ordering.{is_eq, is_lt, is_le, is_gt, nat_cmp, match_ordering}
use Rattle.std.specs.Cmp.{nat_cmp_is}
use Rattle.std.specs.declared.cmp.Ordering.TheVariants.{Less, Equal, Greater}
use Rattle.std.proofs.lemmas.Bool.{and_parts, and_from, ltb-false, lt-ltb, le-ltb, leb-true, le-leb, eqb-true, eqb-false, eq-eqb, ne_eqb, cases_order}
use Rattle.std.proofs.lemmas.List.{append-nil, take_all, take_at, drop_more, drop_all}
use Rattle.std.proofs.lemmas.List.Elements.{filter-append}
use Rattle.std.specs.Cmp.Lexicographic.{pointwise}
use Rattle.fr_mutation.specs.Equal.{is_same_batch}
use Rattle.fr_mutation.specs.declared.mutation.Mutation.{Mutation}
use Rattle.fr_tags.specs.declared.body.Body.{Body}
use Rattle.fr_tags.specs.Bodies.{batch_of, is_rising_from, is_same_body}
use Rattle.fr_log.specs.declared.popped.PoppedTag.{PoppedTag}
use Rattle.fr_log.specs.Left.{popped_at, left_bodies, IsBodyLeftAtFirst}
use Rattle.fr_log.specs.Fields.{two}
use Rattle.fr_log.specs.Pushes.{Shelved, batch_at, at_version, AreBelow, AreAbove, cut, above, shelf_of, with_body, bodies_from}

-- ---- one shelf

same_test : (v w : ℕ) → is_eq (nat_cmp v w) ≡ eqb w v
same_test v w = elim (cases_order v w) [
  | inl same ↦ ap is_eq (sym (nat_cmp_is v w Equal same)) ∙ sym (eq-eqb w v (sym same))
  | inr (inl less) ↦ ap is_eq (sym (nat_cmp_is v w Less less)) ∙ sym (ne_eqb w v (λ e. absurd (omega (arith, e, less))))
  | inr (inr more) ↦ ap is_eq (sym (nat_cmp_is v w Greater more)) ∙ sym (ne_eqb w v (λ e. absurd (omega (arith, e, more))))
]

-- what the map finds at a version
pub found_is : (v : ℕ) (es : List Shelved) → lookup (is_at (nat_cmp v)) es ≡ batch_at v es
found_is v [] = refl
found_is v (e ∷ es) = two (λ (t : Bool) (o : Option (List Mutation)). cond t (Some e.1) o) (same_test v e.0) (found_is v es)

-- a batch above all others goes behind them
pub put_last : (v : ℕ) (b : List Mutation) (es : List Shelved) → AreBelow v es → insert_entry nat_cmp es v b ≡ es ++ (v, b) ∷ []
put_last v b [] h = refl
put_last v b (e ∷ es) (here, rest) =
    ap (λ o. match_ordering o ((v, b) ∷ e ∷ es) ((e.0, b) ∷ es) (e ∷ insert_entry nat_cmp es v b)) (sym (nat_cmp_is v e.0 Greater here))
    ∙ ap (λ xs. e ∷ xs) (put_last v b es rest)

-- what the map gives above a version
pub above_is : (v : ℕ) (es : List Shelved) → filter (λ e. is_lt (nat_cmp v e.0) && not false) es ≡ filter (λ e. nat_lt v e.0) es
above_is v [] = refl
above_is v (e ∷ es) = two (λ (t : Bool) (xs : List Shelved). cond t (e ∷ xs) xs) (test e.0) (above_is v es)
  where
    test : (w : ℕ) → (is_lt (nat_cmp v w) && not false) ≡ nat_lt v w
    test w = elim (cases_order v w) [
      | inl same ↦ ap (λ o. is_lt o && not false) (sym (nat_cmp_is v w Equal same)) ∙ sym (le-ltb v w (omega (arith, same)))
      | inr (inl less) ↦ ap (λ o. is_lt o && not false) (sym (nat_cmp_is v w Less less)) ∙ sym (lt-ltb v w less)
      | inr (inr more) ↦ ap (λ o. is_lt o && not false) (sym (nat_cmp_is v w Greater more)) ∙ sym (le-ltb v w (omega (arith, more)))
    ]

new_batch : (w : ℕ) (o : Option (List Mutation)) → batch_at w (at_version w o) ≡ o
new_batch w None = refl
new_batch w (Some b) = ap (λ t. cond t (Some b) None) (eq-eqb w w refl)

-- the batch at a version above all others
pub batch_new : (w : ℕ) (o : Option (List Mutation)) (es : List Shelved) → AreBelow w es → batch_at w (es ++ at_version w o) ≡ o
batch_new w o [] h = new_batch w o
batch_new w o (e ∷ es) (here, rest) =
    ap (λ t. cond t (Some e.1) (batch_at w (es ++ at_version w o))) (ne_eqb e.0 w (λ k. absurd (omega (arith, k, here)))) ∙ batch_new w o es rest

other_batch : (v w : ℕ) (o : Option (List Mutation)) → v < w → batch_at v (at_version w o) ≡ None
other_batch v w None less = refl
other_batch v w (Some b) less = ap (λ t. cond t (Some b) None) (ne_eqb w v (λ k. absurd (omega (arith, k, less))))

-- and at those below
pub batch_others : (v w : ℕ) (o : Option (List Mutation)) (es : List Shelved) → v < w → batch_at v (es ++ at_version w o) ≡ batch_at v es
batch_others v w o [] less = other_batch v w o less
batch_others v w o (e ∷ es) less = ap (λ x. cond (eqb e.0 v) (Some e.1) x) (batch_others v w o es less)

-- what is cut takes no batch from below
pub batch_cut : (v w : ℕ) (es : List Shelved) → v < w → batch_at v (cut w es) ≡ batch_at v es
batch_cut v w [] less = refl
batch_cut v w (e ∷ es) less = go (nat_lt e.0 w) refl (batch_cut v w es less)
  where
    go : (t : Bool) → nat_lt e.0 w ≡ t → batch_at v (cut w es) ≡ batch_at v es → batch_at v (cut w (e ∷ es)) ≡ batch_at v (e ∷ es)
    go true k more = ap (λ t. batch_at v (cond t (e ∷ cut w es) (cut w es))) k ∙ ap (λ x. cond (eqb e.0 v) (Some e.1) x) more
    go false k more =
        ap (λ t. batch_at v (cond t (e ∷ cut w es) (cut w es))) k ∙ more
        ∙ sym (ap (λ t. cond t (Some e.1) (batch_at v es)) (ne_eqb e.0 v (λ q. let low = ltb-false e.0 w k in absurd (omega (arith, low, q, less)))))

pub cut_none : (w : ℕ) (es : List Shelved) → AreBelow w es → cut w es ≡ es
cut_none w [] h = refl
cut_none w (e ∷ es) (here, rest) = ap (λ t. cond t (e ∷ cut w es) (cut w es)) (lt-ltb e.0 w here) ∙ ap (λ xs. e ∷ xs) (cut_none w es rest)

pub cut_last : (w : ℕ) (es : List Shelved) (e : Shelved) → w ≤ e.0 → cut w (es ++ e ∷ []) ≡ cut w es
cut_last w es e high =
    filter-append (λ x. nat_lt x.0 w) es (e ∷ []) ∙ ap (λ xs. cut w es ++ xs) (ap (λ t. cond t (e ∷ []) []) (le-ltb e.0 w high)) ∙ append-nil (cut w es)

cut_new : (w : ℕ) (es : List Shelved) (o : Option (List Mutation)) → cut w (es ++ at_version w o) ≡ cut w es
cut_new w es None = ap (cut w) (append-nil es)
cut_new w es (Some b) = cut_last w es (w, b) (omega arith)

lower : (a b : ℕ) → is_lt (nat_cmp a b) ≡ false → b ≤ a
lower a b lost = elim (cases_order a b) [
  | inl same ↦ omega (arith, same)
  | inr (inl less) ↦ let k : true ≡ false = ap is_lt (nat_cmp_is a b Less less) ∙ lost in absurd (cc)
  | inr (inr more) ↦ omega (arith, more)
]

higher : (a b : ℕ) → is_le (nat_cmp a b) ≡ false → b < a
higher a b lost = elim (cases_order a b) [
  | inl same ↦ let k : true ≡ false = ap is_le (nat_cmp_is a b Equal same) ∙ lost in absurd (cc)
  | inr (inl less) ↦ let k : true ≡ false = ap is_le (nat_cmp_is a b Less less) ∙ lost in absurd (cc)
  | inr (inr more) ↦ more
]

at_most : (a b : ℕ) → is_gt (nat_cmp a b) ≡ false → a ≤ b
at_most a b won = elim (cases_order a b) [
  | inl same ↦ omega (arith, same)
  | inr (inl less) ↦ omega (arith, less)
  | inr (inr more) ↦ let k : true ≡ false = ap is_gt (nat_cmp_is a b Greater more) ∙ won in absurd (cc)
]

-- all is below what the last is below
pub below_last : (v last : ℕ) (es : List Shelved) → AllByRecursion (λ q. is_lt (nat_cmp last q) ≡ false) (keys_of es) → is_le (nat_cmp v last) ≡ false → AreBelow v es
below_last v last [] h lost = tt
below_last v last (e ∷ es) (here, rest) lost = (let a = lower last e.0 here in let b = higher v last lost in omega (arith, a, b), below_last v last es rest lost)

-- the last is taken out
pub shrinks : (s : Bool) (n old : ℕ) → s ≡ true → n + cond s 1 0 ≡ old → n < old
shrinks true n old is e = omega (arith, e)
shrinks false n old is e = absurd (cc)

pub cut_shrinks : (w : ℕ) (shelf next : List Shelved) (r : Option Shelved) → IsSome r → IfSome r (λ p. shelf ≡ next ++ p ∷ []) → ((es : List Shelved) (e : Shelved) → shelf ≡ es ++ e ∷ [] → w ≤ e.0) → cut w next ≡ cut w shelf
cut_shrinks w shelf next None some e high = absurd (cc)
cut_shrinks w shelf next (Some p) some e high = sym (ap (cut w) e ∙ cut_last w next p (high next p e))

-- ---- the first ones are taken out

pub above_all : (w : ℕ) (es : List Shelved) → AreAbove w es → above w es ≡ es
above_all w [] h = refl
above_all w (e ∷ es) (here, rest) = ap (λ t. cond t (e ∷ above w es) (above w es)) (lt-ltb w e.0 here) ∙ ap (λ xs. e ∷ xs) (above_all w es rest)

above_less : (w : ℕ) (e : Shelved) (es : List Shelved) → e.0 ≤ w → above w (e ∷ es) ≡ above w es
above_less w e es low = ap (λ t. cond t (e ∷ above w es) (above w es)) (le-ltb w e.0 low)

pub above_shrinks : (w : ℕ) (shelf next : List Shelved) (r : Option Shelved) → IsSome r → IfSome r (λ p. shelf ≡ p ∷ next) → ((e : Shelved) (es : List Shelved) → shelf ≡ e ∷ es → e.0 ≤ w) → above w next ≡ above w shelf
above_shrinks w shelf next None some e low = absurd (cc)
above_shrinks w shelf next (Some p) some e low = sym (ap (above w) e ∙ above_less w p next (low p next e))

-- all is above what the first is above
pub above_first : (v first : ℕ) (es : List Shelved) → AllByRecursion (λ q. is_gt (nat_cmp first q) ≡ false) (keys_of es) → is_le (nat_cmp first v) ≡ false → AreAbove v es
above_first v first [] h lost = tt
above_first v first (e ∷ es) (here, rest) lost = (let a = at_most first e.0 here in let b = higher first v lost in omega (arith, a, b), above_first v first es rest lost)

-- ---- shelves that take the bodies of one push, one after another

pub none_below : (t least : ℕ) (bs : List Body) → is_rising_from least bs ≡ true → t < least → batch_of t bs ≡ None
none_below t least [] r less = refl
none_below t least (b ∷ bs) r less =
    let parts = and_parts (nat_le least b.tag) (is_rising_from (b.tag + 1) bs) r in
    let low = leb-true least b.tag parts.0 in
    ap (λ c. cond c (Some b.batch) (batch_of t bs)) (ne_eqb b.tag t (λ e. absurd (omega (arith, e, low, less)))) ∙ none_below t (b.tag + 1) bs parts.1 (omega (arith, low, less))

pub rising_lower : (low least : ℕ) (bs : List Body) → low ≤ least → is_rising_from least bs ≡ true → is_rising_from low bs ≡ true
rising_lower low least [] le r = refl
rising_lower low least (b ∷ bs) le r =
    let parts = and_parts (nat_le least b.tag) (is_rising_from (b.tag + 1) bs) r in
    let from = leb-true least b.tag parts.0 in
    and_from (nat_le low b.tag) (is_rising_from (b.tag + 1) bs) (le-leb low b.tag (omega (arith, le, from))) parts.1

pub rising_rest : (least : ℕ) (b : Body) (bs : List Body) → is_rising_from least (b ∷ bs) ≡ true → is_rising_from (b.tag + 1) bs ≡ true
rising_rest least b bs r = (and_parts (nat_le least b.tag) (is_rising_from (b.tag + 1) bs) r).1

first_of_tag : (b : Body) (bs : List Body) → batch_of b.tag (b ∷ bs) ≡ Some b.batch
first_of_tag b bs = ap (λ c. cond c (Some b.batch) (batch_of b.tag bs)) (eq-eqb b.tag b.tag refl)

not_below : (w : ℕ) (b : List Mutation) (es : List Shelved) → AreBelow w (es ++ (w, b) ∷ []) → ⊥
not_below w b [] h = let k = h.0 in absurd (omega (arith, k))
not_below w b (e ∷ es) h = not_below w b es h.1

same_last : (xs ys : List Shelved) (x y : Shelved) → xs ++ x ∷ [] ≡ ys ++ y ∷ [] → xs ≡ ys
same_last [] [] x y e = refl
same_last [] (z ∷ []) x y e = absurd (cc)
same_last [] (z ∷ a ∷ ys) x y e = absurd (cc)
same_last (z ∷ []) [] x y e = absurd (cc)
same_last (z ∷ a ∷ xs) [] x y e = absurd (cc)
same_last (z ∷ xs) (a ∷ ys) x y e =
    let head : z ≡ a = cc in
    let rest : xs ++ x ∷ [] ≡ ys ++ y ∷ [] = cc in
    two (λ (h : Shelved) (t : List Shelved). h ∷ t) head (same_last xs ys x y rest)

-- a shelf that is still to take its body has nothing new
pub fresh_left : (w : ℕ) (shelf old : List Shelved) (b : List Mutation) (o : Option (List Mutation)) → shelf ++ (w, b) ∷ [] ≡ old ++ at_version w o → AreBelow w old → AreBelow w shelf
fresh_left w shelf old b None e below = absurd (not_below w b shelf (subst (AreBelow w) (sym (e ∙ append-nil old)) below))
fresh_left w shelf old b (Some c) e below = subst (AreBelow w) (sym (same_last shelf old (w, b) (w, c) e)) below

pub fresh_next : (w : ℕ) (shelf old : List Shelved) (b : Body) (bs : List Body) (o : Option (List Mutation)) → shelf ++ at_version w (batch_of b.tag (b ∷ bs)) ≡ old ++ at_version w o → AreBelow w old → AreBelow w shelf
fresh_next w shelf old b bs o e below = fresh_left w shelf old b.batch o (ap (λ x. shelf ++ at_version w x) (sym (first_of_tag b bs)) ∙ e) below

-- what was on a shelf is what is left of it when all of this version is taken out
pub cut_back : (w : ℕ) (shelf old : List Shelved) (p o : Option (List Mutation)) → shelf ++ at_version w p ≡ old ++ at_version w o → AreBelow w old → cut w shelf ≡ old
cut_back w shelf old p o e below = sym (cut_new w shelf p) ∙ ap (cut w) e ∙ cut_new w old o ∙ cut_none w old below

-- one body more is put
pub put_more : (w : ℕ) (shelves next all : ℕ → List Shelved) (b : Body) (bs : List Body) → is_rising_from 0 (b ∷ bs) ≡ true
    → ((t : ℕ) → shelves t ++ at_version w (batch_of t (b ∷ bs)) ≡ all t)
    → next b.tag ≡ shelves b.tag ++ (w, b.batch) ∷ [] → ((t : ℕ) → eqb t b.tag ≡ false → next t ≡ shelves t)
    → (t : ℕ) → next t ++ at_version w (batch_of t bs) ≡ all t
put_more w shelves next all b bs rising so_far here others t = go (eqb t b.tag) refl
  where
    at_tag : next b.tag ++ at_version w (batch_of b.tag bs) ≡ all b.tag
    at_tag =
        ap (λ o. next b.tag ++ at_version w o) (none_below b.tag (b.tag + 1) bs (rising_rest 0 b bs rising) (omega arith)) ∙ append-nil (next b.tag) ∙ here
        ∙ ap (λ o. shelves b.tag ++ at_version w o) (sym (first_of_tag b bs)) ∙ so_far b.tag

    skipped : eqb t b.tag ≡ false → batch_of t (b ∷ bs) ≡ batch_of t bs
    skipped k = ap (λ c. cond c (Some b.batch) (batch_of t bs)) (ne_eqb b.tag t (λ e. absurd (eqb-false t b.tag k (sym e))))

    go : (s : Bool) → eqb t b.tag ≡ s → next t ++ at_version w (batch_of t bs) ≡ all t
    go true k = subst (λ x. next x ++ at_version w (batch_of x bs) ≡ all x) (sym (eqb-true t b.tag k)) at_tag
    go false k = two (λ (xs : List Shelved) (o : Option (List Mutation)). xs ++ at_version w o) (others t k) (sym (skipped k)) ∙ so_far t

pub past_all : (ss : List (List Shelved)) (t : ℕ) → length ss ≤ t → shelf_of ss t ≡ []
past_all [] zero le = refl
past_all [] (suc t) le = refl
past_all (s ∷ ss) zero le = absurd (omega (arith, le))
past_all (s ∷ ss) (suc t) le = past_all ss t (omega (arith, le))

-- ---- the bodies that are at a version

-- bodies by rising tags are those that stand at their version, if each shelf has the batch of its tag there
pub canonical : (v tag : ℕ) (ss : List (List Shelved)) (bs : List Body) → is_rising_from tag bs ≡ true → ((t : ℕ) → batch_at v (shelf_of ss t) ≡ batch_of (tag + t) bs) → bodies_from v tag ss ≡ bs
unfolding bodies_from
canonical v tag [] [] r h = refl
canonical v tag [] (b ∷ bs) r h =
    let low = leb-true tag b.tag (and_parts (nat_le tag b.tag) (is_rising_from (b.tag + 1) bs) r).0 in
    let k : None ≡ Some b.batch = h (b.tag - tag) ∙ ap (λ c. cond c (Some b.batch) (batch_of (tag + (b.tag - tag)) bs)) (eq-eqb b.tag (tag + (b.tag - tag)) (omega (arith, low))) in
    absurd (cc)
canonical v tag (s ∷ ss) [] r h = ap (λ o. with_body tag o (bodies_from v (tag + 1) ss)) (h 0) ∙ canonical v (tag + 1) ss [] refl (λ t. h (suc t))
canonical v tag (s ∷ ss) (b ∷ bs) r h =
    let parts = and_parts (nat_le tag b.tag) (is_rising_from (b.tag + 1) bs) r in
    let low = leb-true tag b.tag parts.0 in
    elim (cases_order b.tag tag) [
      | inl same ↦
          let first : batch_of (tag + 0) (b ∷ bs) ≡ Some b.batch = ap (λ c. cond c (Some b.batch) (batch_of (tag + 0) bs)) (eq-eqb b.tag (tag + 0) (omega (arith, same))) in
          ap (λ o. with_body tag o (bodies_from v (tag + 1) ss)) (h 0 ∙ first)
          ∙ ap (λ xs. record { tag = tag; batch = b.batch } ∷ xs) (canonical v (tag + 1) ss bs (subst (λ n. is_rising_from (n + 1) bs ≡ true) same parts.1) (λ t. h (suc t)
          ∙ ap (λ c. cond c (Some b.batch) (batch_of (tag + suc t) bs)) (ne_eqb b.tag (tag + suc t) (λ e. absurd (omega (arith, e, same))))
          ∙ ap (λ n. batch_of n bs) (omega arith)))
          ∙ ap (λ n. record { tag = n; batch = b.batch } ∷ bs) (sym same)
      | inr (inl less) ↦ absurd (omega (arith, less, low))
      | inr (inr more) ↦
          let up = and_from (nat_le (tag + 1) b.tag) (is_rising_from (b.tag + 1) bs) (le-leb (tag + 1) b.tag (omega (arith, more))) parts.1 in
          ap (λ o. with_body tag o (bodies_from v (tag + 1) ss)) (h 0 ∙ none_below (tag + 0) (tag + 1) (b ∷ bs) up (omega arith))
          ∙ canonical v (tag + 1) ss (b ∷ bs) up (λ t. h (suc t) ∙ ap (λ n. batch_of n (b ∷ bs)) (omega arith))
    ]

-- shelves that have the same at a version give the same bodies
pub same_bodies : (v tag : ℕ) (ss ts : List (List Shelved)) → ((t : ℕ) → batch_at v (shelf_of ss t) ≡ batch_at v (shelf_of ts t)) → bodies_from v tag ss ≡ bodies_from v tag ts
unfolding bodies_from
same_bodies v tag [] [] h = refl
same_bodies v tag [] (s ∷ ts) h = same_bodies v (tag + 1) [] ts (λ t. h (suc t)) ∙ ap (λ o. with_body tag o (bodies_from v (tag + 1) ts)) (h 0)
same_bodies v tag (s ∷ ss) [] h = ap (λ o. with_body tag o (bodies_from v (tag + 1) ss)) (h 0) ∙ same_bodies v (tag + 1) ss [] (λ t. h (suc t))
same_bodies v tag (s ∷ ss) (z ∷ ts) h =
    ap (λ o. with_body tag o (bodies_from v (tag + 1) ss)) (h 0) ∙ ap (λ xs. with_body tag (batch_at v z) xs) (same_bodies v (tag + 1) ss ts (λ t. h (suc t)))

-- what holds holds where there is an error
pub on_err : {T E P : Type 0} (r : Result T E) → P → OnErr r P
on_err (Ok x) p = tt
on_err (Err y) p = p

-- ---- bodies compared with those that stand at a version, shelf after shelf

bodies_next : (v n : ℕ) (ss : List (List Shelved)) (d : List Shelved) → n < length ss → bodies_from v n (drop n ss) ≡ with_body n (batch_at v (get_or ss n d)) (bodies_from v (n + 1) (drop (n + 1) ss))
unfolding bodies_from
bodies_next v n ss d within = ap (bodies_from v n) (drop_more ss n d within)

-- a version at which this shelf has nothing
pub bodies_same : (v n : ℕ) (ss : List (List Shelved)) (d : List Shelved) → n < length ss → batch_at v (get_or ss n d) ≡ None → bodies_from v n (drop n ss) ≡ bodies_from v (n + 1) (drop (n + 1) ss)
bodies_same v n ss d within none = bodies_next v n ss d within ∙ ap (λ o. with_body n o (bodies_from v (n + 1) (drop (n + 1) ss))) none

bodies_one : (v n : ℕ) (ss : List (List Shelved)) (d : List Shelved) (b : List Mutation) → n < length ss → batch_at v (get_or ss n d) ≡ Some b
    → bodies_from v n (drop n ss) ≡ record { tag = n; batch = b } ∷ bodies_from v (n + 1) (drop (n + 1) ss)
bodies_one v n ss d b within some = bodies_next v n ss d within ∙ ap (λ o. with_body n o (bodies_from v (n + 1) (drop (n + 1) ss))) some

pub no_bodies : (v n : ℕ) (ss : List (List Shelved)) → length ss ≤ n → bodies_from v n (drop n ss) ≡ []
unfolding bodies_from
no_bodies v n ss past = ap (bodies_from v n) (drop_all n ss past)

-- none is left to compare
pub unmet : (v n : ℕ) (ss : List (List Shelved)) (d : List Shelved) (b : List Mutation) (left : List Body) → n < length ss → batch_at v (get_or ss n d) ≡ Some b → length left < 1
    → pointwise is_same_body left (bodies_from v n (drop n ss)) ≡ false
unmet v n ss d b [] within some none = ap (λ bs. pointwise is_same_body [] bs) (bodies_one v n ss d b within some)
unmet v n ss d b (x ∷ left) within some none = absurd (omega (arith, none))

-- the next one is compared with that of the shelf
pub met : (v n : ℕ) (ss : List (List Shelved)) (d : List Shelved) (b : List Mutation) (left : List Body) (x : Body) → n < length ss → batch_at v (get_or ss n d) ≡ Some b → 1 ≤ length left → x ≡ get_or left 0 x
    → pointwise is_same_body left (bodies_from v n (drop n ss)) ≡ (eqb x.tag n && is_same_batch x.batch b) && pointwise is_same_body (drop 1 left) (bodies_from v (n + 1) (drop (n + 1) ss))
met v n ss d b [] x within some long is = absurd (omega (arith, long))
met v n ss d b (y ∷ left) x within some long is =
    ap (λ bs. pointwise is_same_body (y ∷ left) bs) (bodies_one v n ss d b within some)
    ∙ ap (λ z. (eqb z.tag n && is_same_batch z.batch b) && pointwise is_same_body left (bodies_from v (n + 1) (drop (n + 1) ss))) (sym is)

-- ---- the same where what is popped is passed over

abbrev pub left_from : List PoppedTag → ℕ → ℕ → List (List Shelved) → List Body
left_from ps v n ss = left_bodies ps v (bodies_from v n (drop n ss))

pub popped_skips : (ps : List PoppedTag) (v n : ℕ) (ss : List (List Shelved)) (d : List Shelved) → n < length ss → v ≤ popped_at ps n → left_from ps v n ss ≡ left_from ps v (n + 1) ss
popped_skips ps v n ss d within low = ap (left_bodies ps v) (bodies_next v n ss d within) ∙ go (batch_at v (get_or ss n d))
  where
    go : (o : Option (List Mutation)) → left_bodies ps v (with_body n o (bodies_from v (n + 1) (drop (n + 1) ss))) ≡ left_from ps v (n + 1) ss
    go None = refl
    go (Some b) = rw (le-ltb (popped_at ps n) v low) refl

pub left_same : (ps : List PoppedTag) (v n : ℕ) (ss : List (List Shelved)) (d : List Shelved) → n < length ss → batch_at v (get_or ss n d) ≡ None → left_from ps v n ss ≡ left_from ps v (n + 1) ss
left_same ps v n ss d within none = ap (left_bodies ps v) (bodies_same v n ss d within none)

left_one : (ps : List PoppedTag) (v n : ℕ) (ss : List (List Shelved)) (d : List Shelved) (b : List Mutation) → n < length ss → batch_at v (get_or ss n d) ≡ Some b → popped_at ps n < v
    → left_from ps v n ss ≡ record { tag = n; batch = b } ∷ left_from ps v (n + 1) ss
left_one ps v n ss d b within some high = ap (left_bodies ps v) (bodies_one v n ss d b within some) ∙ rw (lt-ltb (popped_at ps n) v high) refl

-- none is left to compare
pub left_unmet : (ps : List PoppedTag) (v n : ℕ) (ss : List (List Shelved)) (d : List Shelved) (b : List Mutation) (left : List Body) → n < length ss → batch_at v (get_or ss n d) ≡ Some b → popped_at ps n < v
    → length left < 1 → pointwise is_same_body (left_bodies ps v left) (left_from ps v n ss) ≡ false
left_unmet ps v n ss d b [] within some high none = ap (λ bs. pointwise is_same_body [] bs) (left_one ps v n ss d b within some high)
left_unmet ps v n ss d b (x ∷ left) within some high none = absurd (omega (arith, none))

-- the next one is compared with that of the shelf
pub left_met : (ps : List PoppedTag) (v n : ℕ) (ss : List (List Shelved)) (d : List Shelved) (b : List Mutation) (left : List Body) (x : Body) → n < length ss → batch_at v (get_or ss n d) ≡ Some b
    → popped_at ps n < v → IsBodyLeftAtFirst ps v left → 1 ≤ length left → x ≡ get_or left 0 x
    → pointwise is_same_body (left_bodies ps v left) (left_from ps v n ss) ≡ (eqb x.tag n && is_same_batch x.batch b) && pointwise is_same_body (left_bodies ps v (drop 1 left)) (left_from ps v (n + 1) ss)
left_met ps v n ss d b [] x within some high first long is = absurd (omega (arith, long))
left_met ps v n ss d b (y ∷ left) x within some high first long is =
    ap (λ bs. pointwise is_same_body (left_bodies ps v (y ∷ left)) bs) (left_one ps v n ss d b within some high)
    ∙ ap (λ t. pointwise is_same_body (cond t (y ∷ left_bodies ps v left) (left_bodies ps v left)) (record { tag = n; batch = b } ∷ left_from ps v (n + 1) ss)) first
    ∙ ap (λ z. (eqb z.tag n && is_same_batch z.batch b) && pointwise is_same_body (left_bodies ps v left) (left_from ps v (n + 1) ss)) (sym is)

-- none is left of what is left from its first on
pub left_last : (ps : List PoppedTag) (v : ℕ) (left : List Body) → IsBodyLeftAtFirst ps v left → eqb (length left) 0 ≡ pointwise is_same_body (left_bodies ps v left) []
left_last ps v [] first = refl
left_last ps v (x ∷ left) first = ne_eqb (length (x ∷ left)) 0 (λ e. absurd (omega (arith, e))) ∙ sym (ap (λ t. pointwise is_same_body (cond t (x ∷ left_bodies ps v left) (left_bodies ps v left)) []) first)

pub as_yes : (a : Bool) → false ≡ not a → a ≡ true
as_yes true e = refl
as_yes false e = absurd (cc)

pub as_no : (a : Bool) → true ≡ not a → a ≡ false
as_no true e = absurd (cc)
as_no false e = refl

pub met_last : (left : List Body) → eqb (length left) 0 ≡ pointwise is_same_body left []
met_last [] = refl
met_last (x ∷ left) = ne_eqb (length (x ∷ left)) 0 (λ e. absurd (omega (arith, e)))

-- ---- what is gathered of a shelf

module _ {Y : Type 0} where
  pub gathered_full : (given rest all : List Y) (y : Y) (most : ℕ) → given ++ y ∷ rest ≡ all → length given ≡ most → (given ≡ take most all) × (true ≡ nat_lt most (length all))
  gathered_full given rest all y most e full =
      let long = Rattle.std.proofs.Common.length-append given (y ∷ rest) in (
        sym (ap (take most) (sym e) ∙ take_at given (y ∷ rest) most full),
        sym (ap (λ xs. nat_lt most (length xs)) (sym e) ∙ lt-ltb most (length (given ++ y ∷ rest)) (omega (arith, long, full))),
      )

  pub gathered_all : (given rest all : List Y) (most : ℕ) → given ++ rest ≡ all → rest ≡ [] → length given ≤ most → (given ≡ take most all) × (false ≡ nat_lt most (length all))
  gathered_all given rest all most e none fits =
      let same : given ≡ all = sym (append-nil given) ∙ ap (λ xs. given ++ xs) (sym none) ∙ e in
      let long = ap length same in (
        same ∙ sym (take_all most all (omega (arith, long, fits))),
        sym (le-ltb most (length all) (omega (arith, long, fits))),
      )
