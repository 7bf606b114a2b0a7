-- Rows put into a table and taken out of it.
use Rattle.std.proofs.Common.{◌≡◌, inl, inr, ◌≤◌, ℤ, length, filter, map, slice_get, option_map, List, [], ◌∷◌, Bool, true, false, cond, not, Option, None, Some, refl, sym, ap, subst, ◌∙◌, arith}
use Rattle.std.specs.List.{AllByRecursion, list_any}
use Rattle.std.specs.declared.cmp.Ordering.{Ordering}
use Rattle.std.specs.declared.cmp.Ordering.TheVariants.{Less, Equal, Greater}
use Rattle.std.specs.Ordering.{is_eq}
use Rattle.sqlite.specs.declared.types.Value.TheVariants.{Int}
use Rattle.sqlite.specs.Order.{Row, value_cmp}
use Rattle.sqlite.specs.Tree.{IsTable, rowid, put_row, without_rowid, has_rowid}
use Rattle.sqlite.specs.Edit.{id_in, is_taken, are_fresh, without_all, put_all}
use Rattle.sqlite_rules.specs.Lists.{Has}
use Rattle.sqlite_rules.proofs.ListLemmas.{all_has, all_from, has_filtered, has_kept}
use Rattle.sqlite_rules.proofs.PlaceLemmas.{tied_same}
use Rattle.std.proofs.lemmas.Cmp.{tied_itself}
use Rattle.sqlite_value.proofs.OrderLemmas.{value_cmp_total}
use Rattle.sqlite_trees.proofs.ListLemmas.{filter_same, all-filter}
use Rattle.fr_sql_rows.proofs.ListLemmas.{kept_in, none_in, fewer, all_in, neither}

-- the number of a row
abbrev pub id_of : Row → ℤ
id_of r = id_in (rowid r)

-- its rowid is an integer
abbrev pub HasId : Row → Type 0
HasId r = (id : ℤ) × (rowid r ≡ Int id)

abbrev pub has_some : List ℤ → Row → Bool
has_some ids r = list_any (λ id. has_rowid id r) ids

pub filter_table : (p : Row → Bool) (rows : List Row) → IsTable rows → IsTable (filter p rows)
filter_table p [] up = tt
filter_table p (r ∷ rows) up = go (p r) refl (filter_table p rows up.1)
  where
    go : (b : Bool) → p r ≡ b → IsTable (filter p rows) → IsTable (filter p (r ∷ rows))
    go true e more = rw e (all-filter _ p rows up.0, more)
    go false e more = rw e more

-- the rows that have none of some rowids
pub without_all_is : (ids : List ℤ) (rows : List Row) → without_all rows ids ≡ filter (λ r. not (has_some ids r)) rows
without_all_is [] rows = sym (all_in rows)
without_all_is (id ∷ ids) rows = without_all_is ids (without_rowid id rows) ∙ neither (has_rowid id) (has_some ids) rows

some_id : (rows : List Row) (x : Row) → Has rows x → has_rowid (id_of x) x ≡ true → has_some (map id_of rows) x ≡ true
some_id [] x has own = absurd has
some_id (r ∷ rows) x (inl is) own = rw (← is, own) refl
some_id (r ∷ rows) x (inr has) own = go (has_rowid (id_of r) x) refl (some_id rows x has own)
  where
    go : (b : Bool) → has_rowid (id_of r) x ≡ b → has_some (map id_of rows) x ≡ true → has_some (map id_of (r ∷ rows)) x ≡ true
    go true e more = rw e refl
    go false e more = rw e more

no_id : (rows : List Row) (x : Row) → ((r : Row) → Has rows r → has_rowid (id_of r) x ≡ false) → has_some (map id_of rows) x ≡ false
no_id [] x none = refl
no_id (r ∷ rows) x none = rw (none r (inl refl)) (no_id rows x (λ s has. none s (inr has)))

own_id : (x : Row) → HasId x → has_rowid (id_of x) x ≡ true
own_id x (id, is) = rw is (ap is_eq (tied_itself value_cmp_total (Int id)))

tied : (x r : Row) → HasId r → has_rowid (id_of r) x ≡ true → value_cmp (rowid x) (rowid r) ≡ Equal
tied x r (id, is) same = rw is (equal (value_cmp (rowid x) (Int id)) (rw is at same))
  where
    equal : (o : Ordering) → is_eq o ≡ true → o ≡ Equal
    equal Less h = absurd cc
    equal Equal h = refl
    equal Greater h = absurd cc

-- a row has the rowid of one that passes if it passes
pub picked : (c : Row → Bool) (rows : List Row) → IsTable rows → AllByRecursion HasId rows → (x : Row) → Has rows x → has_some (map id_of (filter c rows)) x ≡ c x
picked c rows up ids x has = go (c x) refl
  where
    apart : c x ≡ false → (r : Row) → Has (filter c rows) r → (b : Bool) → has_rowid (id_of r) x ≡ b → has_rowid (id_of r) x ≡ false
    apart e r found true tie =
        let both = has_filtered c rows r found in
        let same = tied_same rows x r up has both.0 (tied x r (all_has HasId rows r ids both.0) tie) in
        absurd (let clash = sym (ap c same) ∙ e in let yes = both.1 in cc)
    apart e r found false tie = tie

    go : (b : Bool) → c x ≡ b → has_some (map id_of (filter c rows)) x ≡ c x
    go true e = some_id (filter c rows) x (has_kept c rows x has e) (own_id x (all_has HasId rows x ids has)) ∙ sym e
    go false e = no_id (filter c rows) x (λ r found. apart e r found (has_rowid (id_of r) x) refl) ∙ sym e

-- what is left once the rowids of the rows that pass are taken out
pub left_is : (c : Row → Bool) (rows : List Row) (ids : List ℤ) → IsTable rows → AllByRecursion HasId rows → ((x : Row) → has_some ids x ≡ has_some (map id_of (filter c rows)) x)
    → without_all rows ids ≡ filter (λ r. not (c r)) rows
left_is c rows ids up keyed same = without_all_is ids rows ∙ filter_same _ _ rows (all_from _ rows (λ x has. ap not (same x ∙ picked c rows up keyed x has)))

pub fresh_one : (rows : List Row) (r : Row) → are_fresh rows (r ∷ []) ≡ true → is_taken rows r ≡ false
fresh_one rows r h = go (is_taken rows r) refl
  where
    go : (b : Bool) → is_taken rows r ≡ b → is_taken rows r ≡ false
    go false e = e
    go true e = absurd (let clash = rw e at h in cc)

-- one row put where its rowid is free
pub one_put : (left news rest : List Row) (new : Row) → left ≡ rest → news ≡ new ∷ [] → are_fresh left news ≡ true → (is_taken rest new ≡ false) × (put_all left news ≡ put_row new rest)
one_put left news rest new same is fresh = (fresh_one rest new (rw (same, is) at fresh), rw (same, is) refl)

-- rows that pass a test, once a row is put under a number that none has: it alone where it passes and none did, and else those that did
pub put_found : (p : Row → Bool) (new : Row) (rows : List Row) → is_taken rows new ≡ false
    → (p new ≡ true → filter p rows ≡ [] → filter p (put_row new rows) ≡ new ∷ []) × (p new ≡ false → filter p (put_row new rows) ≡ filter p rows)
put_found p new [] fresh = (λ yes none. rw yes refl, λ no. rw no refl)
put_found p new (r ∷ rows) fresh = go (value_cmp (rowid r) (rowid new)) refl (λ rest. put_found p new rows rest) (p r) refl
  where
    go : (o : Ordering) → value_cmp (rowid r) (rowid new) ≡ o
        → (is_taken rows new ≡ false → (p new ≡ true → filter p rows ≡ [] → filter p (put_row new rows) ≡ new ∷ []) × (p new ≡ false → filter p (put_row new rows) ≡ filter p rows))
        → (b : Bool) → p r ≡ b
        → (p new ≡ true → filter p (r ∷ rows) ≡ [] → filter p (put_row new (r ∷ rows)) ≡ new ∷ []) × (p new ≡ false → filter p (put_row new (r ∷ rows)) ≡ filter p (r ∷ rows))
    go Equal e more b f = absurd (let clash = rw e at fresh in cc)
    go Less e more true f = (λ yes none. absurd (let clash = rw f at none in cc), λ no. rw (e, f) (ap (λ xs. r ∷ xs) ((more (rw e at fresh)).1 no)))
    go Less e more false f = (λ yes none. rw (e, f) ((more (rw e at fresh)).0 yes (rw f at none)), λ no. rw (e, f) ((more (rw e at fresh)).1 no))
    go Greater e more true f = (λ yes none. absurd (let clash = rw f at none in cc), λ no. rw (e, no, f) refl)
    go Greater e more false f = (λ yes none. rw (e, yes, f) (ap (λ xs. new ∷ xs) (rw f at none)), λ no. rw (e, no, f) refl)

-- rows under keys, of which each has at most one
module _ {K V : Type 0} (key : Row → K) (value : Row → V) (same : K → K → Bool) (exact : (a b : K) → same a b ≡ true → a ≡ b) (comm : (a b : K) → same a b ≡ same b a) where
  abbrev at : K → Row → Bool
  at q r = same (key r) q

  abbrev found : List Row → K → Option V
  found rows q = option_map value (slice_get (filter (at q) rows) 0)

  abbrev AreSingle : List Row → Type 0
  AreSingle rows = (q : K) → length (filter (at q) rows) ≤ 1

  first_of : List Row → Option V
  first_of rs = option_map value (slice_get rs 0)

  pub absent : (rows : List Row) (q : K) → found rows q ≡ None → filter (at q) rows ≡ []
  absent rows q none = go (filter (at q) rows) none
    where
      go : (rs : List Row) → option_map value (slice_get rs 0) ≡ None → rs ≡ []
      go [] e = refl
      go (r ∷ rs) e = absurd (let clash = e in cc)

  -- the rows whose keys pass a test
  pub retained : (h : K → Bool) (rows : List Row) (q : K) → found (filter (λ r. h (key r)) rows) q ≡ cond (h q) (found rows q) None
  retained h rows q = go (h q) refl
    where
      go : (b : Bool) → h q ≡ b → found (filter (λ r. h (key r)) rows) q ≡ cond (h q) (found rows q) None
      go true e = rw e (ap (λ rs. option_map value (slice_get rs 0)) (kept_in (at q) (λ r. h (key r)) (λ r is. ap h (exact (key r) q is) ∙ e) rows))
      go false e = rw e (ap (λ rs. option_map value (slice_get rs 0)) (none_in (at q) (λ r. h (key r)) (λ r is. ap h (exact (key r) q is) ∙ e) rows))

  pub single_in : (g : Row → Bool) (rows : List Row) → AreSingle rows → AreSingle (filter g rows)
  single_in g rows single q = omega (arith, single q, fewer (at q) g rows)

  -- the row of a key taken out
  abbrev pub others : K → Row → Bool
  others k r = not (same (key r) k)

  pub none_left : (k : K) (rows : List Row) → filter (at k) (filter (others k) rows) ≡ []
  none_left k rows = none_in (at k) (others k) (λ r is. ap not is) rows

  pub rest_left : (k : K) (rows : List Row) (q : K) → same k q ≡ false → filter (at q) (filter (others k) rows) ≡ filter (at q) rows
  rest_left k rows q apart = kept_in (at q) (others k) (λ r is. ap (λ x. not (same x k)) (exact (key r) q is) ∙ ap not (comm q k ∙ apart)) rows

  -- a row of a key that no row has is put in
  pub put_in : (rest rows : List Row) (new : Row) → is_taken rest new ≡ false → filter (at (key new)) rest ≡ [] → ((q : K) → same (key new) q ≡ false → filter (at q) rest ≡ filter (at q) rows)
      → (q : K) → found (put_row new rest) q ≡ cond (same (key new) q) (Some (value new)) (found rows q)
  put_in rest rows new fresh none others q = go (same (key new) q) refl
    where
      go : (b : Bool) → same (key new) q ≡ b → found (put_row new rest) q ≡ cond (same (key new) q) (Some (value new)) (found rows q)
      go true e =
          let empty : filter (at q) rest ≡ [] = subst (λ k. filter (at k) rest ≡ []) (exact (key new) q e) none in
          rw e (ap (λ rs. option_map value (slice_get rs 0)) ((put_found (at q) new rest fresh).0 e empty))
      go false e = rw e (ap (λ rs. option_map value (slice_get rs 0)) ((put_found (at q) new rest fresh).1 e ∙ others q e))

  pub single_put : (rest : List Row) (new : Row) → is_taken rest new ≡ false → filter (at (key new)) rest ≡ [] → AreSingle rest → AreSingle (put_row new rest)
  single_put rest new fresh none single q = go (same (key new) q) refl
    where
      go : (b : Bool) → same (key new) q ≡ b → length (filter (at q) (put_row new rest)) ≤ 1
      go true e =
          let empty : filter (at q) rest ≡ [] = subst (λ k. filter (at k) rest ≡ []) (exact (key new) q e) none in
          rw ((put_found (at q) new rest fresh).0 e empty) (omega arith)
      go false e = rw ((put_found (at q) new rest fresh).1 e) (single q)

  flip : {X : Type 0} (b : Bool) (x y : X) → cond (not b) x y ≡ cond b y x
  flip true x y = refl
  flip false x y = refl

  -- the rows whose keys pass a test are taken out
  pub taken_out : (c : K → Bool) (rows : List Row) (ids : List ℤ) → IsTable rows → AllByRecursion HasId rows → ((x : Row) → has_some ids x ≡ has_some (map id_of (filter (λ r. c (key r)) rows)) x)
      → (q : K) → found (without_all rows ids) q ≡ cond (c q) None (found rows q)
  taken_out c rows ids up keyed same q =
      ap (λ rs. option_map value (slice_get (filter (at q) rs) 0)) (left_is (λ r. c (key r)) rows ids up keyed same) ∙ retained (λ k. not (c k)) rows q ∙ flip (c q) (found rows q) None
