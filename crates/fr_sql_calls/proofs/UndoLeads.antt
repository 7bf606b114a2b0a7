-- What an undo makes of the tables, as a state.
use Rattle.std.proofs.Common.{◌≡◌, ℕ, ◌<◌, ◌-◌, ◌+◌, Bool, true, false, cond, ◌||◌, List, [], ◌∷◌, Option, None, Some, IsSome, IfSome, IsTrue, refl, sym, ap, subst, ◌∙◌, arith}
use Rattle.std.specs.Prelude.{is_some, nat_le, unwrap_or}
use Rattle.std.specs.Map.{lookup}
use Rattle.std.specs.Ordering.{nat_cmp}
use Rattle.std.specs.BTreeMap as tree
use Rattle.std.specs.BTreeMap.{is_at}
use Rattle.std.specs.FinMap.{get}
use Rattle.std.proofs.lemmas.Bool.{leb-true}
use Rattle.sqlite.specs.Effect.{Database}
use Rattle.fr_base.specs.Bytes.{bytes_cmp}
use Rattle.fr_base.specs.Map.{map_of}
use Rattle.fr_base.proofs.MapLemmas.{get-map_of, is_same-comm}
use Rattle.fr_undo.specs.declared.changes.Change.{Change}
use Rattle.fr_undo.specs.State.{Place, place_cmp, IsStoreState}
use Rattle.fr_undo.specs.Trees.{Contents, Rows, IsUpTo}
use Rattle.fr_undo.specs.Undo.{undone, least_row}
use Rattle.fr_undo.specs.Changes.{Changes, KnowBefore, after_of, written_if}
use Rattle.fr_undo.proofs.RowLemmas.{least_row-by, least_by-same, least_by-none}
use Rattle.fr_undo.proofs.UndoLemmas.{place_total, is_eq_second, get-contents_undone, get-rows_through}
use Rattle.fr_sql_rows.specs.Rows.{value_in, before_in, contents_in, undo_in}
use Rattle.fr_sql_rows.specs.Connection.{IsLaidOut}
use Rattle.fr_sql_calls.specs.declared.work.RowWork.TheVariants.{DropAbove}
use Rattle.fr_sql_calls.specs.declared.work.MetaWork.TheVariants.{Versions}
use Rattle.fr_sql_calls.specs.Work.{KnowChanged, differs}
use Rattle.fr_sql_calls.proofs.WorkLemmas.{get_contents, get_undo}
use Rattle.fr_sql_calls.specs.Known.{KnowsOf, has_row}
use Rattle.fr_sql_calls.specs.Tables.{state_in, applied_in, floor_in}
use Rattle.fr_sql_calls.specs.Calls.{LeadsTo}
use Rattle.fr_sql_calls.proofs.LeadLemmas.{alike, meta_versions, same_tables}

either_none : (a b : Bool) → (a || b) ≡ false → (a ≡ false) × (b ≡ false)
either_none true b e = cc
either_none false b e = (refl, e)

-- a key of no row has none at any version
no_row : (es : List (Place × Option (List ℕ))) (q : List ℕ) → has_row es q ≡ false → (w : ℕ) → lookup (is_at (place_cmp (w, q))) es ≡ None
no_row [] q none w = refl
no_row (e ∷ es) q none w =
    let h = either_none _ _ none in
    let apart : is_at (place_cmp (w, q)) e.0 ≡ false = is_eq_second (nat_cmp w e.0.0) (bytes_cmp q e.0.1) (is_same-comm q e.0.1 ∙ h.0) in
    ap (λ b. cond b (Some e.1) (lookup (is_at (place_cmp (w, q))) es)) apart ∙ no_row es q h.1 w

module _ (known : Contents) (rows : Rows) (changes : Changes) (db : Database) (t applied : ℕ) (sound : IsStoreState (state_in db.trees)) (now : applied_in (db.trees 4) ≡ applied) (earlier : t < applied)
    (above : (p : Place) → tree.get place_cmp rows p ≡ cond (nat_le p.0 t) None (before_in (db.trees 2) p))
    (knows : KnowsOf (has_row rows.entries) (value_in (db.trees 0)) known)
    (know : KnowBefore changes (tree.get bytes_cmp known))
    (value : (n : ℕ) → IsUpTo rows (t + n) → (q : List ℕ) → after_of (tree.get bytes_cmp changes q) ≡ least_row (map_of rows) q t n) where
  abbrev held : List ℕ → Option (List ℕ)
  held = value_in (db.trees 0)

  some_above : (p : Place) → IsSome (tree.get place_cmp rows p) → IsSome (get (undo_in (db.trees 2)) p)
  some_above p some = go (nat_le p.0 t) (ap is_some (sym (above p)) ∙ some)
    where
      go : (b : Bool) → is_some (cond b None (before_in (db.trees 2) p)) ≡ true → IsSome (get (undo_in (db.trees 2)) p)
      go true h = absurd cc
      go false h = ap is_some (get_undo (db.trees 2) p) ∙ h

  upto : IsUpTo rows (t + (applied - t))
  upto w q some = let le = sound.upto w q (some_above (w, q) some) in omega (arith, le, now, earlier)

  least : (q : List ℕ) → after_of (tree.get bytes_cmp changes q) ≡ least_row (map_of rows) q t (applied - t)
  least q = value (applied - t) upto q

  -- the rows that were read are those after the version
  same_least : (q : List ℕ) → least_row (map_of rows) q t (applied - t) ≡ least_row (undo_in (db.trees 2)) q t (applied - t)
  same_least q =
      least_row-by (map_of rows) q t (applied - t)
      ∙ least_by-same (λ w. get (map_of rows) (w, q)) (λ w. get (undo_in (db.trees 2)) (w, q)) t (applied - t) (λ w lt.
      get-map_of place_total rows (w, q) ∙ above (w, q) ∙ ap (λ b. cond b None (before_in (db.trees 2) (w, q))) (not_through w lt) ∙ sym (get_undo (db.trees 2) (w, q)))
      ∙ sym (least_row-by (undo_in (db.trees 2)) q t (applied - t))
    where
      not_through : (w : ℕ) → t < w → nat_le w t ≡ false
      not_through w lt = go (nat_le w t) refl
        where
          go : (b : Bool) → nat_le w t ≡ b → nat_le w t ≡ false
          go true e = absurd (let le = leb-true w t e in omega arith)
          go false e = e

  unchanged : (q : List ℕ) → has_row rows.entries q ≡ false → after_of (tree.get bytes_cmp changes q) ≡ None
  unchanged q none =
      least q
      ∙ least_row-by (map_of rows) q t (applied - t)
      ∙ least_by-none (λ w. get (map_of rows) (w, q)) t (applied - t) (λ w. get-map_of place_total rows (w, q) ∙ no_row rows.entries q none w)

  before_is : (q : List ℕ) (c : Change) → tree.get bytes_cmp changes q ≡ Some c → c.before ≡ held q
  before_is q c is = go (has_row rows.entries q) refl
    where
      go : (b : Bool) → has_row rows.entries q ≡ b → c.before ≡ held q
      go true t = subst (λ (o : Option Change). IfSome o (λ c. c.before ≡ tree.get bytes_cmp known q)) is (know q) ∙ knows q ∙ ap (λ b. cond b (held q) None) t
      go false t = absurd (let clash = sym (ap after_of is) ∙ unchanged q t in cc)

  pub undo_knows : KnowChanged changes held
  undo_knows q = go (tree.get bytes_cmp changes q) refl
    where
      go : (o : Option Change) → tree.get bytes_cmp changes q ≡ o → IfSome o (λ c. IsTrue (differs c) → c.before ≡ held q)
      go None is = tt
      go (Some c) is = λ d. before_is q c is

  pub undo_values : (q : List ℕ) → written_if differs (tree.get bytes_cmp changes q) (held q) ≡ unwrap_or (least_row (undo_in (db.trees 2)) q t (applied - t)) (held q)
  undo_values q = go (tree.get bytes_cmp changes q) refl
    where
      go : (o : Option Change) → tree.get bytes_cmp changes q ≡ o → written_if differs o (held q) ≡ unwrap_or (least_row (undo_in (db.trees 2)) q t (applied - t)) (held q)
      go None is = ap (λ o. unwrap_or o (held q)) (sym (ap after_of is) ∙ least q ∙ same_least q)
      go (Some c) is = from (differs c) refl ∙ ap (λ o. unwrap_or o (held q)) (sym (ap after_of is) ∙ least q ∙ same_least q)
        where
          from : (d : Bool) → differs c ≡ d → cond d c.after (held q) ≡ c.after
          from true e = refl
          from false e = sym (before_is q c is) ∙ alike c e

  pub leads_back : (floor : ℕ) → IsLaidOut db → floor_in (db.trees 4) ≡ floor → LeadsTo (record { changes = changes; rows = DropAbove t; meta = Versions t floor }) db (undone (state_in db.trees) t)
  leads_back floor laid same_floor = record {
    fits = record { laid = laid; know = undo_knows; room = tt };
    leads = λ d made.
        let meta = meta_versions db d t floor laid made.meta in
        same_tables d.trees (undone (state_in db.trees) t)
        (λ q.
        made.values q
        ∙ undo_values q
        ∙ sym (get-contents_undone (state_in db.trees) t q
        ∙ ap (λ n. unwrap_or (least_row (undo_in (db.trees 2)) q t (n - t)) (get (contents_in (db.trees 0)) q)) now
        ∙ ap (unwrap_or (least_row (undo_in (db.trees 2)) q t (applied - t))) (get_contents (db.trees 0) q)))
        (λ p. made.rows p ∙ sym (get-rows_through (undo_in (db.trees 2)) t p ∙ ap (λ o. cond (nat_le p.0 t) o None) (get_undo (db.trees 2) p)))
        (meta.0 ∙ omega (arith, now, earlier)) (meta.1 ∙ sym same_floor) meta.2;
  }
