-- What the statements of one transaction make of the tables, key by key.
use Rattle.std.proofs.Common.{◌≡◌, ℕ, ◌+◌, Bool, true, false, cond, List, [], ◌∷◌, Option, None, Some, IsSome, IfSome, IsTrue, refl, sym, ap, subst, ◌∙◌}
use Rattle.std.specs.Prelude.{is_some, ◌==◌}
use Rattle.std.specs.Option.{option_or}
use Rattle.std.specs.Cmp.{unsigned_Decides, eq_by_cmp_equiv}
use Rattle.std.specs.List.Sorted.{IsStrictlySortedBy}
use Rattle.std.specs.Map.{lookup, keys_of}
use Rattle.std.specs.FinMap as map
use Rattle.std.specs.BTreeMap.{is_at}
use Rattle.std.proofs.lemmas.Map.Keys.{sorted_head}
use Rattle.sqlite.specs.Order.{Row}
use Rattle.sqlite.specs.Effect.{Database}
use Rattle.fr_base.specs.Bytes.{bytes_cmp, is_same, bytes_exact, bytes_total}
use Rattle.fr_base.proofs.MapLemmas.{one_key, none_below, is_same-comm, get-map_by-all}
use Rattle.fr_undo.specs.declared.changes.Change.{Change}
use Rattle.fr_undo.specs.State.{Place, place_cmp}
use Rattle.fr_undo.specs.Undo.{before_if_changed}
use Rattle.fr_undo.specs.Changes.{written_if, before_of}
use Rattle.fr_undo.proofs.UndoLemmas.{place_total, place_exact, one_version}
use Rattle.fr_undo.proofs.ChangeLemmas.{row_by, not_at_version}
use Rattle.fr_undo.proofs.WriteLemmas.{found_rest}
use Rattle.fr_sql_rows.specs.Rows.{value_in, value_of, key_of, is_at_key, contents_in, before_in, before_of as before_of_row, undo_in, place_of, is_at_place}
use Rattle.fr_sql_rows.specs.Connection.{Sets, Notes}
use Rattle.fr_sql_calls.specs.declared.work.Work.{Work}
use Rattle.fr_sql_calls.specs.Work.{differs, Writes, WritesOne, Rows, Meta, Does}
-- ---- undo rows, as a map

use Rattle.std.proofs.Common.{map as list_map, filter, slice_get, option_map}
use Rattle.std.specs.List.{list_any}
use Rattle.std.specs.Ordering.{eq_by_cmp}

none_at : (p : Place) (rows : List Row) → list_any (eq_by_cmp place_cmp p) (list_map place_of rows) ≡ false → filter (is_at_place p) rows ≡ []
none_at p [] none = refl
none_at p (r ∷ rows) none = go (eq_by_cmp place_cmp p (place_of r)) refl (λ e. none_at p rows (rw e at none))
  where
    go : (d : Bool) → eq_by_cmp place_cmp p (place_of r) ≡ d → (eq_by_cmp place_cmp p (place_of r) ≡ false → filter (is_at_place p) rows ≡ []) → filter (is_at_place p) (r ∷ rows) ≡ []
    go true f more = absurd (let clash = rw f at none in cc)
    go false f more =
        let apart : is_at_place p r ≡ false = (eq_by_cmp_equiv place_total).symm (place_of r) p ∙ f in
        rw apart (more f)

-- the undo rows have at each place what its row says
pub get_undo : (rows : List Row) (p : Place) → map.get (undo_in rows) p ≡ before_in rows p
get_undo rows p = get-map_by-all place_total place_exact (before_in rows) (list_map place_of rows) (λ q none. ap (λ rs. option_map before_of_row (slice_get rs 0)) (none_at q rows none)) p

-- one more undo row makes one more
pub notes_len : (old new : Database) (version : ℕ) (k : List ℕ) (before : Option (List ℕ)) → before_in (old.trees 2) (version, k) ≡ None → Notes version k before old new
    → map.len (undo_in (new.trees 2)) ≡ map.len (undo_in (old.trees 2)) + 1
notes_len old new version k before none n =
    let place : Place = (version, k) in
    let same : undo_in (new.trees 2) ≡ map.insert (undo_in (old.trees 2)) place before = map.same_map place_total place_exact _ _ (λ p.
    get_undo (new.trees 2) p
    ∙ n.rows p
    ∙ ap (λ b. cond b (Some before) (before_in (old.trees 2) p)) ((eq_by_cmp_equiv place_total).symm place p)
    ∙ ap (cond (eq_by_cmp place_cmp p place) (Some before)) (sym (get_undo (old.trees 2) p))
    ∙ sym (map.get-insert place_total (undo_in (old.trees 2)) place before p)) in
    ap map.len same
    ∙ map.len-insert place_total (undo_in (old.trees 2)) place before
    ∙ ap (λ o. cond (is_some o) (map.len (undo_in (old.trees 2))) (map.len (undo_in (old.trees 2)) + 1)) (get_undo (old.trees 2) place ∙ none)

-- ---- one change written

either : {X : Type 0} (b : Bool) (x : X) → cond b x x ≡ x
either true x = refl
either false x = refl

pub writes_it : (old new : Database) (k : List ℕ) (change : Change) → differs change ≡ true → Sets k change.after old new → WritesOne k change old new
writes_it old new k change e s = record {
  laid = s.laid;
  values = λ q. s.values q ∙ ap (λ b. cond (is_same k q) (cond b change.after (value_in (old.trees 0) q)) (value_in (old.trees 0) q)) (sym e);
  undo = s.undo;
  meta = s.meta;
}

pub same_written : (q k : List ℕ) (change : Change) (held : Option (List ℕ)) → differs change ≡ false → held ≡ cond (is_same k q) (written_if differs (Some change) held) held
same_written q k change held e = sym (ap (λ b. cond (is_same k q) (cond b change.after held) held) e ∙ either (is_same k q) held)

module _ (changes changes' : List ℕ → Option Change) (held held' : List ℕ → Option (List ℕ)) (k : List ℕ) (change : Change)
    (was : changes k ≡ Some change)
    (gone : (q : List ℕ) → changes' q ≡ cond (is_same k q) None (changes q))
    (put : (q : List ℕ) → held' q ≡ cond (is_same k q) (written_if differs (Some change) (held q)) (held q)) where
  pub values_step : (q : List ℕ) → written_if differs (changes' q) (held' q) ≡ written_if differs (changes q) (held q)
  values_step q =
      (λ i. written_if differs (gone q i) (put q i))
      ∙ elim (is_same k q) as (λ b. is_same k q ≡ b → written_if differs (cond b None (changes q)) (cond b (written_if differs (Some change) (held q)) (held q)) ≡ written_if differs (changes q) (held q)) [
        | true ↦ λ e. ap (λ o. written_if differs o (held q)) (sym was ∙ ap changes (one_key bytes_exact k q e))
        | false ↦ λ e. refl
      ] refl

  pub know_step : (q : List ℕ) → IfSome (changes q) (λ c. IsTrue (differs c) → c.before ≡ held q) → IfSome (changes' q) (λ c. IsTrue (differs c) → c.before ≡ held' q)
  know_step q h =
      subst (λ (o : Option Change). IfSome o (λ c. IsTrue (differs c) → c.before ≡ held' q)) (sym (gone q))
      (subst (λ (v : Option (List ℕ)). IfSome (cond b None (changes q)) (λ c. IsTrue (differs c) → c.before ≡ v)) (sym (put q))
      (elim b as (λ s. IfSome (cond s None (changes q)) (λ c. IsTrue (differs c) → c.before ≡ cond s (written_if differs (Some change) (held q)) (held q))) [
        | true ↦ tt
        | false ↦ h
      ]))
    where
      b : Bool
      b = is_same k q

-- what the first change knows
pub first_known : (o : Option Change) (change : Change) (held : Option (List ℕ)) → o ≡ Some change → IfSome o (λ c. IsTrue (differs c) → c.before ≡ held) → IsTrue (differs change) → change.before ≡ held
first_known o change held is h = subst (λ (o : Option Change). IfSome o (λ c. IsTrue (differs c) → c.before ≡ held)) is h

-- ---- one undo row added

-- the row of the first change, and those of the rest, are those of all
pub rows_step : (es rest : List (List ℕ × Change)) (e : List ℕ × Change) (rows rows' : Place → Option (Option (List ℕ))) (v : ℕ) → es ≡ e ∷ rest → IsStrictlySortedBy bytes_cmp (keys_of es)
    → ((p : Place) → rows' p ≡ option_or (cond (is_at (place_cmp (v, e.0)) p) (before_if_changed e.1.before e.1.after) None) (rows p))
    → (p : Place) → option_or (row_by rest v p) (rows' p) ≡ option_or (row_by es v p) (rows p)
rows_step es rest e rows rows' v is sorted put p =
    ap (option_or (row_by rest v p)) (put p)
    ∙ elim (p.0 == v) as (λ b. (p.0 == v) ≡ b
    → option_or (cond b (before_of (found rest p.1)) None) (option_or (cond (is_at (place_cmp (v, e.0)) p) made None) (rows p))
    ≡ option_or (cond b (before_of (found (e ∷ rest) p.1)) None) (rows p)) [
      | true ↦ λ t.
          let at : is_at (place_cmp (v, e.0)) p ≡ is_same e.0 p.1 = ap (λ w. is_at (place_cmp (v, e.0)) (w, p.1)) ((unsigned_Decides p.0 v).0 t) ∙ one_version v e.0 p.1 in
          ap (λ b. option_or (before_of (found rest p.1)) (option_or (cond b made None) (rows p))) at
          ∙ here p.1 (rows p)
      | false ↦ λ t. ap (λ b. option_or (cond b made None) (rows p)) (not_at_version v e.0 p t)
    ] refl
    ∙ ap (λ xs. option_or (row_by xs v p) (rows p)) (sym is)
  where
    found : List (List ℕ × Change) → List ℕ → Option Change
    found xs q = lookup (is_at (bytes_cmp q)) xs

    made : Option (Option (List ℕ))
    made = before_if_changed e.1.before e.1.after

    none : found rest e.0 ≡ None
    none = none_below bytes_total e.0 rest (sorted_head bytes_cmp e.0 (keys_of rest) (subst (λ (l : List (List ℕ × Change)). IsStrictlySortedBy bytes_cmp (keys_of l)) is sorted))

    here : (q : List ℕ) (o : Option (Option (List ℕ))) → option_or (before_of (found rest q)) (option_or (cond (is_same e.0 q) made None) o) ≡ option_or (before_of (found (e ∷ rest) q)) o
    here q o =
        elim (is_same e.0 q) as (λ b. is_same e.0 q ≡ b → option_or (before_of (found rest q)) (option_or (cond b made None) o) ≡ option_or (before_of (cond b (Some e.1) (found rest q))) o) [
          | true ↦ λ t.
              let absent : found rest q ≡ None = ap (found rest) (sym (one_key bytes_exact e.0 q t)) ∙ none in
              ap (λ x. option_or (before_of x) (option_or made o)) absent
          | false ↦ λ t. refl
        ] refl
        ∙ ap (λ b. option_or (before_of (cond b (Some e.1) (found rest q))) o) (is_same-comm e.0 q)

-- the places of the rest stay free
pub room_step : (es rest : List (List ℕ × Change)) (e : List ℕ × Change) (rows rows' : Place → Option (Option (List ℕ))) (v : ℕ) → es ≡ e ∷ rest → IsStrictlySortedBy bytes_cmp (keys_of es)
    → ((p : Place) → rows' p ≡ option_or (cond (is_at (place_cmp (v, e.0)) p) (before_if_changed e.1.before e.1.after) None) (rows p))
    → ((q : List ℕ) → IsSome (lookup (is_at (bytes_cmp q)) es) → rows (v, q) ≡ None)
    → (q : List ℕ) → IsSome (lookup (is_at (bytes_cmp q)) rest) → rows' (v, q) ≡ None
room_step es rest e rows rows' v is sorted put room q some = go (is_same e.0 q) refl
  where
    go : (b : Bool) → is_same e.0 q ≡ b → rows' (v, q) ≡ None
    go true t = absurd (let gone = found_rest es rest e is sorted q ∙ ap (λ b. cond b None (lookup (is_at (bytes_cmp q)) es)) t in let clash = ap is_some (sym gone) ∙ some in cc)
    go false t =
        let left = found_rest es rest e is sorted q ∙ ap (λ b. cond b None (lookup (is_at (bytes_cmp q)) es)) t in
        put (v, q)
        ∙ ap (λ b. option_or (cond b (before_if_changed e.1.before e.1.after) None) (rows (v, q))) (one_version v e.0 q ∙ t)
        ∙ room q (ap is_some (sym left) ∙ some)

-- ---- all of it

pub does_all : (work : Work) (a b c d : Database) → Rows work.changes work.rows a b → Writes work.changes b c → Meta work.meta c d → Does work a d
does_all work a b c d r w m = record {
  laid = m.laid;
  values = λ q.
      ap (λ rs. value_in rs q) m.kv
      ∙ w.values q
      ∙ ap (λ rs. written_if differs (lookup (is_at (bytes_cmp q)) work.changes.entries) (value_in rs q)) r.kv;
  rows = λ p. ap (λ rs. before_in rs p) (m.undo ∙ w.undo) ∙ r.rows p;
  meta = λ f g bytes is. m.meta f g bytes (w.meta ∙ r.meta ∙ is);
}

-- ---- the contents, as a map

no_row : (q : List ℕ) (rows : List Row) → list_any (eq_by_cmp bytes_cmp q) (list_map key_of rows) ≡ false → filter (is_at_key q) rows ≡ []
no_row q [] none = refl
no_row q (r ∷ rows) none = go (eq_by_cmp bytes_cmp q (key_of r)) refl (λ e. no_row q rows (rw e at none))
  where
    go : (d : Bool) → eq_by_cmp bytes_cmp q (key_of r) ≡ d → (eq_by_cmp bytes_cmp q (key_of r) ≡ false → filter (is_at_key q) rows ≡ []) → filter (is_at_key q) (r ∷ rows) ≡ []
    go true f more = absurd (let clash = rw f at none in cc)
    go false f more =
        let apart : is_at_key q r ≡ false = is_same-comm (key_of r) q ∙ f in
        rw apart (more f)

-- the contents have at each key the value that its row has
pub get_contents : (rows : List Row) (q : List ℕ) → map.get (contents_in rows) q ≡ value_in rows q
get_contents rows q = get-map_by-all bytes_total bytes_exact (value_in rows) (list_map key_of rows) (λ k none. ap (λ rs. option_map value_of (slice_get rs 0)) (no_row k rows none)) q
