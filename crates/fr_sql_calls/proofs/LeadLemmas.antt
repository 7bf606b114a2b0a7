-- What a piece of work makes of the tables, as a state.
use Rattle.std.proofs.Common.{◌≡◌, ℕ, ◌<◌, Bool, true, false, cond, not, List, [], ◌∷◌, Option, None, Some, IfSome, IsTrue, refl, sym, ap, subst, ◌∙◌, arith}
use Rattle.std.specs.Prelude.{is_some, nat_lt, ◌==◌}
use Rattle.std.specs.Option.{option_or}
use Rattle.std.specs.Cmp.{unsigned_Decides}
use Rattle.std.specs.Map.{lookup}
use Rattle.std.specs.BTreeMap as tree
use Rattle.std.specs.BTreeMap.{is_at}
use Rattle.std.specs.FinMap.{get, same_map}
use Rattle.sqlite.specs.Tree.{Trees}
use Rattle.sqlite.specs.Effect.{Database}
use Rattle.fr_base.specs.Bytes.{bytes_cmp, bytes_total, bytes_exact}
use Rattle.fr_mutation.specs.declared.mutation.Mutation.{Mutation}
use Rattle.fr_mutation.specs.Mutation.{after, touched, value_after_all}
use Rattle.fr_mutation.proofs.MutationLemmas.{get-after}
use Rattle.fr_undo.specs.declared.changes.Change.{Change}
use Rattle.fr_undo.specs.Law.{UntouchedLaw}
use Rattle.fr_undo.specs.State.{Place, StoreState, IsStoreState}
use Rattle.fr_undo.specs.Trees.{Contents}
use Rattle.fr_undo.specs.Undo.{extended, advanced, forgotten, with_bytes, same_value, before_if_changed, rows as batch_rows}
use Rattle.fr_undo.specs.Changes.{Changes, KnowBefore, written, written_if, value_written, before_of, row_of, row_made}
use Rattle.fr_undo.proofs.RowLemmas.{option_or_none}
use Rattle.fr_undo.proofs.UndoLemmas.{place_total, place_exact, same_state, same_value-itself, same_from_same_value, get-joined, get-rows, get-rows_above}
use Rattle.fr_sql_rows.specs.Rows.{value_in, before_in, contents_in, undo_in, bytes_in, meta_row}
use Rattle.fr_sql_rows.specs.Connection.{IsLaidOut}
use Rattle.fr_sql_calls.specs.declared.work.RowWork.TheVariants.{Keep, Note, DropThrough}
use Rattle.fr_sql_calls.specs.declared.work.MetaWork.TheVariants.{Versions, State}
use Rattle.fr_sql_calls.specs.Work.{KnowChanged, differs}
use Rattle.fr_sql_calls.proofs.WorkLemmas.{get_contents, get_undo}
use Rattle.fr_sql_calls.specs.Known.{KnowsOf}
use Rattle.fr_sql_calls.specs.Tables.{state_in, applied_in, floor_in}
use Rattle.fr_sql_calls.specs.Calls.{LeadsTo}

-- ---- the row of meta

pub meta_versions : (old new : Database) (applied floor : ℕ) → IsLaidOut old → ((a f : ℕ) (bytes : List ℕ) → old.trees 4 ≡ meta_row a f bytes ∷ [] → new.trees 4 ≡ meta_row applied floor bytes ∷ [])
    → (applied_in (new.trees 4) ≡ applied) × (floor_in (new.trees 4) ≡ floor) × (bytes_in (new.trees 4) ≡ bytes_in (old.trees 4))
meta_versions old new applied floor laid made =
    let was = laid.meta.3 in
    let is = made laid.meta.0 laid.meta.1 laid.meta.2 was in
    (ap applied_in is, ap floor_in is, ap bytes_in is ∙ sym (ap bytes_in was))

pub meta_bytes : (old new : Database) (bytes : List ℕ) → IsLaidOut old → ((a f : ℕ) (before : List ℕ) → old.trees 4 ≡ meta_row a f before ∷ [] → new.trees 4 ≡ meta_row a f bytes ∷ [])
    → (applied_in (new.trees 4) ≡ applied_in (old.trees 4)) × (floor_in (new.trees 4) ≡ floor_in (old.trees 4)) × (bytes_in (new.trees 4) ≡ bytes)
meta_bytes old new bytes laid made =
    let was = laid.meta.3 in
    let is = made laid.meta.0 laid.meta.1 laid.meta.2 was in
    (ap applied_in is ∙ sym (ap applied_in was), ap floor_in is ∙ sym (ap floor_in was), ap bytes_in is)

-- ---- changes that know what they change

is_false : (b : Bool) → not b ≡ false → b ≡ true
is_false true e = refl
is_false false e = cc

is_true : (b : Bool) → not b ≡ true → b ≡ false
is_true false e = refl
is_true true e = cc

pub alike : (c : Change) → differs c ≡ false → c.before ≡ c.after
alike c e = same_from_same_value c.before c.after (is_false (same_value c.before c.after) e)

pub alike_not : (c : Change) → c.before ≡ c.after → differs c ≡ false
alike_not c e = ap not (ap (λ o. same_value o c.after) e ∙ same_value-itself c.after)

-- the undo rows of changes that know what keys held, and lead to what they hold then
pub made_rows : (changes : Changes) (held new : List ℕ → Option (List ℕ)) → KnowChanged changes held → ((q : List ℕ) → written_if differs (tree.get bytes_cmp changes q) (held q) ≡ new q)
    → (v : ℕ) (p : Place) → row_of (tree.get bytes_cmp changes) v p ≡ row_made held new v p
made_rows changes held new know values v p = ap (λ o. cond (p.0 == v) o None) (go (tree.get bytes_cmp changes p.1) (know p.1) (values p.1))
  where
    none_changed : (a b : Option (List ℕ)) → a ≡ b → None ≡ before_if_changed a b
    none_changed a b e = sym (ap (λ (s : Bool). cond s None (Some a)) (ap (λ o. same_value o b) e ∙ same_value-itself b))

    go : (o : Option Change) → IfSome o (λ c. IsTrue (differs c) → c.before ≡ held p.1) → written_if differs o (held p.1) ≡ new p.1 → before_of o ≡ before_if_changed (held p.1) (new p.1)
    go None k w = none_changed (held p.1) (new p.1) w
    go (Some c) k w = from (differs c) refl
      where
        from : (d : Bool) → differs c ≡ d → before_if_changed c.before c.after ≡ before_if_changed (held p.1) (new p.1)
        from true e =
            let after : c.after ≡ new p.1 = ap (λ b. cond b c.after (held p.1)) (sym e) ∙ w in
            (λ i. before_if_changed (k e i) (after i))
        from false e = sym (none_changed c.before c.after (alike c e)) ∙ none_changed (held p.1) (new p.1) (ap (λ b. cond b c.after (held p.1)) (sym e) ∙ w)

-- rows at a version that has none stand beside the others
pub made_beside : (old new : List ℕ → Option (List ℕ)) (rows : Place → Option (Option (List ℕ))) (v : ℕ) → ((q : List ℕ) → rows (v, q) ≡ None)
    → (p : Place) → option_or (row_made old new v p) (rows p) ≡ option_or (rows p) (row_made old new v p)
made_beside old new rows v room p =
    elim (p.0 == v) as (λ b. (p.0 == v) ≡ b → option_or (cond b made None) (rows p) ≡ option_or (rows p) (cond b made None)) [
      | true ↦ λ e.
          let none : rows p ≡ None = ap (λ w. rows (w, p.1)) ((unsigned_Decides p.0 v).0 e) ∙ room p.1 in
          ap (option_or made) none ∙ option_or_none made ∙ sym (ap (λ o. option_or o made) none)
      | false ↦ λ e. sym (option_or_none (rows p))
    ] refl
  where
    made : Option (Option (List ℕ))
    made = before_if_changed (old p.1) (new p.1)

-- ---- a batch

module _ (known : Contents) (changes : Changes) (batch : List Mutation) (held : List ℕ → Option (List ℕ)) (law : UntouchedLaw) (knows : KnowsOf (touched batch) held known)
    (know : KnowBefore changes (tree.get bytes_cmp known)) (values : (q : List ℕ) → value_written changes (tree.get bytes_cmp known) q ≡ value_after_all batch q (tree.get bytes_cmp known q)) where
  known_there : (q : List ℕ) → touched batch q ≡ true → tree.get bytes_cmp known q ≡ held q
  known_there q t = knows q ∙ ap (λ b. cond b (held q) None) t

  before_is : (q : List ℕ) (c : Change) → tree.get bytes_cmp changes q ≡ Some c → c.before ≡ tree.get bytes_cmp known q
  before_is q c is = subst (λ (o : Option Change). IfSome o (λ c. c.before ≡ tree.get bytes_cmp known q)) is (know q)

  after_is : (q : List ℕ) (c : Change) → tree.get bytes_cmp changes q ≡ Some c → c.after ≡ value_after_all batch q (tree.get bytes_cmp known q)
  after_is q c is = sym (ap (λ o. written o (tree.get bytes_cmp known q)) is) ∙ values q

  -- a change of a key that is not touched changes nothing
  same_untouched : (q : List ℕ) (c : Change) → tree.get bytes_cmp changes q ≡ Some c → touched batch q ≡ false → differs c ≡ false
  same_untouched q c is t = alike_not c (before_is q c is ∙ sym (after_is q c is ∙ law batch q (tree.get bytes_cmp known q) t))

  pub batch_knows : KnowChanged changes held
  batch_knows q = go (tree.get bytes_cmp changes q) refl
    where
      go : (o : Option Change) → tree.get bytes_cmp changes q ≡ o → IfSome o (λ c. IsTrue (differs c) → c.before ≡ held q)
      go None is = tt
      go (Some c) is = λ d. from d (touched batch q) refl
        where
          from : IsTrue (differs c) → (b : Bool) → touched batch q ≡ b → c.before ≡ held q
          from d true t = before_is q c is ∙ known_there q t
          from d false t = absurd (let clash = sym (same_untouched q c is t) ∙ d in cc)

  pub batch_values : (q : List ℕ) → written_if differs (tree.get bytes_cmp changes q) (held q) ≡ value_after_all batch q (held q)
  batch_values q = go (tree.get bytes_cmp changes q) refl (touched batch q) refl
    where
      go : (o : Option Change) → tree.get bytes_cmp changes q ≡ o → (b : Bool) → touched batch q ≡ b → written_if differs o (held q) ≡ value_after_all batch q (held q)
      go None is true t =
          let there = known_there q t in
          sym there ∙ sym (ap (λ o. written o (tree.get bytes_cmp known q)) is) ∙ values q ∙ ap (value_after_all batch q) there
      go None is false t = sym (law batch q (held q) t)
      go (Some c) is false t = ap (λ b. cond b c.after (held q)) (same_untouched q c is t) ∙ sym (law batch q (held q) t)
      go (Some c) is true t = from (differs c) refl
        where
          made : c.after ≡ value_after_all batch q (held q)
          made = after_is q c is ∙ ap (value_after_all batch q) (known_there q t)

          from : (d : Bool) → differs c ≡ d → cond d c.after (held q) ≡ value_after_all batch q (held q)
          from true e = made
          from false e = sym (before_is q c is ∙ known_there q t) ∙ alike c e ∙ made

-- ---- states

-- tables that hold the same keys and undo rows, and have these versions and bytes
pub same_tables : (a : Trees) (after : StoreState) → ((q : List ℕ) → value_in (a 0) q ≡ get after.contents q) → ((p : Place) → before_in (a 2) p ≡ get after.undo p) → applied_in (a 4) ≡ after.applied → floor_in (a 4) ≡ after.floor → bytes_in (a 4) ≡ after.bytes
    → state_in a ≡ after
same_tables a after values rows applied floor bytes =
    same_state _ _
    (same_map bytes_total bytes_exact _ _ (λ q. get_contents (a 0) q ∙ values q))
    (same_map place_total place_exact _ _ (λ p. get_undo (a 2) p ∙ rows p))
    applied floor bytes

-- no undo row is at a version after the one applied
pub room_after : (db : Database) (v : ℕ) → IsStoreState (state_in db.trees) → applied_in (db.trees 4) < v → (q : List ℕ) → before_in (db.trees 2) (v, q) ≡ None
room_after db v sound later q = go (before_in (db.trees 2) (v, q)) refl
  where
    go : (o : Option (Option (List ℕ))) → before_in (db.trees 2) (v, q) ≡ o → o ≡ None
    go None is = refl
    go (Some x) is = absurd (let upto = sound.upto v q (ap is_some (get_undo (db.trees 2) (v, q) ∙ is)) in omega arith)

pub leads_batch : (changes : Changes) (db : Database) (v floor : ℕ) (batch : List Mutation) → IsLaidOut db → IsStoreState (state_in db.trees) → applied_in (db.trees 4) < v → floor_in (db.trees 4) ≡ floor
    → KnowChanged changes (value_in (db.trees 0)) → ((q : List ℕ) → written_if differs (tree.get bytes_cmp changes q) (value_in (db.trees 0) q) ≡ value_after_all batch q (value_in (db.trees 0) q))
    → LeadsTo (record { changes = changes; rows = Note v; meta = Versions v floor }) db (extended (state_in db.trees) v batch)
leads_batch changes db v floor batch laid sound later same_floor know values = record {
  fits = record { laid = laid; know = know; room = room_after db v sound later };
  leads = λ d made.
      let meta = meta_versions db d v floor laid made.meta in
      same_tables d.trees (extended (state_in db.trees) v batch)
      (λ q. made.values q ∙ values q ∙ sym (new q))
      (λ p.
      made.rows p
      ∙ ap (λ o. option_or o (before_in (db.trees 2) p)) (made_rows changes held (λ q. value_after_all batch q (held q)) know values v p)
      ∙ made_beside held (λ q. value_after_all batch q (held q)) (before_in (db.trees 2)) v (room_after db v sound later) p
      ∙ sym (get-joined (undo_in (db.trees 2)) (batch_rows (contents_in (db.trees 0)) v batch) p
      ∙ (λ i. option_or (get_undo (db.trees 2) p i) (get-rows (contents_in (db.trees 0)) v batch p i))
      ∙ ap (option_or (before_in (db.trees 2) p)) (λ i. cond (p.0 == v) (before_if_changed (get_contents (db.trees 0) p.1 i) (new p.1 i)) None)))
      meta.0 (meta.1 ∙ sym same_floor) meta.2;
}
  where
    held : List ℕ → Option (List ℕ)
    held = value_in (db.trees 0)

    new : (q : List ℕ) → get (after (contents_in (db.trees 0)) batch) q ≡ value_after_all batch q (held q)
    new q = get-after (contents_in (db.trees 0)) batch q ∙ ap (value_after_all batch q) (get_contents (db.trees 0) q)

-- ---- no change of keys

nothing_known : (changes : Changes) (held : List ℕ → Option (List ℕ)) → changes.entries ≡ [] → KnowChanged changes held
nothing_known changes held none q = subst (λ (es : List (List ℕ × Change)). IfSome (lookup (is_at (bytes_cmp q)) es) (λ c. IsTrue (differs c) → c.before ≡ held q)) (sym none) tt

nothing_written : (changes : Changes) (q : List ℕ) (old : Option (List ℕ)) → changes.entries ≡ [] → written_if differs (tree.get bytes_cmp changes q) old ≡ old
nothing_written changes q old none = ap (λ (es : List (List ℕ × Change)). written_if differs (lookup (is_at (bytes_cmp q)) es) old) none

pub leads_on : (changes : Changes) (db : Database) (v floor : ℕ) → changes.entries ≡ [] → IsLaidOut db → floor_in (db.trees 4) ≡ floor
    → LeadsTo (record { changes = changes; rows = Keep; meta = Versions v floor }) db (advanced (state_in db.trees) v)
leads_on changes db v floor none laid same_floor = record {
  fits = record { laid = laid; know = nothing_known changes _ none; room = tt };
  leads = λ d made.
      let meta = meta_versions db d v floor laid made.meta in
      same_tables d.trees (advanced (state_in db.trees) v)
      (λ q. made.values q ∙ nothing_written changes q _ none ∙ sym (get_contents (db.trees 0) q))
      (λ p. made.rows p ∙ sym (get_undo (db.trees 2) p))
      meta.0 (meta.1 ∙ sym same_floor) meta.2;
}

pub leads_forget : (changes : Changes) (db : Database) (f applied : ℕ) → changes.entries ≡ [] → IsLaidOut db → applied_in (db.trees 4) ≡ applied → floor_in (db.trees 4) < f
    → LeadsTo (record { changes = changes; rows = DropThrough f; meta = Versions applied f }) db (forgotten (state_in db.trees) f)
leads_forget changes db f applied none laid same_applied above = record {
  fits = record { laid = laid; know = nothing_known changes _ none; room = tt };
  leads = λ d made.
      let meta = meta_versions db d applied f laid made.meta in
      same_tables d.trees (forgotten (state_in db.trees) f)
      (λ q. made.values q ∙ nothing_written changes q _ none ∙ sym (get_contents (db.trees 0) q))
      (λ p. made.rows p ∙ sym (get-rows_above (undo_in (db.trees 2)) f p ∙ ap (λ o. cond (nat_lt f p.0) o None) (get_undo (db.trees 2) p)))
      (meta.0 ∙ sym same_applied) (meta.1 ∙ omega (arith, above)) meta.2;
}

pub leads_bytes : (changes : Changes) (db : Database) (bytes : List ℕ) → changes.entries ≡ [] → IsLaidOut db
    → LeadsTo (record { changes = changes; rows = Keep; meta = State bytes }) db (with_bytes (state_in db.trees) bytes)
leads_bytes changes db bytes none laid = record {
  fits = record { laid = laid; know = nothing_known changes _ none; room = tt };
  leads = λ d made.
      let meta = meta_bytes db d bytes laid made.meta in
      same_tables d.trees (with_bytes (state_in db.trees) bytes)
      (λ q. made.values q ∙ nothing_written changes q _ none ∙ sym (get_contents (db.trees 0) q))
      (λ p. made.rows p ∙ sym (get_undo (db.trees 2) p))
      meta.0 meta.1 meta.2;
}
