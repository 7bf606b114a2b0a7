-- The state that a list of commits determines, call by call.
use Rattle.std.proofs.Common.{◌≡◌, ℕ, ◌+◌, ◌-◌, ◌<◌, ◌≤◌, Bool, true, false, cond, max, min, List, [], ◌∷◌, ◌++◌, Option, None, Some, IsSome, refl, sym, ap, ◌∙◌, arith}
use Rattle.std.specs.Prelude.{unwrap_or, is_some, nat_le, nat_lt, ◌==◌}
use Rattle.std.specs.Cmp.{unsigned_Decides}
use Rattle.std.specs.Option.{option_or}
use Rattle.std.specs.FinMap.{get, get-empty, empty, same_map}
use Rattle.std.proofs.lemmas.Bool.{leb-true, leb-false, ltb-true}
use Rattle.fr_base.specs.Bytes.{bytes_total, bytes_exact}
use Rattle.fr_base.specs.Map.{Map}
use Rattle.fr_mutation.specs.declared.mutation.Mutation.{Mutation}
use Rattle.fr_mutation.specs.Mutation.{after}
use Rattle.fr_undo.specs.State.{Place, place_cmp, StoreState, IsStoreState, fresh}
use Rattle.fr_undo.specs.Undo.{same_value, before_if_changed, row_at, rows, undone, extended, forgotten}
use Rattle.fr_undo.specs.Canonical.{Commit, Rises, contents_after, rows_after, canonical, commits_through}
use Rattle.fr_undo.specs.Law.{LeadsOn}
use Rattle.fr_undo.proofs.UndoLemmas.{place_total, place_exact, same_from_same_value, get-rows, get-joined, get-contents_undone, get-rows_through, get-rows_above, same_state}
use Rattle.fr_undo.proofs.RowLemmas.{least_by, least_row-by, least_by-none, least_by-same, least_by-at, option_or_none}
use Rattle.fr_undo.proofs.ChangeLemmas.{cond_none}
use Rattle.fr_undo.proofs.ChainLaw.{is_above, both_above, row_elsewhere, twice, option_or_assoc}

-- ---- the rows, place by place

-- what the rows of commits hold at a place
abbrev pub row_of : ℕ → Map → List Commit → Place → Option (Option (List ℕ))
row_of f m [] p = None
row_of f m (commit ∷ commits) p = option_or (cond (nat_lt f commit.0) (row_at m commit.0 commit.1 p) None) (row_of f (after m commit.1) commits p)

-- those of a commit alone, if they are kept
get-kept : (m : Map) (commit : Commit) (b : Bool) (p : Place) → get {R = place_cmp} (cond b (rows m commit.0 commit.1) empty) p ≡ cond b (row_at m commit.0 commit.1 p) None
get-kept m commit true p = get-rows m commit.0 commit.1 p
get-kept m commit false p = get-empty place_cmp p

pub get-rows_after : (f : ℕ) (m : Map) (commits : List Commit) (p : Place) → get (rows_after f m commits) p ≡ row_of f m commits p
unfolding rows_after
get-rows_after f m [] p = get-empty place_cmp p
get-rows_after f m (commit ∷ commits) p =
    get-joined _ (rows_after f (after m commit.1) commits) p
    ∙ (λ i. option_or (get-kept m commit (nat_lt f commit.0) p i) (get-rows_after f (after m commit.1) commits p i))

-- no row at a version at which there is no commit
no_kept : (f : ℕ) (m : Map) (commit : Commit) (p : Place) → (p.0 ≡ commit.0 → ⊥) → cond (nat_lt f commit.0) (row_at m commit.0 commit.1 p) None ≡ None
no_kept f m commit p ne = ap (λ o. cond (nat_lt f commit.0) o None) (row_elsewhere m commit.0 commit.1 p ne) ∙ cond_none (nat_lt f commit.0)

none_before : (f : ℕ) (m : Map) (a v : ℕ) (commits : List Commit) → Rises a commits v → (p : Place) → p.0 ≤ a → row_of f m commits p ≡ None
none_before f m a v [] rises p le = refl
none_before f m a v (commit ∷ commits) rises p le =
    let lt = rises.0 in
    λ i. option_or (no_kept f m commit p (λ is. omega arith) i) (none_before f (after m commit.1) commit.0 v commits rises.1 p (omega arith) i)

rises_over : (a v : ℕ) (commits : List Commit) → Rises a commits v → a ≤ v
rises_over a v [] rises = rises
rises_over a v (commit ∷ commits) rises = let lt = rises.0 in let le = rises_over commit.0 v commits rises.1 in omega arith

none_beyond : (f : ℕ) (m : Map) (a v : ℕ) (commits : List Commit) → Rises a commits v → (p : Place) → v < p.0 → row_of f m commits p ≡ None
none_beyond f m a v [] rises p lt = refl
none_beyond f m a v (commit ∷ commits) rises p lt =
    let le = rises_over commit.0 v commits rises.1 in
    λ i. option_or (no_kept f m commit p (λ is. omega arith) i) (none_beyond f (after m commit.1) commit.0 v commits rises.1 p lt i)

some_or : (a b : Option (Option (List ℕ))) → IsSome (option_or a b) → is_some a ≡ false → IsSome b
some_or None b h e = h
some_or (Some x) b h e = cc

-- each row is above the floor
rows_over : (f : ℕ) (m : Map) (commits : List Commit) (p : Place) → IsSome (row_of f m commits p) → f < p.0
rows_over f m [] p some = cc
rows_over f m (commit ∷ commits) p some =
    from (is_some (cond (nat_lt f commit.0) (row_at m commit.0 commit.1 p) None)) refl (λ e. rows_over f (after m commit.1) commits p (some_or (cond (nat_lt f commit.0) (row_at m commit.0 commit.1 p) None) (row_of f (after m commit.1) commits p) some e))
  where
    kept : (a b : Bool) → nat_lt f commit.0 ≡ a → (p.0 == commit.0) ≡ b → is_some (cond a (cond b (before_if_changed (get m p.1) (get (after m commit.1) p.1)) None) None) ≡ true → f < p.0
    kept true true e is h = let lt = ltb-true f commit.0 e in let same : p.0 ≡ commit.0 = (unsigned_Decides p.0 commit.0).0 is in omega arith
    kept true false e is h = cc
    kept false b e is h = cc

    from : (b : Bool) → is_some (cond (nat_lt f commit.0) (row_at m commit.0 commit.1 p) None) ≡ b → (is_some (cond (nat_lt f commit.0) (row_at m commit.0 commit.1 p) None) ≡ false → f < p.0) → f < p.0
    from true e rest = kept (nat_lt f commit.0) (p.0 == commit.0) refl refl e
    from false e rest = rest e

-- ---- one more commit

contents_after-push : (m : Map) (commits : List Commit) (commit : Commit) → contents_after m (commits ++ commit ∷ []) ≡ after (contents_after m commits) commit.1
contents_after-push m [] commit = refl
contents_after-push m (c ∷ commits) commit = contents_after-push (after m c.1) commits commit

row_of-push : (f : ℕ) (m : Map) (commits : List Commit) (commit : Commit) (p : Place)
    → row_of f m (commits ++ commit ∷ []) p ≡ option_or (row_of f m commits p) (cond (nat_lt f commit.0) (row_at (contents_after m commits) commit.0 commit.1 p) None)
row_of-push f m [] commit p = option_or_none _
row_of-push f m (c ∷ commits) commit p =
    let first = cond (nat_lt f c.0) (row_at m c.0 c.1 p) None in
    ap (option_or first) (row_of-push f (after m c.1) commits commit p)
    ∙ option_or_assoc first (row_of f (after m c.1) commits p) (cond (nat_lt f commit.0) (row_at (contents_after (after m c.1) commits) commit.0 commit.1 p) None)

pub applying : (commits : List Commit) (v f : ℕ) (bytes : List ℕ) → f ≤ v → (w : ℕ) (batch : List Mutation) → v < w → extended (canonical commits v f bytes) w batch ≡ canonical (commits ++ (w, batch) ∷ []) w f bytes
applying commits v f bytes le w batch lt = same_state _ _
    (sym (contents_after-push empty commits (w, batch)))
    (same_map place_total place_exact _ _ (λ p.
    let m = contents_after empty commits in
    get-joined (rows_after f empty commits) (rows m w batch) p
    ∙ (λ i. option_or (get-rows_after f empty commits p i) (get-rows m w batch p i))
    ∙ ap (λ b. option_or (row_of f empty commits p) (cond b (row_at m w batch p) None)) (sym (is_above f w (omega arith)))
    ∙ sym (row_of-push f empty commits (w, batch) p)
    ∙ sym (get-rows_after f empty (commits ++ (w, batch) ∷ []) p)))
    refl refl refl

pub rises_push : (a v w : ℕ) (batch : List Mutation) (commits : List Commit) → Rises a commits v → v < w → Rises a (commits ++ (w, batch) ∷ []) w
rises_push a v w batch [] rises lt = (omega arith, omega arith)
rises_push a v w batch (commit ∷ commits) rises lt = (rises.0, rises_push commit.0 v w batch commits rises.1 lt)

pub rises_more : (a v w : ℕ) (commits : List Commit) → Rises a commits v → v < w → Rises a commits w
rises_more a v w [] rises lt = omega arith
rises_more a v w (commit ∷ commits) rises lt = (rises.0, rises_more commit.0 v w commits rises.1 lt)

-- ---- rows forgotten

row_of-above : (f g : ℕ) (m : Map) (commits : List Commit) (p : Place) → cond (nat_lt g p.0) (row_of f m commits p) None ≡ row_of (max f g) m commits p
row_of-above f g m [] p = cond_none (nat_lt g p.0)
row_of-above f g m (commit ∷ commits) p =
    split (nat_lt g p.0) (cond (nat_lt f commit.0) row None) (row_of f (after m commit.1) commits p)
    ∙ (λ i. option_or (head i) (row_of-above f g (after m commit.1) commits p i))
  where
    row : Option (Option (List ℕ))
    row = row_at m commit.0 commit.1 p

    split : (b : Bool) (x y : Option (Option (List ℕ))) → cond b (option_or x y) None ≡ option_or (cond b x None) (cond b y None)
    split true x y = refl
    split false x y = refl

    head : cond (nat_lt g p.0) (cond (nat_lt f commit.0) row None) None ≡ cond (nat_lt (max f g) commit.0) row None
    head = from (p.0 == commit.0) refl
      where
        from : (b : Bool) → (p.0 == commit.0) ≡ b → cond (nat_lt g p.0) (cond (nat_lt f commit.0) row None) None ≡ cond (nat_lt (max f g) commit.0) row None
        from true e =
            let is : p.0 ≡ commit.0 = (unsigned_Decides p.0 commit.0).0 e in
            ap (λ w. cond (nat_lt g w) (cond (nat_lt f commit.0) row None) None) is
            ∙ twice (nat_lt g commit.0) (nat_lt f commit.0) row
            ∙ ap (λ b. cond b row None) (both_above f g commit.0)
        from false e =
            let none : row ≡ None = ap (λ b. cond b (before_if_changed (get m p.1) (get (after m commit.1) p.1)) None) e in
            ap (λ o. cond (nat_lt g p.0) (cond (nat_lt f commit.0) o None) None) none
            ∙ ap (λ o. cond (nat_lt g p.0) o None) (cond_none (nat_lt f commit.0))
            ∙ cond_none (nat_lt g p.0)
            ∙ sym (ap (λ o. cond (nat_lt (max f g) commit.0) o None) none ∙ cond_none (nat_lt (max f g) commit.0))

pub forgetting : (commits : List Commit) (v f : ℕ) (bytes : List ℕ) (g : ℕ) → forgotten (canonical commits v f bytes) g ≡ canonical commits v (max f g) bytes
forgetting commits v f bytes g = same_state _ _ refl
    (same_map place_total place_exact _ _ (λ p.
    get-rows_above (rows_after f empty commits) g p
    ∙ ap (λ o. cond (nat_lt g p.0) o None) (get-rows_after f empty commits p)
    ∙ row_of-above f g empty commits p
    ∙ sym (get-rows_after (max f g) empty commits p)))
    refl refl refl

-- ---- commits undone

-- undoing all commits gives the map from before them
all_undone : (f c v n : ℕ) (q : List ℕ) (m : Map) (a : ℕ) (commits : List Commit) → Rises a commits v → c ≤ a → f ≤ c → v ≤ c + n
    → unwrap_or (least_by (λ w. row_of f m commits (w, q)) c n) (get (contents_after m commits) q) ≡ get m q
all_undone f c v n q m a [] rises le within more = ap (λ o. unwrap_or o (get m q)) (least_by-none (λ w. None) c n (λ w. refl))
all_undone f c v n q m a (commit ∷ commits) rises le within more =
    let lt = rises.0 in
    let last = rises_over commit.0 v commits rises.1 in
    let m' = after m commit.1 in
    let new = get (contents_after m' commits) q in
    let rest = all_undone f c v n q m' commit.0 commits rises.1 (omega arith) within more in
    let here : row_of f m (commit ∷ commits) (commit.0, q) ≡ before_if_changed (get m q) (get m' q) =
    (λ i. option_or (cond (is_above f commit.0 (omega arith) i) (cond ((unsigned_Decides commit.0 commit.0).1 refl i) (before_if_changed (get m q) (get m' q)) None) None) (none_before f m' commit.0 v commits rises.1 (commit.0, q) (omega arith) i))
    ∙ option_or_none (before_if_changed (get m q) (get m' q)) in
    elim (same_value (get m q) (get m' q)) as (λ b. same_value (get m q) (get m' q) ≡ b → unwrap_or (least_by (λ w. row_of f m (commit ∷ commits) (w, q)) c n) new ≡ get m q) [
      | true ↦ λ e.
          ap (λ o. unwrap_or o new) (least_by-same (λ w. row_of f m (commit ∷ commits) (w, q)) (λ w. row_of f m' commits (w, q)) c n (λ w above.
          ap (λ o. option_or o (row_of f m' commits (w, q))) (unchanged w (w == commit.0) refl e)))
          ∙ rest
          ∙ sym (same_from_same_value (get m q) (get m' q) e)
      | false ↦ λ e.
          ap (λ o. unwrap_or o new) (least_by-at (λ w. row_of f m (commit ∷ commits) (w, q)) commit.0 (get m q)
          (here ∙ ap (λ b. cond b None (Some (get m q))) e)
          (λ w before. λ i. option_or (no_kept f m commit (w, q) (λ is. omega arith) i) (none_before f m' commit.0 v commits rises.1 (w, q) (omega arith) i))
          c n (omega arith) (omega arith))
    ] refl
  where
    unchanged : (w : ℕ) (b : Bool) → (w == commit.0) ≡ b → same_value (get m q) (get (after m commit.1) q) ≡ true → cond (nat_lt f commit.0) (row_at m commit.0 commit.1 (w, q)) None ≡ None
    unchanged w b is e =
        ap (λ s. cond (nat_lt f commit.0) (cond (w == commit.0) (cond s None (Some (get m q))) None) None) e
        ∙ ap (λ o. cond (nat_lt f commit.0) o None) (cond_none (w == commit.0))
        ∙ cond_none (nat_lt f commit.0)

value_undone : (f c v n : ℕ) (q : List ℕ) (m : Map) (a : ℕ) (commits : List Commit) → Rises a commits v → f ≤ c → v ≤ c + n
    → unwrap_or (least_by (λ w. row_of f m commits (w, q)) c n) (get (contents_after m commits) q) ≡ get (contents_after m (commits_through c commits)) q
value_undone f c v n q m a [] rises within more = ap (λ o. unwrap_or o (get m q)) (least_by-none (λ w. None) c n (λ w. refl))
value_undone f c v n q m a (commit ∷ commits) rises within more =
    let m' = after m commit.1 in
    let new = get (contents_after m' commits) q in
    let rest = value_undone f c v n q m' commit.0 commits rises.1 within more in
    let last = rises_over commit.0 v commits rises.1 in
    elim (nat_le commit.0 c) as (λ b. nat_le commit.0 c ≡ b → unwrap_or (least_by (λ w. row_of f m (commit ∷ commits) (w, q)) c n) new ≡ get (contents_after m (cond b (commit ∷ commits_through c commits) [])) q) [
      | true ↦ λ e.
          let le = leb-true commit.0 c e in
          ap (λ o. unwrap_or o new) (least_by-same (λ w. row_of f m (commit ∷ commits) (w, q)) (λ w. row_of f m' commits (w, q)) c n (λ w above.
          ap (λ o. option_or o (row_of f m' commits (w, q))) (no_kept f m commit (w, q) (λ is. omega arith))))
          ∙ rest
      | false ↦ λ e.
          let lt = leb-false commit.0 c e in
          all_undone f c v n q m c (commit ∷ commits) (lt, rises.1) (omega arith) within more
    ] refl

row_of-through : (f c v : ℕ) (m : Map) (a : ℕ) (commits : List Commit) → Rises a commits v → (p : Place) → cond (nat_le p.0 c) (row_of f m commits p) None ≡ row_of f m (commits_through c commits) p
row_of-through f c v m a [] rises p = cond_none (nat_le p.0 c)
row_of-through f c v m a (commit ∷ commits) rises p =
    let rest = row_of-through f c v (after m commit.1) commit.0 commits rises.1 p in
    let first = cond (nat_lt f commit.0) (row_at m commit.0 commit.1 p) None in
    elim (nat_le commit.0 c) as (λ b. nat_le commit.0 c ≡ b → cond (nat_le p.0 c) (row_of f m (commit ∷ commits) p) None ≡ row_of f m (cond b (commit ∷ commits_through c commits) []) p) [
      | true ↦ λ e.
          let le = leb-true commit.0 c e in
          elim (nat_le p.0 c) as (λ b. nat_le p.0 c ≡ b → cond b (row_of f (after m commit.1) commits p) None ≡ row_of f (after m commit.1) (commits_through c commits) p → cond b (option_or first (row_of f (after m commit.1) commits p)) None ≡ option_or first (row_of f (after m commit.1) (commits_through c commits) p)) [
            | true ↦ λ h r. ap (option_or first) r
            | false ↦ λ h r. let lt = leb-false p.0 c h in r ∙ sym (ap (λ o. option_or o (row_of f (after m commit.1) (commits_through c commits) p)) (no_kept f m commit p (λ is. omega arith)))
          ] refl rest
      | false ↦ λ e.
          let lt = leb-false commit.0 c e in
          elim (nat_le p.0 c) as (λ b. nat_le p.0 c ≡ b → cond b (row_of f m (commit ∷ commits) p) None ≡ None) [
            | true ↦ λ h. none_before f m c v (commit ∷ commits) (lt, rises.1) p (leb-true p.0 c h)
            | false ↦ λ h. refl
          ] refl
    ] refl

pub undoing : (commits : List Commit) (v f : ℕ) (bytes : List ℕ) → Rises 0 commits v → (c : ℕ) → f ≤ c → undone (canonical commits v f bytes) c ≡ canonical (commits_through c commits) (min v c) f bytes
undoing commits v f bytes rises c within =
    let s : StoreState = canonical commits v f bytes in
    same_state _ _
    (same_map bytes_total bytes_exact _ _ (λ q.
    get-contents_undone s c q
    ∙ ap (λ o. unwrap_or o (get s.contents q)) (least_row-by s.undo q c (v - c) ∙ least_by-same (λ w. get s.undo (w, q)) (λ w. row_of f empty commits (w, q)) c (v - c) (λ w lt. get-rows_after f empty commits (w, q)))
    ∙ value_undone f c v (v - c) q empty 0 commits rises within (omega arith)))
    (same_map place_total place_exact _ _ (λ p.
    get-rows_through s.undo c p
    ∙ ap (λ o. cond (nat_le p.0 c) o None) (get-rows_after f empty commits p)
    ∙ row_of-through f c v empty 0 commits rises p
    ∙ sym (get-rows_after f empty (commits_through c commits) p)))
    refl refl refl

pub rises_through : (a v c : ℕ) (commits : List Commit) → Rises a commits v → a ≤ c → Rises a (commits_through c commits) (min v c)
rises_through a v c [] rises le = omega arith
rises_through a v c (commit ∷ commits) rises le =
    let lt = rises.0 in
    let last = rises_over commit.0 v commits rises.1 in
    elim (nat_le commit.0 c) as (λ b. nat_le commit.0 c ≡ b → Rises a (cond b (commit ∷ commits_through c commits) []) (min v c)) [
      | true ↦ λ e. (rises.0, rises_through commit.0 v c commits rises.1 (leb-true commit.0 c e))
      | false ↦ λ e. omega arith
    ] refl

-- ---- all of it

canonical_sound : (commits : List Commit) (v f : ℕ) (bytes : List ℕ) → Rises 0 commits v → f ≤ v → IsStoreState (canonical commits v f bytes)
canonical_sound commits v f bytes rises le = record {
  floor = le;
  above = λ w q some. rows_over f empty commits (w, q) (ap is_some (sym (get-rows_after f empty commits (w, q))) ∙ some);
  upto = λ w q some. at_most w q (nat_le w v) refl (ap is_some (sym (get-rows_after f empty commits (w, q))) ∙ some);
}
  where
    at_most : (w : ℕ) (q : List ℕ) (b : Bool) → nat_le w v ≡ b → IsSome (row_of f empty commits (w, q)) → w ≤ v
    at_most w q true e some = leb-true w v e
    at_most w q false e some = absurd (clash (sym (ap is_some (none_beyond f empty 0 v commits rises (w, q) (leb-false w v e))) ∙ some))
      where
        clash : false ≡ true → ⊥
        clash h = cc

pub leads_on : (commits : List Commit) (v f : ℕ) (bytes : List ℕ) → Rises 0 commits v → f ≤ v → LeadsOn commits v f bytes
leads_on commits v f bytes rises le = record {
  sound = canonical_sound commits v f bytes rises le;
  applying = applying commits v f bytes le;
  applying_rises = λ w batch lt. rises_push 0 v w batch commits rises lt;
  advancing = λ w lt. refl;
  advancing_rises = λ w lt. rises_more 0 v w commits rises lt;
  forgetting = λ g within. forgetting commits v f bytes g;
  undoing = undoing commits v f bytes rises;
  undoing_rises = λ c. rises_through 0 v c commits rises (omega arith);
  setting = λ new. refl;
}

pub from_fresh : fresh ≡ canonical [] 0 0 []
unfolding rows_after
from_fresh = refl
