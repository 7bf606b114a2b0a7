-- What is planned of keys, one mutation, range or row after the other.
use Rattle.std.proofs.Common.{◌≡◌, inl, inr, ℕ, zero, suc, arith, Bool, true, false, cond, ◌||◌, ◌&&◌, List, [], ◌∷◌, ◌++◌, length, ◌-◌, Option, None, Some, IsSome, IfSome, Result, Ok, Err, IfOk, OnOk, refl, sym, ap, ◌∙◌, subst}
use Rattle.std.specs.Prelude.{is_some, unwrap_or}
use Rattle.std.specs.Option.{option_or}
use Rattle.std.specs.Prelude.{slice_get}
use Rattle.std.specs.declared.cmp.Ordering.TheVariants.{Less, Equal, Greater}
use Rattle.std.specs.Ordering.{is_eq, ordering_reverse}
use Rattle.std.specs.List.{list_any, AllByRecursion}
use Rattle.std.specs.List.Sorted.{IsStrictlySortedBy}
use Rattle.std.specs.Map.{lookup, keys_of}
use Rattle.std.specs.BTreeMap as tree
use Rattle.std.specs.BTreeMap.{BTreeMap, is_at}
use Rattle.fr_base.specs.Bytes.{bytes_cmp, is_same, bytes_exact, bytes_total}
use Rattle.fr_base.proofs.MapLemmas.{one_key, is_same-comm}
use Rattle.fr_mutation.specs.declared.mutation.Mutation.{Mutation}
use Rattle.fr_mutation.specs.Mutation.{key_of, new_value, value_after, is_between}
use Rattle.fr_mutation.proofs.MutationLemmas.{keyed_value}
use Rattle.fr_undo.specs.Changes.{Changes, written, after_of, is_key_of, covers, held_outside}
use Rattle.fr_undo.specs.declared.plan.Plan.{Plan}
use Rattle.fr_undo.specs.Plan.{IsPlan, IsNext, planned, value_planned, change_by}
use Rattle.fr_undo.proofs.ChangeLemmas.{or_false, or_true}
use Rattle.fr_undo.proofs.RowLemmas.{option_or_none}
use Rattle.fr_undo.proofs.WriteLemmas.{found_first, found_rest, lookup-append}

-- ---- a key of which something is planned

pub planned_put : (held : List ℕ → Option (List ℕ)) (plan plan' : Plan) (k : List ℕ) (after : Option (List ℕ)) (mutation : Mutation) → key_of mutation ≡ Some k
    → after ≡ new_value mutation (value_planned plan held k)
    → ((q : List ℕ) → planned plan' q ≡ cond (is_same k q) (Some after) (planned plan q))
    → (q : List ℕ) → value_planned plan' held q ≡ value_after mutation q (value_planned plan held q)
planned_put held plan plan' k after mutation named made put q =
    ap (λ o. unwrap_or o (held q)) (put q)
    ∙ elim (is_same k q) as (λ b. unwrap_or (cond b (Some after) (planned plan q)) (held q) ≡ cond b after (value_planned plan held q)) [
      | true ↦ refl
      | false ↦ refl
    ]
    ∙ ap (λ v. cond (is_same k q) v (value_planned plan held q)) made
    ∙ keyed_value mutation k named (value_planned plan held) q

-- a key of which nothing was planned
pub added_new : (plan plan' : Plan) (k : List ℕ) (after : Option (List ℕ)) → planned plan k ≡ None
    → ((q : List ℕ) → planned plan' q ≡ cond (is_same k q) (Some after) (planned plan q))
    → (q : List ℕ) → planned plan' q ≡ option_or (planned plan q) (cond (is_same k q) (Some after) None)
added_new plan plan' k after absent put q =
    put q
    ∙ elim (is_same k q) as (λ b. is_same k q ≡ b → cond b (Some after) (planned plan q) ≡ option_or (planned plan q) (cond b (Some after) None)) [
      | true ↦ λ e. sym (ap (λ o. option_or o (Some after)) (ap (planned plan) (sym (one_key bytes_exact k q e)) ∙ absent))
      | false ↦ λ e. sym (option_or_none (planned plan q))
    ] refl

-- a key of which something was planned
pub added_before : (plan plan' : Plan) (k : List ℕ) (after : Option (List ℕ)) → IsSome (planned plan k) → ((q : List ℕ) → planned plan' q ≡ planned plan q)
    → (q : List ℕ) → planned plan' q ≡ option_or (planned plan q) (cond (is_same k q) (Some after) None)
added_before plan plan' k after some same q =
    same q
    ∙ elim (is_same k q) as (λ b. is_same k q ≡ b → planned plan q ≡ option_or (planned plan q) (cond b (Some after) None)) [
      | true ↦ λ e. there (planned plan q) (ap (λ x. is_some (planned plan x)) (sym (one_key bytes_exact k q e)) ∙ some)
      | false ↦ λ e. sym (option_or_none (planned plan q))
    ] refl
  where
    there : (o : Option (Option (List ℕ))) → is_some o ≡ true → o ≡ option_or o (Some after)
    there None e = cc
    there (Some x) e = refl

-- ---- keys in a tree

pub tree_plan : (plan : Plan) → plan.rising.items ≡ [] → IsPlan plan
unfolding IsStrictlySortedBy
tree_plan plan none = record { order = subst (λ l. IsStrictlySortedBy bytes_cmp (keys_of l)) (sym none) tt; one = inl none }

-- ---- keys in a list

first_is : (x e : List ℕ × Option (List ℕ)) → Some x ≡ Some e → x.0 ≡ e.0
first_is x e is = cc

all_last : (P : List ℕ → Type 0) (es : List (List ℕ × Option (List ℕ))) (key : List ℕ) (after : Option (List ℕ)) → AllByRecursion P (keys_of es) → P key → AllByRecursion P (keys_of (es ++ (key, after) ∷ []))
all_last P [] key after h p = (p, tt)
all_last P (e ∷ es) key after h p = (h.0, all_last P es key after h.1 p)

sorted_last : (es : List (List ℕ × Option (List ℕ))) (key : List ℕ) (after : Option (List ℕ)) → IsStrictlySortedBy bytes_cmp (keys_of es) → AllByRecursion (λ k. bytes_cmp k key ≡ Less) (keys_of es) → IsStrictlySortedBy bytes_cmp (keys_of (es ++ (key, after) ∷ []))
unfolding IsStrictlySortedBy
sorted_last [] key after s h = (tt, tt)
sorted_last (e ∷ es) key after s h = (all_last (λ y. bytes_cmp e.0 y ≡ Less) es key after s.0 h.0, sorted_last es key after s.1 h.1)

none_above : (es : List (List ℕ × Option (List ℕ))) (key : List ℕ) → AllByRecursion (λ k. bytes_cmp k key ≡ Less) (keys_of es) → lookup (is_at (bytes_cmp key)) es ≡ None
none_above [] key h = refl
none_above (e ∷ es) key h =
    ap (λ b. cond b (Some e.1) (lookup (is_at (bytes_cmp key)) es)) (is_same-comm key e.0 ∙ ap is_eq h.0)
    ∙ none_above es key h.1

-- what is planned if keys are in a list, and if they are in a tree
pub in_list : (plan : Plan) (q : List ℕ) → planned plan q ≡ option_or (lookup (is_at (bytes_cmp q)) plan.rising.items) (tree.get bytes_cmp plan.tree q)
in_list plan q = lookup-append (is_at (bytes_cmp q)) plan.rising.items plan.tree.entries

pub in_tree : (plan : Plan) → plan.rising.items ≡ [] → (q : List ℕ) → planned plan q ≡ tree.get bytes_cmp plan.tree q
in_tree plan none q = in_list plan q ∙ ap (λ l. option_or (lookup (is_at (bytes_cmp q)) l) (tree.get bytes_cmp plan.tree q)) none

-- a key is put into the tree
pub tree_put : (plan plan' : Plan) (t : BTreeMap (List ℕ) (Option (List ℕ))) (k : List ℕ) (after : Option (List ℕ)) → plan'.rising.items ≡ [] → ((q : List ℕ) → tree.get bytes_cmp t q ≡ planned plan q)
    → ((q : List ℕ) → tree.get bytes_cmp plan'.tree q ≡ cond (is_same k q) (Some after) (tree.get bytes_cmp t q))
    → (q : List ℕ) → planned plan' q ≡ cond (is_same k q) (Some after) (planned plan q)
tree_put plan plan' t k after none was put q = in_tree plan' none q ∙ put q ∙ ap (cond (is_same k q) (Some after)) (was q)

-- a key that comes behind all is none of them
pub next_absent : (plan : Plan) (key : List ℕ) → IsNext plan key → planned plan key ≡ None
next_absent plan key next =
    in_list plan key
    ∙ ap (λ es. option_or (lookup (is_at (bytes_cmp key)) plan.rising.items) (lookup (is_at (bytes_cmp key)) es)) next.0
    ∙ option_or_none (lookup (is_at (bytes_cmp key)) plan.rising.items)
    ∙ none_above plan.rising.items key next.1

-- it is added behind them
pub next_planned : (plan plan' : Plan) (key : List ℕ) (after : Option (List ℕ)) → IsNext plan key → plan'.tree.entries ≡ plan.tree.entries → plan'.rising.items ≡ plan.rising.items ++ (key, after) ∷ []
    → (q : List ℕ) → planned plan' q ≡ cond (is_same key q) (Some after) (planned plan q)
next_planned plan plan' key after next same put q =
    in_list plan' q
    ∙ (λ i. option_or (lookup (is_at (bytes_cmp q)) (put i)) (lookup (is_at (bytes_cmp q)) ((same ∙ next.0) i)))
    ∙ option_or_none (lookup (is_at (bytes_cmp q)) (plan.rising.items ++ (key, after) ∷ []))
    ∙ lookup-append (is_at (bytes_cmp q)) plan.rising.items ((key, after) ∷ [])
    ∙ ap (λ b. option_or (lookup (is_at (bytes_cmp q)) plan.rising.items) (cond b (Some after) None)) (is_same-comm q key)
    ∙ elim (is_same key q) as (λ b. is_same key q ≡ b → option_or (lookup (is_at (bytes_cmp q)) plan.rising.items) (cond b (Some after) None) ≡ cond b (Some after) (lookup (is_at (bytes_cmp q)) plan.rising.items)) [
      | true ↦ λ e. ap (λ o. option_or o (Some after)) (ap (λ k. lookup (is_at (bytes_cmp k)) plan.rising.items) (sym (one_key bytes_exact key q e)) ∙ none_above plan.rising.items key next.1)
      | false ↦ λ e. option_or_none (lookup (is_at (bytes_cmp q)) plan.rising.items)
    ] refl
    ∙ sym (ap (cond (is_same key q) (Some after)) (in_list plan q ∙ ap (λ es. option_or (lookup (is_at (bytes_cmp q)) plan.rising.items) (lookup (is_at (bytes_cmp q)) es)) next.0 ∙ option_or_none (lookup (is_at (bytes_cmp q)) plan.rising.items)))

pub next_plan : (plan plan' : Plan) (key : List ℕ) (after : Option (List ℕ)) → IsPlan plan → IsNext plan key → plan'.tree.entries ≡ plan.tree.entries → plan'.rising.items ≡ plan.rising.items ++ (key, after) ∷ [] → IsPlan plan'
next_plan plan plan' key after is next same put = record {
  order = subst (λ l. IsStrictlySortedBy bytes_cmp (keys_of l)) (sym put) (sorted_last plan.rising.items key after is.order next.1);
  one = inr (same ∙ next.0);
}

pub some_planned : (plan : Plan) (q : List ℕ) → IsSome (lookup (is_at (bytes_cmp q)) plan.rising.items) → IsSome (planned plan q)
some_planned plan q some = ap is_some (in_list plan q) ∙ from (lookup (is_at (bytes_cmp q)) plan.rising.items) some
  where
    from : (o : Option (Option (List ℕ))) → IsSome o → is_some (option_or o (tree.get bytes_cmp plan.tree q)) ≡ true
    from None h = cc
    from (Some x) h = refl

behind_at : (es : List (List ℕ × Option (List ℕ))) (n : ℕ) (e : List ℕ × Option (List ℕ)) (key : List ℕ) → IsStrictlySortedBy bytes_cmp (keys_of es) → suc n ≡ length es → slice_get es n ≡ Some e → bytes_cmp e.0 key ≡ Less
    → AllByRecursion (λ k. bytes_cmp k key ≡ Less) (keys_of es)
unfolding IsStrictlySortedBy
behind_at [] n e key s long is less = tt
behind_at (x ∷ []) zero e key s long is less = (ap (λ k. bytes_cmp k key) (first_is x e is) ∙ less, tt)
behind_at (x ∷ []) (suc n) e key s long is less = absurd (omega (arith, long))
behind_at (x ∷ y ∷ es) zero e key s long is less = absurd (omega (arith, long))
behind_at (x ∷ y ∷ es) (suc n) e key s long is less =
    let rest = behind_at (y ∷ es) n e key s.1 (omega (arith, long)) is less in
    (bytes_total.trans x.0 y.0 key s.0.0 rest.0, rest)

planned_at : (es : List (List ℕ × Option (List ℕ))) (n : ℕ) (e : List ℕ × Option (List ℕ)) (key : List ℕ) → slice_get es n ≡ Some e → bytes_cmp key e.0 ≡ Equal → IsSome (lookup (is_at (bytes_cmp key)) es)
planned_at [] n e key is same = cc
planned_at (x ∷ es) zero e key is same = ap (λ b. is_some (cond b (Some x.1) (lookup (is_at (bytes_cmp key)) es))) (ap is_eq (ap (bytes_cmp key) (first_is x e is) ∙ same))
planned_at (x ∷ es) (suc n) e key is same = later (is_at (bytes_cmp key) x.0) (lookup (is_at (bytes_cmp key)) es) (planned_at es n e key is same)
  where
    later : (t : Bool) (o : Option (Option (List ℕ))) → IsSome o → IsSome (cond t (Some x.1) o)
    later true o some = refl
    later false o some = some

last_at : (es : List (List ℕ × Option (List ℕ))) (n : ℕ) (e : List ℕ × Option (List ℕ)) → slice_get es n ≡ Some e → n ≡ length es - 1 → suc n ≡ length es
last_at [] n e is long = cc
last_at (x ∷ es) n e is long = omega (arith, long)

-- what comes behind the last comes behind all
pub behind_last : (es : List (List ℕ × Option (List ℕ))) (e : List ℕ × Option (List ℕ)) (key : List ℕ) → IsStrictlySortedBy bytes_cmp (keys_of es) → slice_get es (length es - 1) ≡ Some e → bytes_cmp key e.0 ≡ Greater
    → AllByRecursion (λ k. bytes_cmp k key ≡ Less) (keys_of es)
behind_last es e key s is greater = behind_at es (length es - 1) e key s (last_at es (length es - 1) e is refl) is (bytes_total.antisymm e.0 key ∙ ap ordering_reverse greater)

-- the last is among all
pub last_planned : (plan : Plan) (e : List ℕ × Option (List ℕ)) (key : List ℕ) → slice_get plan.rising.items (length plan.rising.items - 1) ≡ Some e → bytes_cmp key e.0 ≡ Equal → IsSome (planned plan key)
last_planned plan e key is same = some_planned plan key (planned_at plan.rising.items (length plan.rising.items - 1) e key is same)

-- ---- a clear

pub planned_clear : (held : List ℕ → Option (List ℕ)) (plan plan' : Plan) (rs rs' : List (List ℕ × List ℕ)) (begin end : List ℕ)
    → ((q : List ℕ) → planned plan' q ≡ cond (is_between begin end q) None (planned plan q))
    → ((q : List ℕ) → covers rs' q ≡ (covers rs q || is_between begin end q))
    → (q : List ℕ) → value_planned plan' (held_outside rs' held) q ≡ cond (is_between begin end q) None (value_planned plan (held_outside rs held) q)
planned_clear held plan plan' rs rs' begin end drops joins q =
    (λ i. unwrap_or (drops q i) (cond (joins q i) None (held q)))
    ∙ elim (is_between begin end q) as (λ b. unwrap_or (cond b None (planned plan q)) (cond (covers rs q || b) None (held q)) ≡ cond b None (value_planned plan (held_outside rs held) q)) [
      | true ↦ ap (λ b. cond b None (held q)) (or_true (covers rs q))
      | false ↦ ap (λ b. unwrap_or (planned plan q) (cond b None (held q))) (or_false (covers rs q))
    ]

-- ---- keys of cleared ranges

option_or_twice : (o : Option (Option (List ℕ))) (b : Bool) → option_or (option_or o (Some None)) (cond b (Some None) None) ≡ option_or o (Some None)
option_or_twice None b = refl
option_or_twice (Some x) b = refl

-- the first key planned, and those of the rest, are those of all
pub cleared_step : (plan plan' : Plan) (es rest : List (List ℕ × List ℕ)) (e : List ℕ × List ℕ) → es ≡ e ∷ rest
    → ((q : List ℕ) → planned plan' q ≡ option_or (planned plan q) (cond (is_same e.0 q) (Some None) None))
    → (q : List ℕ) → option_or (planned plan' q) (cond (list_any (is_key_of q) rest) (Some None) None) ≡ option_or (planned plan q) (cond (list_any (is_key_of q) es) (Some None) None)
cleared_step plan plan' es rest e is put q =
    ap (λ o. option_or o (cond (list_any (is_key_of q) rest) (Some None) None)) (put q)
    ∙ elim (is_same e.0 q) as (λ b. option_or (option_or (planned plan q) (cond b (Some None) None)) (cond (list_any (is_key_of q) rest) (Some None) None)
    ≡ option_or (planned plan q) (cond (b || list_any (is_key_of q) rest) (Some None) None)) [
      | true ↦ option_or_twice (planned plan q) (list_any (is_key_of q) rest)
      | false ↦ ap (λ o. option_or o (cond (list_any (is_key_of q) rest) (Some None) None)) (option_or_none (planned plan q))
    ]
    ∙ ap (λ xs. option_or (planned plan q) (cond (list_any (is_key_of q) xs) (Some None) None)) (sym is)

-- once the keys of a range are planned it need not be looked at
pub range_planned : (o : Option (Option (List ℕ))) (held : Option (List ℕ)) (b r : Bool) → unwrap_or (option_or o (cond (b && is_some held) (Some None) None)) (cond r None held) ≡ unwrap_or o (cond (b || r) None held)
range_planned (Some x) held b r = refl
range_planned None held false r = refl
range_planned None None true true = refl
range_planned None None true false = refl
range_planned None (Some x) true r = refl

-- ---- changes of a plan

pub known_by : (held : Option (List ℕ)) (o : Option (Option (List ℕ))) → IfSome (change_by held o) (λ c. c.before ≡ held)
known_by held None = tt
known_by held (Some after) = refl

pub written_by : (held : Option (List ℕ)) (o : Option (Option (List ℕ))) → written (change_by held o) held ≡ unwrap_or o held
written_by held None = refl
written_by held (Some after) = refl

pub after_by : (held : Option (List ℕ)) (o : Option (Option (List ℕ))) → after_of (change_by held o) ≡ o
after_by held None = refl
after_by held (Some after) = refl

-- one more change made
pub changed_step : (held : List ℕ → Option (List ℕ)) (es rest : List (List ℕ × Option (List ℕ))) (e : List ℕ × Option (List ℕ)) (changes changes' : Changes) → es ≡ e ∷ rest → IsStrictlySortedBy bytes_cmp (keys_of es)
    → ((q : List ℕ) → tree.get bytes_cmp changes' q ≡ cond (is_same e.0 q) (change_by (held e.0) (Some e.1)) (tree.get bytes_cmp changes q))
    → (q : List ℕ) → option_or (change_by (held q) (lookup (is_at (bytes_cmp q)) rest)) (tree.get bytes_cmp changes' q) ≡ option_or (change_by (held q) (lookup (is_at (bytes_cmp q)) es)) (tree.get bytes_cmp changes q)
changed_step held es rest e changes changes' is sorted put q =
    (λ i. option_or (change_by (held q) (found_rest es rest e is sorted q i)) (put q i))
    ∙ elim (is_same e.0 q) as (λ b. is_same e.0 q ≡ b
    → option_or (change_by (held q) (cond b None (lookup (is_at (bytes_cmp q)) es))) (cond b (change_by (held e.0) (Some e.1)) (tree.get bytes_cmp changes q))
    ≡ option_or (change_by (held q) (lookup (is_at (bytes_cmp q)) es)) (tree.get bytes_cmp changes q)) [
      | true ↦ λ t.
          let one = one_key bytes_exact e.0 q t in
          ap (λ k. change_by (held k) (Some e.1)) one
          ∙ sym (ap (λ o. option_or (change_by (held q) o) (tree.get bytes_cmp changes q)) (ap (λ k. lookup (is_at (bytes_cmp k)) es) (sym one) ∙ found_first es rest e is))
      | false ↦ λ t. refl
    ] refl

-- what holds of each value that is made holds of what a call answers
pub if_ok : {T E : Type 0} (r : Result T E) (P Q : T → Type 0) → ((x : T) → P x → Q x) → IfOk r P → IfOk r Q
if_ok (Ok x) P Q f h = f x h
if_ok (Err e) P Q f h = tt

pub on_ok : {T E : Type 0} (r : Result T E) (P Q : Type 0) → (P → Q) → OnOk r P → OnOk r Q
on_ok (Ok x) P Q f h = f h
on_ok (Err e) P Q f h = tt
