-- Why each log gets the clips of the tags that it holds, and what they make.
use Rattle.std.proofs.Common.{◌≡◌, ℕ, zero, suc, ◌+◌, ◌<◌, ◌≤◌, Bool, true, false, cond, ◌||◌, ◌&&◌, nat_eq, nat_le, List, [], ◌∷◌, map, length, Option, None, Some, refl, sym, ◌∙◌, ap, subst, arith}
use Rattle.std.specs.List.{filter, fold, list_all, range_with_len}
use Rattle.std.specs.FinMap.{empty, same_map, get-empty, get-retain_keys}
use Rattle.std.proofs.lemmas.Bool.{ltb-true, leb-true, le-leb, lt-ltb, eqb-true, and_right, and_parts}
use Rattle.std.proofs.lemmas.List.Elements.{All-filter, All-weaker, All-map, filter_passes}
use Rattle.std.proofs.lemmas.List.FromFn.{length-map-range_with_len, get_or-map-range_with_len}
use Rattle.fr_base.specs.Bytes.{bytes_cmp, bytes_total, bytes_exact}
use Rattle.fr_mutation.specs.declared.mutation.Mutation.{Mutation}
use Rattle.fr_mutation.specs.declared.shard.Shard.{Shard}
use Rattle.fr_base.specs.Map.{Map}
use Rattle.fr_mutation.specs.Law.{ClipLaw, ValueAfterLaw}
use Rattle.fr_mutation.specs.Mutation.{after}
use Rattle.fr_mutation.specs.Clip.{clipped}
use Rattle.fr_mutation.specs.Shard.{in_shard, part}
use Rattle.fr_tags.specs.declared.body.Body.{Body}
use Rattle.fr_tags.specs.Bodies.{batch_of, is_rising_from, is_filled, filled}
use Rattle.fr_tags.specs.Placement.{is_among, is_held}
use Rattle.fr_tags.specs.Shards.{shard_at}
use Rattle.fr_tags.specs.Split.{body_of, is_filled_body, bodies, bodies_for}
use Rattle.fr_tags.specs.SplitLaw.{bodies_at, AreBodiesFor, EachLogHasItsBodies, EachLogIsServed, HeldTagsHaveTheirClips, ClipsMakeThePart, ClipsMakeThePartFromNothing, EmptyBatchesMakeNothing, FilledClipsMakeThePart}
use Rattle.fr_tags.proofs.LogCounting.{among-from_Contains}
use Rattle.fr_tags.proofs.ShardLawProof.{below_range, Contains-range}

pub each_log_is_served : EachLogIsServed
each_log_is_served begins batch m k = length-map-range_with_len (bodies_for (bodies begins batch) m k) 0 m

-- what a log gets
bodies_at-is : (begins : List (List ℕ)) (batch : List Mutation) (m k log : ℕ) → log < m → bodies_at begins batch m k log ≡ bodies_for (bodies begins batch) m k log
bodies_at-is begins batch m k log within = get_or-map-range_with_len (bodies_for (bodies begins batch) m k) 0 m log log [] within (omega arith)

-- ---- bodies rise

lower : (a b : ℕ) (bs : List Body) → a ≤ b → is_rising_from b bs ≡ true → is_rising_from a bs ≡ true
lower a b [] le rises = refl
lower a b (body ∷ bs) le rises =
    let parts = and_parts (nat_le b body.tag) (is_rising_from (body.tag + 1) bs) rises in
    let high = leb-true b body.tag parts.0 in
    rw (le-leb a body.tag (omega (arith, le, high))) parts.1

module _ (begins : List (List ℕ)) (batch : List Mutation) (p : Body → Bool) where
  abbrev kept : ℕ → ℕ → List Body
  kept from len = filter p (filter is_filled_body (map (body_of begins batch) (range_with_len from len)))

  one_more : (from len : ℕ) (b c : Bool) → is_filled (clipped batch (shard_at begins from)) ≡ b → p (body_of begins batch from) ≡ c
      → is_rising_from (from + 1) (kept (from + 1) len) ≡ true → is_rising_from from (kept from (suc len)) ≡ true
  one_more from len true true e d rest = rw (e, d, le-leb from from (omega arith)) rest
  one_more from len true false e d rest = rw (e, d) (lower from (from + 1) (kept (from + 1) len) (omega arith) rest)
  one_more from len false c e d rest = rw e (lower from (from + 1) (kept (from + 1) len) (omega arith) rest)

  bodies_rise : (from len : ℕ) → is_rising_from from (kept from len) ≡ true
  bodies_rise from zero = refl
  bodies_rise from (suc len) = one_more from len (is_filled (clipped batch (shard_at begins from))) (p (body_of begins batch from)) refl refl (bodies_rise (from + 1) len)

list_all-filter : {A : Type 0} (p : A → Bool) (xs : List A) → list_all p (filter p xs) ≡ true
list_all-filter p [] = refl
list_all-filter p (x ∷ xs) = go (p x) refl (list_all-filter p xs)
  where
    go : (b : Bool) → p x ≡ b → list_all p (filter p xs) ≡ true → list_all p (filter p (x ∷ xs)) ≡ true
    go true e rest = rw (e, e) rest
    go false e rest = rw e rest

pub each_log_has_its_bodies : EachLogHasItsBodies
each_log_has_its_bodies begins batch m k log within =
    subst (AreBodiesFor (length begins) m k log) (sym (bodies_at-is begins batch m k log within)) record {
      known = All-filter p (λ body. body.tag < length begins) (bodies begins batch) (All-filter is_filled_body (λ body. body.tag < length begins) all (All-map (λ body. body.tag < length begins) (body_of begins batch) tags (below_range (length begins))));
      held = list_all-filter p (bodies begins batch);
      filled = All-filter p (λ body. 0 < length body.batch) (bodies begins batch) (All-weaker (λ body. is_filled_body body ≡ true) (λ body. 0 < length body.batch) (λ body h. ltb-true 0 (length body.batch) h) (bodies begins batch) (filter_passes is_filled_body all));
      rising = bodies_rise begins batch p 0 (length begins);
    }
  where
    p : Body → Bool
    p body = is_held body.tag m k log

    tags : List ℕ
    tags = range_with_len 0 (length begins)

    all : List Body
    all = map (body_of begins batch) tags

-- ---- the batch of a tag among bodies

-- the bodies of held tags, which are not empty
abbrev served : (ℕ → Bool) → (ℕ → List Mutation) → List ℕ → List Body
served held clip ts = filter (λ (body : Body). held body.tag) (filter is_filled_body (map (λ t. record { tag = t; batch = clip t }) ts))

-- one tag more, u: whether it is the one that is sought, whether its body is filled, and whether it is held
served_more : (held : ℕ → Bool) (clip : ℕ → List Mutation) (u t : ℕ) (rest : List Body) (among here full held_here : Bool)
    → nat_eq u t ≡ here → is_filled (clip u) ≡ full → held u ≡ held_here
    → batch_of t rest ≡ cond (among && held t) (filled (clip t)) None
    → batch_of t (cond full (cond held_here (record { tag = u; batch = clip u } ∷ rest) rest) rest) ≡ cond ((here || among) && held t) (filled (clip t)) None
served_more held clip u t rest among true full held_here same is holds e = sought (eqb-true u t same) full held_here is holds
  where
    both : (b : Bool) (o : Option (List Mutation)) → o ≡ None → cond b o None ≡ None
    both true o h = h
    both false o h = refl

    none : (b : Bool) (o : Option (List Mutation)) → b ≡ false → cond b o None ≡ None
    none b o h = rw h refl

    sought : u ≡ t → (full held_here : Bool) → is_filled (clip u) ≡ full → held u ≡ held_here
        → batch_of t (cond full (cond held_here (record { tag = u; batch = clip u } ∷ rest) rest) rest) ≡ cond (held t) (filled (clip t)) None
    sought at true true f h =
        let some : filled (clip u) ≡ Some (clip u) = ap (λ b. cond b (Some (clip u)) None) f in
        rw same (sym (ap (λ b. cond b (filled (clip t)) None) (sym (ap held at) ∙ h) ∙ ap (λ v. filled (clip v)) (sym at) ∙ some))
    sought at true false f h = e ∙ none (among && held t) (filled (clip t)) (and_right among (held t) (sym (ap held at) ∙ h)) ∙ sym (none (held t) (filled (clip t)) (sym (ap held at) ∙ h))
    sought at false h' f h =
        let nothing : filled (clip t) ≡ None = ap (λ v. filled (clip v)) (sym at) ∙ ap (λ b. cond b (Some (clip u)) None) f in
        e ∙ both (among && held t) (filled (clip t)) nothing ∙ sym (both (held t) (filled (clip t)) nothing)
served_more held clip u t rest among false true true other is holds e = rw other e
served_more held clip u t rest among false true false other is holds e = e
served_more held clip u t rest among false false held_here other is holds e = e

batch_of-served : (held : ℕ → Bool) (clip : ℕ → List Mutation) (ts : List ℕ) (t : ℕ) → batch_of t (served held clip ts) ≡ cond (is_among ts t && held t) (filled (clip t)) None
batch_of-served held clip [] t = refl
batch_of-served held clip (u ∷ us) t =
    kept_first (is_filled (clip u))
    ∙ served_more held clip u t (served held clip us) (is_among us t) (nat_eq u t) (is_filled (clip u)) (held u) refl refl refl (batch_of-served held clip us t)
  where
    later : List Body
    later = filter is_filled_body (map (λ v. record { tag = v; batch = clip v }) us)

    kept_first : (full : Bool) → batch_of t (filter (λ (body : Body). held body.tag) (cond full (record { tag = u; batch = clip u } ∷ later) later))
        ≡ batch_of t (cond full (cond (held u) (record { tag = u; batch = clip u } ∷ served held clip us) (served held clip us)) (served held clip us))
    kept_first true = refl
    kept_first false = refl

pub held_tags_have_their_clips : HeldTagsHaveTheirClips
held_tags_have_their_clips begins batch m k log t within known =
    ap (batch_of t) (bodies_at-is begins batch m k log within)
    ∙ batch_of-served (λ u. is_held u m k log) (λ u. clipped batch (shard_at begins u)) (range_with_len 0 (length begins)) t
    ∙ ap (λ b. cond (b && is_held t m k log) (filled (clipped batch (shard_at begins t))) None) (among-from_Contains (range_with_len 0 (length begins)) t (Contains-range (length begins) t known))

-- ---- what the clips of batches make

pub clips_make_the_part : ClipLaw → ClipsMakeThePart
clips_make_the_part law m [] s = refl
clips_make_the_part law m (batch ∷ batches) s =
    ap (λ n. fold after n (map (λ b. clipped b s) batches)) (law m batch s) ∙ clips_make_the_part law (after m batch) batches s

part-empty : (s : Shard) → part empty s ≡ empty
part-empty s = same_map bytes_total bytes_exact _ _ (λ q.
    get-retain_keys empty (in_shard s) q (λ x e. ap (in_shard s) (sym (bytes_exact q x e)))
    ∙ ap (λ v. cond (in_shard s q) v None) (get-empty bytes_cmp q) ∙ none (in_shard s q) ∙ sym (get-empty bytes_cmp q))
  where
    none : (b : Bool) → cond {A = Option (List ℕ)} b None None ≡ None
    none true = refl
    none false = refl

pub clips_make_the_part_from_nothing : ClipLaw → ClipsMakeThePartFromNothing
clips_make_the_part_from_nothing law batches s = ap (λ m. fold after m (map (λ b. clipped b s) batches)) (sym (part-empty s)) ∙ clips_make_the_part law empty batches s

after_none : ValueAfterLaw → (m : Map) → after m [] ≡ m
after_none law m = same_map bytes_total bytes_exact (after m []) m (λ q. law m [] q)

pub empty_batches_make_nothing : ValueAfterLaw → EmptyBatchesMakeNothing
empty_batches_make_nothing law m [] = refl
empty_batches_make_nothing law m ([] ∷ batches) = empty_batches_make_nothing law m batches ∙ ap (λ n. fold after n batches) (sym (after_none law m))
empty_batches_make_nothing law m ((mutation ∷ batch) ∷ batches) =
    rw (lt-ltb 0 (length (mutation ∷ batch)) (omega arith)) (empty_batches_make_nothing law (after m (mutation ∷ batch)) batches)

pub filled_clips_make_the_part : ClipLaw → ValueAfterLaw → FilledClipsMakeThePart
filled_clips_make_the_part clip value m batches s =
    empty_batches_make_nothing value (part m s) (map (λ batch. clipped batch s) batches) ∙ clips_make_the_part clip m batches s
