-- The pushes that headers and shelves make.
use Rattle.std.proofs.Common.{◌≡◌, ℕ, zero, suc, ◌+◌, ◌<◌, ◌≤◌, Bool, true, false, ◌&&◌, ◌||◌, List, [], ◌∷◌, ◌++◌, length, take, get_or, map, cond, nat_lt, eqb, Option, None, Some, refl, sym, ◌∙◌, ap, subst, arith}
use Rattle.std.specs.Prelude.{filter, IsTrue}
use Rattle.std.specs.List.{AllByRecursion, list_any}
use Rattle.std.specs.Cmp.Lexicographic.{pointwise}
use Rattle.std.proofs.lemmas.Bool.{lt-ltb, le-ltb, eqb-true, and_parts}
use Rattle.std.proofs.lemmas.List.Elements.{filter_map-append}
use Rattle.fr_mutation.specs.declared.mutation.Mutation.{Mutation}
use Rattle.fr_tags.specs.Bodies.{batch_of, is_rising_from, is_same_body}
use Rattle.fr_log.specs.declared.pushes.header.PushHeader.{PushHeader}
use Rattle.fr_log.specs.Fields.{two}
use Rattle.fr_tags.specs.declared.body.Body.{Body}
use Rattle.fr_log.specs.declared.popped.PoppedTag.{PoppedTag}
use Rattle.fr_log.specs.Left.{popped_at, left_bodies, left_push}
use Rattle.fr_log.specs.SweptLaws.{body_left}
use Rattle.fr_log.specs.Push.{PushContent, is_one_push, is_same_mark}
use Rattle.fr_log.specs.LogState.{mark_among}
use Rattle.fr_log.specs.Search.{is_found, pushed_records}
use Rattle.fr_log.specs.Pushes.{Shelved, batch_at, as_record, at_version, AreBelow, cut, above, with_body, shelf_of, bodies_from, push_at, pushes_in, pushed_batch, pushed_batches, RiseFrom, ArePushedBelow, IsIndexed, header_of, is_headed}
use Rattle.fr_log.specs.Headers.{first_mark}
use Rattle.fr_log.proofs.Shelves.{batch_new, batch_others, batch_cut, canonical, same_bodies}

-- ---- the list of the pushes

pub held_none : (ss : List (List Shelved)) → pushes_in ss [] ≡ []
unfolding pushes_in
held_none ss = refl

pub none_indexed : IsIndexed [] []
unfolding pushes_in
none_indexed = record { rises = tt; agrees = λ t. no_shelf t }
  where
    no_shelf : (t : ℕ) → shelf_of [] t ≡ []
    no_shelf zero = refl
    no_shelf (suc t) = refl

pub held_length : (ss : List (List Shelved)) (hs : List PushHeader) → length (pushes_in ss hs) ≡ length hs
unfolding pushes_in
held_length ss [] = refl
held_length ss (h ∷ hs) = ap suc (held_length ss hs)

pub held_mark : (ss : List (List Shelved)) (hs : List PushHeader) → first_mark hs ≡ mark_among (pushes_in ss hs)
unfolding pushes_in
held_mark ss [] = refl
held_mark ss (h ∷ hs) = refl

held_push : (ss : List (List Shelved)) (hs : List PushHeader) (h : PushHeader) → pushes_in ss (hs ++ h ∷ []) ≡ pushes_in ss hs ++ push_at ss h ∷ []
unfolding pushes_in
held_push ss [] h = refl
held_push ss (g ∷ hs) h = ap (λ ps. push_at ss g ∷ ps) (held_push ss hs h)

held_take : (ss : List (List Shelved)) (hs : List PushHeader) (n : ℕ) → pushes_in ss (take n hs) ≡ take n (pushes_in ss hs)
unfolding pushes_in
held_take ss [] zero = refl
held_take ss [] (suc n) = refl
held_take ss (g ∷ hs) zero = refl
held_take ss (g ∷ hs) (suc n) = ap (λ ps. push_at ss g ∷ ps) (held_take ss hs n)

pub held_take_all : (ss : List (List Shelved)) (hs : List PushHeader) (n : ℕ) → length hs ≤ n → pushes_in ss hs ≡ take n (pushes_in ss hs)
unfolding pushes_in
held_take_all ss [] zero le = refl
held_take_all ss [] (suc n) le = refl
held_take_all ss (g ∷ hs) zero le = absurd (omega (arith, le))
held_take_all ss (g ∷ hs) (suc n) le = ap (λ ps. push_at ss g ∷ ps) (held_take_all ss hs n (omega (arith, le)))

-- shelves that have the same at the version of each header make the same pushes
same_below : (w : ℕ) (ss ts : List (List Shelved)) (hs : List PushHeader) → AllByRecursion (λ h. h.version < w) hs
    → ((v t : ℕ) → v < w → batch_at v (shelf_of ss t) ≡ batch_at v (shelf_of ts t)) → pushes_in ss hs ≡ pushes_in ts hs
unfolding pushes_in
same_below w ss ts [] below same = refl
same_below w ss ts (h ∷ hs) (here, rest) same =
    two (λ bs ps. record { epoch = h.epoch; prev = h.prev; version = h.version; known = h.known; bodies = bs; mark = h.mark } ∷ ps)
    (same_bodies h.version 0 ss ts (λ t. same h.version t here)) (same_below w ss ts hs rest same)

pub same_pushes : (ss ts : List (List Shelved)) (hs : List PushHeader) → ((t : ℕ) → shelf_of ss t ≡ shelf_of ts t) → pushes_in ss hs ≡ pushes_in ts hs
unfolding pushes_in
same_pushes ss ts [] same = refl
same_pushes ss ts (h ∷ hs) same =
    two (λ bs ps. record { epoch = h.epoch; prev = h.prev; version = h.version; known = h.known; bodies = bs; mark = h.mark } ∷ ps)
    (same_bodies h.version 0 ss ts (λ t. ap (batch_at h.version) (same t))) (same_pushes ss ts hs same)

pub same_indexed : (ss ts : List (List Shelved)) (hs : List PushHeader) → ((t : ℕ) → shelf_of ts t ≡ shelf_of ss t) → IsIndexed ss hs → IsIndexed ts hs
same_indexed ss ts hs same is = record {
  rises = is.rises;
  agrees = λ t. same t ∙ is.agrees t ∙ ap (pushed_batches t) (same_pushes ss ts hs (λ k. sym (same k)));
}

-- ---- versions

headers_below : (w : ℕ) (ss : List (List Shelved)) (hs : List PushHeader) → ArePushedBelow w (pushes_in ss hs) → AllByRecursion (λ h. h.version < w) hs
unfolding pushes_in
headers_below w ss [] h = tt
headers_below w ss (g ∷ hs) h = (h.0, headers_below w ss hs h.1)

batches_below : (w tag : ℕ) (ps : List PushContent) → ArePushedBelow w ps → AreBelow w (pushed_batches tag ps)
batches_below w tag [] h = tt
batches_below w tag (p ∷ ps) (here, rest) = go (batch_of tag p.bodies) refl (batches_below w tag ps rest)
  where
    go : (o : Option (List Mutation)) → batch_of tag p.bodies ≡ o → AreBelow w (pushed_batches tag ps) → AreBelow w (pushed_batches tag (p ∷ ps))
    go None e more = rw e more
    go (Some b) e more = rw e (here, more)

-- the shelves have nothing at a version above all, or above that
pub shelves_below : (w : ℕ) (ss : List (List Shelved)) (hs : List PushHeader) → IsIndexed ss hs → ArePushedBelow w (pushes_in ss hs) → (t : ℕ) → AreBelow w (shelf_of ss t)
shelves_below w ss hs is below t = subst (AreBelow w) (sym (is.agrees t)) (batches_below w t (pushes_in ss hs) below)

rise_at : (least : ℕ) (hs : List PushHeader) → RiseFrom least hs → (k : ℕ) (d : PushHeader) → k < length hs → least ≤ (get_or hs k d).version
rise_at least [] r k d within = absurd (omega (arith, within))
rise_at least (h ∷ hs) (low, rest) zero d within = low
rise_at least (h ∷ hs) (low, rest) (suc k) d within = let up = rise_at (h.version + 1) hs rest k d (omega (arith, within)) in omega (arith, up, low)

rise_more : (least : ℕ) (hs : List PushHeader) (h : PushHeader) → RiseFrom least hs → AllByRecursion (λ g. g.version < h.version) hs → least ≤ h.version → RiseFrom least (hs ++ h ∷ [])
rise_more least [] h r below le = (le, tt)
rise_more least (g ∷ hs) h (low, rest) (here, others) le = (low, rise_more (g.version + 1) hs h rest others (omega (arith, here)))

-- the headers rise with that of one push more
pub rise_held : (ss : List (List Shelved)) (hs : List PushHeader) (p : PushContent) → IsIndexed ss hs → ArePushedBelow p.version (pushes_in ss hs) → RiseFrom 0 (hs ++ header_of p ∷ [])
rise_held ss hs p is below = rise_more 0 hs (header_of p) is.rises (headers_below p.version ss hs below) (omega arith)

-- ---- one push more

batches_more : (tag : ℕ) (ps : List PushContent) (p : PushContent) → pushed_batches tag (ps ++ p ∷ []) ≡ pushed_batches tag ps ++ at_version p.version (batch_of tag p.bodies)
batches_more tag ps p = filter_map-append (pushed_batch tag) ps (p ∷ []) ∙ ap (λ es. pushed_batches tag ps ++ es) (one (batch_of tag p.bodies) refl)
  where
    one : (o : Option (List Mutation)) → batch_of tag p.bodies ≡ o → pushed_batches tag (p ∷ []) ≡ at_version p.version (batch_of tag p.bodies)
    one None e = rw e refl
    one (Some b) e = rw e refl

pub more_held : (ss ts : List (List Shelved)) (hs : List PushHeader) (p : PushContent) → IsIndexed ss hs → IsTrue (is_rising_from 0 p.bodies) → ArePushedBelow p.version (pushes_in ss hs)
    → ((t : ℕ) → shelf_of ts t ≡ shelf_of ss t ++ at_version p.version (batch_of t p.bodies)) → pushes_in ts (hs ++ header_of p ∷ []) ≡ pushes_in ss hs ++ p ∷ []
more_held ss ts hs p is rising below put =
    held_push ts hs (header_of p)
    ∙ two (λ (qs : List PushContent) (bs : List Rattle.fr_tags.specs.declared.body.Body.Body). qs ++ record { epoch = p.epoch; prev = p.prev; version = p.version; known = p.known; bodies = bs; mark = p.mark } ∷ [])
    (same_below p.version ts ss hs (headers_below p.version ss hs below) (λ v t less. ap (batch_at v) (put t) ∙ batch_others v p.version (batch_of t p.bodies) (shelf_of ss t) less))
    (canonical p.version 0 ts p.bodies rising (λ t.
    ap (batch_at p.version) (put t) ∙ batch_new p.version (batch_of t p.bodies) (shelf_of ss t) (shelves_below p.version ss hs is below t)
    ∙ ap (λ n. batch_of n p.bodies) (omega arith)))

pub more_indexed : (ss ts : List (List Shelved)) (hs : List PushHeader) (p : PushContent) → IsIndexed ss hs → IsTrue (is_rising_from 0 p.bodies) → ArePushedBelow p.version (pushes_in ss hs)
    → ((t : ℕ) → shelf_of ts t ≡ shelf_of ss t ++ at_version p.version (batch_of t p.bodies)) → IsIndexed ts (hs ++ header_of p ∷ [])
more_indexed ss ts hs p is rising below put = record {
  rises = rise_held ss hs p is below;
  agrees = λ t. put t ∙ ap (λ es. es ++ at_version p.version (batch_of t p.bodies)) (is.agrees t) ∙ sym (batches_more t (pushes_in ss hs) p)
      ∙ ap (pushed_batches t) (sym (more_held ss ts hs p is rising below put));
}

-- ---- the first pushes alone

taken_below : (least : ℕ) (hs : List PushHeader) (n : ℕ) (d : PushHeader) → RiseFrom least hs → n < length hs → AllByRecursion (λ h. h.version < (get_or hs n d).version) (take n hs)
taken_below least [] n d r within = absurd (omega (arith, within))
taken_below least (g ∷ hs) zero d r within = tt
taken_below least (g ∷ hs) (suc n) d (low, rest) within =
    (let up = rise_at (g.version + 1) hs rest n d (omega (arith, within)) in omega (arith, up), taken_below (g.version + 1) hs n d rest (omega (arith, within)))

pub first_held : (ss ts : List (List Shelved)) (hs : List PushHeader) (n : ℕ) (d : PushHeader) → IsIndexed ss hs → n < length hs
    → ((t : ℕ) → shelf_of ts t ≡ cut (get_or hs n d).version (shelf_of ss t)) → pushes_in ts (take n hs) ≡ take n (pushes_in ss hs)
first_held ss ts hs n d is within cuts =
    same_below (get_or hs n d).version ts ss (take n hs) (taken_below 0 hs n d is.rises within) (λ v t less. ap (batch_at v) (cuts t) ∙ batch_cut v (get_or hs n d).version (shelf_of ss t) less)
    ∙ held_take ss hs n

rise_taken : (least : ℕ) (hs : List PushHeader) (n : ℕ) → RiseFrom least hs → RiseFrom least (take n hs)
rise_taken least [] zero r = tt
rise_taken least [] (suc n) r = tt
rise_taken least (g ∷ hs) zero r = tt
rise_taken least (g ∷ hs) (suc n) (low, rest) = (low, rise_taken (g.version + 1) hs n rest)

cut_gone : (tag w least : ℕ) (ss : List (List Shelved)) (hs : List PushHeader) → RiseFrom least hs → w ≤ least → cut w (pushed_batches tag (pushes_in ss hs)) ≡ []
unfolding pushes_in
cut_gone tag w least ss [] r le = refl
cut_gone tag w least ss (g ∷ hs) (low, rest) le = go (batch_of tag (bodies_from g.version 0 ss)) refl (cut_gone tag w (g.version + 1) ss hs rest (omega (arith, low, le)))
  where
    go : (o : Option (List Mutation)) → batch_of tag (bodies_from g.version 0 ss) ≡ o → cut w (pushed_batches tag (pushes_in ss hs)) ≡ [] → cut w (pushed_batches tag (push_at ss g ∷ pushes_in ss hs)) ≡ []
    go None e more = rw e more
    go (Some b) e more = rw (e, le-ltb g.version w (omega (arith, low, le))) more

cut_batches : (tag least : ℕ) (ss : List (List Shelved)) (hs : List PushHeader) (n : ℕ) (d : PushHeader) → RiseFrom least hs → n < length hs
    → cut (get_or hs n d).version (pushed_batches tag (pushes_in ss hs)) ≡ pushed_batches tag (pushes_in ss (take n hs))
unfolding pushes_in
cut_batches tag least ss [] n d r within = absurd (omega (arith, within))
cut_batches tag least ss (g ∷ hs) zero d (low, rest) within = cut_gone tag g.version g.version ss (g ∷ hs) (omega arith, rest) (omega arith)
cut_batches tag least ss (g ∷ hs) (suc n) d (low, rest) within =
    go (batch_of tag (bodies_from g.version 0 ss)) refl (rise_at (g.version + 1) hs rest n d (omega (arith, within))) (cut_batches tag (g.version + 1) ss hs n d rest (omega (arith, within)))
  where
    go : (o : Option (List Mutation)) → batch_of tag (bodies_from g.version 0 ss) ≡ o → g.version + 1 ≤ (get_or hs n d).version
        → cut (get_or hs n d).version (pushed_batches tag (pushes_in ss hs)) ≡ pushed_batches tag (pushes_in ss (take n hs))
        → cut (get_or hs n d).version (pushed_batches tag (push_at ss g ∷ pushes_in ss hs)) ≡ pushed_batches tag (push_at ss g ∷ pushes_in ss (take n hs))
    go None e up more = rw e more
    go (Some b) e up more = rw (e, lt-ltb g.version (get_or hs n d).version (omega (arith, up))) (ap (λ es. (g.version, b) ∷ es) more)

pub first_indexed : (ss ts : List (List Shelved)) (hs : List PushHeader) (n : ℕ) (d : PushHeader) → IsIndexed ss hs → n < length hs
    → ((t : ℕ) → shelf_of ts t ≡ cut (get_or hs n d).version (shelf_of ss t)) → IsIndexed ts (take n hs)
first_indexed ss ts hs n d is within cuts = record {
  rises = rise_taken 0 hs n is.rises;
  agrees = λ t. cuts t ∙ ap (cut (get_or hs n d).version) (is.agrees t) ∙ cut_batches t 0 ss hs n d is.rises within ∙ ap (pushed_batches t) (held_take ss hs n ∙ sym (first_held ss ts hs n d is within cuts));
}

-- ---- a push is sought

and_last : (a b c d m : Bool) → ((a && (b && (c && m))) && d) ≡ (a && (b && (c && (d && m))))
and_last true true true true true = refl
and_last true true true true false = refl
and_last true true true false true = refl
and_last true true true false false = refl
and_last true true false d m = refl
and_last true false c d m = refl
and_last false b c d m = refl

-- whether the bodies of both are the same at the version of the header
abbrev are_same_left : List PoppedTag → PushContent → List (List Shelved) → PushHeader → Bool
are_same_left ps p ss h = pointwise is_same_body (left_bodies ps h.version p.bodies) (left_bodies ps h.version (bodies_from h.version 0 ss))

-- what is popped is told by the version, which is that of the header where the two are one
one_is : (ps : List PoppedTag) (p : PushContent) (ss : List (List Shelved)) (h : PushHeader) → (is_headed p h && are_same_left ps p ss h) ≡ is_one_push (left_push ps p) (left_push ps (push_at ss h))
one_is ps p ss h =
    and_last (eqb p.epoch h.epoch) (eqb p.prev h.prev) (eqb p.version h.version) (are_same_left ps p ss h) (is_same_mark p.mark h.mark)
    ∙ at_version_of (eqb p.version h.version) refl
  where
    rest : ℕ → Bool
    rest v = pointwise is_same_body (left_bodies ps v p.bodies) (left_bodies ps h.version (bodies_from h.version 0 ss)) && is_same_mark p.mark h.mark

    at_version_of : (b : Bool) → eqb p.version h.version ≡ b
        → (eqb p.epoch h.epoch && (eqb p.prev h.prev && (eqb p.version h.version && rest h.version))) ≡ (eqb p.epoch h.epoch && (eqb p.prev h.prev && (eqb p.version h.version && rest p.version)))
    at_version_of true e = ap (λ v. eqb p.epoch h.epoch && (eqb p.prev h.prev && (eqb p.version h.version && rest v))) (sym (eqb-true p.version h.version e))
    at_version_of false e = rw e refl

headed_version : (p : PushContent) (h : PushHeader) → is_headed p h ≡ true → p.version ≡ h.version
headed_version p h e =
    let a = and_parts (eqb p.epoch h.epoch) (eqb p.prev h.prev && (eqb p.version h.version && is_same_mark p.mark h.mark)) e in
    let b = and_parts (eqb p.prev h.prev) (eqb p.version h.version && is_same_mark p.mark h.mark) a.1 in
    let c = and_parts (eqb p.version h.version) (is_same_mark p.mark h.mark) b.1 in
    eqb-true p.version h.version c.0

-- a push is found where it has its header, and the same bodies as stand at its own version
pub found_is : (ps : List PoppedTag) (p : PushContent) (ss : List (List Shelved)) (hs : List PushHeader)
    → (list_any (is_headed p) hs && pointwise is_same_body (left_bodies ps p.version p.bodies) (left_bodies ps p.version (bodies_from p.version 0 ss))) ≡ is_found ps p (pushes_in ss hs)
unfolding pushes_in
found_is ps p ss [] = refl
found_is ps p ss (h ∷ hs) =
    or_and (is_headed p h) (list_any (is_headed p) hs) same ∙ two (λ a b. a || b) (at_its_version (is_headed p h) refl ∙ one_is ps p ss h) (found_is ps p ss hs)
  where
    same : Bool
    same = pointwise is_same_body (left_bodies ps p.version p.bodies) (left_bodies ps p.version (bodies_from p.version 0 ss))

    or_and : (a b c : Bool) → ((a || b) && c) ≡ ((a && c) || (b && c))
    or_and true true true = refl
    or_and true true false = refl
    or_and true false true = refl
    or_and true false false = refl
    or_and false b c = refl

    at_its_version : (b : Bool) → is_headed p h ≡ b → (is_headed p h && same) ≡ (is_headed p h && are_same_left ps p ss h)
    at_its_version true e = ap (λ v. is_headed p h && pointwise is_same_body (left_bodies ps v p.bodies) (left_bodies ps v (bodies_from v 0 ss))) (headed_version p h e)
    at_its_version false e = rw e refl

-- ---- the records of a tag

-- what stands above a version on a tag's shelf is what the pushes above it have of the tag
above_pushed : (tag after : ℕ) (ps : List PushContent) → map as_record (filter (λ e. nat_lt after e.0) (pushed_batches tag ps)) ≡ pushed_records tag (filter (λ p. nat_lt after p.version) ps)
above_pushed tag after [] = refl
above_pushed tag after (p ∷ ps) = go (batch_of tag p.bodies) (nat_lt after p.version) refl refl (above_pushed tag after ps)
  where
    go : (o : Option (List Mutation)) (t : Bool) → batch_of tag p.bodies ≡ o → nat_lt after p.version ≡ t
        → map as_record (filter (λ e. nat_lt after e.0) (pushed_batches tag ps)) ≡ pushed_records tag (filter (λ q. nat_lt after q.version) ps)
        → map as_record (filter (λ e. nat_lt after e.0) (pushed_batches tag (p ∷ ps))) ≡ pushed_records tag (filter (λ q. nat_lt after q.version) (p ∷ ps))
    go (Some b) true e d more = rw (e, d) (rw e (ap (λ xs. record { version = p.version; batch = b } ∷ xs) more))
    go (Some b) false e d more = rw (e, d) more
    go None true e d more = rw (e, d) (rw e more)
    go None false e d more = rw (e, d) more

pub records_above : (tag after : ℕ) (ss : List (List Shelved)) (hs : List PushHeader) → IsIndexed ss hs
    → map as_record (filter (λ e. nat_lt after e.0) (shelf_of ss tag)) ≡ pushed_records tag (filter (λ p. nat_lt after p.version) (pushes_in ss hs))
records_above tag after ss hs is = ap (λ es. map as_record (filter (λ e. nat_lt after e.0) es)) (is.agrees tag) ∙ above_pushed tag after (pushes_in ss hs)

-- ---- what is popped taken out of the shelves

batch_above : (v w : ℕ) (es : List Shelved) → batch_at v (above w es) ≡ cond (nat_lt w v) (batch_at v es) None
batch_above v w [] = go (nat_lt w v)
  where
    go : (b : Bool) → ◌≡◌ {A = Option (List Mutation)} None (cond b None None)
    go true = refl
    go false = refl
batch_above v w (e ∷ es) = go (batch_above v w es) (nat_lt w e.0) refl (eqb e.0 v) refl
  where
    go : batch_at v (above w es) ≡ cond (nat_lt w v) (batch_at v es) None → (a : Bool) → nat_lt w e.0 ≡ a → (b : Bool) → eqb e.0 v ≡ b
        → batch_at v (above w (e ∷ es)) ≡ cond (nat_lt w v) (batch_at v (e ∷ es)) None
    go rest true k false q = rw (k, q) rest
    go rest false k false q = rw (k, q) rest
    go rest true k true q =
        let n : nat_lt w v ≡ true = ap (nat_lt w) (sym (eqb-true e.0 v q)) ∙ k in
        rw (k, q, n) refl
    go rest false k true q =
        let n : nat_lt w v ≡ false = ap (nat_lt w) (sym (eqb-true e.0 v q)) ∙ k in
        rw k (rest ∙ rw n refl)

one_swept : (ps : List PoppedTag) (v tag : ℕ) (s z : List Shelved) (rest : List Body) → z ≡ above (popped_at ps tag) s
    → with_body tag (batch_at v z) (left_bodies ps v rest) ≡ left_bodies ps v (with_body tag (batch_at v s) rest)
one_swept ps v tag s z rest is = ap (λ o. with_body tag o (left_bodies ps v rest)) (ap (batch_at v) is ∙ batch_above v (popped_at ps tag) s) ∙ go (nat_lt (popped_at ps tag) v) refl (batch_at v s) refl
  where
    go : (a : Bool) → nat_lt (popped_at ps tag) v ≡ a → (o : Option (List Mutation)) → batch_at v s ≡ o
        → with_body tag (cond (nat_lt (popped_at ps tag) v) (batch_at v s) None) (left_bodies ps v rest) ≡ left_bodies ps v (with_body tag (batch_at v s) rest)
    go true e None k = rw (e, k) refl
    go false e None k = rw (e, k) refl
    go true e (Some b) k = rw (e, k) (rw e refl)
    go false e (Some b) k = rw (e, k) (rw e refl)

-- bodies of the shelves that are swept are those that are left
bodies_swept : (ps : List PoppedTag) (v tag : ℕ) (ss ts : List (List Shelved)) → ((t : ℕ) → shelf_of ts t ≡ above (popped_at ps (tag + t)) (shelf_of ss t))
    → bodies_from v tag ts ≡ left_bodies ps v (bodies_from v tag ss)
unfolding bodies_from
bodies_swept ps v tag [] [] h = refl
bodies_swept ps v tag [] (z ∷ ts) h =
    ap (λ o. with_body tag o (bodies_from v (tag + 1) ts)) (ap (batch_at v) (h 0) ∙ batch_above v (popped_at ps (tag + 0)) [] ∙ none_left (nat_lt (popped_at ps (tag + 0)) v))
    ∙ bodies_swept ps v (tag + 1) [] ts (λ t. let up : tag + suc t ≡ tag + 1 + t = omega arith in h (suc t) ∙ ap (λ n. above (popped_at ps n) (shelf_of [] t)) up)
  where
    none_left : (b : Bool) → ◌≡◌ {A = Option (List Mutation)} (cond b None None) None
    none_left true = refl
    none_left false = refl
bodies_swept ps v tag (s ∷ ss) [] h =
    bodies_swept ps v (tag + 1) ss [] (λ t. let up : tag + suc t ≡ tag + 1 + t = omega arith in empty t ∙ h (suc t) ∙ ap (λ n. above (popped_at ps n) (shelf_of ss t)) up)
    ∙ one_swept ps v tag s [] (bodies_from v (tag + 1) ss) (let here : tag + 0 ≡ tag = omega arith in h 0 ∙ ap (λ n. above (popped_at ps n) s) here)
  where
    empty : (t : ℕ) → shelf_of [] t ≡ shelf_of [] (suc t)
    empty t = refl
bodies_swept ps v tag (s ∷ ss) (z ∷ ts) h =
    ap (λ xs. with_body tag (batch_at v z) xs) (bodies_swept ps v (tag + 1) ss ts (λ t. let up : tag + suc t ≡ tag + 1 + t = omega arith in h (suc t) ∙ ap (λ n. above (popped_at ps n) (shelf_of ss t)) up))
    ∙ one_swept ps v tag s z (bodies_from v (tag + 1) ss) (let here : tag + 0 ≡ tag = omega arith in h 0 ∙ ap (λ n. above (popped_at ps n) s) here)

pub swept_held : (ps : List PoppedTag) (ss ts : List (List Shelved)) (hs : List PushHeader) → ((t : ℕ) → shelf_of ts t ≡ above (popped_at ps t) (shelf_of ss t)) → pushes_in ts hs ≡ map (left_push ps) (pushes_in ss hs)
unfolding pushes_in
swept_held ps ss ts [] h = refl
swept_held ps ss ts (g ∷ hs) h =
    two (λ bs qs. record { epoch = g.epoch; prev = g.prev; version = g.version; known = g.known; bodies = bs; mark = g.mark } ∷ qs)
    (bodies_swept ps g.version 0 ss ts (λ t. let same : t ≡ 0 + t = omega arith in h t ∙ ap (λ n. above (popped_at ps n) (shelf_of ss t)) same)) (swept_held ps ss ts hs h)

batches_swept : (ps : List PoppedTag) (tag : ℕ) (qs : List PushContent) → pushed_batches tag (map (left_push ps) qs) ≡ above (popped_at ps tag) (pushed_batches tag qs)
batches_swept ps tag [] = refl
batches_swept ps tag (q ∷ qs) = go (batches_swept ps tag qs) (nat_lt (popped_at ps tag) q.version) refl (batch_of tag q.bodies) refl
  where
    go : pushed_batches tag (map (left_push ps) qs) ≡ above (popped_at ps tag) (pushed_batches tag qs) → (a : Bool) → nat_lt (popped_at ps tag) q.version ≡ a
        → (o : Option (List Mutation)) → batch_of tag q.bodies ≡ o → pushed_batches tag (map (left_push ps) (q ∷ qs)) ≡ above (popped_at ps tag) (pushed_batches tag (q ∷ qs))
    go rest true e None k = rw (body_left ps tag q.version q.bodies, e, k) rest
    go rest true e (Some b) k = rw (body_left ps tag q.version q.bodies, e, k) (rw e (ap (λ es. (q.version, b) ∷ es) rest))
    go rest false e None k = rw (body_left ps tag q.version q.bodies, e, k) rest
    go rest false e (Some b) k = rw (body_left ps tag q.version q.bodies, e, k) (rw e rest)

pub swept_indexed : (ps : List PoppedTag) (ss ts : List (List Shelved)) (hs : List PushHeader) → IsIndexed ss hs → ((t : ℕ) → shelf_of ts t ≡ above (popped_at ps t) (shelf_of ss t)) → IsIndexed ts hs
swept_indexed ps ss ts hs is h = record {
  rises = is.rises;
  agrees = λ t. h t ∙ ap (above (popped_at ps t)) (is.agrees t) ∙ sym (batches_swept ps t (pushes_in ss hs)) ∙ ap (pushed_batches t) (sym (swept_held ps ss ts hs h));
}
