-- The headers of runs, one run after the other.
use Rattle.std.proofs.Common.{◌≡◌, ℕ, zero, suc, ◌+◌, ◌<◌, ◌≤◌, false, ◌||◌, List, [], ◌∷◌, ◌++◌, length, take, get_or, Some, None, refl, sym, ◌∙◌, ap, subst, arith, slice_set, append_assoc, length-append}
use Rattle.std.specs.List.{list_any, slice_get}
use Rattle.std.proofs.lemmas.List.{append-nil}
use Rattle.std.proofs.lemmas.List.Folds.{list_any-append}
use Rattle.fr_log.specs.declared.pushes.header.PushHeader.{PushHeader}
use Rattle.fr_log.specs.Push.{PushContent}
use Rattle.fr_log.specs.Pushes.{RiseFrom, is_headed}
use Rattle.fr_log.specs.Headers.{headers_in, AreRuns, begins, first_mark, version_at}
use Rattle.fr_log.proofs.Runs.{unheaded, none_headed_above, or_none}

pub none_in : headers_in [] ≡ []
unfolding headers_in
none_in = refl

pub in_more : (rs : List (List PushHeader)) (r : List PushHeader) → headers_in (rs ++ r ∷ []) ≡ headers_in rs ++ r
unfolding headers_in
in_more [] r = append-nil r
in_more (q ∷ rs) r = ap (λ hs. q ++ hs) (in_more rs r) ∙ sym (append_assoc q (headers_in rs) r)

pub runs_more : (rs : List (List PushHeader)) (r : List PushHeader) → AreRuns rs → 0 < length r → AreRuns (rs ++ r ∷ [])
runs_more [] r all some = (some, tt)
runs_more (q ∷ rs) r (here, rest) some = (here, runs_more rs r rest some)

pub runs_taken : (rs : List (List PushHeader)) (n : ℕ) → AreRuns rs → AreRuns (take n rs)
runs_taken [] zero all = tt
runs_taken [] (suc n) all = tt
runs_taken (q ∷ rs) zero all = tt
runs_taken (q ∷ rs) (suc n) (here, rest) = (here, runs_taken rs n rest)

pub runs_at : (rs : List (List PushHeader)) (n : ℕ) (d : List PushHeader) → AreRuns rs → n < length rs → 0 < length (get_or rs n d)
runs_at [] n d all within = absurd (omega (arith, within))
runs_at (q ∷ rs) zero d (here, rest) within = here
runs_at (q ∷ rs) (suc n) d (here, rest) within = runs_at rs n d rest (omega (arith, within))

pub in_first : (rs : List (List PushHeader)) (r : List PushHeader) → 0 < length r → first_mark r ≡ first_mark (headers_in (r ∷ rs))
unfolding headers_in
in_first rs [] some = absurd (omega (arith, some))
in_first rs (h ∷ hs) some = refl

pub mark_first : (rs : List (List PushHeader)) (r : List PushHeader) → AreRuns rs → Some r ≡ slice_get rs 0 → first_mark r ≡ first_mark (headers_in rs)
mark_first [] r all e = absurd (cc)
mark_first (q ∷ rs) r (here, rest) e = let same : r ≡ q = cc in ap first_mark same ∙ in_first rs q here

pub mark_none : (rs : List (List PushHeader)) → None ≡ slice_get rs 0 → None ≡ first_mark (headers_in rs)
unfolding headers_in
mark_none [] e = refl
mark_none (q ∷ rs) e = absurd (cc)

-- all runs but the last one, and the last one
pub last_apart : (rs : List (List PushHeader)) (n : ℕ) (d : List PushHeader) → n + 1 ≡ length rs → rs ≡ take n rs ++ get_or rs n d ∷ []
last_apart [] n d e = absurd (omega (arith, e))
last_apart (r ∷ []) zero d e = refl
last_apart (r ∷ q ∷ rs) zero d e = absurd (omega (arith, e))
last_apart (r ∷ rs) (suc n) d e = ap (λ xs. r ∷ xs) (last_apart rs n d (omega (arith, e)))

pub in_some : (rs : List (List PushHeader)) → 0 < length (headers_in rs) → 0 < length rs
unfolding headers_in
in_some [] some = some
in_some (r ∷ rs) some = omega arith

set_last : (rs : List (List PushHeader)) (n : ℕ) (x : List PushHeader) → n + 1 ≡ length rs → slice_set rs n x ≡ take n rs ++ x ∷ []
set_last [] n x e = absurd (omega (arith, e))
set_last (r ∷ []) zero x e = refl
set_last (r ∷ q ∷ rs) zero x e = absurd (omega (arith, e))
set_last (r ∷ rs) (suc n) x e = ap (λ xs. r ∷ xs) (set_last rs n x (omega (arith, e)))

pub headers_set : (rs : List (List PushHeader)) (n : ℕ) (x : List PushHeader) → n + 1 ≡ length rs → headers_in (slice_set rs n x) ≡ headers_in (take n rs) ++ x
headers_set rs n x e = ap headers_in (set_last rs n x e) ∙ in_more (take n rs) x

-- the last run of these: what stands before it and in it is all
pub record HasLast (rs : List (List PushHeader)) (last : ℕ) (r : List PushHeader) : Type 0 where
  pub all : headers_in rs ≡ headers_in (take last rs) ++ r
  pub count : length (headers_in rs) ≡ length (headers_in (take last rs)) + length r
  pub some : 0 < length r

pub has_last : (rs : List (List PushHeader)) (last : ℕ) (r : List PushHeader) → AreRuns rs → last + 1 ≡ length rs → r ≡ get_or rs last r → HasLast rs last r
has_last rs last r runs e is =
    let all : headers_in rs ≡ headers_in (take last rs) ++ r =
    ap headers_in (last_apart rs last r e) ∙ in_more (take last rs) (get_or rs last r) ∙ ap (λ x. headers_in (take last rs) ++ x) (sym is)
    in
    record {
      all = all;
      count = ap length all ∙ length-append (headers_in (take last rs)) r;
      some = subst (λ (x : List PushHeader). 0 < length x) (sym is) (runs_at rs last r runs (omega (arith, e)));
    }

-- ---- places

pub version_behind : (xs ys : List PushHeader) (place : ℕ) → version_at (xs ++ ys) (length xs + place) ≡ version_at ys place
version_behind [] ys place = let e : 0 + place ≡ place = omega arith in ap (version_at ys) e
version_behind (x ∷ xs) ys place =
    let e : length (x ∷ xs) + place ≡ suc (length xs + place) = omega arith in
    ap (version_at (x ∷ (xs ++ ys))) e ∙ version_behind xs ys place

pub version_first : (hs : List PushHeader) → 0 < length hs → Some (begins hs) ≡ version_at hs 0
version_first [] some = absurd (omega (arith, some))
version_first (h ∷ hs) some = refl

pub version_past : (hs : List PushHeader) (place : ℕ) → length hs ≤ place → None ≡ version_at hs place
version_past [] place past = refl
version_past (h ∷ hs) zero past = absurd (omega (arith, past))
version_past (h ∷ hs) (suc place) past = version_past hs place (omega (arith, past))

pub version_none : (hs : List PushHeader) (place : ℕ) → None ≡ version_at hs place → length hs ≤ place
version_none [] place e = omega arith
version_none (h ∷ hs) zero e = absurd (cc)
version_none (h ∷ hs) (suc place) e = let k = version_none hs place e in omega (arith, k)

pub version_within : (hs : List PushHeader) (place version : ℕ) → Some version ≡ version_at hs place → place < length hs
version_within [] place version e = absurd (cc)
version_within (h ∷ hs) zero version e = omega arith
version_within (h ∷ hs) (suc place) version e = let k = version_within hs place version e in omega (arith, k)

pub version_is : (hs : List PushHeader) (place version : ℕ) (d : PushHeader) → Some version ≡ version_at hs place → version ≡ (get_or hs place d).version
version_is [] place version d e = absurd (cc)
version_is (h ∷ hs) zero version d e = cc
version_is (h ∷ hs) (suc place) version d e = version_is hs place version d e

-- a header to name where there is none
abbrev pub no_header : PushHeader
no_header = record { epoch = 0; prev = 0; version = 0; known = 0; mark = None }

pub version_taken : (hs : List PushHeader) (n place : ℕ) → place < n → version_at (take n hs) place ≡ version_at hs place
version_taken [] zero place less = refl
version_taken [] (suc n) place less = refl
version_taken (h ∷ hs) zero place less = absurd (omega (arith, less))
version_taken (h ∷ hs) (suc n) zero less = refl
version_taken (h ∷ hs) (suc n) (suc place) less = version_taken hs n place (omega (arith, less))

pub take_less : (hs : List PushHeader) (m n : ℕ) → m ≤ n → take m (take n hs) ≡ take m hs
take_less [] zero zero le = refl
take_less [] zero (suc n) le = refl
take_less [] (suc m) zero le = refl
take_less [] (suc m) (suc n) le = refl
take_less (h ∷ hs) zero zero le = refl
take_less (h ∷ hs) zero (suc n) le = refl
take_less (h ∷ hs) (suc m) zero le = absurd (omega (arith, le))
take_less (h ∷ hs) (suc m) (suc n) le = ap (λ xs. h ∷ xs) (take_less hs m n (omega (arith, le)))

pub take_long : (hs : List PushHeader) (n : ℕ) → length hs ≤ n → hs ≡ take n hs
take_long [] zero past = refl
take_long [] (suc n) past = refl
take_long (h ∷ hs) zero past = absurd (omega (arith, past))
take_long (h ∷ hs) (suc n) past = ap (λ xs. h ∷ xs) (take_long hs n (omega (arith, past)))

pub take_length : (hs : List PushHeader) (n : ℕ) → n ≤ length hs → length (take n hs) ≡ n
take_length [] zero le = refl
take_length [] (suc n) le = absurd (omega (arith, le))
take_length (h ∷ hs) zero le = refl
take_length (h ∷ hs) (suc n) le = let k = take_length hs n (omega (arith, le)) in omega (arith, k)

-- ---- versions

pub rise_lower : (least more : ℕ) (hs : List PushHeader) → least ≤ more → RiseFrom more hs → RiseFrom least hs
rise_lower least more [] le r = tt
rise_lower least more (h ∷ hs) le (low, rest) = (omega (arith, le, low), rest)

pub rise_behind : (least : ℕ) (xs ys : List PushHeader) → RiseFrom least (xs ++ ys) → RiseFrom least ys
rise_behind least [] ys r = r
rise_behind least (x ∷ xs) ys (low, rest) = rise_lower least (x.version + 1) ys (omega (arith, low)) (rise_behind (x.version + 1) xs ys rest)

-- there are no more headers than versions below the last one
pub rise_count : (least : ℕ) (hs : List PushHeader) (h : PushHeader) → RiseFrom least (hs ++ h ∷ []) → least + length hs ≤ h.version
rise_count least [] h (low, rest) = omega (arith, low)
rise_count least (g ∷ hs) h (low, rest) = let k = rise_count (g.version + 1) hs h rest in omega (arith, k, low)

pub begins_at : (least : ℕ) (rs : List (List PushHeader)) (n : ℕ) (d : List PushHeader) → AreRuns rs → RiseFrom least (headers_in rs) → n < length rs → least ≤ begins (get_or rs n d)
unfolding headers_in
begins_at least [] n d all r within = absurd (omega (arith, within))
begins_at least ([] ∷ rs) n d (here, others) r within = absurd (omega (arith, here))
begins_at least ((h ∷ hs) ∷ rs) zero d all (low, rest) within = low
begins_at least ((h ∷ hs) ∷ rs) (suc n) d (here, others) (low, rest) within =
    let k = begins_at (h.version + 1) rs n d others (rise_behind (h.version + 1) hs (headers_in rs) rest) (omega (arith, within)) in
    omega (arith, k, low)

pub begins_sorted : (least : ℕ) (rs : List (List PushHeader)) → AreRuns rs → RiseFrom least (headers_in rs) → Rattle.std.specs.List.Sorted.IsNonDecreasingBy begins rs
unfolding headers_in
begins_sorted least [] all r i j d upto within = absurd (omega (arith, within))
begins_sorted least ([] ∷ rs) (here, others) r i j d upto within = absurd (omega (arith, here))
begins_sorted least ((h ∷ hs) ∷ rs) (here, others) (low, rest) zero zero d upto within = omega arith
begins_sorted least ((h ∷ hs) ∷ rs) (here, others) (low, rest) zero (suc j) d upto within =
    let up = begins_at (h.version + 1) rs j d others (rise_behind (h.version + 1) hs (headers_in rs) rest) (omega (arith, within)) in
    omega (arith, up)
begins_sorted least ((h ∷ hs) ∷ rs) (here, others) (low, rest) (suc i) zero d upto within = absurd (omega (arith, upto))
begins_sorted least ((h ∷ hs) ∷ rs) (here, others) (low, rest) (suc i) (suc j) d upto within =
    begins_sorted (h.version + 1) rs others (rise_behind (h.version + 1) hs (headers_in rs) rest) i j d (omega (arith, upto)) (omega (arith, within))

-- ---- a push is sought

-- none of the headers that have others of this version or a lesser one behind them
unheaded_before : (p : PushContent) (least : ℕ) (xs ys : List PushHeader) → RiseFrom least (xs ++ ys) → ((m : ℕ) → RiseFrom m ys → m ≤ p.version) → list_any (is_headed p) xs ≡ false
unheaded_before p least [] ys r reach = refl
unheaded_before p least (x ∷ xs) ys (low, rest) reach =
    let k = reach (x.version + 1) (rise_behind (x.version + 1) xs ys rest) in
    ap (λ t. t || list_any (is_headed p) xs) (unheaded p x (λ e. absurd (omega (arith, e, k)))) ∙ unheaded_before p (x.version + 1) xs ys rest reach

-- no header where the first run begins above the push
unheaded_behind : (p : PushContent) (least : ℕ) (rs : List (List PushHeader)) → AreRuns rs → RiseFrom least (headers_in rs) → ((d : List PushHeader) → 0 < length rs → p.version < begins (get_or rs 0 d))
    → list_any (is_headed p) (headers_in rs) ≡ false
unfolding headers_in
unheaded_behind p least [] all r high = refl
unheaded_behind p least ([] ∷ rs) (here, others) r high = absurd (omega (arith, here))
unheaded_behind p least ((h ∷ hs) ∷ rs) all (low, rest) high =
    let up = high [] (omega arith) in
    none_headed_above p h.version (h ∷ (hs ++ headers_in rs)) (omega arith, rest) (omega (arith, up))

-- it can only be in the last run that does not begin above it
pub headed_in : (p : PushContent) (least : ℕ) (rs : List (List PushHeader)) (n : ℕ) (d : List PushHeader) → AreRuns rs → RiseFrom least (headers_in rs) → n < length rs
    → begins (get_or rs n d) ≤ p.version → ((e : List PushHeader) → n + 1 < length rs → p.version < begins (get_or rs (n + 1) e))
    → list_any (is_headed p) (get_or rs n d) ≡ list_any (is_headed p) (headers_in rs)
unfolding headers_in
headed_in p least [] n d all r within low high = absurd (omega (arith, within))
headed_in p least (r ∷ rs) zero d (here, others) rises within low high =
    sym (list_any-append (is_headed p) r (headers_in rs)
    ∙ or_none (list_any (is_headed p) r) (list_any (is_headed p) (headers_in rs)) (unheaded_behind p least rs others (rise_behind least r (headers_in rs) rises) (λ e some. high e (omega (arith, some)))))
headed_in p least (r ∷ rs) (suc n) d (here, others) rises within low high =
    let inside : n < length rs = omega (arith, within) in
    let rest = rise_behind least r (headers_in rs) rises in
    headed_in p least rs n d others rest inside low (λ e more. subst (λ k. p.version < begins (get_or (r ∷ rs) k e)) (next_place n) (high e (omega (arith, more))))
    ∙ sym (list_any-append (is_headed p) r (headers_in rs)
    ∙ ap (λ t. t || list_any (is_headed p) (headers_in rs)) (unheaded_before p least r (headers_in rs) rises (λ m up. let k = begins_at m rs n d others up inside in omega (arith, k, low))))
  where
    next_place : (k : ℕ) → suc k + 1 ≡ suc (k + 1)
    next_place k = omega arith

pub headed_none : (p : PushContent) (least : ℕ) (rs : List (List PushHeader)) → AreRuns rs → RiseFrom least (headers_in rs) → ((d : List PushHeader) → 0 < length rs → p.version < begins (get_or rs 0 d))
    → false ≡ list_any (is_headed p) (headers_in rs)
headed_none p least rs all r high = sym (unheaded_behind p least rs all r high)
