-- A push of a log, put together from its numbers, its mark and its bodies.
use Rattle.std.proofs.Common.{◌≡◌, ℕ, zero, suc, ◌+◌, ◌<◌, ◌≤◌, false, List, [], ◌∷◌, length, get_or, All, Option, Some, None, refl, sym, ap, subst, ◌∙◌, arith}
use Rattle.std.specs.Prelude.{◌^◌, is_some, IsSome, IsNone}
use Rattle.std.proofs.lemmas.List.Elements.{All-head, All-tail, All-get_or}
use Rattle.fr_tags.specs.declared.body.Body.{Body}
use Rattle.fr_state.specs.Generations.{CoordinatedState}
use Rattle.fr_log.specs.Fields.{six}
use Rattle.fr_log.specs.declared.pushes.header.PushNumbers.{PushNumbers}
use Rattle.fr_log.specs.Push.{PushContent, IsPush}
use Rattle.fr_log.specs.Pushes.{pushed_numbers}
use Rattle.fr_log.specs.LogState.{LogState, Header, headers, holds, seeded_to_of, mark_among}
use Rattle.fr_log.specs.Chain.{BeginsWithMark, IsOwnPush}
use Rattle.fr_record_log.specs.Limits.{IsWithinPush}
use Rattle.fr_record_log.specs.LogFile.{IsSettledLog}
use Rattle.fr_record_log.specs.Spelled.{tagged}
use Rattle.fr_record_log.proofs.Tagged.{tagged_is}

no_push : PushContent
no_push = record { epoch = 0; prev = 0; version = 0; known = 0; bodies = []; mark = None }

abbrev pub made : ℕ → PushNumbers → List Body → Option CoordinatedState → PushContent
made epoch n bodies mark = record { epoch = epoch; prev = n.prev; version = n.version; known = n.known; bodies = bodies; mark = mark }

-- the mark at version prev + 1
abbrev pub made_mark : ℕ → PushNumbers → CoordinatedState → PushContent
made_mark epoch n state = record { epoch = epoch; prev = n.prev; version = n.prev + 1; known = n.known; bodies = []; mark = Some state }

-- the numbers are those of a push that the log holds
pub record AreHeld (l : LogState) (i : ℕ) (n : PushNumbers) : Type 0 where
  pub prev : n.prev < 2 ^ 62
  pub version : n.version < 2 ^ 62
  pub known : n.known < 2 ^ 62
  pub own : (d : PushContent) → IsOwnPush l.epoch (holds l) (get_or l.pushes i d)
  pub within : (d : PushContent) → IsWithinPush (get_or l.pushes i d)

pub are_held : (l : LogState) (i : ℕ) (n : PushNumbers) → IsSettledLog l → i < length l.pushes → ((d : PushContent) → n ≡ pushed_numbers (get_or l.pushes i d)) → AreHeld l i n
are_held l i n h within is =
    let own = λ (d : PushContent). All-get_or (IsOwnPush l.epoch (holds l)) l.pushes i d within h.sound.log.own_pushes in
    let fits = λ (d : PushContent). All-get_or IsWithinPush l.pushes i d within h.within.pushes in
    let same = is no_push in
    let low = (fits no_push).version in
    let rises = (own no_push).within.rises in
    let known = (own no_push).within.known in
    let a = ap (λ (x : PushNumbers). x.prev) same in
    let b = ap (λ (x : PushNumbers). x.version) same in
    let c = ap (λ (x : PushNumbers). x.known) same in
    record {
      prev = omega (arith, low, rises, a);
      version = omega (arith, low, b);
      known = omega (arith, low, rises, known, c);
      own = own;
      within = fits;
    }

-- ---- the mark

first_marked : (ps : List PushContent) → 0 < length ps → BeginsWithMark (headers ps) → IsSome (mark_among ps)
first_marked [] some marked = absurd (omega (arith, some))
first_marked (p ∷ ps) some marked = marked.0

pub unmarked_never : (l : LogState) → IsSettledLog l → 0 < length l.pushes → None ≡ mark_among l.pushes → ⊥
unmarked_never l h some none = let there = first_marked l.pushes some h.sound.log.marked in let no : is_some (mark_among l.pushes) ≡ false = ap is_some (sym none) in absurd (cc (there, no))

first_mark : (ps : List PushContent) (d : PushContent) → 0 < length ps → mark_among ps ≡ (get_or ps 0 d).mark
first_mark [] d some = absurd (omega (arith, some))
first_mark (p ∷ ps) d some = refl

pub mark_is : (l : LogState) (n : PushNumbers) (state : CoordinatedState) → IsSettledLog l → 0 < length l.pushes → ((d : PushContent) → n ≡ pushed_numbers (get_or l.pushes 0 d)) → Some state ≡ mark_among l.pushes
    → (d : PushContent) → made_mark l.epoch n state ≡ get_or l.pushes 0 d
mark_is l n state h some is mark d =
    let p = get_or l.pushes 0 d in
    let held = are_held l 0 n h some is in
    let own = held.own d in
    let same = is d in
    let marked : Some state ≡ p.mark = mark ∙ first_mark l.pushes d some in
    let there : IsSome p.mark = ap is_some (sym marked) in
    let step = own.within.mark_step there in
    let prev = ap (λ (x : PushNumbers). x.prev) same in
    six (λ (epoch prev version known : ℕ) (bodies : List Body) (mark : Option CoordinatedState). record { epoch = epoch; prev = prev; version = version; known = known; bodies = bodies; mark = mark })
    (sym own.epoch) prev (omega (arith, step, prev)) (ap (λ (x : PushNumbers). x.known) same) (sym (own.within.mark_bodies there)) marked

-- the mark is within its limits
pub record FitsMark (n : PushNumbers) : Type 0 where
  pub known : n.known ≤ n.prev
  pub high : n.prev + 1 < 2 ^ 62

pub fits_mark : (l : LogState) (n : PushNumbers) → IsSettledLog l → 0 < length l.pushes → ((d : PushContent) → n ≡ pushed_numbers (get_or l.pushes 0 d)) → FitsMark n
fits_mark l n h some is =
    let held = are_held l 0 n h some is in
    let own = held.own no_push in
    let same = is no_push in
    let known = own.within.known in
    let rises = own.within.rises in
    let low = (held.within no_push).version in
    let a = ap (λ (x : PushNumbers). x.prev) same in
    let c = ap (λ (x : PushNumbers). x.known) same in
    record { known = omega (arith, known, a, c); high = omega (arith, rises, low, a) }

-- ---- the others

none_from : {A : Type 0} (o : Option A) → is_some o ≡ false → o ≡ None
none_from None e = refl
none_from (Some x) e = absurd (cc)

unmarked : (qs : List PushContent) (j : ℕ) (e : PushContent) → j < length qs → All (λ (x : Header). IsNone x.mark) (headers qs) → is_some (get_or qs j e).mark ≡ false
unmarked [] j e within all = absurd (omega (arith, within))
unmarked (q ∷ qs) zero e within all = All-head (λ (x : Header). IsNone x.mark) _ (headers qs) all
unmarked (q ∷ qs) (suc j) e within all = unmarked qs j e (omega (arith, within)) (All-tail (λ (x : Header). IsNone x.mark) _ (headers qs) all)

later_unmarked : (ps : List PushContent) (i : ℕ) (d : PushContent) → 0 < i → i < length ps → BeginsWithMark (headers ps) → (get_or ps i d).mark ≡ None
later_unmarked [] i d later within marked = absurd (omega (arith, within))
later_unmarked (p ∷ ps) zero d later within marked = absurd (omega (arith, later))
later_unmarked (p ∷ ps) (suc i) d later within marked = none_from (get_or ps i d).mark (unmarked ps i d (omega (arith, within)) marked.1)

pub push_is : (l : LogState) (i : ℕ) (n : PushNumbers) (version : ℕ) (bodies : List Body) → IsSettledLog l → i < length l.pushes → 0 < i → ((d : PushContent) → n ≡ pushed_numbers (get_or l.pushes i d)) → version ≡ n.version → bodies ≡ tagged 32 version l.pushes
    → (d : PushContent) → made l.epoch n bodies None ≡ get_or l.pushes i d
push_is l i n version bodies h within later is at bs d =
    let p = get_or l.pushes i d in
    let held = are_held l i n h within is in
    let own = held.own d in
    let same = is d in
    let here : version ≡ p.version = at ∙ ap (λ (x : PushNumbers). x.version) same in
    let all : bodies ≡ p.bodies = bs ∙ ap (λ v. tagged 32 v l.pushes) here ∙ tagged_is (seeded_to_of l.seed) l.pushes i d h.sound.log.chain within own.within.rising (held.within d).bodies in
    six (λ (epoch prev version known : ℕ) (bodies : List Body) (mark : Option CoordinatedState). record { epoch = epoch; prev = prev; version = version; known = known; bodies = bodies; mark = mark })
    (sym own.epoch) (ap (λ (x : PushNumbers). x.prev) same) (ap (λ (x : PushNumbers). x.version) same) (ap (λ (x : PushNumbers). x.known) same) all (sym (later_unmarked l.pushes i d later within h.sound.log.marked))

pub fits_push : (l : LogState) (i : ℕ) (n : PushNumbers) (version : ℕ) (bodies : List Body) → IsSettledLog l → i < length l.pushes → 0 < i → ((d : PushContent) → n ≡ pushed_numbers (get_or l.pushes i d)) → version ≡ n.version → bodies ≡ tagged 32 version l.pushes
    → IsPush (made l.epoch n bodies None)
fits_push l i n version bodies h within later is at bs =
    subst IsPush (sym (push_is l i n version bodies h within later is at bs no_push)) ((are_held l i n h within is).own no_push).within
