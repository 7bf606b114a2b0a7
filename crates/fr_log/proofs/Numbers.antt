-- The numbers of headers, one after the other.
use Rattle.std.proofs.Common.{◌≡◌, ℕ, zero, suc, ◌+◌, ◌-◌, ◌*◌, ◌<◌, ◌≤◌, List, [], ◌∷◌, ◌++◌, map, refl, sym, ◌∙◌, ap, arith, append_assoc}
use Rattle.std.proofs.Math.Nat.{suc-mul}
use Rattle.std.proofs.lemmas.List.{append-nil, map-append}
use Rattle.fr_log.specs.declared.pushes.header.PushHeader.{PushHeader}
use Rattle.fr_log.specs.declared.pushes.header.PushNumbers.{PushNumbers}
use Rattle.fr_log.specs.Push.{PushContent}
use Rattle.fr_log.specs.Pushes.{Shelved, pushes_in, pushed_numbers}
use Rattle.fr_log.specs.Headers.{next, evenly, headers_in, numbers_in}
use Rattle.fr_log.proofs.Runs.{place_within}
use Rattle.fr_log.proofs.Chaining.{in_more}

abbrev numbers_of : PushHeader → PushNumbers
numbers_of h = record { prev = h.prev; version = h.version; known = h.known }

-- the numbers of the header that follows one evenly
abbrev pub next_numbers : PushNumbers → ℕ → PushNumbers
next_numbers n step = record { prev = n.version; version = n.version + step; known = n.known + step }

-- those of so many headers that follow one evenly
pub stepped : PushNumbers → ℕ → ℕ → List PushNumbers
stepped n step zero = []
stepped n step (suc more) = next_numbers n step ∷ stepped (next_numbers n step) step more

pub numbers_evenly : (h : PushHeader) (step more : ℕ) → numbers_in (evenly h step more) ≡ numbers_of h ∷ stepped (numbers_of h) step more
unfolding evenly stepped
numbers_evenly h step zero = refl
numbers_evenly h step (suc more) = ap (λ ns. numbers_of h ∷ ns) (numbers_evenly (next h step) step more)

-- what was put, and what is still to be put: with the first, with one more, and with the last
pub begins_so : (list put : List PushNumbers) (h : PushHeader) (prev version known step more : ℕ) → prev ≡ h.prev → version ≡ h.version → known ≡ h.known → put ≡ list ++ record { prev = prev; version = version; known = known } ∷ []
    → put ++ stepped (record { prev = prev; version = version; known = known }) step (more - 0) ≡ list ++ numbers_in (evenly h step more)
begins_so list put h prev version known step more a b d e =
    let none : more - 0 ≡ more = omega arith in
    rw (e, a, b, d, none) (append_assoc list (numbers_of h ∷ []) (stepped (numbers_of h) step more) ∙ ap (λ ns. list ++ ns) (sym (numbers_evenly h step more)))

pub goes_on_so : (list put total : List PushNumbers) (n m : PushNumbers) (step more i : ℕ) → i < more → m ≡ next_numbers n step → put ≡ list ++ m ∷ [] → list ++ stepped n step (more - i) ≡ total → put ++ stepped m step (more - (i + 1)) ≡ total
unfolding stepped
goes_on_so list put total n m step more i less same e so_far =
    let one : more - i ≡ suc (more - (i + 1)) = omega arith in
    let here : stepped n step (more - i) ≡ next_numbers n step ∷ stepped (next_numbers n step) step (more - (i + 1)) = ap (stepped n step) one in
    rw (e, same) (append_assoc list (next_numbers n step ∷ []) (stepped (next_numbers n step) step (more - (i + 1))) ∙ ap (λ ns. list ++ ns) (sym here) ∙ so_far)

pub ends_so : (list total : List PushNumbers) (n : PushNumbers) (step more i : ℕ) → more ≤ i → list ++ stepped n step (more - i) ≡ total → list ≡ total
unfolding stepped
ends_so list total n step more i le so_far =
    let none : more - i ≡ 0 = omega arith in
    let here : stepped n step (more - i) ≡ [] = ap (stepped n step) none in
    sym (append-nil list) ∙ ap (λ ns. list ++ ns) (sym here) ∙ so_far

-- one step more stays within what all of them come to
pub step_within : (step i more : ℕ) → i < more → i * step + step ≤ more * step
step_within step i more less = let up = suc-mul i step in let k = place_within step (suc i) more (omega (arith, less)) in omega (arith, up, k)

pub next_place : (step i : ℕ) → i * step + step ≡ (i + 1) * step
next_place step i = let up = suc-mul i step in let same : i + 1 ≡ suc i = omega arith in omega (arith, up, ap (λ k. k * step) same)

-- ---- of runs, and of pushes

pub runs_none : (list : List PushNumbers) → list ≡ list ++ numbers_in (headers_in [])
unfolding headers_in
runs_none list = sym (append-nil list)

pub runs_so : (list : List PushNumbers) (rs : List (List PushHeader)) (r : List PushHeader) → list ++ numbers_in (headers_in (rs ++ r ∷ [])) ≡ (list ++ numbers_in (headers_in rs)) ++ numbers_in r
runs_so list rs r =
    ap (λ hs. list ++ numbers_in hs) (in_more rs r) ∙ ap (λ ns. list ++ ns) (map-append numbers_of (headers_in rs) r) ∙ sym (append_assoc list (numbers_in (headers_in rs)) (numbers_in r))

pub held_numbers : (ss : List (List Shelved)) (hs : List PushHeader) → numbers_in hs ≡ map pushed_numbers (pushes_in ss hs)
unfolding pushes_in
held_numbers ss [] = refl
held_numbers ss (h ∷ hs) = ap (λ ns. numbers_of h ∷ ns) (held_numbers ss hs)
