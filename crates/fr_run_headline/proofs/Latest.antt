-- At every moment there is a chosen epoch of the greatest ballot.
use Rattle.std.proofs.Common.{◌≡◌, ℕ, zero, suc, ◌+◌, ◌*◌, ◌<◌, ◌≤◌, ◌^◌, Bool, true, false, cond, ◌==◌, ◌&&◌, ◌||◌, nat_eq, filter, List, [], ◌∷◌, length, inl, inr, ◌⊎◌, refl, sym, ◌∙◌, ap, subst, arith}
use Rattle.std.specs.List.{AllByRecursion, Contains, IsDistinct, list_any, range_with_len}
use Rattle.std.proofs.lemmas.Bool.{and_from, and_parts, cases_lt, eq-eqb, eqb-true, ne_eqb}
use Rattle.std.proofs.lemmas.Cmp.{nat_eq_equiv}
use Rattle.std.proofs.lemmas.List.Elements.{All-from_recursion}
use Rattle.std.proofs.lemmas.Map.Made.{length-le_from_is_member}
use Rattle.fr_base.proofs.ListLemmas.{All-found}
use Rattle.fr_register.specs.Poll.{Stamped}
use Rattle.fr_register.specs.History as register
use Rattle.fr_register.specs.Chosen.{IsWrittenByMajority}
use Rattle.fr_ask.specs.Cells.{is_same_cell_ask, is_same_cell_ask-IsSameness, is_same_cell_tell, is_same_cell_tell-IsSameness}
use Rattle.fr_log.specs.LogState.{durable_of}
use Rattle.fr_run.specs.Config.{Config, first_epoch}
use Rattle.fr_run.specs.Turn.{Turn, cell_turns}
use Rattle.fr_run.specs.Nodes.{logs_at, log_at}
use Rattle.fr_run.specs.Run.{IsRun}
use Rattle.fr_run.specs.States.{pair_of, IsChosenEpoch}
use Rattle.fr_run.proofs.Cells.{Contains-here, Contains-later, Contains-none, Contains-cases}
use Rattle.fr_run.proofs.Chosen.{first_is_chosen, chosen_is_planned}
use Rattle.fr_run.proofs.Growth.{rec_is}
use Rattle.fr_run.proofs.Parents.{planned_by}
use Rattle.fr_run_headline.specs.Numbers.{top_at}
use Rattle.fr_run_headline.proofs.Seeds.{chosen_is_seeded}
use Rattle.fr_run_headline.specs.Issued.{Entry, issued, least_durable, committed}
use Rattle.fr_run_headline.specs.IssuedLaws.{VersionsRise}
use Rattle.fr_run_headline.proofs.VersionLists.{RiseIn, rise_through}
use Rattle.fr_run_headline.proofs.IssuedLists.{version_of}
use Rattle.fr_run_headline.proofs.Parts.{issued_rises}
use Rattle.fr_run_headline.specs.Committed.{LatestIsThere, CommittedIsThere}
use Rattle.fr_run_headline.specs.Laws.{Laws}
use Rattle.fr_run_headline.proofs.Durables.{least_each}
use Rattle.fr_run_headline.proofs.Places.{filter_has}

-- ---- one vote

abbrev is_turn : register.Turn → register.Turn → Bool
is_turn t u = (t.cell == u.cell) && (is_same_cell_ask t.ask u.ask && is_same_cell_tell t.tell u.tell)

turn_is : (t u : register.Turn) → is_turn t u ≡ true → t ≡ u
turn_is t u e =
    let a = and_parts (t.cell == u.cell) (is_same_cell_ask t.ask u.ask && is_same_cell_tell t.tell u.tell) e in
    let b = and_parts (is_same_cell_ask t.ask u.ask) (is_same_cell_tell t.tell u.tell) a.1 in
    let cell = eqb-true t.cell u.cell a.0 in
    let asks = is_same_cell_ask-IsSameness.same t.ask u.ask b.0 in
    let tells = is_same_cell_tell-IsSameness.same t.tell u.tell b.1 in
    (λ i. record { cell = cell i; ask = asks i; tell = tells i })

turn_itself : (t : register.Turn) → is_turn t t ≡ true
turn_itself t = and_from (t.cell == t.cell) (is_same_cell_ask t.ask t.ask && is_same_cell_tell t.tell t.tell) (eq-eqb t.cell t.cell refl)
    (and_from (is_same_cell_ask t.ask t.ask) (is_same_cell_tell t.tell t.tell) (is_same_cell_ask-IsSameness.itself t.ask) (is_same_cell_tell-IsSameness.itself t.tell))

abbrev has : List register.Turn → register.Turn → Bool
has [] u = false
has (t ∷ ts) u = is_turn t u || has ts u

has_is : (ts : List register.Turn) (u : register.Turn) → has ts u ≡ true → Contains ts u
has_is [] u e = absurd (cc)
has_is (t ∷ ts) u e = go (is_turn t u) refl e (has_is ts u)
  where
    go : (b : Bool) → is_turn t u ≡ b → (b || has ts u) ≡ true → (has ts u ≡ true → Contains ts u) → Contains (t ∷ ts) u
    go true same k rest = subst (λ x. Contains (t ∷ ts) x) (turn_is t u same) (Contains-here t ts)
    go false other k rest = Contains-later t ts u (rest k)

is_has : (ts : List register.Turn) (u : register.Turn) → Contains ts u → has ts u ≡ true
is_has [] u k = absurd (Contains-none k)
is_has (t ∷ ts) u k = elim (Contains-cases t ts u k) [
  | inl same ↦ ap (λ b. b || has ts u) (subst (λ x. is_turn t x ≡ true) same (turn_itself t))
  | inr later ↦ go (is_turn t u) (is_has ts u later)
]
  where
    go : (b : Bool) → has ts u ≡ true → (b || has ts u) ≡ true
    go true e = refl
    go false e = e

-- ---- all votes

abbrev voters : ℕ → List register.Turn → Stamped → List ℕ
voters n ts p = filter (λ i. has ts (register.written_turn i p)) (range_with_len 0 n)

range_has : (a n i : ℕ) → a ≤ i → i < a + n → Contains (range_with_len a n) i
range_has a zero i low high = absurd (omega (arith, low, high))
range_has a (suc n) i low high = elim (cases_lt a i) [
  | inl lt ↦ Contains-later a (range_with_len (a + 1) n) i (range_has (a + 1) n i (omega (arith, lt)) (omega (arith, high)))
  | inr ge ↦ (let same : a ≡ i = omega (arith, low, ge) in subst (λ x. Contains (a ∷ range_with_len (a + 1) n) x) same (Contains-here a (range_with_len (a + 1) n)))
]

apart_from : (p : ℕ → Bool) (x a n : ℕ) → x < a → AllByRecursion (λ y. nat_eq x y ≡ false) (filter p (range_with_len a n))
apart_from p x a zero lt = tt
apart_from p x a (suc n) lt = go (p a) (apart_from p x (a + 1) n (omega (arith, lt)))
  where
    go : (b : Bool) → AllByRecursion (λ y. nat_eq x y ≡ false) (filter p (range_with_len (a + 1) n)) → AllByRecursion (λ y. nat_eq x y ≡ false) (cond b (a ∷ filter p (range_with_len (a + 1) n)) (filter p (range_with_len (a + 1) n)))
    go true rest = (ne_eqb x a (λ e. omega (arith, e, lt)), rest)
    go false rest = rest

are_distinct : (p : ℕ → Bool) (a n : ℕ) → IsDistinct nat_eq (filter p (range_with_len a n))
unfolding IsDistinct
are_distinct p a zero = tt
are_distinct p a (suc n) = go (p a) (are_distinct p (a + 1) n)
  where
    go : (b : Bool) → IsDistinct nat_eq (filter p (range_with_len (a + 1) n)) → IsDistinct nat_eq (cond b (a ∷ filter p (range_with_len (a + 1) n)) (filter p (range_with_len (a + 1) n)))
    go true rest = (apart_from p a (a + 1) n (omega arith), rest)
    go false rest = rest

each_is : (P : ℕ → Type 0) (p : ℕ → Bool) (a n : ℕ) → ((i : ℕ) → a ≤ i → i < a + n → p i ≡ true → P i) → AllByRecursion P (filter p (range_with_len a n))
each_is P p a zero k = tt
each_is P p a (suc n) k = go (p a) refl (each_is P p (a + 1) n (λ i l u. k i (omega (arith, l)) (omega (arith, u))))
  where
    go : (b : Bool) → p a ≡ b → AllByRecursion P (filter p (range_with_len (a + 1) n)) → AllByRecursion P (cond b (a ∷ filter p (range_with_len (a + 1) n)) (filter p (range_with_len (a + 1) n)))
    go true e rest = (k a (omega arith) (omega arith) e, rest)
    go false e rest = rest

any_has : (q : ℕ) (xs : List ℕ) → Contains xs q → list_any (nat_eq q) xs ≡ true
any_has q [] k = absurd (Contains-none k)
any_has q (x ∷ xs) k = elim (Contains-cases x xs q k) [
  | inl same ↦ ap (λ b. b || list_any (nat_eq q) xs) (eq-eqb q x (sym same))
  | inr later ↦ go (nat_eq q x) (any_has q xs later)
]
  where
    go : (b : Bool) → list_any (nat_eq q) xs ≡ true → (b || list_any (nat_eq q) xs) ≡ true
    go true e = refl
    go false e = e

-- whether a majority holds a pair
majority_or_not : (n : ℕ) (ts : List register.Turn) (p : Stamped) → IsWrittenByMajority n ts p ⊎ (IsWrittenByMajority n ts p → ⊥)
majority_or_not n ts p = elim (cases_lt n (2 * length (voters n ts p))) [
  | inl more ↦ inl (record {
    who = voters n ts p;
    majority = record {
      distinct = are_distinct (λ i. has ts (register.written_turn i p)) 0 n;
      below = All-from_recursion (λ i. i < n) (voters n ts p) (each_is (λ i. i < n) (λ i. has ts (register.written_turn i p)) 0 n (λ i l u e. omega (arith, u)));
      more = more;
    };
    each = All-from_recursion (λ i. Contains ts (register.written_turn i p)) (voters n ts p) (each_is (λ i. Contains ts (register.written_turn i p)) (λ i. has ts (register.written_turn i p)) 0 n (λ i l u e. has_is ts (register.written_turn i p) e));
  })
  | inr few ↦ inr (λ k. (
      let m = k.majority.more in
      let le = length-le_from_is_member nat_eq_equiv k.who (voters n ts p) k.majority.distinct (λ q in_who. (
      let below = All-found (λ i. i < n) q k.who in_who k.majority.below in
      let vote = All-found (λ i. Contains ts (register.written_turn i p)) q k.who in_who k.each in
      any_has q (voters n ts p) (filter_has (λ i. has ts (register.written_turn i p)) (range_with_len 0 n) q (range_has 0 n q (omega arith) (omega (arith, below))) (is_has ts (register.written_turn q p) vote)))) in
      omega (arith, few, m, le)))
]

-- ---- epochs

chosen_or_not : (c : Config) (h : List Turn) (e : ℕ) → IsChosenEpoch c h e ⊎ (IsChosenEpoch c h e → ⊥)
chosen_or_not c h e = go (e == first_epoch) refl (majority_or_not c.cells (cell_turns h) (pair_of c h e))
  where
    go : (b : Bool) → (e == first_epoch) ≡ b → IsWrittenByMajority c.cells (cell_turns h) (pair_of c h e) ⊎ (IsWrittenByMajority c.cells (cell_turns h) (pair_of c h e) → ⊥) → IsChosenEpoch c h e ⊎ (IsChosenEpoch c h e → ⊥)
    go true at k = inl (subst (IsChosenEpoch c h) (sym (eqb-true e first_epoch at)) (first_is_chosen c h))
    go false at (inl holds) = inl (inr holds)
    go false at (inr fails) = inr (λ k. neither k)
      where
        neither : IsChosenEpoch c h e → ⊥
        neither (inl start) = let d : true ≡ false = sym (eq-eqb e first_epoch (ap (λ (s : Stamped). s.ballot) start)) ∙ at in absurd (cc)
        neither (inr holds) = fails holds

-- the greatest chosen epoch of some
search_up : (c : Config) (h : List Turn) (n : ℕ) → (e : ℕ) × IsChosenEpoch c h e × ((d : ℕ) → IsChosenEpoch c h d → d ≤ first_epoch + n → d ≤ e)
search_up c h zero = (first_epoch, first_is_chosen c h, (λ d k le. le))
search_up c h (suc n) = go (chosen_or_not c h (first_epoch + suc n)) (search_up c h n)
  where
    go : IsChosenEpoch c h (first_epoch + suc n) ⊎ (IsChosenEpoch c h (first_epoch + suc n) → ⊥) → (e : ℕ) × IsChosenEpoch c h e × ((d : ℕ) → IsChosenEpoch c h d → d ≤ first_epoch + n → d ≤ e)
        → (e : ℕ) × IsChosenEpoch c h e × ((d : ℕ) → IsChosenEpoch c h d → d ≤ first_epoch + suc n → d ≤ e)
    go (inl holds) rest = (first_epoch + suc n, holds, (λ d k le. le))
    go (inr fails) (e, chosen, below) = (
      e,
      chosen,
      (λ d k le. elim (cases_lt d (first_epoch + suc n)) [
        | inl lt ↦ below d k (omega (arith, lt))
        | inr ge ↦ (let same : d ≡ first_epoch + suc n = omega (arith, le, ge) in absurd (fails (subst (IsChosenEpoch c h) same k)))
      ]),
    )

chosen_within : Laws → (c : Config) (h : List Turn) → IsRun c h → (d : ℕ) → IsChosenEpoch c h d → d ≤ first_epoch + 2 ^ 48
chosen_within laws c h run d chosen =
    let g = chosen_is_planned laws.contents.nodes c h run d chosen in
    elim (planned_by c h d g.0 g.1) [
      | inl first ↦ (let at = first.0 in omega (arith, at))
      | inr k ↦ (let high = (rec_is laws.contents.nodes c h run d k.recoverer k.at).high in omega (arith, high))
    ]

pub latest_is_there : Laws → LatestIsThere
latest_is_there laws c h run =
    let r = search_up c h (2 ^ 48) in
    (r.0, record { chosen = r.1; greatest = λ d k. r.2 d k (chosen_within laws c h run d k) })

-- ---- the committed list

rises : (low high : ℕ) (xs : List Entry) → RiseIn version_of low xs high → VersionsRise low xs high
rises low high [] k = k
rises low high (x ∷ xs) (lt, k) = (lt, rises x.version high xs k)

pub committed_is_there : Laws → CommittedIsThere
committed_is_there laws c h config run =
    let r = latest_is_there laws c h run in
    let e = r.0 in
    let k = chosen_is_seeded laws.contents.nodes c h config run e r.1.chosen in
    let some = k.some in
    let logs = k.logs in
    let kept = rise_through version_of 0 (top_at c h e) (least_durable c h e) (issued c h e) (issued_rises laws.contents.nodes c h config run e k.generation k.of) (omega arith) in
    record {
      latest = e;
      is_latest = r.1;
      some = omega (arith, some, logs);
      reached = λ i there. record { there = there; seeded = k.seeded i there; durable = least_each (λ j. durable_of (log_at c h e j)) (durable_of (log_at c h e 0)) 0 (logs_at c h e) i (omega arith) (omega (arith, there)) };
      rises = rises 0 (least_durable c h e) (committed c h e) kept;
    }
