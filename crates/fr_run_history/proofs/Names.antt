-- The names of the batches that were submitted in a run.
use Rattle.std.proofs.Common.{◌≡◌, ℕ, zero, suc, ◌+◌, ◌-◌, ◌≤◌, ◌⊎◌, Bool, true, false, cond, ◌==◌, ◌&&◌, List, [], ◌∷◌, ◌++◌, length, reverse, slice_get, Some, inl, inr, refl, sym, ap, subst, arith}
use Rattle.std.specs.List.{Contains}
use Rattle.std.proofs.lemmas.Bool.{and_parts, eq-eqb, eqb-true}
use Rattle.std.proofs.lemmas.List.{length-reverse, reverse-append}
use Rattle.fr_mutation.specs.declared.mutation.Mutation.{Mutation}
use Rattle.fr_proxy.specs.Sequencer.{new_sequencer}
use Rattle.fr_run.specs.Config.{Config}
use Rattle.fr_run.specs.Turn.{Turn, Begun, CellTurn, LogTurn, SeqTurn, Submitted, ProxyHeard, RecHeard, StorageHeard, Gone, Crashed}
use Rattle.fr_run.specs.Nodes.{generation_at, mark_version, is_open}
use Rattle.fr_run.specs.Run.{IsRun}
use Rattle.fr_run.specs.Batches.{batches, batch_at}
use Rattle.fr_run.specs.Laws.{Laws}
use Rattle.fr_run.proofs.Cells.{Contains-none, Contains-cases, Contains-here, Contains-later}
use Rattle.fr_run_headline.specs.Numbers.{Numbering, numbers, AreCounted}
use Rattle.fr_run_headline.specs.BoundLaws.{NumbersAreCounted}
use Rattle.fr_run_headline.proofs.Numbers.{closed}
use Rattle.fr_run_history.specs.Machine.{Name}
use Rattle.fr_run_history.specs.Refines.{name_at}
use Rattle.fr_run_history.proofs.Coming.{batches_grow}

-- a submitted batch with its name
abbrev pub Work : Type 0
Work = Name × List Mutation

abbrev pub taken_after : Turn → List Turn → List Work → List Work
taken_after (Begun b shape asks) h ws = ws
taken_after (CellTurn from i a t) h ws = ws
taken_after (LogTurn from e i a t) h ws = ws
taken_after (SeqTurn from e a t) h ws = ws
taken_after (Submitted e p step batch asks) h ws = (name_at e p (length (batches h e p) + 1), batch) ∷ ws
taken_after (ProxyHeard e p from t outcome asks) h ws = ws
taken_after (RecHeard b from t asks) h ws = ws
taken_after (StorageHeard tag from t taken fault) h ws = ws
taken_after (Gone who) h ws = ws
taken_after (Crashed who) h ws = ws

-- the batches that were submitted in a run, with their names, the newest first
abbrev pub taken : List Turn → List Work
taken [] = []
taken (t ∷ h) = taken_after t h (taken h)

-- ---- a name is new

-- a name has a request that its proxy had taken
pub taken_within : (h : List Turn) (w : Work) → Contains (taken h) w → w.0.request ≤ length (batches h w.0.epoch w.0.proxy)
taken_within [] w k = absurd (Contains-none k)
taken_within (t ∷ h) w k = go t k (λ j. taken_within h w j)
  where
    grown : (t : Turn) → w.0.request ≤ length (batches h w.0.epoch w.0.proxy) → w.0.request ≤ length (batches (t ∷ h) w.0.epoch w.0.proxy)
    grown t le = let grow = batches_grow (t ∷ []) h w.0.epoch w.0.proxy in omega (arith, le, grow)

    go : (t : Turn) → Contains (taken_after t h (taken h)) w → (Contains (taken h) w → w.0.request ≤ length (batches h w.0.epoch w.0.proxy)) → w.0.request ≤ length (batches (t ∷ h) w.0.epoch w.0.proxy)
    go (Begun b shape asks) k old = old k
    go (CellTurn from i a u) k old = old k
    go (LogTurn from e i a u) k old = old k
    go (SeqTurn from e a u) k old = old k
    go (Submitted e p step batch asks) k old = elim (Contains-cases (name_at e p (length (batches h e p) + 1), batch) (taken h) w k) [
      | inl same ↦ subst (λ (x : Work). x.0.request ≤ length (batches (Submitted e p step batch asks ∷ h) x.0.epoch x.0.proxy)) same here
      | inr later ↦ grown (Submitted e p step batch asks) (old later)
    ]
      where
        here : length (batches h e p) + 1 ≤ length (cond ((e == e) && (p == p)) (batch ∷ batches h e p) (batches h e p))
        here = rw (eq-eqb e e refl, eq-eqb p p refl) (omega arith)
    go (ProxyHeard e p from u outcome asks) k old = old k
    go (RecHeard b from u asks) k old = old k
    go (StorageHeard tag from u part fault) k old = old k
    go (Gone who) k old = old k
    go (Crashed who) k old = old k

-- ---- and each request has one

-- what stands in a list with one more element stands before it, or is that one
get_cases : {X : Type 0} (xs : List X) (y : X) (i : ℕ) (x : X) → slice_get (xs ++ y ∷ []) i ≡ Some x → (slice_get xs i ≡ Some x) ⊎ ((i ≡ length xs) × (y ≡ x))
get_cases [] y zero x e = inr (refl, (cc))
get_cases [] y (suc i) x e = absurd (cc)
get_cases (z ∷ xs) y zero x e = inl e
get_cases (z ∷ xs) y (suc i) x e = elim (get_cases xs y i x e) [ inl before ↦ inl before | inr (at, same) ↦ inr (ap suc at, same) ]

pub taken_has : (h : List Turn) (e p r : ℕ) (batch : List Mutation) → 1 ≤ r → batch_at h e p r ≡ Some batch → Contains (taken h) (name_at e p r, batch)
taken_has [] e p r batch low at = absurd (cc)
taken_has (t ∷ h) e p r batch low at = go t at (λ k. taken_has h e p r batch low k)
  where
    go : (t : Turn) → batch_at (t ∷ h) e p r ≡ Some batch → (batch_at h e p r ≡ Some batch → Contains (taken h) (name_at e p r, batch)) → Contains (taken_after t h (taken h)) (name_at e p r, batch)
    go (Begun b shape asks) at old = old at
    go (CellTurn from i a u) at old = old at
    go (LogTurn from x i a u) at old = old at
    go (SeqTurn from x a u) at old = old at
    go (Submitted x q step new asks) at old = pick ((x == e) && (q == p)) refl at
      where
        one : Work
        one = (name_at x q (length (batches h x q) + 1), new)

        pick : (b : Bool) → ((x == e) && (q == p)) ≡ b → slice_get (reverse (cond b (new ∷ batches h e p) (batches h e p))) (r - 1) ≡ Some batch → Contains (one ∷ taken h) (name_at e p r, batch)
        pick false is at = Contains-later one (taken h) (name_at e p r, batch) (old at)
        pick true is at = elim (get_cases (reverse (batches h e p)) new (r - 1) batch (subst (λ (xs : List (List Mutation)). slice_get xs (r - 1) ≡ Some batch) (reverse-append (new ∷ []) (batches h e p)) at)) [
          | inl before ↦ Contains-later one (taken h) (name_at e p r, batch) (old before)
          | inr (last, same) ↦ (
              let ands = and_parts (x == e) (q == p) is in
              let a : x ≡ e = eqb-true x e ands.0 in
              let b : q ≡ p = eqb-true q p ands.1 in
              let size : length (reverse (batches h e p)) ≡ length (batches h e p) = length-reverse (batches h e p) in
              let count : length (batches h e p) + 1 ≡ r = omega (arith, last, size, low) in
              let all : length (batches h x q) + 1 ≡ r = subst (λ y. length (batches h y q) + 1 ≡ r) (sym a) (subst (λ z. length (batches h e z) + 1 ≡ r) (sym b) count) in
              let is_one : one ≡ (name_at e p r, batch) = (λ i. (record { epoch = a i; proxy = b i; request = all i }, same i)) in
              subst (Contains (one ∷ taken h)) is_one (Contains-here one (taken h)))
        ]
    go (ProxyHeard x q from u outcome asks) at old = old at
    go (RecHeard b from u asks) at old = old at
    go (StorageHeard tag from u part fault) at old = old at
    go (Gone who) at old = old at
    go (Crashed who) at old = old at

-- ---- requests count from 1

counted_low : (ns : List Numbering) → AreCounted ns → (n : Numbering) → Contains ns n → 1 ≤ n.request
counted_low [] all n k = absurd (Contains-none k)
counted_low (m ∷ ns) (next, all) n k = elim (Contains-cases m ns n k) [
  | inl same ↦ (let at = ap (λ (x : Numbering). x.request) same in omega (arith, at, next))
  | inr later ↦ counted_low ns all n later
]

pub request_low : Laws → NumbersAreCounted → (c : Config) (h : List Turn) → IsRun c h → (e : ℕ) (n : Numbering) → Contains (numbers h e) n → 1 ≤ n.request
request_low laws counted c h run e n k = counted_low (numbers h e) (go (is_open c h e) refl) n k
  where
    go : (b : Bool) → is_open c h e ≡ b → AreCounted (numbers h e)
    go true is = (counted c h run e is).counted
    go false shut = subst AreCounted (sym (closed laws c h run e shut (new_sequencer e (mark_version (generation_at c h e)))).1) tt
