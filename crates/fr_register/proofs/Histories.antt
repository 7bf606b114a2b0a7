-- What is true of every history: what a cell holds, and what its promises are worth.
use Rattle.std.proofs.Common.{◌≡◌, ℕ, ◌≤◌, Bool, true, false, cond, nat_lt, ◌==◌, List, [], ◌∷◌, refl, sym, ◌∙◌, ap, subst, inl, inr, arith}
use Rattle.std.specs.List.{Contains}
use Rattle.std.proofs.lemmas.Bool.{eqb-true, eqb-false, ltb-false}
use Rattle.fr_register.specs.CellState.{CellState}
use Rattle.fr_register.specs.Cell.{answer_of, next_of, free_answer, free_next, is_second, IsWithinPromise}
use Rattle.fr_register.specs.Poll.{Stamped}
use Rattle.fr_register.specs.History.{Turn, cell_at, IsHistory, promise_turn, written_turn}
use Rattle.fr_register.specs.Chosen.{IsHeldBy, IsCellOf, IsKept}
use Rattle.fr_register.specs.Law.{EachListIsAHistory, CellsHoldTheirLast, PromisesAreKept}
use Rattle.fr_register.specs.declared.ask.CellAsk.{CellAsk}
use Rattle.fr_register.specs.declared.ask.CellAsk.TheVariants.{Read, Write}
use Rattle.fr_register.specs.declared.ask.CellTell.{CellTell}
use Rattle.fr_register.specs.declared.ask.CellTell.TheVariants.{Promise, Written, Refused, TwoValues}
use Rattle.fr_base.proofs.ListLemmas.{Contains-none, Contains-here, Contains-later, Contains-cases}

-- each cell against the turns, and each promise among them
record Facts (first : CellState) (turns : List Turn) : Type 0 where
  cells : (i : ℕ) → IsCellOf first turns i (cell_at first turns i)
  promises : (i b : ℕ) (p : Stamped) → Contains turns (promise_turn i b p) → IsKept first turns i b p

-- ---- what a tell says of the cell that gave it

told_promise : (c : CellState) (b w : ℕ) (v : List ℕ) → Promise w v ≡ answer_of c (Read b) → (c.promised ≤ b) × (w ≡ c.written) × (v ≡ c.value)
told_promise c b w v h = go (nat_lt b c.promised) refl h
  where
    go : (t : Bool) → nat_lt b c.promised ≡ t → Promise w v ≡ cond t (Refused c.promised) (Promise c.written c.value) → (c.promised ≤ b) × (w ≡ c.written) × (v ≡ c.value)
    go true e k = absurd (cc)
    go false e k = (ltb-false b c.promised e, cc, cc)

told_written : (c : CellState) (b : ℕ) (x : List ℕ) → Written b ≡ answer_of c (Write b x) → c.promised ≤ b
told_written c b x h = go (nat_lt b c.promised) refl h
  where
    go : (t : Bool) → nat_lt b c.promised ≡ t → Written b ≡ cond t (Refused c.promised) (free_answer c (Write b x)) → c.promised ≤ b
    go true e k = absurd (cc)
    go false e k = ltb-false b c.promised e

-- ---- longer histories

IsHeldBy-later : (first : CellState) (t : Turn) (turns : List Turn) (i : ℕ) (p : Stamped) → IsHeldBy first turns i p → IsHeldBy first (t ∷ turns) i p
IsHeldBy-later first t turns i p (inl e) = inl e
IsHeldBy-later first t turns i p (inr h) = inr (Contains-later t turns _ h)

-- a turn that neither promises nor writes at the cell changes none of its facts
quiet : (first : CellState) (t : Turn) (turns : List Turn) (i : ℕ) (c : CellState) → ((p : Stamped) → t ≡ written_turn i p → ⊥) → ((b : ℕ) (p : Stamped) → t ≡ promise_turn i b p → ⊥) → IsCellOf first turns i c → IsCellOf first (t ∷ turns) i c
quiet first t turns i c unwritten unpromised f = record {
  within = f.within;
  rises = f.rises;
  holds = IsHeldBy-later first t turns i _ f.holds;
  took = λ p h. elim (Contains-cases t turns (written_turn i p) h) [ inl e ↦ absurd (unwritten p e) | inr r ↦ f.took p r ];
  promised = λ b p h. elim (Contains-cases t turns (promise_turn i b p) h) [ inl e ↦ absurd (unpromised b p e) | inr r ↦ f.promised b p r ];
}

-- a turn of the cell itself
read_cell : (first : CellState) (turns : List Turn) (i b : ℕ) (c : CellState) → IsCellOf first turns i c → IsCellOf first (record { cell = i; ask = Read b; tell = answer_of c (Read b) } ∷ turns) i (next_of c (Read b))
read_cell first turns i b c f = go (nat_lt b c.promised) refl
  where
    unwritten : (tell : CellTell) (p : Stamped) → record { cell = i; ask = Read b; tell = tell } ≡ written_turn i p → ⊥
    unwritten tell p e = let k : Read b ≡ Write p.ballot p.value = ap (λ (t : Turn). t.ask) e in cc

    unpromised : (b' : ℕ) (p : Stamped) → record { cell = i; ask = Read b; tell = Refused c.promised } ≡ promise_turn i b' p → ⊥
    unpromised b' p e = let k : Refused c.promised ≡ Promise p.ballot p.value = ap (λ (t : Turn). t.tell) e in cc

    same_ballot : (tell : CellTell) (b' : ℕ) (p : Stamped) → record { cell = i; ask = Read b; tell = tell } ≡ promise_turn i b' p → b ≡ b'
    same_ballot tell b' p e = let k : Read b ≡ Read b' = ap (λ (t : Turn). t.ask) e in cc

    go : (s : Bool) → nat_lt b c.promised ≡ s → IsCellOf first (record { cell = i; ask = Read b; tell = cond s (Refused c.promised) (Promise c.written c.value) } ∷ turns) i (cond s c (record { promised = b; written = c.written; value = c.value }))
    go true e = quiet first (record { cell = i; ask = Read b; tell = Refused c.promised }) turns i c (unwritten (Refused c.promised)) unpromised f
    go false e =
        let t : Turn = record { cell = i; ask = Read b; tell = Promise c.written c.value } in
        let free = ltb-false b c.promised e in
        record {
          within = omega (arith, free, f.within);
          rises = f.rises;
          holds = IsHeldBy-later first t turns i _ f.holds;
          took = λ p h. elim (Contains-cases t turns (written_turn i p) h) [
            | inl k ↦ absurd (unwritten (Promise c.written c.value) p k)
            | inr r ↦ f.took p r
          ];
          promised = λ b' p h. elim (Contains-cases t turns (promise_turn i b' p) h) [
            | inl k ↦ omega (arith, same_ballot (Promise c.written c.value) b' p k)
            | inr r ↦ omega (arith, free, f.promised b' p r)
          ];
        }

write_cell : (first : CellState) (turns : List Turn) (i b : ℕ) (x : List ℕ) (c : CellState) → IsCellOf first turns i c → IsCellOf first (record { cell = i; ask = Write b x; tell = answer_of c (Write b x) } ∷ turns) i (next_of c (Write b x))
write_cell first turns i b x c f = go (nat_lt b c.promised) refl
  where
    unpromised : (tell : CellTell) (b' : ℕ) (p : Stamped) → record { cell = i; ask = Write b x; tell = tell } ≡ promise_turn i b' p → ⊥
    unpromised tell b' p e = let k : Write b x ≡ Read b' = ap (λ (t : Turn). t.ask) e in cc

    same_ballot : (tell : CellTell) (p : Stamped) → record { cell = i; ask = Write b x; tell = tell } ≡ written_turn i p → b ≡ p.ballot
    same_ballot tell p e = let k : Write b x ≡ Write p.ballot p.value = ap (λ (t : Turn). t.ask) e in cc

    refused : (p : Stamped) → record { cell = i; ask = Write b x; tell = Refused c.promised } ≡ written_turn i p → ⊥
    refused p e = let k : Refused c.promised ≡ Written p.ballot = ap (λ (t : Turn). t.tell) e in cc

    second : (p : Stamped) → record { cell = i; ask = Write b x; tell = TwoValues } ≡ written_turn i p → ⊥
    second p e = let k : TwoValues ≡ Written p.ballot = ap (λ (t : Turn). t.tell) e in cc

    freely : (s : Bool) → c.promised ≤ b → IsCellOf first (record { cell = i; ask = Write b x; tell = cond s TwoValues (Written b) } ∷ turns) i (cond s c (record { promised = b; written = b; value = x }))
    freely true free = quiet first (record { cell = i; ask = Write b x; tell = TwoValues }) turns i c second (unpromised TwoValues) f
    freely false free =
        let t : Turn = written_turn i (record { ballot = b; value = x }) in
        record {
          within = omega arith;
          rises = omega (arith, free, f.within, f.rises);
          holds = inr (Contains-here t turns);
          took = λ p h. elim (Contains-cases t turns (written_turn i p) h) [
            | inl k ↦ omega (arith, same_ballot (Written b) p k)
            | inr r ↦ omega (arith, free, f.within, f.took p r)
          ];
          promised = λ b' p h. elim (Contains-cases t turns (promise_turn i b' p) h) [
            | inl k ↦ absurd (unpromised (Written b) b' p k)
            | inr r ↦ omega (arith, free, f.promised b' p r)
          ];
        }

    go : (s : Bool) → nat_lt b c.promised ≡ s → IsCellOf first (record { cell = i; ask = Write b x; tell = cond s (Refused c.promised) (free_answer c (Write b x)) } ∷ turns) i (cond s c (free_next c (Write b x)))
    go true e = quiet first (record { cell = i; ask = Write b x; tell = Refused c.promised }) turns i c refused (unpromised (Refused c.promised)) f
    go false e = freely (is_second c b x) (ltb-false b c.promised e)

own_turn : (first : CellState) (turns : List Turn) (i : ℕ) (a : CellAsk) (c : CellState) → IsCellOf first turns i c → IsCellOf first (record { cell = i; ask = a; tell = answer_of c a } ∷ turns) i (next_of c a)
own_turn first turns i (Read b) c f = read_cell first turns i b c f
own_turn first turns i (Write b x) c f = write_cell first turns i b x c f

turn_is : (t : Turn) (i : ℕ) (tell : CellTell) → t.cell ≡ i → t.tell ≡ tell → t ≡ record { cell = i; ask = t.ask; tell = tell }
turn_is t i tell e k =
    ap (λ (j : ℕ). record { cell = j; ask = t.ask; tell = t.tell }) e ∙ ap (λ (u : CellTell). record { cell = i; ask = t.ask; tell = u }) k

-- the facts of each cell after one more turn
next_cell : (first : CellState) (t : Turn) (before : List Turn) (i : ℕ) → t.tell ≡ answer_of (cell_at first before t.cell) t.ask → IsCellOf first before i (cell_at first before i) → IsCellOf first (t ∷ before) i (cell_at first (t ∷ before) i)
next_cell first t before i h f = go (t.cell == i) refl
  where
    go : (s : Bool) → (t.cell == i) ≡ s → IsCellOf first (t ∷ before) i (cond s (next_of (cell_at first before i) t.ask) (cell_at first before i))
    go true e =
        let at = eqb-true t.cell i e in
        let says = h ∙ ap (λ k. answer_of (cell_at first before k) t.ask) at in
        subst (λ (u : Turn). IsCellOf first (u ∷ before) i (next_of (cell_at first before i) t.ask))
        (sym (turn_is t i (answer_of (cell_at first before i) t.ask) at says)) (own_turn first before i t.ask (cell_at first before i) f)
    go false e =
        quiet first t before i (cell_at first before i)
        (λ p k. eqb-false t.cell i e (ap (λ (u : Turn). u.cell) k)) (λ b p k. eqb-false t.cell i e (ap (λ (u : Turn). u.cell) k)) f

-- the facts of each promise after one more turn
new_promise : (first : CellState) (t : Turn) (before : List Turn) (i b : ℕ) (p : Stamped) → t.tell ≡ answer_of (cell_at first before t.cell) t.ask → IsCellOf first before i (cell_at first before i) → t ≡ promise_turn i b p → IsKept first (t ∷ before) i b p
new_promise first t before i b p h f e =
    let says : Promise p.ballot p.value ≡ answer_of (cell_at first before i) (Read b) = subst (λ (u : Turn). u.tell ≡ answer_of (cell_at first before u.cell) u.ask) e h in
    let parts = told_promise (cell_at first before i) b p.ballot p.value says in
    let held : IsHeldBy first before i p = rw (parts.1, parts.2) f.holds in
    record {
      below = omega (arith, parts.0, parts.1, f.within);
      rises = omega (arith, parts.1, f.rises);
      holds = IsHeldBy-later first t before i p held;
      closed = λ q k l. elim (Contains-cases t before (written_turn i q) k) [
        | inl d ↦ let m : Read b ≡ Write q.ballot q.value = sym (ap (λ (u : Turn). u.ask) e) ∙ ap (λ (u : Turn). u.ask) d in absurd (cc)
        | inr r ↦ omega (arith, f.took q r, parts.1)
      ];
    }

old_promise : (first : CellState) (t : Turn) (before : List Turn) (i b : ℕ) (p : Stamped) → t.tell ≡ answer_of (cell_at first before t.cell) t.ask → IsCellOf first before i (cell_at first before i) → Contains before (promise_turn i b p) → IsKept first before i b p → IsKept first (t ∷ before) i b p
old_promise first t before i b p h f r g = record {
  below = g.below;
  rises = g.rises;
  holds = IsHeldBy-later first t before i p g.holds;
  closed = λ q k l. elim (Contains-cases t before (written_turn i q) k) [
    | inl d ↦
        let says : Written q.ballot ≡ answer_of (cell_at first before i) (Write q.ballot q.value) = subst (λ (u : Turn). u.tell ≡ answer_of (cell_at first before u.cell) u.ask) d h in
        absurd (omega (arith, told_written (cell_at first before i) q.ballot q.value says, f.promised b p r, l))
    | inr s ↦ g.closed q s l
  ];
}

all_facts : (first : CellState) (turns : List Turn) → IsWithinPromise first → IsHistory first turns → Facts first turns
all_facts first [] o h = record {
  cells = λ i. record {
    within = o;
    rises = omega arith;
    holds = inl refl;
    took = λ p k. absurd (Contains-none k);
    promised = λ b p k. absurd (Contains-none k);
  };
  promises = λ i b p k. absurd (Contains-none k);
}
all_facts first (t ∷ before) o h =
    let rest = all_facts first before o h.1 in
    record {
      cells = λ i. next_cell first t before i h.0 (rest.cells i);
      promises = λ i b p k. elim (Contains-cases t before (promise_turn i b p) k) [
        | inl e ↦ new_promise first t before i b p h.0 (rest.cells i) e
        | inr r ↦ old_promise first t before i b p h.0 (rest.cells i) r (rest.promises i b p r)
      ];
    }

pub cells_hold_their_last : CellsHoldTheirLast
cells_hold_their_last first turns i o h = (all_facts first turns o h).cells i

pub promises_are_kept : PromisesAreKept
promises_are_kept first turns i b p o h k = (all_facts first turns o h).promises i b p k

pub each_list_is_a_history : EachListIsAHistory
each_list_is_a_history first [] = tt
each_list_is_a_history first (a ∷ before) = (refl, each_list_is_a_history first before)
