-- How a cell answers and changes, and what grows over a history.
use Rattle.std.proofs.Common.{◌≡◌, ℕ, ◌≤◌, Bool, true, false, cond, nat_lt, ◌==◌, ◌&&◌, not, List, [], ◌∷◌, ◌++◌, refl, sym, ap, subst, inl, inr, arith}
use Rattle.std.proofs.lemmas.Bool.{eqb-true, eq-eqb, ltb-true, ltb-false, and_parts, not-true, not-false}
use Rattle.std.proofs.lemmas.Slice.Eq.{bytes_eq-Decides}
use Rattle.fr_base.specs.Bytes.{bytes_eq}
use Rattle.fr_base.proofs.ListLemmas.{Contains-none, Contains-cases}
use Rattle.fr_register.specs.CellState.{CellState}
use Rattle.fr_register.specs.Cell.{next_of, is_second, IsWithinPromise}
use Rattle.fr_register.specs.CellLaws.{repeats}
use Rattle.fr_register.specs.Heard.{is_refusal}
use Rattle.fr_register.specs.History.{Turn, cell_at}
use Rattle.fr_register.specs.Answers.{Change, Promises, Takes, Refuses, Differs, IsPromised, IsTaken, IsRefused, IsSecond, Grows, IsAnswered}
use Rattle.fr_register.specs.Law.{PromiseAnswersRead, WrittenAnswersWrite, RefusedIsBelow, TwoValuesAnswersSecond, AskIsChange, RefusalChangesNothing, CellGrows, CellsGrow, TurnsAreAnswered}
use Rattle.fr_register.specs.declared.ask.CellAsk.{CellAsk}
use Rattle.fr_register.specs.declared.ask.CellAsk.TheVariants.{Read, Write}
use Rattle.fr_register.specs.declared.ask.CellTell.{CellTell}
use Rattle.fr_register.specs.declared.ask.CellTell.TheVariants.{Promise, Written, Refused, TwoValues}

-- ---- one ask

other_value : (x y : List ℕ) → not (bytes_eq x y) ≡ true → x ≡ y → ⊥
other_value x y h e = let k = not-true (bytes_eq x y) h in let d = (bytes_eq-Decides x y).1 e in absurd (cc)

one_value : (c : CellState) (b : ℕ) (x : List ℕ) → is_second c b x ≡ false → c.written ≡ b → c.value ≡ x
one_value c b x h e =
    let k : (true && not (bytes_eq c.value x)) ≡ false = subst (λ t. (t && not (bytes_eq c.value x)) ≡ false) (eq-eqb c.written b e) h in
    (bytes_eq-Decides c.value x).0 (not-false (bytes_eq c.value x) k)

pub ask_is_change : AskIsChange
ask_is_change c (Read b) = go (nat_lt b c.promised) refl
  where
    go : (s : Bool) → nat_lt b c.promised ≡ s → Change c (Read b) (cond s (Refused c.promised) (Promise c.written c.value)) (cond s c (record { promised = b; written = c.written; value = c.value }))
    go true e = Refuses (Read b) (ltb-true b c.promised e)
    go false e = Promises b (ltb-false b c.promised e)
ask_is_change c (Write b x) = go (nat_lt b c.promised) refl
  where
    freely : (s : Bool) → c.promised ≤ b → is_second c b x ≡ s → Change c (Write b x) (cond s TwoValues (Written b)) (cond s c (record { promised = b; written = b; value = x }))
    freely true free k =
        let p = and_parts (c.written == b) (not (bytes_eq c.value x)) k in
        Differs b x free (eqb-true c.written b p.0) (other_value c.value x p.1)
    freely false free k = Takes b x free (one_value c b x k)

    go : (s : Bool) → nat_lt b c.promised ≡ s → Change c (Write b x) (cond s (Refused c.promised) (cond (is_second c b x) TwoValues (Written b))) (cond s c (cond (is_second c b x) c (record { promised = b; written = b; value = x })))
    go true e = Refuses (Write b x) (ltb-true b c.promised e)
    go false e = freely (is_second c b x) (ltb-false b c.promised e) refl

promised : (c : CellState) (a : CellAsk) (t : CellTell) (n : CellState) → Change c a t n → (w : ℕ) (v : List ℕ) → t ≡ Promise w v → IsPromised c a w v
promised c a t n (Promises b free) w v e = record { ballot = b; ask = refl; free = free; written = cc; value = cc }
promised c a t n (Takes b x free one) w v e = absurd (cc)
promised c a t n (Refuses d below) w v e = absurd (cc)
promised c a t n (Differs b x free same other) w v e = absurd (cc)

pub promise_answers_read : PromiseAnswersRead
promise_answers_read c a w v e = promised c a _ _ (ask_is_change c a) w v e

taken : (c : CellState) (a : CellAsk) (t : CellTell) (n : CellState) → Change c a t n → (b : ℕ) → t ≡ Written b → IsTaken c a b
taken c a t n (Promises d free) b e = absurd (cc)
taken c a t n (Takes d x free one) b e =
    let k : d ≡ b = cc in
    subst (λ i. IsTaken c (Write d x) i) k (record { value = x; ask = refl; free = free; one_value = one })
taken c a t n (Refuses d below) b e = absurd (cc)
taken c a t n (Differs d x free same other) b e = absurd (cc)

pub written_answers_write : WrittenAnswersWrite
written_answers_write c a b e = taken c a _ _ (ask_is_change c a) b e

refused : (c : CellState) (a : CellAsk) (t : CellTell) (n : CellState) → Change c a t n → (p : ℕ) → t ≡ Refused p → IsRefused c a p
refused c a t n (Promises b free) p e = absurd (cc)
refused c a t n (Takes b x free one) p e = absurd (cc)
refused c a t n (Refuses d below) p e = let k : p ≡ c.promised = cc in record { names = k; above = omega (arith, k, below) }
refused c a t n (Differs b x free same other) p e = absurd (cc)

pub refused_is_below : RefusedIsBelow
refused_is_below c a p e = refused c a _ _ (ask_is_change c a) p e

second : (c : CellState) (a : CellAsk) (t : CellTell) (n : CellState) → Change c a t n → t ≡ TwoValues → IsSecond c a
second c a t n (Promises b free) e = absurd (cc)
second c a t n (Takes b x free one) e = absurd (cc)
second c a t n (Refuses d below) e = absurd (cc)
second c a t n (Differs b x free same other) e = record { value = x; ask = ap (λ i. Write i x) (sym same); other = other }

pub two_values_answers_second : TwoValuesAnswersSecond
two_values_answers_second c a e = second c a _ _ (ask_is_change c a) e

stays : (c : CellState) (a : CellAsk) (t : CellTell) (n : CellState) → Change c a t n → is_refusal t ≡ true → n ≡ c
stays c a t n (Promises b free) e = absurd (cc)
stays c a t n (Takes b x free one) e = absurd (cc)
stays c a t n (Refuses d below) e = refl
stays c a t n (Differs b x free same other) e = refl

pub refusal_changes_nothing : RefusalChangesNothing
refusal_changes_nothing c a e = stays c a _ _ (ask_is_change c a) e

-- ---- growth

itself : (c : CellState) → Grows c c
itself c = record { promised = omega arith; written = omega arith; value = λ e. refl }

grown : (c : CellState) (a : CellAsk) (t : CellTell) (n : CellState) → IsWithinPromise c → Change c a t n → Grows c n
grown c a t n h (Promises b free) = record { promised = free; written = omega arith; value = λ e. refl }
grown c a t n h (Takes b x free one) = record { promised = free; written = omega (arith, h, free); value = one }
grown c a t n h (Refuses d below) = itself c
grown c a t n h (Differs b x free same other) = itself c

pub cell_grows : CellGrows
cell_grows c a h = grown c a _ _ h (ask_is_change c a)

on : (c m n : CellState) → Grows c m → Grows m n → Grows c n
on c m n f g = record {
  promised = omega (arith, f.promised, g.promised);
  written = omega (arith, f.written, g.written);
  value = λ e.
      (let one : c.written ≡ m.written = omega (arith, f.written, g.written, e) in
      let two : m.written ≡ n.written = omega (arith, f.written, g.written, e) in
      let v = f.value one in
      let w = g.value two in
      cc);
}

within_next : (b : Bool) (c : CellState) (a : CellAsk) → IsWithinPromise c → IsWithinPromise (cond b (next_of c a) c)
within_next true c a h = (repeats c a h).within
within_next false c a h = h

within_at : (first : CellState) (turns : List Turn) (i : ℕ) → IsWithinPromise first → IsWithinPromise (cell_at first turns i)
within_at first [] i h = h
within_at first (t ∷ before) i h = within_next (t.cell == i) (cell_at first before i) t.ask (within_at first before i h)

pub cells_grow : CellsGrow
cells_grow first [] before i h = itself (cell_at first before i)
cells_grow first (t ∷ later) before i h = on _ _ _ (cells_grow first later before i h) (go (t.cell == i))
  where
    go : (s : Bool) → Grows (cell_at first (later ++ before) i) (cond s (next_of (cell_at first (later ++ before) i) t.ask) (cell_at first (later ++ before) i))
    go true = cell_grows (cell_at first (later ++ before) i) t.ask (within_at first (later ++ before) i h)
    go false = itself (cell_at first (later ++ before) i)

pub turns_are_answered : TurnsAreAnswered
turns_are_answered first [] t o h k = absurd (Contains-none k)
turns_are_answered first (u ∷ before) t o h k = elim (Contains-cases u before t k) [
  | inl e ↦ subst (λ (w : Turn). IsAnswered first (u ∷ before) w) e (record {
    later = [];
    before = before;
    split = refl;
    history = h.1;
    within = within_at first before u.cell o;
    tell = h.0;
  })
  | inr r ↦
      let a = turns_are_answered first before t o h.1 r in
      record {
        later = u ∷ a.later;
        before = a.before;
        split = ap (λ l. u ∷ l) a.split;
        history = a.history;
        within = a.within;
        tell = a.tell;
      }
]
