-- The cells of a run: their history, what they hold, and what their promises are worth.
use Rattle.std.proofs.Common.{◌≡◌, ℕ, Bool, true, false, cond, nat_lt, ◌==◌, ◌&&◌, not, List, [], ◌∷◌, Some, inl, inr, ◌⊎◌, refl, sym, subst, arith}
use Rattle.std.specs.List.{Contains}
use Rattle.std.proofs.lemmas.Bool.{eqb-false, ltb-false}
use Rattle.std.proofs.lemmas.List.Elements.{Contains-append_left, Contains-append_right, Contains-append_cases, Contains-push, Contains-push_cases}
use Rattle.fr_base.specs.Bytes.{bytes_eq}
use Rattle.std.proofs.lemmas.Slice.Eq.{bytes_eq-Decides}
use Rattle.fr_base.specs.declared.place.NodeId.{NodeId}
use Rattle.fr_base.specs.declared.place.NodeId.TheVariants as node
use Rattle.fr_register.specs.declared.ask.CellAsk.{CellAsk}
use Rattle.fr_register.specs.declared.ask.CellAsk.TheVariants.{Read, Write}
use Rattle.fr_register.specs.declared.ask.CellTell.{CellTell}
use Rattle.fr_register.specs.declared.ask.CellTell.TheVariants.{Promise, Written, Refused, TwoValues}
use Rattle.fr_register.specs.CellState.{CellState}
use Rattle.fr_register.specs.Cell.{answer_of, next_of, free_answer, free_next, is_second, IsWithinPromise}
use Rattle.fr_register.specs.Poll.{Stamped}
use Rattle.fr_register.specs.History as register
use Rattle.fr_ask.specs.declared.ask.Ask.TheVariants as ask
use Rattle.fr_ask.specs.declared.tell.Tell.TheVariants as tell
use Rattle.fr_run.specs.Config.{Config, first_cell}
use Rattle.fr_run.specs.Turn.{Turn, Begun, CellTurn, LogTurn, SeqTurn, Submitted, ProxyHeard, RecHeard, StorageHeard, Gone, Crashed, Sent, TellsBy, Told, cell_turns}
use Rattle.fr_run.specs.Nodes.{cell_at, rec_at}
use Rattle.fr_run.specs.Run.{IsTurn, IsRun}
use Rattle.fr_run.specs.Laws.{Laws}
use Rattle.fr_run.specs.GrowthLaws.{CellGrows, CellsGrow}
use Rattle.fr_run.specs.CellLaws.{CellsHaveHistory, CellsAreOrdered, WrittenIsState, PromisesTell}
use Rattle.fr_run.proofs.Accounts.{cell_ask_is_own, reads_are_own}

-- ---- lists

pub Contains-here : {X : Type 0} (x : X) (xs : List X) → Contains (x ∷ xs) x
Contains-here x xs = Contains-append_left (x ∷ []) xs x (Contains-push [] x)

pub Contains-later : {X : Type 0} (y : X) (xs : List X) (x : X) → Contains xs x → Contains (y ∷ xs) x
Contains-later y xs x h = Contains-append_right (y ∷ []) xs x h

pub Contains-none : {X : Type 0} {x : X} → Contains [] x → ⊥
Contains-none h = omega (arith, h.1)

pub Contains-cases : {X : Type 0} (y : X) (xs : List X) (x : X) → Contains (y ∷ xs) x → (y ≡ x) ⊎ Contains xs x
Contains-cases y xs x h = elim (Contains-append_cases (y ∷ []) xs x h) [
  | inl one ↦ elim (Contains-push_cases [] y x one) [ inl nothing ↦ absurd (Contains-none nothing) | inr e ↦ inl e ]
  | inr rest ↦ inr rest
]

-- ---- one more turn

abbrev pub cell_did : ℕ → CellAsk → CellTell → register.Turn
cell_did i a t = record { cell = i; ask = a; tell = t }

-- the turns of the cells stand, or have one more
pub cells_by_turn : (c : Config) (h : List Turn) (t : Turn) → IsTurn c h t → (P : List register.Turn → Type 0) → P (cell_turns h)
    → ((from : NodeId) (i : ℕ) (a : CellAsk) (told : CellTell) → t ≡ CellTurn from i a told → IsTurn c h (CellTurn from i a told) → P (cell_did i a told ∷ cell_turns h)) → P (cell_turns (t ∷ h))
cells_by_turn c h (Begun b shape asks) is P same takes = same
cells_by_turn c h (CellTurn from i a told) is P same takes = takes from i a told refl is
cells_by_turn c h (LogTurn from e i a t) is P same takes = same
cells_by_turn c h (SeqTurn from e a t) is P same takes = same
cells_by_turn c h (Submitted e p step batch asks) is P same takes = same
cells_by_turn c h (ProxyHeard e p from t outcome asks) is P same takes = same
cells_by_turn c h (RecHeard b from t asks) is P same takes = same
cells_by_turn c h (StorageHeard tag from t taken fault) is P same takes = same
cells_by_turn c h (Gone who) is P same takes = same
cells_by_turn c h (Crashed who) is P same takes = same

-- what cells did stays
pub cell_turns_stay : (c : Config) (h : List Turn) (t : Turn) → IsTurn c h t → (u : register.Turn) → Contains (cell_turns h) u → Contains (cell_turns (t ∷ h)) u
cell_turns_stay c h t is u k = cells_by_turn c h t is (λ ts. Contains ts u) k (λ from i a told e own. Contains-later (cell_did i a told) (cell_turns h) u k)

-- ---- history and order

pub cells_have_history : CellsHaveHistory
cells_have_history c [] run = tt
cells_have_history c (t ∷ h) run = cells_by_turn c h t run.0 (register.IsHistory (first_cell c)) (cells_have_history c h run.1) (λ from i a told e own. (own.2, cells_have_history c h run.1))

pub first_within : (c : Config) → IsWithinPromise (first_cell c)
first_within c = omega arith

pub cells_are_ordered : Laws → CellsAreOrdered
cells_are_ordered laws c h run i = laws.cells_hold (first_cell c) (cell_turns h) i (first_within c) (cells_have_history c h run)

-- ---- growth

cell_itself : (s : CellState) → CellGrows s s
cell_itself s = record { promised = omega arith; written = omega arith; value = λ e. refl }

same_value : (b : Bool) → not b ≡ false → b ≡ true
same_value true e = refl
same_value false e = absurd (cc)

grows : (s : CellState) (a : CellAsk) → IsWithinPromise s → CellGrows s (next_of s a)
grows s (Read b) o = go (nat_lt b s.promised) refl
  where
    go : (x : Bool) → nat_lt b s.promised ≡ x → CellGrows s (cond x s (free_next s (Read b)))
    go true e = cell_itself s
    go false e = record { promised = ltb-false b s.promised e; written = omega arith; value = λ k. refl }
grows s (Write b x) o = go (nat_lt b s.promised) refl
  where
    pick : (w : Bool) → (s.written == b) ≡ w → (w && not (bytes_eq s.value x)) ≡ false → s.written ≡ b → s.value ≡ x
    pick true e k at = (bytes_eq-Decides s.value x).0 (same_value (bytes_eq s.value x) k)
    pick false e k at = absurd (eqb-false s.written b e at)

    freely : (t : Bool) → nat_lt b s.promised ≡ false → is_second s b x ≡ t → CellGrows s (cond t s (record { promised = b; written = b; value = x }))
    freely true e k = cell_itself s
    freely false e k = record { promised = ltb-false b s.promised e; written = omega (arith, o, ltb-false b s.promised e); value = λ at. pick (s.written == b) refl k at }

    go : (t : Bool) → nat_lt b s.promised ≡ t → CellGrows s (cond t s (free_next s (Write b x)))
    go true e = cell_itself s
    go false e = freely (is_second s b x) e refl

pub cells_grow : Laws → CellsGrow
cells_grow laws c h t run is i =
    cells_by_turn c h t is (λ ts. CellGrows (cell_at c h i) (register.cell_at (first_cell c) ts i)) (cell_itself (cell_at c h i)) (λ from j a told e own. go a (j == i))
  where
    go : (a : CellAsk) (x : Bool) → CellGrows (cell_at c h i) (cond x (next_of (cell_at c h i) a) (cell_at c h i))
    go a true = grows (cell_at c h i) a (cells_are_ordered laws c h run i).within
    go a false = cell_itself (cell_at c h i)

-- ---- what came to cells, and what they told

-- a turn of a cell: what was delivered was sent, and what was told was told to the sender
pub record CameFrom (h : List Turn) (u : register.Turn) : Type 0 where
  pub from : NodeId
  pub sent : Sent h from (node.Cell u.cell) (ask.Cell u.ask)

pub came_from : (c : Config) (h : List Turn) → IsRun c h → (u : register.Turn) → Contains (cell_turns h) u → CameFrom h u
came_from c [] run u k = absurd (Contains-none k)
came_from c (t ∷ h) run u k =
    cells_by_turn c h t run.0 (λ ts. Contains ts u → CameFrom (t ∷ h) u) (λ l. later (came_from c h run.1 u l)) (λ from i a told e own l. elim (Contains-cases (cell_did i a told) (cell_turns h) u l) [
      | inl d ↦ subst (CameFrom (t ∷ h)) d (record { from = from; sent = inr own.1 })
      | inr m ↦ later (came_from c h run.1 u m)
    ]) k
  where
    later : CameFrom h u → CameFrom (t ∷ h) u
    later f = record { from = f.from; sent = inr f.sent }

-- each pair that came to a cell is its ballot's state
pub written_is_state : Laws → WrittenIsState
written_is_state laws c h run p w =
    let came = came_from c h run (cell_did w.cell (Write p.ballot p.value) w.tell) w.comes in
    let own = cell_ask_is_own laws c h run came.from (node.Cell w.cell) (Write p.ballot p.value) came.sent in
    let k = own.accounts in
    record {
      recoverer = own.recoverer;
      plan = k.2.0;
      at = subst (λ b. rec_at c h b ≡ Some own.recoverer) (sym k.0) own.at;
      written = k.1;
      planned = k.2.1;
      value = k.2.2;
    }

-- a tell of a cell is that of one of its turns, at an ask of the one that was told
pub record IsTellOf (h : List Turn) (i : ℕ) (to : NodeId) (told : CellTell) : Type 0 where
  pub asked : CellAsk
  pub turn : Contains (cell_turns h) (cell_did i asked told)
  pub sent : Sent h to (node.Cell i) (ask.Cell asked)

pub told_by_cell : (c : Config) (h : List Turn) → IsRun c h → (i : ℕ) (to : NodeId) (told : CellTell) → Told h (node.Cell i) to (tell.Cell told) → IsTellOf h i to told
told_by_cell c [] run i to told k = absurd k
told_by_cell c (t ∷ h) run i to told (inr k) =
    let r = told_by_cell c h run.1 i to told k in
    record { asked = r.asked; turn = cell_turns_stay c h t run.0 (cell_did i r.asked told) r.turn; sent = inr r.sent }
told_by_cell c (t ∷ h) run i to told (inl k) = now t run.0 k
  where
    now : (t : Turn) → IsTurn c h t → TellsBy t (node.Cell i) to (tell.Cell told) → IsTellOf (t ∷ h) i to told
    now (Begun b shape asks) is k = absurd k
    now (CellTurn from j a u) is (at, own, says) =
        let e : j ≡ i = cc in
        let d : u ≡ told = cc in
        subst (λ x. IsTellOf (CellTurn from j a u ∷ h) x to told) e (subst (λ x. IsTellOf (CellTurn from j a u ∷ h) j to x) d (subst (λ x. IsTellOf (CellTurn from j a u ∷ h) j x u) own
        (record { asked = a; turn = Contains-here (cell_did j a u) (cell_turns h); sent = inr is.1 })))
    now (LogTurn from e j a u) is (at, own, says) = let d : node.Log e j ≡ node.Cell i = at in absurd (cc)
    now (SeqTurn from e a u) is (at, own, says) = let d : node.Sequencer e ≡ node.Cell i = at in absurd (cc)
    now (Submitted e p step batch asks) is k = absurd k
    now (ProxyHeard e p from u outcome asks) is k = absurd k
    now (RecHeard b from u asks) is k = absurd k
    now (StorageHeard tag from u taken fault) is k = absurd k
    now (Gone who) is k = absurd k
    now (Crashed who) is k = absurd k

-- the tell of each turn of a history is the answer of some state to its ask
pub record IsAnswered (u : register.Turn) : Type 0 where
  pub state : CellState
  pub answer : u.tell ≡ answer_of state u.ask

pub answered : (first : CellState) (ts : List register.Turn) → register.IsHistory first ts → (u : register.Turn) → Contains ts u → IsAnswered u
answered first [] k u l = absurd (Contains-none l)
answered first (t ∷ ts) k u l = elim (Contains-cases t ts u l) [
  | inl e ↦ subst IsAnswered e (record { state = register.cell_at first ts t.cell; answer = k.0 })
  | inr m ↦ answered first ts k.1 u m
]

-- no write is answered by a promise
no_promise : (s : CellState) (b : ℕ) (x : List ℕ) (w : ℕ) (v : List ℕ) → Promise w v ≡ answer_of s (Write b x) → ⊥
no_promise s b x w v e = go (nat_lt b s.promised) e
  where
    freely : (t : Bool) → Promise w v ≡ cond t TwoValues (Written b) → ⊥
    freely true k = absurd (cc)
    freely false k = absurd (cc)

    go : (t : Bool) → Promise w v ≡ cond t (Refused s.promised) (free_answer s (Write b x)) → ⊥
    go true k = absurd (cc)
    go false k = freely (is_second s b x) k

-- a promise that was told to a recoverer is a promise of its ballot
pub promise_is_turn : Laws → (c : Config) (h : List Turn) → IsRun c h → (i b : ℕ) (p : Stamped) → Told h (node.Cell i) (node.Recoverer b) (tell.Cell (Promise p.ballot p.value))
    → Contains (cell_turns h) (register.promise_turn i b p)
promise_is_turn laws c h run i b p told =
    let k = told_by_cell c h run i (node.Recoverer b) (Promise p.ballot p.value) told in
    go k.asked k.turn k.sent
  where
    go : (a : CellAsk) → Contains (cell_turns h) (cell_did i a (Promise p.ballot p.value)) → Sent h (node.Recoverer b) (node.Cell i) (ask.Cell a) → Contains (cell_turns h) (register.promise_turn i b p)
    go (Read d) turn sent =
        let e = reads_are_own laws c h run (node.Recoverer b) (node.Cell i) d sent in
        let k : b ≡ d = cc in
        subst (λ x. Contains (cell_turns h) (cell_did i (Read x) (Promise p.ballot p.value))) (sym k) turn
    go (Write d x) turn sent =
        let a = answered (first_cell c) (cell_turns h) (cells_have_history c h run) (cell_did i (Write d x) (Promise p.ballot p.value)) turn in
        absurd (no_promise a.state d x p.ballot p.value a.answer)

pub promises_tell : Laws → PromisesTell
promises_tell laws c h run i b p told =
    laws.promises_kept (first_cell c) (cell_turns h) i b p (first_within c) (cells_have_history c h run) (promise_is_turn laws c h run i b p told)
