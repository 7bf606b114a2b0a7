-- A recoverer that begins above what a majority of the cells promised finds its parent, if they are asked.
use Rattle.std.proofs.Common.{◌≡◌, ℕ, zero, suc, ◌*◌, ◌<◌, ◌≤◌, Bool, true, false, cond, not, nat_lt, nat_eq, ◌==◌, ◌&&◌, ◌||◌, filter, List, [], ◌∷◌, ◌++◌, length, length-append, append_assoc, Option, None, Some, inl, inr, ◌⊎◌, refl, sym, ◌∙◌, ap, subst, arith}
use Rattle.std.specs.Prelude.{is_some, Result, Ok, Err}
use Rattle.std.specs.List.{Contains, All, AllByRecursion, IsDistinct, list_any, range_with_len}
use Rattle.std.proofs.lemmas.Bool.{eq-eqb, eqb-true, ltb-true, ltb-false, lt-ltb, le-ltb, true≢false}
use Rattle.std.proofs.lemmas.List.Elements.{All-nil, All-cons, All-head, All-tail, All-weaker}
use Rattle.std.proofs.lemmas.Map.Keys.{IsDistinct-head, IsDistinct-tail}
use Rattle.fr_base.specs.Shape.{ShapeContent}
use Rattle.fr_base.specs.declared.place.NodeId.{NodeId}
use Rattle.fr_base.specs.declared.place.NodeId.TheVariants as node
use Rattle.fr_register.specs.Cell as register
use Rattle.fr_register.specs.CellState.{CellState}
use Rattle.fr_register.specs.declared.ask.CellAsk.TheVariants.{Read}
use Rattle.fr_register.specs.declared.ask.CellTell.{CellTell}
use Rattle.fr_register.specs.declared.ask.CellTell.TheVariants.{Promise, Refused}
use Rattle.fr_register.specs.Poll.{Stamped, Poll, ReadState}
use Rattle.fr_register.specs.Tally.{is_majority, progress_from, progress_of, is_refusal_of, is_heard, is_wanted, with_heard, hear_read, take_read, greater_of}
use Rattle.fr_register.specs.declared.poll.Progress.TheVariants as poll
use Rattle.fr_state.specs.Generations.{LogGeneration, CoordinatedState, last_of}
use Rattle.fr_state.specs.Reading.{reading}
use Rattle.fr_state.specs.declared.fault.StateDecodeFault.{StateDecodeFault}
use Rattle.fr_ask.specs.declared.ask.Ask.TheVariants as ask
use Rattle.fr_ask.specs.declared.tell.Tell.TheVariants as tell
use Rattle.fr_epoch.specs.Recoverer.{RecState, Parent, Reading, Locking, Lost, new_recoverer}
use Rattle.fr_epoch.specs.Words.{OfCell, heed_in}
use Rattle.fr_epoch.specs.Hear.{with_read, with_last, with_parent, after_reads, after_heed, after_hear}
use Rattle.fr_epoch.specs.Asks.{pending}
use Rattle.fr_epoch.specs.declared.why.LostWhy.TheVariants as why
use Rattle.fr_run.specs.Config.{Config}
use Rattle.fr_run.specs.Turn.{Turn, Begun, CellTurn, Gone, Sent}
use Rattle.fr_run.specs.Nodes.{cell_at, rec_at}
use Rattle.fr_run.specs.Run.{IsUp, IsRun}
use Rattle.fr_run.specs.StateLaws.{IsConfig}
use Rattle.fr_run.specs.Laws.{Laws}
use Rattle.fr_run.proofs.Cells.{Contains-cases}
use Rattle.fr_run_headline.specs.LogLaws.{tally}
use Rattle.fr_run_outcomes.specs.Lost.{LostOnlySo}
use Rattle.fr_run_outcomes.specs.Going.{IsOwn, GoesOn}
use Rattle.fr_run_outcomes.specs.Reading.{pair_at, ReadingEnds}
use Rattle.fr_run_outcomes.proofs.Going.{IsHeard, goes_further, cell_heard, rec_still_up, still_sent, never_gone}
use Rattle.fr_run_outcomes.proofs.Lists.{in_range, map_has}

-- ---- the start

all_left : (xs : List ℕ) → filter (λ i. not (is_refusal_of i None || list_any (λ j. j == i) [])) xs ≡ xs
all_left [] = refl
all_left (x ∷ xs) = ap (λ ys. x ∷ ys) (all_left xs)

-- it asks each cell
begins_asking : (b cells : ℕ) (begins : List (List ℕ)) (shape : Option ShapeContent) (i : ℕ) → i < cells → Contains (pending (new_recoverer b cells begins shape)) (node.Cell i, ask.Cell (Read b))
begins_asking b cells begins shape i l =
    map_has (λ j. (node.Cell j, ask.Cell (Read b))) (filter (λ j. not (is_refusal_of j None || list_any (λ k. k == j) [])) (range_with_len 0 cells)) i
    (subst (λ xs. Contains xs i) (sym (all_left (range_with_len 0 cells))) (in_range cells i l))

-- ---- the way

-- a cell had a pair
abbrev IsFoundIn : Config → List Turn → ℕ → Stamped → Type 0
IsFoundIn c from top s = s ≡ pair_at c from top

-- none of these cells had a greater one
abbrev AreBelow : Config → List Turn → ℕ → List ℕ → Type 0
AreBelow c from top who = All (λ i. (cell_at c from i).written ≤ (cell_at c from top).written) who

-- that cell is asked first, and then the others
abbrev IsOrder : Config → List Turn → ℕ → List ℕ → List ℕ → Type 0
IsOrder c from top [] [] = (top ≡ top)
IsOrder c from top [] (i ∷ who) = (i ≡ top) × AreBelow c from top who
IsOrder c from top (d ∷ done) who = AreBelow c from top who

-- so it is of one of them
abbrev IsNext : Config → List Turn → ℕ → List ℕ → ℕ → Type 0
IsNext c from top done i = ((done ≡ []) × (i ≡ top)) ⊎ ((1 ≤ length done) × ((cell_at c from i).written ≤ (cell_at c from top).written))

next_in : (c : Config) (from : List Turn) (top : ℕ) (done : List ℕ) (i : ℕ) (who : List ℕ) → IsOrder c from top done (i ∷ who) → IsNext c from top done i
next_in c from top [] i who k = inl (refl, k.0)
next_in c from top (d ∷ done) i who k = inr (omega arith, All-head (λ j. (cell_at c from j).written ≤ (cell_at c from top).written) i who k)

order_on : (c : Config) (from : List Turn) (top : ℕ) (done : List ℕ) (i : ℕ) (who : List ℕ) → IsOrder c from top done (i ∷ who) → IsOrder c from top (done ++ i ∷ []) who
order_on c from top [] i who k = k.1
order_on c from top (d ∷ done) i who k = All-tail (λ j. (cell_at c from j).written ≤ (cell_at c from top).written) i who k

-- a moment at which the recoverer reads, and has heard the promises of exactly these cells; the greatest pair of these is that of one cell
record IsReading (c : Config) (b : ℕ) (from : List Turn) (top : ℕ) (h : List Turn) (done : List ℕ) : Type 0 where
  run : IsRun c h
  recoverer : RecState
  at : rec_at c h b ≡ Some recoverer
  up : IsUp c h (node.Recoverer b)
  phase : recoverer.phase ≡ Reading
  heard : recoverer.reads.poll.heard ≡ done
  none : recoverer.reads.poll.refusal ≡ None
  cells : recoverer.reads.poll.cells ≡ c.cells
  asked : (i : ℕ) → i < c.cells → Sent h (node.Recoverer b) (node.Cell i) (ask.Cell (Read b))
  pairs : (j : ℕ) → pair_at c h j ≡ pair_at c from j
  found : 1 ≤ length done → IsFoundIn c from top recoverer.reads.greatest

abbrev pair_of : CellState → Stamped
pair_of s = record { ballot = s.written; value = s.value }

-- a cell that promised no more than a ballot promises it
promises : (s : CellState) (b : ℕ) → s.promised ≤ b → register.answer_of s (Read b) ≡ Promise s.written s.value
promises s b le = ap (λ x. cond x (Refused s.promised) (Promise s.written s.value)) (le-ltb b s.promised le)

still_low : (s : CellState) (b : ℕ) → s.promised ≤ b → (register.next_of s (Read b)).promised ≤ b
still_low s b le = go (nat_lt b s.promised)
  where
    go : (x : Bool) → (cond x s (record s { promised = b })).promised ≤ b
    go true = le
    go false = omega arith

-- what a poll without a refusal comes to
progress_none : (p : Poll) → p.refusal ≡ None → progress_of p ≡ cond (is_majority p) poll.Majority poll.Waiting
progress_none p none = ap (progress_from p) none

-- a promise of a cell that was not heard is heard
hears_promise : (t : ReadState) (i w : ℕ) (v : List ℕ) → is_wanted t.poll i ≡ true → hear_read t i (Promise w v) ≡ take_read t i (Promise w v)
hears_promise t i w v e = ap (λ x. cond x (take_read t i (Promise w v)) t) e

some_heard : (n : ℕ) → (n == 0) ≡ false → 1 ≤ n
some_heard zero e = absurd (true≢false e)
some_heard (suc n) e = omega arith

-- the greatest pair is the new one, if it is greater or the first, or the one before, and there is one before where one was heard
greatest_is : (t : ReadState) (w : ℕ) (v : List ℕ) (P : Stamped → Type 0) → ((1 ≤ length t.poll.heard → t.greatest.ballot < w) → P (record { ballot = w; value = v })) → (1 ≤ length t.poll.heard → P t.greatest) → P (greater_of t w v)
greatest_is t w v P new old = go (length t.poll.heard == 0) refl (nat_lt t.greatest.ballot w) refl
  where
    go : (x : Bool) → (length t.poll.heard == 0) ≡ x → (y : Bool) → nat_lt t.greatest.ballot w ≡ y → P (cond (x || y) (record { ballot = w; value = v }) t.greatest)
    go true e y f = new (λ some. absurd (let none = eqb-true (length t.poll.heard) 0 e in omega (arith, some, none)))
    go false e true f = new (λ some. ltb-true t.greatest.ballot w f)
    go false e false f = old (some_heard (length t.poll.heard) e)

-- a read leaves the pair of a cell
read_keeps : (s : CellState) (b : ℕ) → pair_of (register.next_of s (Read b)) ≡ pair_of s
read_keeps s b = go (nat_lt b s.promised)
  where
    go : (x : Bool) → pair_of (cond x s (record s { promised = b })) ≡ pair_of s
    go true = refl
    go false = refl

pair_later : (c : Config) (h : List Turn) (from : NodeId) (i b j : ℕ) (u : CellTell) → pair_at c (CellTurn from i (Read b) u ∷ h) j ≡ pair_at c h j
pair_later c h from i b j u = go (i == j)
  where
    go : (x : Bool) → pair_of (cond x (register.next_of (cell_at c h j) (Read b)) (cell_at c h j)) ≡ pair_of (cell_at c h j)
    go true = read_keeps (cell_at c h j) b
    go false = refl

wanted : (p : Poll) (n : ℕ) (done : List ℕ) (i : ℕ) → p.cells ≡ n → p.heard ≡ done → p.refusal ≡ None → i < n → list_any (λ j. j == i) done ≡ false → is_wanted p i ≡ true
wanted p n done i cells heard none l fresh =
    ap (λ x. nat_lt i x && not (is_heard p i)) cells
    ∙ ap (λ x. x && not (is_heard p i)) (lt-ltb i n l)
    ∙ ap (λ o. not (is_refusal_of i o || list_any (λ j. j == i) p.heard)) none
    ∙ ap (λ xs. not (list_any (λ j. j == i) xs)) heard
    ∙ ap not fresh

-- no recoverer is lost because what it read is no state
fine : LostOnlySo → (c : Config) (h : List Turn) → IsConfig c → IsRun c h → (b : ℕ) (r : RecState) → rec_at c h b ≡ Some r → r.phase ≡ Lost why.BadState → ⊥
fine only c h config run b r at is = elim (only c h config run b r why.BadState at is) [
  | inl k ↦ (let d : why.BadState ≡ why.Outballoted = k in absurd (cc))
  | inr more ↦ elim more [ inl k ↦ (let d : why.BadState ≡ why.TooMany = k in absurd (cc)) | inr k ↦ (let d : why.BadState ≡ why.Spent = k in absurd (cc)) ]
]

-- a majority that is read has a parent, or what was read is no state
abbrev HasParentNow : RecState → RecState → Type 0
HasParentNow r n = (n.phase ≡ Locking) × (n.reads ≡ r.reads) × ((p : Parent) × (n.parent ≡ Some p)) × ((tally n).replies ≡ [])

reads_parent : (r : RecState) (o : Result CoordinatedState StateDecodeFault) → HasParentNow r (with_parent r o) ⊎ ((with_parent r o).phase ≡ Lost why.BadState)
reads_parent r (Err fault) = inr refl
reads_parent r (Ok s) = last (last_of s.gens)
  where
    last : (g : Option LogGeneration) → HasParentNow r (with_last r s g) ⊎ ((with_last r s g).phase ≡ Lost why.BadState)
    last None = inr refl
    last (Some g) = inl (refl, refl, (record { state = s; last = g }, refl), refl)

-- what a recoverer that reads is once it heard a promise
promise_heard : (r : RecState) (i w : ℕ) (v : List ℕ) → r.phase ≡ Reading → r.reads.poll.refusal ≡ None → is_wanted r.reads.poll i ≡ true → (x : Bool) → is_majority (with_heard r.reads.poll i) ≡ x
    → after_hear r (node.Cell i) (tell.Cell (Promise w v)) ≡ after_reads (with_read r i (Promise w v)) (Promise w v) (cond x poll.Majority poll.Waiting)
promise_heard r i w v phase none new x e =
    ap (λ ph. after_heed r (heed_in ph r (OfCell i (Promise w v)))) phase
    ∙ ap (after_reads (with_read r i (Promise w v)) (Promise w v))
    (ap (λ (t : ReadState). progress_of t.poll) (hears_promise r.reads i w v new) ∙ progress_none (with_heard r.reads.poll i) none ∙ ap (λ y. cond y poll.Majority poll.Waiting) e)

-- it has found its parent in a cell of these, and has no reply yet
record LocksNow (c : Config) (from : List Turn) (top : ℕ) (n : RecState) : Type 0 where
  locking : n.phase ≡ Locking
  parent : Parent
  parent_is : n.parent ≡ Some parent
  none : (tally n).replies ≡ []
  found : IsFoundIn c from top n.reads.greatest

-- two turns: a cell promises, and the recoverer hears it
record HasHeard (c : Config) (b : ℕ) (from : List Turn) (top : ℕ) (h : List Turn) (done : List ℕ) (i : ℕ) : Type 0 where
  later : List Turn
  goes_on : GoesOn c b h later
  recoverer : RecState
  at : rec_at c later b ≡ Some recoverer
  up : IsUp c later (node.Recoverer b)
  next : LocksNow c from top recoverer ⊎ ((c.cells < 2 * length (done ++ i ∷ []) → ⊥) × IsReading c b from top later (done ++ i ∷ []))

one_more : Laws → LostOnlySo → (c : Config) → IsConfig c → (b : ℕ) (from : List Turn) (top : ℕ) (h : List Turn) (done : List ℕ) → IsReading c b from top h done → (i : ℕ) → IsNext c from top done i → i < c.cells → list_any (λ j. j == i) done ≡ false → (cell_at c h i).promised ≤ b
    → HasHeard c b from top h done i
one_more laws only c config b from top h done k i mine l fresh low = record {
  later = heard.later;
  goes_on = heard.goes_on;
  recoverer = after_hear k.recoverer (node.Cell i) (tell.Cell (Promise (cell_at c h i).written (cell_at c h i).value));
  at = heard.at;
  up = rec_still_up laws c b h heard.later heard.goes_on b k.up;
  next = go (is_majority (with_heard k.recoverer.reads.poll i)) refl;
}
  where
    heard : IsHeard c h b (CellTurn (node.Recoverer b) i (Read b) (Promise (cell_at c h i).written (cell_at c h i).value)) (after_hear k.recoverer (node.Cell i) (tell.Cell (Promise (cell_at c h i).written (cell_at c h i).value)))
    heard = subst (λ u. IsHeard c h b (CellTurn (node.Recoverer b) i (Read b) u) (after_hear k.recoverer (node.Cell i) (tell.Cell u))) (promises (cell_at c h i) b low)
        (cell_heard c h k.run b k.recoverer k.at k.up i (Read b) l (k.asked i l) (still_low (cell_at c h i) b))

    new : is_wanted k.recoverer.reads.poll i ≡ true
    new = wanted k.recoverer.reads.poll c.cells done i k.cells k.heard k.none l fresh

    taken : (with_read k.recoverer i (Promise (cell_at c h i).written (cell_at c h i).value)).reads ≡ take_read k.recoverer.reads i (Promise (cell_at c h i).written (cell_at c h i).value)
    taken = hears_promise k.recoverer.reads i (cell_at c h i).written (cell_at c h i).value new

    now : (x : Bool) → is_majority (with_heard k.recoverer.reads.poll i) ≡ x
        → after_hear k.recoverer (node.Cell i) (tell.Cell (Promise (cell_at c h i).written (cell_at c h i).value))
        ≡ after_reads (with_read k.recoverer i (Promise (cell_at c h i).written (cell_at c h i).value)) (Promise (cell_at c h i).written (cell_at c h i).value) (cond x poll.Majority poll.Waiting)
    now x e = promise_heard k.recoverer i (cell_at c h i).written (cell_at c h i).value k.phase k.none new x e

    newer : IsNext c from top done i → (1 ≤ length k.recoverer.reads.poll.heard → k.recoverer.reads.greatest.ballot < (cell_at c h i).written) → pair_at c h i ≡ pair_at c from top
    newer (inl (none, first)) above = k.pairs i ∙ ap (pair_at c from) first
    newer (inr (some, low)) above =
        let e = ap (λ (xs : List ℕ). length xs) k.heard in
        let more = above (omega (arith, some, e)) in
        let at = ap (λ (s : Stamped). s.ballot) (k.found some) in
        let mine = ap (λ (s : Stamped). s.ballot) (k.pairs i) in
        absurd (omega (arith, more, at, mine, low))

    found : IsFoundIn c from top (with_read k.recoverer i (Promise (cell_at c h i).written (cell_at c h i).value)).reads.greatest
    found = subst (λ (t : ReadState). IsFoundIn c from top t.greatest) (sym taken)
        (greatest_is k.recoverer.reads (cell_at c h i).written (cell_at c h i).value (IsFoundIn c from top) (newer mine) (λ some. k.found (let e = ap (λ (xs : List ℕ). length xs) k.heard in omega (arith, some, e))))

    go : (x : Bool) → is_majority (with_heard k.recoverer.reads.poll i) ≡ x
        → LocksNow c from top (after_hear k.recoverer (node.Cell i) (tell.Cell (Promise (cell_at c h i).written (cell_at c h i).value)))
        ⊎ ((c.cells < 2 * length (done ++ i ∷ []) → ⊥) × IsReading c b from top heard.later (done ++ i ∷ []))
    go true e = elim (reads_parent (with_read k.recoverer i (Promise (cell_at c h i).written (cell_at c h i).value)) (reading (with_read k.recoverer i (Promise (cell_at c h i).written (cell_at c h i).value)).reads.greatest.value)) [
      | inl locks ↦ inl (record {
        locking = ap (λ (y : RecState). y.phase) (now true e) ∙ locks.0;
        parent = locks.2.0;
        parent_is = ap (λ (y : RecState). y.parent) (now true e) ∙ locks.2.1;
        none = ap (λ (y : RecState). (tally y).replies) (now true e) ∙ locks.3;
        found = subst (λ (t : ReadState). IsFoundIn c from top t.greatest) (sym (ap (λ (y : RecState). y.reads) (now true e) ∙ locks.1)) found;
      })
      | inr bad ↦ absurd (fine only c heard.later config heard.goes_on.is_run b (after_hear k.recoverer (node.Cell i) (tell.Cell (Promise (cell_at c h i).written (cell_at c h i).value))) heard.at (ap (λ (y : RecState). y.phase) (now true e) ∙ bad))
    ]
    go false e = inr (
      (λ more. (
          let few = ltb-false k.recoverer.reads.poll.cells (2 * length (k.recoverer.reads.poll.heard ++ i ∷ [])) e in
          let cells = k.cells in
          let heard = ap (λ (xs : List ℕ). length (xs ++ i ∷ [])) k.heard in
          omega (arith, more, few, cells, heard))),
      record {
        run = heard.goes_on.is_run;
        recoverer = after_hear k.recoverer (node.Cell i) (tell.Cell (Promise (cell_at c h i).written (cell_at c h i).value));
        at = heard.at;
        up = rec_still_up laws c b h heard.later heard.goes_on b k.up;
        phase = ap (λ (y : RecState). y.phase) (now false e) ∙ k.phase;
        heard = ap (λ (y : RecState). y.reads.poll.heard) (now false e) ∙ ap (λ (t : ReadState). t.poll.heard) taken ∙ ap (λ (xs : List ℕ). xs ++ i ∷ []) k.heard;
        none = ap (λ (y : RecState). y.reads.poll.refusal) (now false e) ∙ ap (λ (t : ReadState). t.poll.refusal) taken ∙ k.none;
        cells = ap (λ (y : RecState). y.reads.poll.cells) (now false e) ∙ ap (λ (t : ReadState). t.poll.cells) taken ∙ k.cells;
        asked = λ j m. still_sent c b h heard.later heard.goes_on (node.Recoverer b) (node.Cell j) (ask.Cell (Read b)) (k.asked j m);
        pairs = λ j. ap pair_of (heard.cells j) ∙ pair_later c h (node.Recoverer b) i b j (Promise (cell_at c h i).written (cell_at c h i).value) ∙ k.pairs j;
        found = λ some. subst (λ (t : ReadState). IsFoundIn c from top t.greatest) (sym (ap (λ (y : RecState). y.reads) (now false e))) found;
      },
    )

-- ---- the end

record Comes (c : Config) (b : ℕ) (from : List Turn) (top : ℕ) (h : List Turn) : Type 0 where
  later : List Turn
  goes_on : GoesOn c b h later
  recoverer : RecState
  at : rec_at c later b ≡ Some recoverer
  up : IsUp c later (node.Recoverer b)
  locks : LocksNow c from top recoverer

-- numbers that none of those done is
abbrev AreFresh : List ℕ → List ℕ → Type 0
AreFresh done who = AllByRecursion (λ i. list_any (λ j. j == i) done ≡ false) who

fresh_more : (done who : List ℕ) (i : ℕ) → AreFresh done who → AllByRecursion (λ y. nat_eq i y ≡ false) who → AreFresh (done ++ i ∷ []) who
fresh_more done [] i k apart = tt
fresh_more done (x ∷ who) i (first, k) (other, apart) = (any_none done i x first other, fresh_more done who i k apart)
  where
    any_none : (done : List ℕ) (i x : ℕ) → list_any (λ j. j == x) done ≡ false → (i == x) ≡ false → list_any (λ j. j == x) (done ++ i ∷ []) ≡ false
    any_none [] i x e f = ap (λ b. b || false) f
    any_none (d ∷ done) i x e f = go (d == x) e (any_none done i x)
      where
        go : (b : Bool) → (b || list_any (λ j. j == x) done) ≡ false → (list_any (λ j. j == x) done ≡ false → (i == x) ≡ false → list_any (λ j. j == x) (done ++ i ∷ []) ≡ false) → (b || list_any (λ j. j == x) (done ++ i ∷ [])) ≡ false
        go true m rest = absurd (cc)
        go false m rest = rest m f

ends : Laws → LostOnlySo → (c : Config) → IsConfig c → (b : ℕ) (from : List Turn) (top : ℕ) (h0 h : List Turn) (done who : List ℕ) → GoesOn c b h0 h → IsReading c b from top h done → IsDistinct nat_eq who → AreFresh done who → All (λ i. i < c.cells) who → IsOrder c from top done who
    → All (λ i. (cell_at c h i).promised ≤ b) who → c.cells < 2 * length (done ++ who) → (c.cells < 2 * length done → ⊥)
    → Comes c b from top h0
ends laws only c config b from top h0 h done [] on k distinct fresh below inside low many few = absurd (few (let e = length-append done [] in omega (arith, many, e)))
ends laws only c config b from top h0 h done (i ∷ who) on k distinct (first, fresh) below inside low many few =
    go one.next (λ still next.
    ends laws only c config b from top h0 one.later (done ++ i ∷ []) who (goes_further c b h0 h one.later on one.goes_on) next (IsDistinct-tail nat_eq i who distinct) (fresh_more done who i fresh (IsDistinct-head nat_eq i who distinct)) (All-tail (λ j. j < c.cells) i who below)
    (order_on c from top done i who inside)
    (All-weaker (λ j. (cell_at c h j).promised ≤ b) (λ j. (cell_at c one.later j).promised ≤ b) one.goes_on.low who (All-tail (λ j. (cell_at c h j).promised ≤ b) i who low))
    (subst (λ xs. c.cells < 2 * length xs) (sym (append_assoc done (i ∷ []) who)) many) still)
  where
    one : HasHeard c b from top h done i
    one = one_more laws only c config b from top h done k i (next_in c from top done i who inside) (All-head (λ j. j < c.cells) i who below) first (All-head (λ j. (cell_at c h j).promised ≤ b) i who low)

    go : LocksNow c from top one.recoverer ⊎ ((c.cells < 2 * length (done ++ i ∷ []) → ⊥) × IsReading c b from top one.later (done ++ i ∷ []))
        → ((c.cells < 2 * length (done ++ i ∷ []) → ⊥) → IsReading c b from top one.later (done ++ i ∷ []) → Comes c b from top h0) → Comes c b from top h0
    go (inl locks) rest = record {
      later = one.later;
      goes_on = goes_further c b h0 h one.later on one.goes_on;
      recoverer = one.recoverer;
      at = one.at;
      up = one.up;
      locks = locks;
    }
    go (inr more) rest = rest more.0 more.1

none_done : (who : List ℕ) → AreFresh [] who
none_done [] = tt
none_done (i ∷ who) = (refl, none_done who)

pub reading_ends : Laws → LostOnlySo → ReadingEnds
reading_ends laws only c h config run b shape none may is_shape top who majority low below =
    let to = ends laws only c config b h top h (Begun b shape (pending (new_recoverer b c.cells c.begins shape)) ∷ h) [] (top ∷ who) going start majority.distinct (none_done (top ∷ who)) majority.below (refl, below) low majority.more (λ k. omega (arith, k)) in
    record { later = to.later; goes_on = to.goes_on; recoverer = to.recoverer; at = to.at; up = to.up; locking = to.locks.locking; parent = to.locks.parent; parent_is = to.locks.parent_is; none = to.locks.none; found = to.locks.found }
  where
    run_then : IsRun c (Begun b shape (pending (new_recoverer b c.cells c.begins shape)) ∷ h)
    run_then = ((none, may, is_shape, refl), run)

    going : GoesOn c b h (Begun b shape (pending (new_recoverer b c.cells c.begins shape)) ∷ h)
    going = record {
      more = Begun b shape (pending (new_recoverer b c.cells c.begins shape)) ∷ [];
      is = refl;
      is_run = run_then;
      own = All-cons (IsOwn b) (Begun b shape (pending (new_recoverer b c.cells c.begins shape))) [] refl (All-nil (IsOwn b));
      low = λ i le. le;
    }

    begun : rec_at c (Begun b shape (pending (new_recoverer b c.cells c.begins shape)) ∷ h) b ≡ Some (new_recoverer b c.cells c.begins shape)
    begun = ap (λ x. cond x (Some (new_recoverer b c.cells c.begins shape)) (rec_at c h b)) (eq-eqb b b refl)

    start : IsReading c b h top (Begun b shape (pending (new_recoverer b c.cells c.begins shape)) ∷ h) []
    start = record {
      run = run_then;
      recoverer = new_recoverer b c.cells c.begins shape;
      at = begun;
      up = record {
        there = ap is_some begun;
        up = λ k. elim (Contains-cases (Begun b shape (pending (new_recoverer b c.cells c.begins shape))) h (Gone (node.Recoverer b)) k) [ inl now ↦ absurd (cc) | inr before ↦ never_gone laws c h run b none before ];
      };
      phase = refl;
      heard = refl;
      none = refl;
      cells = refl;
      asked = λ i l. inl (refl, begins_asking b c.cells c.begins shape i l);
      pairs = λ j. refl;
      found = λ k. absurd (omega (arith, k));
    }
