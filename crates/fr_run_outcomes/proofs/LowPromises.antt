-- While no cell is asked for a greater ballot than one that each had promised no more than, none refuses that.
use Rattle.std.proofs.Common.{◌≡◌, ℕ, ◌<◌, ◌≤◌, Bool, true, false, cond, nat_lt, ◌==◌, List, [], ◌∷◌, ◌++◌, Option, None, Some, inl, inr, sym, ◌∙◌, ap, subst, arith}
use Rattle.std.specs.List.{All}
use Rattle.std.proofs.lemmas.Bool.{le-ltb}
use Rattle.std.proofs.lemmas.List.Elements.{All-head, All-tail}
use Rattle.fr_base.specs.Shape.{ShapeContent}
use Rattle.fr_base.specs.declared.place.NodeId.TheVariants as node
use Rattle.fr_register.specs.Cell.{ballot_of, is_second, answer_of, free_answer, next_of}
use Rattle.fr_register.specs.CellState.{CellState}
use Rattle.fr_register.specs.declared.ask.CellAsk.{CellAsk}
use Rattle.fr_register.specs.declared.ask.CellAsk.TheVariants.{Read, Write}
use Rattle.fr_register.specs.declared.ask.CellTell.{CellTell}
use Rattle.fr_register.specs.declared.ask.CellTell.TheVariants as ctell
use Rattle.fr_ask.specs.declared.ask.Ask.TheVariants as ask
use Rattle.fr_ask.specs.declared.tell.Tell.TheVariants as tell
use Rattle.fr_epoch.specs.Law.{AccountsForCell}
use Rattle.fr_epoch.specs.Recoverer.{RecState}
use Rattle.fr_run.specs.AskLaws.{SentIsAccounted}
use Rattle.fr_run.specs.Config.{Config}
use Rattle.fr_run.specs.Laws.{Laws}
use Rattle.fr_run.specs.Nodes.{cell_at, rec_at}
use Rattle.fr_run.specs.Run.{IsTurn, IsRun}
use Rattle.fr_run.specs.Turn.{Turn, Sending, Begun, CellTurn, LogTurn, SeqTurn, Submitted, ProxyHeard, RecHeard, StorageHeard, Gone, Crashed, Sent, TellsBy, Told}
use Rattle.fr_run.proofs.Growth.{rec_is}
use Rattle.fr_run_outcomes.specs.Uncontested.{AsksNoGreater}
use Rattle.fr_run_outcomes.proofs.Popped.{not_before}

-- ---- promises stay low

next_low : (s : CellState) (a : CellAsk) (b : ℕ) → ballot_of a ≤ b → s.promised ≤ b → (next_of s a).promised ≤ b
next_low s (Read x) b asked low = go (nat_lt x s.promised)
  where
    go : (t : Bool) → (cond t s (record s { promised = x })).promised ≤ b
    go true = low
    go false = asked
next_low s (Write x v) b asked low = go (nat_lt x s.promised) (is_second s x v)
  where
    go : (t u : Bool) → (cond t s (cond u s (record { promised = x; written = x; value = v }))).promised ≤ b
    go true u = low
    go false true = low
    go false false = asked

turn_low : (c : Config) (h : List Turn) (t : Turn) (b : ℕ) → AsksNoGreater b t → (i : ℕ) → (cell_at c h i).promised ≤ b → (cell_at c (t ∷ h) i).promised ≤ b
turn_low c h (Begun x shape asks) b low_asks i low = low
turn_low c h (CellTurn from j a u) b low_asks i low = go (j == i)
  where
    go : (x : Bool) → (cond x (next_of (cell_at c h i) a) (cell_at c h i)).promised ≤ b
    go true = next_low (cell_at c h i) a b low_asks low
    go false = low
turn_low c h (LogTurn from e j a u) b low_asks i low = low
turn_low c h (SeqTurn from e a u) b low_asks i low = low
turn_low c h (Submitted e p step batch asks) b low_asks i low = low
turn_low c h (ProxyHeard e p from u outcome asks) b low_asks i low = low
turn_low c h (RecHeard x from u asks) b low_asks i low = low
turn_low c h (StorageHeard tag from u taken fault) b low_asks i low = low
turn_low c h (Gone who) b low_asks i low = low
turn_low c h (Crashed who) b low_asks i low = low

pub low_all : (c : Config) (more h : List Turn) (b : ℕ) → All (AsksNoGreater b) more → (i : ℕ) → (cell_at c h i).promised ≤ b → (cell_at c (more ++ h) i).promised ≤ b
low_all c [] h b low_asks i low = low
low_all c (t ∷ more) h b low_asks i low = turn_low c (more ++ h) t b (All-head (AsksNoGreater b) t more low_asks) i (low_all c more h b (All-tail (AsksNoGreater b) t more low_asks) i low)

-- ---- no refusal

-- a cell that promised no more than an ask's ballot does not refuse it
not_refused : (s : CellState) (a : CellAsk) (p : ℕ) → s.promised ≤ ballot_of a → answer_of s a ≡ ctell.Refused p → ⊥
not_refused s a p low refused = free a (sym (ap (λ x. cond x (ctell.Refused s.promised) (free_answer s a)) (le-ltb (ballot_of a) s.promised low)) ∙ refused)
  where
    free : (a : CellAsk) → free_answer s a ≡ ctell.Refused p → ⊥
    free (Read x) e = (let d : ctell.Promise s.written s.value ≡ ctell.Refused p = e in absurd (cc))
    free (Write x v) e = go (is_second s x v) e
      where
        go : (t : Bool) → cond t ctell.TwoValues (ctell.Written x) ≡ ctell.Refused p → ⊥
        go true d = absurd (cc)
        go false d = absurd (cc)

-- a recoverer asks cells for its own ballot
own_ballot : Laws → SentIsAccounted → (c : Config) (h : List Turn) → IsRun c h → (b i : ℕ) (a : CellAsk) → Sent h (node.Recoverer b) (node.Cell i) (ask.Cell a) → ballot_of a ≡ b
own_ballot laws accounted c h run b i a sent = by a k.2
  where
    k : (r : RecState) × (rec_at c h b ≡ Some r) × AccountsForCell r a
    k = accounted c h run (node.Recoverer b) (node.Cell i) (ask.Cell a) sent

    by : (a : CellAsk) → AccountsForCell k.0 a → ballot_of a ≡ b
    by (Read x) own = own ∙ (rec_is laws c h run b k.0 k.1).ballot
    by (Write x v) own = own.0 ∙ (rec_is laws c h run b k.0 k.1).ballot

-- so none refuses a recoverer whose ballot no cell had promised more than
pub never_refused : Laws → SentIsAccounted → (c : Config) (more h : List Turn) → IsRun c (more ++ h) → (b : ℕ) → All (AsksNoGreater b) more → ((i : ℕ) → i < c.cells → (cell_at c h i).promised ≤ b)
    → ((i p : ℕ) → Told h (node.Cell i) (node.Recoverer b) (tell.Cell (ctell.Refused p)) → ⊥) → (i p : ℕ) → Told (more ++ h) (node.Cell i) (node.Recoverer b) (tell.Cell (ctell.Refused p)) → ⊥
never_refused laws accounted c [] h run b low_asks low never i p k = never i p k
never_refused laws accounted c (t ∷ more) h run b low_asks low never i p (inr k) = never_refused laws accounted c more h run.1 b (All-tail (AsksNoGreater b) t more low_asks) low never i p k
never_refused laws accounted c (t ∷ more) h run b low_asks low never i p (inl k) = now t run.0 k
  where
    all : (j : ℕ) → j < c.cells → (cell_at c (more ++ h) j).promised ≤ b
    all j inside = low_all c more h b (All-tail (AsksNoGreater b) t more low_asks) j (low j inside)

    at_cell : (j : ℕ) (a : CellAsk) (u : CellTell) → IsTurn c (more ++ h) (CellTurn (node.Recoverer b) j a u) → u ≡ ctell.Refused p → ⊥
    at_cell j a u is says =
        let own = own_ballot laws accounted c (more ++ h) run.1 b j a is.1 in
        let below = all j is.0 in
        not_refused (cell_at c (more ++ h) j) a p (omega (arith, own, below)) (sym is.2 ∙ says)

    now : (t : Turn) → IsTurn c (more ++ h) t → TellsBy t (node.Cell i) (node.Recoverer b) (tell.Cell (ctell.Refused p)) → ⊥
    now (Begun x shape asks) is k = k
    now (CellTurn from j a u) is (at, own, says) =
        let v : u ≡ ctell.Refused p = cc in
        at_cell j a u (subst (λ y. IsTurn c (more ++ h) (CellTurn y j a u)) own is) v
    now (LogTurn from e j a u) is (at, own, says) = (let d : node.Log e j ≡ node.Cell i = at in absurd (cc))
    now (SeqTurn from e a u) is (at, own, says) = (let d : node.Sequencer e ≡ node.Cell i = at in absurd (cc))
    now (Submitted e q step batch asks) is k = k
    now (ProxyHeard e q from u outcome asks) is k = k
    now (RecHeard x from u asks) is k = k
    now (StorageHeard tag from u taken fault) is k = k
    now (Gone who) is k = k
    now (Crashed who) is k = k

-- ---- nor before it began

run_before : (c : Config) (more h : List Turn) → IsRun c (more ++ h) → IsRun c h
run_before c [] h run = run
run_before c (t ∷ more) h run = run_before c more h run.1

-- a recoverer that has not begun was told nothing by a cell
told_none : Laws → SentIsAccounted → (c : Config) (h : List Turn) → IsRun c h → (b : ℕ) → rec_at c h b ≡ None → (i : ℕ) (u : CellTell) → Told h (node.Cell i) (node.Recoverer b) (tell.Cell u) → ⊥
told_none laws accounted c [] run b none i u k = k
told_none laws accounted c (t ∷ h) run b none i u (inr k) = told_none laws accounted c h run.1 b (not_before laws c t h run b none) i u k
told_none laws accounted c (t ∷ h) run b none i u (inl k) = now t run.0 k
  where
    asked : (j : ℕ) (a : CellAsk) → Sent h (node.Recoverer b) (node.Cell j) (ask.Cell a) → ⊥
    asked j a sent =
        let k = accounted c h run.1 (node.Recoverer b) (node.Cell j) (ask.Cell a) sent in
        let d : None ≡ Some k.0 = sym (not_before laws c t h run b none) ∙ k.1 in
        absurd (cc)

    now : (t : Turn) → IsTurn c h t → TellsBy t (node.Cell i) (node.Recoverer b) (tell.Cell u) → ⊥
    now (Begun x shape asks) is k = k
    now (CellTurn from j a v) is (at, own, says) = asked j a (subst (λ y. Sent h y (node.Cell j) (ask.Cell a)) own is.1)
    now (LogTurn from e j a v) is (at, own, says) = (let d : node.Log e j ≡ node.Cell i = at in absurd (cc))
    now (SeqTurn from e a v) is (at, own, says) = (let d : node.Sequencer e ≡ node.Cell i = at in absurd (cc))
    now (Submitted e q step batch asks) is k = k
    now (ProxyHeard e q from v outcome asks) is k = k
    now (RecHeard x from v asks) is k = k
    now (StorageHeard tag from v taken fault) is k = k
    now (Gone who) is k = k
    now (Crashed who) is k = k

-- no cell ever refused it
abbrev pub NoneRefused : List Turn → ℕ → Type 0
NoneRefused h b = (i p : ℕ) → Told h (node.Cell i) (node.Recoverer b) (tell.Cell (ctell.Refused p)) → ⊥

pub none_refused : Laws → SentIsAccounted → (c : Config) (h more : List Turn) (b : ℕ) (shape : Option ShapeContent) (asks : List Sending) → IsRun c (more ++ Begun b shape asks ∷ h) → ((i : ℕ) → i < c.cells → (cell_at c h i).promised ≤ b)
    → All (AsksNoGreater b) more → NoneRefused (more ++ Begun b shape asks ∷ h) b
none_refused laws accounted c h more b shape asks run low low_asks =
    let began = run_before c more (Begun b shape asks ∷ h) run in
    never_refused laws accounted c more (Begun b shape asks ∷ h) run b low_asks low (λ i p told. elim told [ inl now ↦ now | inr before ↦ told_none laws accounted c h began.1 b began.0.0 i (ctell.Refused p) before ])
