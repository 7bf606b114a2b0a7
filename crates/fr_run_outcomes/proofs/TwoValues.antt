-- No cell finds two values for one ballot.
use Rattle.std.proofs.Common.{◌≡◌, ℕ, Bool, true, false, cond, nat_lt, ◌==◌, not, List, [], ◌∷◌, Some, inl, inr, refl, sym, ◌∙◌, ap, subst}
use Rattle.std.proofs.lemmas.Bool.{and_parts, eqb-true}
use Rattle.std.proofs.lemmas.Slice.Eq.{bytes_eq-Decides}
use Rattle.fr_base.specs.Bytes.{bytes_eq}
use Rattle.fr_base.specs.declared.place.NodeId.{NodeId}
use Rattle.fr_base.specs.declared.place.NodeId.TheVariants as node
use Rattle.fr_register.specs.declared.ask.CellAsk.{CellAsk}
use Rattle.fr_register.specs.declared.ask.CellAsk.TheVariants.{Read, Write}
use Rattle.fr_register.specs.declared.ask.CellTell.TheVariants.{TwoValues, Written, Refused}
use Rattle.fr_register.specs.CellState.{CellState}
use Rattle.fr_register.specs.Cell.{answer_of, free_answer, is_second}
use Rattle.fr_register.specs.Chosen.{IsHeldBy}
use Rattle.fr_register.specs.Poll.{Stamped}
use Rattle.fr_state.specs.Spelling.{spelling}
use Rattle.fr_ask.specs.declared.ask.Ask.TheVariants as ask
use Rattle.fr_ask.specs.declared.tell.Tell.TheVariants as tell
use Rattle.fr_epoch.specs.Recoverer.{RecState, Plan}
use Rattle.fr_run.specs.Config.{Config, first_epoch, first_cell}
use Rattle.fr_run.specs.Turn.{Turn, Begun, CellTurn, LogTurn, SeqTurn, Submitted, ProxyHeard, RecHeard, StorageHeard, Gone, Crashed, Sent, TellsBy, cell_turns}
use Rattle.fr_run.specs.Nodes.{cell_at, rec_at}
use Rattle.fr_run.specs.Run.{IsTurn, IsRun}
use Rattle.fr_run.specs.Laws.{Laws}
use Rattle.fr_run.proofs.Accounts.{IsOfRecoverer, cell_ask_is_own}
use Rattle.fr_run.proofs.Cells.{cells_are_ordered, written_is_state}
use Rattle.fr_run.proofs.Growth.{rec_is}
use Rattle.fr_run_outcomes.specs.Lost.{NoCellHasTwoValues}

-- a cell that finds two values has written this ballot with another one
record HasOther (s : CellState) (b : ℕ) (x : List ℕ) : Type 0 where
  ballot : s.written ≡ b
  other : s.value ≡ x → ⊥

finds_two : (s : CellState) (b : ℕ) (x : List ℕ) → TwoValues ≡ answer_of s (Write b x) → HasOther s b x
finds_two s b x e = go (nat_lt b s.promised) e
  where
    freely : (t : Bool) → is_second s b x ≡ t → TwoValues ≡ cond t TwoValues (Written b) → HasOther s b x
    freely true k m =
        let parts = and_parts (s.written == b) (not (bytes_eq s.value x)) k in
        record {
          ballot = eqb-true s.written b parts.0;
          other = λ same. (let eq : bytes_eq s.value x ≡ true = (bytes_eq-Decides s.value x).1 same in let d : false ≡ true = ap not (sym eq) ∙ parts.1 in absurd (cc));
        }
    freely false k m = absurd (cc)

    go : (t : Bool) → TwoValues ≡ cond t (Refused s.promised) (free_answer s (Write b x)) → HasOther s b x
    go true k = absurd (cc)
    go false k = freely (is_second s b x) refl k

reads_no_two : (s : CellState) (b : ℕ) → TwoValues ≡ answer_of s (Read b) → ⊥
reads_no_two s b e = go (nat_lt b s.promised) e
  where
    go : (t : Bool) → TwoValues ≡ cond t (Refused s.promised) (free_answer s (Read b)) → ⊥
    go true k = absurd (cc)
    go false k = absurd (cc)

-- a cell that holds a pair of a ballot, and is asked to write this ballot's state, has that value
same_value : Laws → (c : Config) (h : List Turn) → IsRun c h → (from to : NodeId) (i b : ℕ) (x v : List ℕ) → Sent h from to (ask.Cell (Write b x)) → IsHeldBy (first_cell c) (cell_turns h) i (record { ballot = b; value = v }) → v ≡ x
same_value laws c h run from to i b x v sent held = go held
  where
    own : IsOfRecoverer c h from (Write b x)
    own = cell_ask_is_own laws c h run from to (Write b x) sent

    ballot : b ≡ own.recoverer.ballot
    ballot = own.accounts.0

    go : IsHeldBy (first_cell c) (cell_turns h) i (record { ballot = b; value = v }) → v ≡ x
    go (inl start) =
        let first : b ≡ first_epoch = ap (λ (s : Stamped). s.ballot) start in
        absurd ((rec_is laws c h run own.recoverer.ballot own.recoverer own.at).other (sym ballot ∙ first))
    go (inr w) =
        let k = written_is_state laws c h run (record { ballot = b; value = v }) (record { cell = i; tell = _; comes = w }) in
        let two : Some k.recoverer ≡ Some own.recoverer = sym k.at ∙ ap (rec_at c h) ballot ∙ own.at in
        let same : k.recoverer ≡ own.recoverer = cc in
        let plans : Some k.plan ≡ Some own.accounts.2.0 = sym k.planned ∙ ap (λ (r : RecState). r.plan) same ∙ own.accounts.2.1 in
        let plan : k.plan ≡ own.accounts.2.0 = cc in
        k.value ∙ ap (λ (p : Plan). spelling p.state) plan ∙ sym own.accounts.2.2

asked : Laws → (c : Config) (h : List Turn) → IsRun c h → (from : NodeId) (i : ℕ) (a : CellAsk) → Sent h from (node.Cell i) (ask.Cell a) → TwoValues ≡ answer_of (cell_at c h i) a → ⊥
asked laws c h run from i (Read b) sent says = reads_no_two (cell_at c h i) b says
asked laws c h run from i (Write b x) sent says =
    let s = cell_at c h i in
    let k = finds_two s b x says in
    let held = (cells_are_ordered laws c h run i).holds in
    k.other (same_value laws c h run from (node.Cell i) i b x s.value sent (subst (λ w. IsHeldBy (first_cell c) (cell_turns h) i (record { ballot = w; value = s.value })) k.ballot held))

pub no_cell_has_two_values : Laws → NoCellHasTwoValues
no_cell_has_two_values laws c [] run i to k = absurd k
no_cell_has_two_values laws c (t ∷ h) run i to (inr k) = no_cell_has_two_values laws c h run.1 i to k
no_cell_has_two_values laws c (t ∷ h) run i to (inl k) = now t run.0 k
  where
    now : (t : Turn) → IsTurn c h t → TellsBy t (node.Cell i) to (tell.Cell TwoValues) → ⊥
    now (Begun b shape asks) is k = absurd k
    now (CellTurn from j a u) is (at, own, says) =
        let d : u ≡ TwoValues = cc in
        asked laws c h run.1 from j a is.1 (sym d ∙ is.2)
    now (LogTurn from e j a u) is (at, own, says) = let d : node.Log e j ≡ node.Cell i = at in absurd (cc)
    now (SeqTurn from e a u) is (at, own, says) = let d : node.Sequencer e ≡ node.Cell i = at in absurd (cc)
    now (Submitted e p step batch asks) is k = absurd k
    now (ProxyHeard e p from u outcome asks) is k = absurd k
    now (RecHeard b from u asks) is k = absurd k
    now (StorageHeard tag from u taken fault) is k = absurd k
    now (Gone who) is k = absurd k
    now (Crashed who) is k = absurd k
