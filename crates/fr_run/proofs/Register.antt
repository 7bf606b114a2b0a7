-- What a recoverer reads is the greatest pair of its read majority, so that what is written after a choice descends from it.
use Rattle.std.proofs.Common.{◌≡◌, ℕ, ◌<◌, true, List, [], ◌∷◌, Option, None, Some, inl, inr, refl, sym, ◌∙◌, ap, subst, arith}
use Rattle.std.specs.List.{All, Contains}
use Rattle.std.specs.Prelude.{IfSome}
use Rattle.std.proofs.lemmas.List.Elements.{All-nil, All-cons, All-weaker}
use Rattle.fr_base.specs.declared.place.NodeId.{NodeId}
use Rattle.fr_base.specs.declared.place.NodeId.TheVariants as node
use Rattle.fr_register.specs.declared.ask.CellTell.{CellTell}
use Rattle.fr_register.specs.declared.poll.Progress.TheVariants.{Majority}
use Rattle.fr_register.specs.Poll.{Stamped, ReadState}
use Rattle.fr_register.specs.Tally.{hear_read, progress_of}
use Rattle.fr_register.specs.Heard.{Heard, read_tally}
use Rattle.fr_register.specs.History as register
use Rattle.fr_register.specs.Made.{IsToldToRead}
use Rattle.fr_register.specs.Chosen.{IsKept, IsHeldBy, IsReadByMajority, IsReady}
use Rattle.fr_state.specs.Reading.{reading}
use Rattle.fr_state.specs.Spelling.{spelling}
use Rattle.fr_ask.specs.declared.tell.Tell.{Tell}
use Rattle.fr_ask.specs.declared.tell.Tell.TheVariants as tell
use Rattle.fr_epoch.specs.Recoverer.{RecState, Parent, Plan, Reading, is_written_in, is_written}
use Rattle.fr_epoch.specs.Hear as rec
use Rattle.fr_epoch.specs.Hear.{with_last, with_read}
use Rattle.fr_epoch.specs.Words.{OfCell, word_of}
use Rattle.fr_epoch.specs.Change.{IsFound, Change, Stands, LosesReads, Reads, Finds, Locks, LosesLocks, Plans, Copies, Seeds, SeedsAll, Writes, LosesWrites, Chooses, Marks}
use Rattle.fr_epoch.specs.Law.{IsRecoverer}
use Rattle.fr_run.specs.Config.{Config, first_cell}
use Rattle.fr_run.specs.Turn.{Turn, Told, cell_turns}
use Rattle.fr_run.specs.Nodes.{rec_at}
use Rattle.fr_run.specs.Run.{IsTurn, IsRun}
use Rattle.fr_run.specs.Laws.{Laws}
use Rattle.fr_run.specs.CellLaws.{IsWriter}
use Rattle.fr_run.specs.ParentLaws.{greatest_in, parent_at, ParentIsGreatest, ParentIsRead, RunHasParents, ParentsDescend}
use Rattle.fr_run.proofs.ByTurn.{rec_by_turn}
use Rattle.fr_run.proofs.Growth.{rec_is}
use Rattle.fr_run.proofs.Cells.{cell_turns_stay, cells_have_history, first_within, promise_is_turn, written_is_state}

-- ---- words

-- a word of a cell is a tell that the cell gave
pub record IsCellWord (from : NodeId) (t : Tell) (i : ℕ) (told : CellTell) : Type 0 where
  pub sender : from ≡ node.Cell i
  pub said : t ≡ tell.Cell told

of_cell : (from : NodeId) (t : Tell) (i : ℕ) (told : CellTell) → word_of from t ≡ OfCell i told → IsCellWord from t i told
of_cell (node.Cell j) (tell.Cell u) i told e = let k : j ≡ i = cc in let d : u ≡ told = cc in record { sender = ap node.Cell k; said = ap tell.Cell d }
of_cell (node.Cell j) (tell.Log u) i told e = absurd (cc)
of_cell (node.Cell j) (tell.Seq u) i told e = absurd (cc)
of_cell (node.Log x j) (tell.Cell u) i told e = absurd (cc)
of_cell (node.Log x j) (tell.Log u) i told e = absurd (cc)
of_cell (node.Log x j) (tell.Seq u) i told e = absurd (cc)
of_cell (node.Sequencer x) t i told e = absurd (cc)
of_cell (node.Proxy x p) t i told e = absurd (cc)
of_cell (node.Recoverer b) t i told e = absurd (cc)
of_cell (node.Storage tag) t i told e = absurd (cc)

-- ---- what a recoverer heard while it read

-- its tally is that of tells of cells, of which each promise was told to its read
pub record HasRead (c : Config) (h : List Turn) (b : ℕ) (reads : ReadState) : Type 0 where
  pub heard : List Heard
  pub is : reads ≡ read_tally c.cells b heard
  pub told : All (IsToldToRead (cell_turns h) b) heard

has_read_later : (c : Config) (h : List Turn) (t : Turn) → IsTurn c h t → (b : ℕ) (reads : ReadState) → HasRead c h b reads → HasRead c (t ∷ h) b reads
has_read_later c h t is b reads k = record {
  heard = k.heard;
  is = k.is;
  told = All-weaker (IsToldToRead (cell_turns h) b) (IsToldToRead (cell_turns (t ∷ h)) b) (λ x f p e. cell_turns_stay c h t is (register.promise_turn x.cell b p) (f p e)) k.heard k.told;
}

pub reads_more : Laws → (c : Config) (h : List Turn) → IsRun c h → (b i : ℕ) (u : CellTell) (reads : ReadState) → Told h (node.Cell i) (node.Recoverer b) (tell.Cell u) → HasRead c h b reads
    → HasRead c h b (hear_read reads i u)
reads_more laws c h run b i u reads told k =
    let x : Heard = record { cell = i; tell = u } in
    record {
      heard = x ∷ k.heard;
      is = ap (λ r. hear_read r i u) k.is;
      told = All-cons (IsToldToRead (cell_turns h) b) x k.heard (λ p e. promise_is_turn laws c h run i b p (subst (λ y. Told h (node.Cell i) (node.Recoverer b) (tell.Cell y)) e told)) k.told;
    }

-- what a recoverer was told by a cell, as the word that it heard
pub cell_told : (h : List Turn) (b : ℕ) (from : NodeId) (t : Tell) (i : ℕ) (u : CellTell) → Told h from (node.Recoverer b) t → word_of from t ≡ OfCell i u → Told h (node.Cell i) (node.Recoverer b) (tell.Cell u)
cell_told h b from t i u told e =
    let k = of_cell from t i u e in
    subst (λ x. Told h (node.Cell i) (node.Recoverer b) x) k.said (subst (λ x. Told h x (node.Recoverer b) t) k.sender told)

-- ---- what a recoverer found

-- what is known of one: its tally, and of its parent that it is read from the greatest pair of a majority, of a lower ballot
pub record HasFound (c : Config) (h : List Turn) (b : ℕ) (r : RecState) : Type 0 where
  pub reads : HasRead c h b r.reads
  pub found : (p : Parent) → r.parent ≡ Some p → IsFound r p.state p.last
  pub below : (p : Parent) → r.parent ≡ Some p → r.reads.greatest.ballot < b

pub not_written : (plan : Option Plan) (seeded : List ℕ) → plan ≡ None → is_written_in plan seeded ≡ true → ⊥
not_written None seeded e c = absurd (cc)
not_written (Some p) seeded e c = absurd (cc)

-- while a recoverer reads, the greatest pair of its majority is of a lower ballot
reads_below : Laws → (c : Config) (h : List Turn) → IsRun c h → (b : ℕ) (r : RecState) → rec_at c h b ≡ Some r → r.phase ≡ Reading → (reads : ReadState) → HasRead c h b reads
    → progress_of reads.poll ≡ Majority → reads.greatest.ballot < b
reads_below laws c h run b r at ph reads k majority = go kept.holds
  where
    own : IsReadByMajority c.cells (cell_turns h) b (read_tally c.cells b k.heard).greatest
    own = laws.read_majority c.cells b (cell_turns h) k.heard k.told (subst (λ (s : ReadState). progress_of s.poll ≡ Majority) k.is majority)

    turn : Contains (cell_turns h) (register.promise_turn own.found.0 b reads.greatest)
    turn = subst (λ (s : ReadState). Contains (cell_turns h) (register.promise_turn own.found.0 b s.greatest)) (sym k.is) own.found.1

    kept : IsKept (first_cell c) (cell_turns h) own.found.0 b reads.greatest
    kept = laws.promises_kept (first_cell c) (cell_turns h) own.found.0 b reads.greatest (first_within c) (cells_have_history c h run) turn

    come_by : IsRecoverer r
    come_by = (rec_is laws c h run b r at).kept.come_by

    unwritten : is_written r ≡ true → ⊥
    unwritten w = not_written r.plan r.seeded (come_by.parentless (come_by.reading ph)) w

    own_write : reads.greatest.ballot ≡ b → Contains (cell_turns h) (register.written_turn own.found.0 reads.greatest) → ⊥
    own_write e w =
        let k = written_is_state laws c h run reads.greatest (record { cell = own.found.0; tell = _; comes = w }) in
        let same : Some k.recoverer ≡ Some r = sym k.at ∙ (ap (rec_at c h) e ∙ at) in
        let d : k.recoverer ≡ r = cc in
        unwritten (subst (λ x. is_written x ≡ true) d k.written)

    strict : (reads.greatest.ballot ≡ b → ⊥) → reads.greatest.ballot < b
    strict f = let low = kept.below in omega (arith, low, f)

    go : IsHeldBy (first_cell c) (cell_turns h) own.found.0 reads.greatest → reads.greatest.ballot < b
    go (inl start) = strict (λ e. let k = ap (λ (s : Stamped). s.ballot) start in (rec_is laws c h run b r at).other (sym e ∙ k))
    go (inr w) = strict (λ e. own_write e w)

-- what was found is read off the tally alone
still : (r n : RecState) → (q : Parent) → n.reads ≡ r.reads → IsFound r q.state q.last → IsFound n q.state q.last
still r n q e k = record {
  majority = ap (λ (s : ReadState). progress_of s.poll) e ∙ k.majority;
  value = ap (λ (s : ReadState). reading s.greatest.value) e ∙ k.value;
  last = k.last;
}

pub no_parent : (r : RecState) → IsRecoverer r → r.phase ≡ Reading → (p : Parent) → r.parent ≡ Some p → ⊥
no_parent r come_by ph p e = let k : None ≡ Some p = sym (come_by.reading ph) ∙ e in absurd (cc)

change : Laws → (c : Config) (h : List Turn) → IsRun c h → (b : ℕ) (from : NodeId) (t : Tell) → Told h from (node.Recoverer b) t → (r : RecState) → rec_at c h b ≡ Some r → IsRecoverer r → HasFound c h b r
    → (n : RecState) → Change r (word_of from t) n → HasFound c h b n
change laws c h run b from t told r at come_by k n Stands = k
change laws c h run b from t told r at come_by k n (LosesReads i u why is) = record {
  reads = reads_more laws c h run b i u r.reads (cell_told h b from t i u told is.word) k.reads;
  found = λ p e. absurd (no_parent r come_by is.phase p e);
  below = λ p e. absurd (no_parent r come_by is.phase p e);
}
change laws c h run b from t told r at come_by k n (Reads i u is) = record {
  reads = reads_more laws c h run b i u r.reads (cell_told h b from t i u told is.word) k.reads;
  found = λ p e. absurd (no_parent r come_by is.phase p e);
  below = λ p e. absurd (no_parent r come_by is.phase p e);
}
change laws c h run b from t told r at come_by k n (Finds i u s g heard is) =
    let reads = reads_more laws c h run b i u r.reads (cell_told h b from t i u told heard.word) k.reads in
    record {
      reads = reads;
      found = λ p e. let d : record { state = s; last = g } ≡ p = cc in subst (λ (x : Parent). IsFound (with_last (with_read r i u) s (Some g)) x.state x.last) d (record { majority = is.majority; value = is.value; last = is.last });
      below = λ p e. reads_below laws c h run b r at heard.phase (hear_read r.reads i u) reads is.majority;
    }
change laws c h run b from t told r at come_by k n (Locks p end i durable known popped is) = record { reads = k.reads; found = λ q d. still r n q refl (k.found q d); below = k.below }
change laws c h run b from t told r at come_by k n (LosesLocks p end i durable known popped why is) = record { reads = k.reads; found = λ q d. still r n q refl (k.found q d); below = k.below }
change laws c h run b from t told r at come_by k n (Plans p end i durable known popped s heard is) = record { reads = k.reads; found = λ q d. still r n q refl (k.found q d); below = k.below }
change laws c h run b from t told r at come_by k n (Copies parent p i peeked is) = record { reads = k.reads; found = λ q d. still r n q refl (k.found q d); below = k.below }
change laws c h run b from t told r at come_by k n (Seeds p i is w) = record { reads = k.reads; found = λ q d. still r n q refl (k.found q d); below = k.below }
change laws c h run b from t told r at come_by k n (SeedsAll p i is w) = record { reads = k.reads; found = λ q d. still r n q refl (k.found q d); below = k.below }
change laws c h run b from t told r at come_by k n (Writes i u is) = record { reads = k.reads; found = λ q d. still r n q refl (k.found q d); below = k.below }
change laws c h run b from t told r at come_by k n (LosesWrites i u why is) = record { reads = k.reads; found = λ q d. still r n q refl (k.found q d); below = k.below }
change laws c h run b from t told r at come_by k n (Chooses i u is m) = record { reads = k.reads; found = λ q d. still r n q refl (k.found q d); below = k.below }
change laws c h run b from t told r at come_by k n (Marks p i is) = record { reads = k.reads; found = λ q d. still r n q refl (k.found q d); below = k.below }

later : (c : Config) (h : List Turn) (t : Turn) → IsTurn c h t → (b : ℕ) (o : Option RecState) → IfSome o (HasFound c h b) → IfSome o (HasFound c (t ∷ h) b)
later c h t is b None k = tt
later c h t is b (Some r) k = record { reads = has_read_later c h t is b r.reads k.reads; found = k.found; below = k.below }

begun : (c : Config) (h : List Turn) (b : ℕ) → HasRead c h b (read_tally c.cells b [])
begun c h b = record { heard = []; is = refl; told = All-nil (IsToldToRead (cell_turns h) b) }

have_found : Laws → (c : Config) (h : List Turn) → IsRun c h → (b : ℕ) → IfSome (rec_at c h b) (HasFound c h b)
have_found laws c [] run b = tt
have_found laws c (t ∷ h) run b =
    rec_by_turn c h t run.0 b (λ o. IfSome o (HasFound c (t ∷ h) b)) (later c h t run.0 b (rec_at c h b) (have_found laws c h run.1 b))
    (λ shape none may is. record { reads = begun c (t ∷ h) b; found = λ p e. absurd (cc); below = λ p e. absurd (cc) })
    (λ r from u at told.
    let k : HasFound c h b r = subst (λ o. IfSome o (HasFound c h b)) at (have_found laws c h run.1 b) in
    later c h t run.0 b (Some (rec.after_hear r from u)) (change laws c h run.1 b from u told r at (rec_is laws c h run.1 b r at).kept.come_by k (rec.after_hear r from u) (laws.rec_change r from u)))

pub has_found : Laws → (c : Config) (h : List Turn) → IsRun c h → (b : ℕ) (r : RecState) → rec_at c h b ≡ Some r → HasFound c h b r
has_found laws c h run b r at = subst (λ o. IfSome o (HasFound c h b)) at (have_found laws c h run b)

-- ---- parents

pub parent_is_read : Laws → ParentIsRead
parent_is_read laws c h run b r p at e = (has_found laws c h run b r at).found p e

pub parent_is_greatest : Laws → ParentIsGreatest
parent_is_greatest laws c h run b r p at e =
    let k = has_found laws c h run b r at in
    let read : IsReadByMajority c.cells (cell_turns h) b (read_tally c.cells b k.reads.heard).greatest =
    laws.read_majority c.cells b (cell_turns h) k.reads.heard k.reads.told (subst (λ (s : ReadState). progress_of s.poll ≡ Majority) k.reads.is (k.found p e).majority) in
    subst (λ o. IsReady c.cells (first_cell c) (cell_turns h) b (greatest_in o)) (sym at) (record {
      unused = (rec_is laws c h run b r at).other;
      below = k.below p e;
      read = subst (λ (s : ReadState). IsReadByMajority c.cells (cell_turns h) b s.greatest) (sym k.reads.is) read;
    })

-- a ballot that may write has a parent
writer_has_parent : Laws → (c : Config) (h : List Turn) → IsRun c h → (b : ℕ) (r : RecState) → rec_at c h b ≡ Some r → is_written r ≡ true → (o : Option Parent) → r.parent ≡ o
    → IsReady c.cells (first_cell c) (cell_turns h) b (parent_at c h b)
writer_has_parent laws c h run b r at w None e = absurd (not_written r.plan r.seeded ((rec_is laws c h run b r at).kept.come_by.parentless e) w)
writer_has_parent laws c h run b r at w (Some p) e = parent_is_greatest laws c h run b r p at e

stamped : (p q : Stamped) → p.ballot ≡ q.ballot → p.value ≡ q.value → p ≡ q
stamped p q e k = ap (λ b. let s : Stamped = record { ballot = b; value = p.value } in s) e ∙ ap (λ v. let s : Stamped = record { ballot = q.ballot; value = v } in s) k

one_value : (c : Config) (h : List Turn) (p q : Stamped) → IsWriter c h p → IsWriter c h q → p.ballot ≡ q.ballot → p ≡ q
one_value c h p q v w e =
    let same : Some v.recoverer ≡ Some w.recoverer = sym v.at ∙ (ap (rec_at c h) e ∙ w.at) in
    let r : v.recoverer ≡ w.recoverer = cc in
    let plans : Some v.plan ≡ Some w.plan = sym v.planned ∙ (ap (λ (x : RecState). x.plan) r ∙ w.planned) in
    let k : v.plan ≡ w.plan = cc in
    stamped p q e (v.value ∙ (ap (λ (x : Plan). spelling x.state) k ∙ sym w.value))

pub run_has_parents : Laws → RunHasParents
run_has_parents laws c h run = record {
  within = first_within c;
  history = cells_have_history c h run;
  ready = λ p w. let k = written_is_state laws c h run p w in writer_has_parent laws c h run p.ballot k.recoverer k.at k.written k.recoverer.parent refl;
  one_value = λ p q v w e. one_value c h p q (written_is_state laws c h run p v) (written_is_state laws c h run q w) e;
}

pub parents_descend : Laws → ParentsDescend
parents_descend laws c h run chosen b r p is at e l =
    laws.ready_descends c.cells (first_cell c) (parent_at c h) (cell_turns h) chosen b (run_has_parents laws c h run) is (parent_is_greatest laws c h run b r p at e) l
