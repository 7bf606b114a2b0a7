-- A run goes on by two turns: a node is asked, and a recoverer hears what it tells. What is up stays up.
use Rattle.std.proofs.Common.{◌≡◌, ℕ, ◌<◌, ◌≤◌, Bool, true, false, cond, nat_lt, ◌==◌, List, [], ◌∷◌, ◌++◌, append_assoc, Option, None, Some, inl, inr, refl, sym, ◌∙◌, ap, subst, arith}
use Rattle.std.specs.Prelude.{is_some}
use Rattle.std.specs.List.{Contains, All}
use Rattle.std.specs.Option.{option_map}
use Rattle.std.proofs.lemmas.Bool.{eq-eqb, eqb-true, ltb-true, true≢false}
use Rattle.std.proofs.lemmas.List.Elements.{All-nil, All-cons, All-head, All-tail, All-append, All-weaker}
use Rattle.fr_base.specs.declared.place.NodeId.{NodeId}
use Rattle.fr_base.specs.declared.place.NodeId.TheVariants as node
use Rattle.fr_register.specs.Cell as register
use Rattle.fr_register.specs.declared.ask.CellAsk.{CellAsk}
use Rattle.fr_log.specs.Step as log
use Rattle.fr_log.specs.declared.ask.LogAsk.{LogAsk}
use Rattle.fr_ask.specs.declared.ask.Ask.{Ask}
use Rattle.fr_ask.specs.declared.ask.Ask.TheVariants as ask
use Rattle.fr_ask.specs.declared.tell.Tell.{Tell}
use Rattle.fr_ask.specs.declared.tell.Tell.TheVariants as tell
use Rattle.fr_epoch.specs.Recoverer.{RecState}
use Rattle.fr_epoch.specs.Asks.{new_asks}
use Rattle.fr_epoch.specs.Hear.{after_hear}
use Rattle.fr_run.specs.Config.{Config}
use Rattle.fr_run.specs.Turn.{Turn, Begun, CellTurn, LogTurn, SeqTurn, Submitted, ProxyHeard, RecHeard, StorageHeard, Gone, Crashed, Sent, Told}
use Rattle.fr_run.specs.Nodes.{cell_at, rec_at, logs_at, log_at}
use Rattle.fr_run.specs.Run.{IsUp, IsRun, IsTurn, WantsSome}
use Rattle.fr_run.specs.Laws.{Laws}
use Rattle.fr_run.proofs.Cells.{Contains-cases}
use Rattle.fr_run.proofs.Growth.{rec_grows}
use Rattle.fr_run_headline.proofs.Logs.{logs_stay}
use Rattle.fr_run_outcomes.specs.Going.{IsOwn, GoesOn}

-- ---- going on

pub stands : (c : Config) (b : ℕ) (h : List Turn) → IsRun c h → GoesOn c b h h
stands c b h run = record { more = []; is = refl; is_run = run; own = All-nil (IsOwn b); low = λ i le. le }

pub goes_further : (c : Config) (b : ℕ) (h mid later : List Turn) → GoesOn c b h mid → GoesOn c b mid later → GoesOn c b h later
goes_further c b h mid later first second = record {
  more = second.more ++ first.more;
  is = append_assoc second.more first.more h ∙ (ap (λ x. second.more ++ x) first.is ∙ second.is);
  is_run = second.is_run;
  own = All-append (IsOwn b) second.more first.more second.own first.own;
  low = λ i le. second.low i (first.low i le);
}

-- ---- nothing is lost

-- a turn in which nothing is lost and nothing crashes for good
abbrev pub LosesNothing : Turn → Type 0
LosesNothing t = (who : NodeId) → t ≡ Gone who → ⊥

-- an own turn is such a one
own_loses_none : (b : ℕ) (t : Turn) → IsOwn b t → LosesNothing t
own_loses_none b (Begun x shape asks) k = λ who e. absurd (cc)
own_loses_none b (CellTurn from i a u) k = λ who e. absurd (cc)
own_loses_none b (LogTurn from e i a u) k = λ who d. absurd (cc)
own_loses_none b (SeqTurn from e a u) k = λ who d. absurd (cc)
own_loses_none b (Submitted e p step batch asks) k = λ who d. absurd (cc)
own_loses_none b (ProxyHeard e p from u outcome asks) k = λ who d. absurd (cc)
own_loses_none b (RecHeard x from u asks) k = λ who d. absurd (cc)
own_loses_none b (StorageHeard tag from u taken fault) k = λ who d. absurd (cc)
own_loses_none b (Gone who) k = absurd k
own_loses_none b (Crashed who) k = absurd k

pub loses_none : (b : ℕ) (more : List Turn) → All (IsOwn b) more → All LosesNothing more
loses_none b more own = All-weaker (IsOwn b) LosesNothing (own_loses_none b) more own

-- ---- what is up stays up

gone_more : (more h : List Turn) → All LosesNothing more → (who : NodeId) → Contains (more ++ h) (Gone who) → Contains h (Gone who)
gone_more [] h lossless who k = k
gone_more (t ∷ more) h lossless who k = elim (Contains-cases t (more ++ h) (Gone who) k) [
  | inl now ↦ absurd (All-head LosesNothing t more lossless who now)
  | inr before ↦ gone_more more h (All-tail LosesNothing t more lossless) who before
]

pub still_up : (c : Config) (b : ℕ) (h later : List Turn) → GoesOn c b h later → (who : NodeId) → (Contains h (Gone who) → ⊥) → Contains later (Gone who) → ⊥
still_up c b h later k who up gone = up (gone_more k.more h (loses_none b k.more k.own) who (subst (λ l. Contains l (Gone who)) (sym k.is) gone))

log_stays_there : Laws → (c : Config) (more h : List Turn) → IsRun c (more ++ h) → (e i : ℕ) → nat_lt i (logs_at c h e) ≡ true → nat_lt i (logs_at c (more ++ h) e) ≡ true
log_stays_there laws c [] h run e i there = there
log_stays_there laws c (t ∷ more) h run e i there =
    let before = log_stays_there laws c more h run.1 e i there in
    ap (nat_lt i) (logs_stay laws c (more ++ h) t run.1 run.0 e i (ltb-true i (logs_at c (more ++ h) e) before)) ∙ before

pub log_still_up : Laws → (c : Config) (b : ℕ) (h later : List Turn) → GoesOn c b h later → (e i : ℕ) → IsUp c h (node.Log e i) → IsUp c later (node.Log e i)
log_still_up laws c b h later k e i up = record {
  there = subst (λ l. nat_lt i (logs_at c l e) ≡ true) k.is (log_stays_there laws c k.more h (subst (IsRun c) (sym k.is) k.is_run) e i up.there);
  up = still_up c b h later k (node.Log e i) up.up;
}

pub begun_stays : Laws → (c : Config) (t : Turn) (h : List Turn) → IsRun c (t ∷ h) → (b : ℕ) → is_some (rec_at c h b) ≡ true → is_some (rec_at c (t ∷ h) b) ≡ true
begun_stays laws c t h run b = go (rec_at c h b) refl
  where
    go : (o : Option RecState) → rec_at c h b ≡ o → is_some o ≡ true → is_some (rec_at c (t ∷ h) b) ≡ true
    go None at some = absurd (cc)
    go (Some r) at some = ap is_some (rec_grows laws c h t run.1 run.0 b r at).is

begun_stays_more : Laws → (c : Config) (more h : List Turn) → IsRun c (more ++ h) → (b : ℕ) → is_some (rec_at c h b) ≡ true → is_some (rec_at c (more ++ h) b) ≡ true
begun_stays_more laws c [] h run b there = there
begun_stays_more laws c (t ∷ more) h run b there = begun_stays laws c t (more ++ h) run b (begun_stays_more laws c more h run.1 b there)

pub rec_still_up : Laws → (c : Config) (b : ℕ) (h later : List Turn) → GoesOn c b h later → (a : ℕ) → IsUp c h (node.Recoverer a) → IsUp c later (node.Recoverer a)
rec_still_up laws c b h later k a up = record {
  there = subst (λ l. is_some (rec_at c l a) ≡ true) k.is (begun_stays_more laws c k.more h (subst (IsRun c) (sym k.is) k.is_run) a up.there);
  up = still_up c b h later k (node.Recoverer a) up.up;
}

-- what a recoverer read stays, once it has its parent
record HasReads (c : Config) (h : List Turn) (a : ℕ) (r : RecState) : Type 0 where
  recoverer : RecState
  at : rec_at c h a ≡ Some recoverer
  parent : recoverer.parent ≡ r.parent
  reads : recoverer.reads ≡ r.reads

reads_more : Laws → (c : Config) (more h : List Turn) → IsRun c (more ++ h) → (a : ℕ) (r : RecState) → rec_at c h a ≡ Some r → is_some r.parent ≡ true → HasReads c (more ++ h) a r
reads_more laws c [] h run a r at some = record { recoverer = r; at = at; parent = refl; reads = refl }
reads_more laws c (t ∷ more) h run a r at some =
    let k = reads_more laws c more h run.1 a r at some in
    let g = rec_grows laws c (more ++ h) t run.1 run.0 a k.recoverer k.at in
    let has : is_some k.recoverer.parent ≡ true = ap is_some k.parent ∙ some in
    record { recoverer = g.later; at = g.is; parent = g.grows.parent has ∙ k.parent; reads = g.grows.reads has ∙ k.reads }

pub reads_stay : Laws → (c : Config) (b : ℕ) (h later : List Turn) → GoesOn c b h later → (a : ℕ) (r : RecState) → rec_at c h a ≡ Some r → is_some r.parent ≡ true → (n : RecState) → rec_at c later a ≡ Some n → n.reads ≡ r.reads
reads_stay laws c b h later k a r at some n there =
    let m = reads_more laws c k.more h (subst (IsRun c) (sym k.is) k.is_run) a r at some in
    let two : Some n ≡ Some m.recoverer = sym there ∙ ap (λ l. rec_at c l a) (sym k.is) ∙ m.at in
    let one : n ≡ m.recoverer = cc in
    ap (λ (x : RecState). x.reads) one ∙ m.reads

-- a recoverer that never began is not gone
pub never_gone : Laws → (c : Config) (h : List Turn) → IsRun c h → (b : ℕ) → rec_at c h b ≡ None → Contains h (Gone (node.Recoverer b)) → ⊥
never_gone laws c h run b none k = (let d : true ≡ false = sym (was_there h run k) ∙ ap is_some none in true≢false d)
  where
    was_there : (h : List Turn) → IsRun c h → Contains h (Gone (node.Recoverer b)) → is_some (rec_at c h b) ≡ true
    was_there [] run k = absurd (let l = k.1 in omega (arith, l))
    was_there (t ∷ h) run k = elim (Contains-cases t h (Gone (node.Recoverer b)) k) [
      | inl now ↦ begun_stays laws c t h run b (subst (IsTurn c h) now run.0).0.there
      | inr before ↦ begun_stays laws c t h run b (was_there h run.1 before)
    ]

-- what was sent stays so
sent_more : (more h : List Turn) (from to : NodeId) (a : Ask) → Sent h from to a → Sent (more ++ h) from to a
sent_more [] h from to a k = k
sent_more (t ∷ more) h from to a k = inr (sent_more more h from to a k)

pub still_sent : (c : Config) (b : ℕ) (h later : List Turn) → GoesOn c b h later → (from to : NodeId) (a : Ask) → Sent h from to a → Sent later from to a
still_sent c b h later k from to a sent = subst (λ l. Sent l from to a) k.is (sent_more k.more h from to a sent)

-- ---- two turns

-- a node is asked in one turn, and the recoverer, which hears it in the next, is then this one
pub record IsHeard (c : Config) (h : List Turn) (b : ℕ) (asked : Turn) (n : RecState) : Type 0 where
  pub later : List Turn
  pub goes_on : GoesOn c b h later
  pub asking : IsRun c (asked ∷ h)
  pub at : rec_at c later b ≡ Some n
  pub cells : (j : ℕ) → cell_at c later j ≡ cell_at c (asked ∷ h) j

hears : (c : Config) (h : List Turn) (b : ℕ) (r : RecState) (to : NodeId) (t : Turn) (u : Tell) → IsRun c (t ∷ h) → rec_at c (t ∷ h) b ≡ Some r → IsUp c (t ∷ h) (node.Recoverer b) → Told (t ∷ h) to (node.Recoverer b) u
    → IsOwn b t → ((j : ℕ) → (cell_at c h j).promised ≤ b → (cell_at c (t ∷ h) j).promised ≤ b) → IsHeard c h b t (after_hear r to u)
hears c h b r to t u run at up told own low = record {
  later = RecHeard b to u (new_asks r to u) ∷ t ∷ h;
  goes_on = record {
    more = RecHeard b to u (new_asks r to u) ∷ t ∷ [];
    is = refl;
    is_run = ((record { actor = up; told = told }, (r, at, refl)), run);
    own = All-cons (IsOwn b) (RecHeard b to u (new_asks r to u)) (t ∷ []) refl (All-cons (IsOwn b) t [] own (All-nil (IsOwn b)));
    low = low;
  };
  asking = run;
  at = rw (eq-eqb b b refl) (ap (λ o. option_map (λ s. after_hear s to u) o) at);
  cells = λ j. refl;
}

up_later : (c : Config) (h : List Turn) (b : ℕ) (r : RecState) (t : Turn) → rec_at c (t ∷ h) b ≡ Some r → LosesNothing t → IsUp c h (node.Recoverer b) → IsUp c (t ∷ h) (node.Recoverer b)
up_later c h b r t at never up = record {
  there = ap is_some at;
  up = λ k. elim (Contains-cases t h (Gone (node.Recoverer b)) k) [ inl now ↦ never (node.Recoverer b) now | inr before ↦ up.up before ];
}

-- a log is asked, and the recoverer hears what it tells
pub log_heard : (c : Config) (h : List Turn) → IsRun c h → (b : ℕ) (r : RecState) → rec_at c h b ≡ Some r → IsUp c h (node.Recoverer b) → (e i : ℕ) (a : LogAsk) → IsUp c h (node.Log e i) → Sent h (node.Recoverer b) (node.Log e i) (ask.Log a) → WantsSome a
    → IsHeard c h b (LogTurn (node.Recoverer b) e i a (log.answer_of (log_at c h e i) a)) (after_hear r (node.Log e i) (tell.Log (log.answer_of (log_at c h e i) a)))
log_heard c h run b r at up e i a there sent wants =
    let t = LogTurn (node.Recoverer b) e i a (log.answer_of (log_at c h e i) a) in
    hears c h b r (node.Log e i) t (tell.Log (log.answer_of (log_at c h e i) a)) ((there, inl sent, refl, wants), run) at (up_later c h b r t at (λ who d. absurd (cc)) up) (inl (refl, refl, refl)) refl (λ j le. le)

-- a cell is asked, which then promises no more than the ballot, and the recoverer hears what it tells
pub cell_heard : (c : Config) (h : List Turn) → IsRun c h → (b : ℕ) (r : RecState) → rec_at c h b ≡ Some r → IsUp c h (node.Recoverer b) → (i : ℕ) (a : CellAsk) → i < c.cells → Sent h (node.Recoverer b) (node.Cell i) (ask.Cell a)
    → ((cell_at c h i).promised ≤ b → (register.next_of (cell_at c h i) a).promised ≤ b)
    → IsHeard c h b (CellTurn (node.Recoverer b) i a (register.answer_of (cell_at c h i) a)) (after_hear r (node.Cell i) (tell.Cell (register.answer_of (cell_at c h i) a)))
cell_heard c h run b r at up i a below sent low =
    let t = CellTurn (node.Recoverer b) i a (register.answer_of (cell_at c h i) a) in
    hears c h b r (node.Cell i) t (tell.Cell (register.answer_of (cell_at c h i) a)) ((below, sent, refl), run) at (up_later c h b r t at (λ who d. absurd (cc)) up) (inl (refl, refl, refl)) refl (λ j. others j)
  where
    others : (j : ℕ) → (cell_at c h j).promised ≤ b → (cell_at c (CellTurn (node.Recoverer b) i a (register.answer_of (cell_at c h i) a) ∷ h) j).promised ≤ b
    others j le = go (i == j) refl
      where
        go : (x : Bool) → (i == j) ≡ x → (cond x (register.next_of (cell_at c h j) a) (cell_at c h j)).promised ≤ b
        go true e = subst (λ k. (register.next_of (cell_at c h k) a).promised ≤ b) (eqb-true i j e) (low (subst (λ k. (cell_at c h k).promised ≤ b) (sym (eqb-true i j e)) le))
        go false e = le
