-- Rounds can come, while a recoverer is up and no node that answers is gone.
use Rattle.std.proofs.Common.{◌≡◌, ℕ, zero, suc, ◌<◌, ◌≤◌, Bool, true, false, cond, not, nat_lt, nat_le, map, filter, List, [], ◌∷◌, ◌++◌, append_assoc, length, Option, None, Some, inl, inr, refl, sym, ◌∙◌, ap, subst, arith}
use Rattle.std.specs.Prelude.{is_some}
use Rattle.std.specs.List.{Contains, All, range_with_len}
use Rattle.std.proofs.lemmas.Bool.{and_parts, lt-ltb, ltb-true, true≢false}
use Rattle.std.proofs.lemmas.List.Elements.{All-nil, All-cons, All-append, All-contains}
use Rattle.fr_base.specs.declared.place.NodeId.{NodeId}
use Rattle.fr_base.specs.declared.place.NodeId.TheVariants as node
use Rattle.fr_register.specs.Cell as cell
use Rattle.fr_register.specs.Cell.{ballot_of}
use Rattle.fr_register.specs.Tally.{is_heard}
use Rattle.fr_register.specs.declared.ask.CellAsk.{CellAsk}
use Rattle.fr_register.specs.declared.ask.CellAsk.TheVariants as cask
use Rattle.fr_tags.specs.Placement.{is_held}
use Rattle.fr_log.specs.Step as log
use Rattle.fr_log.specs.declared.ask.LogAsk.{LogAsk}
use Rattle.fr_log.specs.declared.ask.LogAsk.TheVariants as lask
use Rattle.fr_ask.specs.declared.ask.Ask.{Ask}
use Rattle.fr_ask.specs.declared.ask.Ask.TheVariants as ask
use Rattle.fr_ask.specs.declared.tell.Tell.{Tell}
use Rattle.fr_ask.specs.declared.tell.Tell.TheVariants as tell
use Rattle.fr_tail.specs.Tail.{part_at, is_complete}
use Rattle.fr_epoch.specs.EndTally.{EndState, has_replied}
use Rattle.fr_epoch.specs.Recoverer.{RecState, Phase, Parent, Plan, Reading, Locking, Copying, Writing, Chosen, Lost, is_copied_in, is_copied, is_written_in}
use Rattle.fr_epoch.specs.Words.{is_in}
use Rattle.fr_epoch.specs.Asks.{left, locks_of, peeks_of_tag, peeks_of, seeds_of, writes_of, marks_of, pending_in, pending, new_asks}
use Rattle.fr_epoch.specs.Hear.{after_hear}
use Rattle.fr_epoch.specs.Law.{AccountsForCell, AccountsFor}
use Rattle.fr_run.specs.Config.{Config}
use Rattle.fr_run.specs.Turn.{Turn, CellTurn, LogTurn, RecHeard, Gone, Sent, Told}
use Rattle.fr_run.specs.Nodes.{cell_at, rec_at, plan_in, plan_at, logs_in, logs_at, log_at, is_there}
use Rattle.fr_run.specs.Run.{IsUp, IsTurn, IsRun, WantsSome}
use Rattle.fr_run.specs.StateLaws.{IsConfig}
use Rattle.fr_run.specs.Laws.{Laws}
use Rattle.fr_run.proofs.Cells.{Contains-here, Contains-later, Contains-none, Contains-cases}
use Rattle.fr_run.proofs.Chosen.{other_epoch}
use Rattle.fr_run.proofs.Growth.{rec_is}
use Rattle.fr_run_headline.specs.SeededLaws.{ChosenIsSeeded, WritingIsSeeded}
use Rattle.fr_run_headline.proofs.Logs.{logs_stay}
use Rattle.fr_run_outcomes.specs.Going.{IsOwn, GoesOn}
use Rattle.fr_run_outcomes.specs.Pending.{PendingIsSent, IsAnswerOf}
use Rattle.fr_run_outcomes.specs.Uncontested.{AsksNoGreater}
use Rattle.fr_run_outcomes.proofs.Copies.{is_source}
use Rattle.fr_run_outcomes.proofs.Counts.{below_all}
use Rattle.fr_run_outcomes.proofs.Going.{stands, goes_further, still_up, begun_stays, rec_still_up}
use Rattle.fr_run_outcomes.proofs.Lists.{map_from, flat_from}
use Rattle.fr_run_outcomes.proofs.Locking.{parent_logs}
use Rattle.fr_run_outcomes.proofs.LowPromises.{low_all}
use Rattle.fr_run_outcomes.proofs.Waiting.{writing_waits}
use Rattle.fr_run_rounds.specs.Rounds.{HearsAnswer, IsRound, turns_of, HasRounds, RoundsCanCome}
use Rattle.fr_run_rounds.proofs.Along.{hear_is}
use Rattle.fr_run_rounds.proofs.Behind.{filter_within, IsBehindLog, Behind, behind_in}
use Rattle.fr_run_rounds.proofs.ReadRound.{reading_waits}

-- ---- asks that can be answered

-- a cell or a log may be asked this, a cell for no greater ballot
abbrev IsAskable : ℕ → NodeId → Ask → Type 0
IsAskable b (node.Cell i) (ask.Cell a) = ballot_of a ≤ b
IsAskable b (node.Log e i) (ask.Log a) = WantsSome a
IsAskable b to a = ⊥

cell_askable : (r : RecState) (b : ℕ) (a : CellAsk) → r.ballot ≡ b → AccountsForCell r a → ballot_of a ≤ b
cell_askable r b (cask.Read x) own k = omega (arith, k, own)
cell_askable r b (cask.Write x v) own k = (let is = k.0 in omega (arith, is, own))

log_askable : (r : RecState) (e i : ℕ) (a : LogAsk) → IsBehindLog r e i a → WantsSome a
log_askable r e i (lask.Peek x tag after most) k = (let is = k.hundred in omega (arith, is))
log_askable r e i (lask.Lock x) k = tt
log_askable r e i (lask.Seed s) k = tt
log_askable r e i (lask.Push p) k = tt
log_askable r e i (lask.MarkAsked x) k = tt
log_askable r e i (lask.Pop x tag through) k = tt

askable : (r : RecState) (b : ℕ) → r.ballot ≡ b → (to : NodeId) (a : Ask) → AccountsFor r to a → Behind r (to, a) → IsAskable b to a
askable r b own (node.Cell i) (ask.Cell a) k m = cell_askable r b a own k
askable r b own (node.Cell i) (ask.Log a) k m = absurd k
askable r b own (node.Cell i) (ask.Seq a) k m = absurd k
askable r b own (node.Log e i) (ask.Cell a) k m = absurd k
askable r b own (node.Log e i) (ask.Log a) k m = log_askable r e i a m
askable r b own (node.Log e i) (ask.Seq a) k m = absurd k
askable r b own (node.Sequencer e) a k m = absurd k
askable r b own (node.Proxy e p) a k m = absurd k
askable r b own (node.Recoverer x) a k m = absurd k
askable r b own (node.Storage t) a k m = absurd k

-- an ask was sent to a node that is up
record IsReady (c : Config) (b : ℕ) (h : List Turn) (to : NodeId) (a : Ask) : Type 0 where
  sent : Sent h (node.Recoverer b) to a
  up : IsUp c h to
  may : IsAskable b to a

-- ---- it stays up

abbrev LosesNone : Turn → Type 0
LosesNone t = (who : NodeId) → t ≡ Gone who → ⊥

not_gone : (h : List Turn) (t : Turn) (who : NodeId) → LosesNone t → (Contains h (Gone who) → ⊥) → Contains (t ∷ h) (Gone who) → ⊥
not_gone h t who lossless up k = elim (Contains-cases t h (Gone who) k) [ inl now ↦ lossless who now | inr before ↦ up before ]

ready_on : Laws → (c : Config) (b : ℕ) (h : List Turn) (t : Turn) → IsRun c (t ∷ h) → LosesNone t → (to : NodeId) (a : Ask) → IsReady c b h to a → IsReady c b (t ∷ h) to a
ready_on laws c b h t run lossless (node.Cell i) a k = record { sent = inr k.sent; up = record { there = k.up.there; up = not_gone h t (node.Cell i) lossless k.up.up }; may = k.may }
ready_on laws c b h t run lossless (node.Log e i) a k = record {
  sent = inr k.sent;
  up = record {
    there = ap (nat_lt i) (logs_stay laws c h t run.1 run.0 e i (ltb-true i (logs_at c h e) k.up.there)) ∙ k.up.there;
    up = not_gone h t (node.Log e i) lossless k.up.up;
  };
  may = k.may;
}
ready_on laws c b h t run lossless (node.Sequencer e) a k = absurd k.may
ready_on laws c b h t run lossless (node.Proxy e p) a k = absurd k.may
ready_on laws c b h t run lossless (node.Recoverer x) a k = absurd k.may
ready_on laws c b h t run lossless (node.Storage u) a k = absurd k.may

rec_up_on : Laws → (c : Config) (b : ℕ) (h : List Turn) (t : Turn) → IsRun c (t ∷ h) → LosesNone t → IsUp c h (node.Recoverer b) → IsUp c (t ∷ h) (node.Recoverer b)
rec_up_on laws c b h t run lossless k = record { there = begun_stays laws c t h run b k.there; up = not_gone h t (node.Recoverer b) lossless k.up }

-- ---- one ask

-- turns in which each of some asks is answered and heard, if its node answers
record Comes (c : Config) (answers : NodeId → Bool) (b : ℕ) (h : List Turn) (asks : List (NodeId × Ask)) : Type 0 where
  turns : List Turn
  is_run : IsRun c (turns ++ h)
  recoverer : RecState
  at : rec_at c (turns ++ h) b ≡ Some recoverer
  up : IsUp c (turns ++ h) (node.Recoverer b)
  own : All (IsOwn b) turns
  none : All (AsksNoGreater b) turns
  ready : (to : NodeId) (a : Ask) → IsReady c b h to a → IsReady c b (turns ++ h) to a
  heard : (s : NodeId × Ask) → Contains asks s → answers s.0 ≡ true → HearsAnswer c h turns b s.0 s.1

later_heard : (c : Config) (h turns : List Turn) (b : ℕ) (to : NodeId) (a : Ask) (t : Turn) → HearsAnswer c h turns b to a → HearsAnswer c h (t ∷ turns) b to a
later_heard c h turns b to a t k = record { after = t ∷ k.after; tell = k.tell; asks = k.asks; before = k.before; is = ap (λ xs. t ∷ xs) k.is; answered = k.answered }

-- two turns more: the node is asked, and the recoverer hears what it tells
exchange : Laws → (c : Config) (answers : NodeId → Bool) (b : ℕ) (h : List Turn) (asks : List (NodeId × Ask)) → (k : Comes c answers b h asks) → (to : NodeId) (a : Ask) (t : Turn) (u : Tell) → IsAnswerOf c (k.turns ++ h) b to a t u → IsTurn c (k.turns ++ h) t → LosesNone t → IsOwn b t → AsksNoGreater b t
    → rec_at c (t ∷ k.turns ++ h) b ≡ rec_at c (k.turns ++ h) b → Told (t ∷ k.turns ++ h) to (node.Recoverer b) u → Comes c answers b h ((to, a) ∷ asks)
exchange laws c answers b h asks k to a t u answer turn lossless own none same told = record {
  turns = RecHeard b to u (new_asks k.recoverer to u) ∷ t ∷ k.turns;
  is_run = run_heard;
  recoverer = after_hear k.recoverer to u;
  at = hear_is c b (t ∷ k.turns ++ h) k.recoverer to u (new_asks k.recoverer to u) at_asked;
  own = All-cons (IsOwn b) (RecHeard b to u (new_asks k.recoverer to u)) (t ∷ k.turns) refl (All-cons (IsOwn b) t k.turns own k.own);
  none = All-cons (AsksNoGreater b) (RecHeard b to u (new_asks k.recoverer to u)) (t ∷ k.turns) tt (All-cons (AsksNoGreater b) t k.turns none k.none);
  up = rec_up_on laws c b (t ∷ k.turns ++ h) (RecHeard b to u (new_asks k.recoverer to u)) run_heard (λ who e. absurd (cc)) up_asked;
  ready = λ x d ready.
      ready_on laws c b (t ∷ k.turns ++ h) (RecHeard b to u (new_asks k.recoverer to u)) run_heard (λ who e. absurd (cc)) x d
      (ready_on laws c b (k.turns ++ h) t run_asked lossless x d (k.ready x d ready));
  heard = λ s there heeds. elim (Contains-cases (to, a) asks s there) [
    | inl now ↦ subst (λ (x : NodeId × Ask). HearsAnswer c h (RecHeard b to u (new_asks k.recoverer to u) ∷ t ∷ k.turns) b x.0 x.1) now (record { after = []; tell = u; asks = new_asks k.recoverer to u; before = t ∷ k.turns; is = refl; answered = inl answer })
    | inr before ↦ later_heard c h (t ∷ k.turns) b s.0 s.1 (RecHeard b to u (new_asks k.recoverer to u)) (later_heard c h k.turns b s.0 s.1 t (k.heard s before heeds))
  ];
}
  where
    run_asked : IsRun c (t ∷ k.turns ++ h)
    run_asked = (turn, k.is_run)

    at_asked : rec_at c (t ∷ k.turns ++ h) b ≡ Some k.recoverer
    at_asked = same ∙ k.at

    up_asked : IsUp c (t ∷ k.turns ++ h) (node.Recoverer b)
    up_asked = rec_up_on laws c b (k.turns ++ h) t run_asked lossless k.up

    run_heard : IsRun c (RecHeard b to u (new_asks k.recoverer to u) ∷ t ∷ k.turns ++ h)
    run_heard = ((record { actor = up_asked; told = told }, (k.recoverer, at_asked, refl)), run_asked)

one_more : Laws → (c : Config) (answers : NodeId → Bool) (b : ℕ) (h : List Turn) (asks : List (NodeId × Ask)) → (k : Comes c answers b h asks) → (to : NodeId) (a : Ask) → IsReady c b (k.turns ++ h) to a → Comes c answers b h ((to, a) ∷ asks)
one_more laws c answers b h asks k (node.Cell i) (ask.Cell a) ready =
    exchange laws c answers b h asks k (node.Cell i) (ask.Cell a) (CellTurn (node.Recoverer b) i a (cell.answer_of (cell_at c (k.turns ++ h) i) a)) (tell.Cell (cell.answer_of (cell_at c (k.turns ++ h) i) a)) (refl, refl)
    (ltb-true i c.cells ready.up.there, ready.sent, refl) (λ who e. absurd (cc)) refl ready.may refl (inl (refl, refl, refl))
one_more laws c answers b h asks k (node.Cell i) (ask.Log a) ready = absurd ready.may
one_more laws c answers b h asks k (node.Cell i) (ask.Seq a) ready = absurd ready.may
one_more laws c answers b h asks k (node.Log e i) (ask.Cell a) ready = absurd ready.may
one_more laws c answers b h asks k (node.Log e i) (ask.Log a) ready =
    exchange laws c answers b h asks k (node.Log e i) (ask.Log a) (LogTurn (node.Recoverer b) e i a (log.answer_of (log_at c (k.turns ++ h) e i) a)) (tell.Log (log.answer_of (log_at c (k.turns ++ h) e i) a)) (refl, refl)
    (ready.up, inl ready.sent, refl, ready.may) (λ who d. absurd (cc)) refl tt refl (inl (refl, refl, refl))
one_more laws c answers b h asks k (node.Log e i) (ask.Seq a) ready = absurd ready.may
one_more laws c answers b h asks k (node.Sequencer e) a ready = absurd ready.may
one_more laws c answers b h asks k (node.Proxy e p) a ready = absurd ready.may
one_more laws c answers b h asks k (node.Recoverer x) a ready = absurd ready.may
one_more laws c answers b h asks k (node.Storage t) a ready = absurd ready.may

-- ---- all asks

comes : Laws → (c : Config) (answers : NodeId → Bool) (b : ℕ) (h : List Turn) → IsRun c h → (r : RecState) → rec_at c h b ≡ Some r → IsUp c h (node.Recoverer b) → (asks : List (NodeId × Ask))
    → ((s : NodeId × Ask) → Contains asks s → answers s.0 ≡ true → IsReady c b h s.0 s.1) → Comes c answers b h asks
comes laws c answers b h run r at up [] each = record {
  turns = [];
  is_run = run;
  recoverer = r;
  at = at;
  up = up;
  own = All-nil (IsOwn b);
  none = All-nil (AsksNoGreater b);
  ready = λ to a k. k;
  heard = λ s there heeds. absurd (Contains-none there);
}
comes laws c answers b h run r at up ((to, a) ∷ asks) each = go (comes laws c answers b h run r at up asks (λ s there. each s (later s there))) (answers to) refl
  where
    later : (s : NodeId × Ask) → Contains asks s → Contains ((to, a) ∷ asks) s
    later s there = Contains-later (to, a) asks s there

    go : Comes c answers b h asks → (x : Bool) → answers to ≡ x → Comes c answers b h ((to, a) ∷ asks)
    go k true e = one_more laws c answers b h asks k to a (k.ready to a (each (to, a) (Contains-here (to, a) asks) e))
    go k false e = record {
      turns = k.turns;
      is_run = k.is_run;
      recoverer = k.recoverer;
      at = k.at;
      up = k.up;
      own = k.own;
      none = k.none;
      ready = k.ready;
      heard = λ s there heeds. elim (Contains-cases (to, a) asks s there) [
        | inl now ↦ absurd (true≢false (sym (subst (λ (x : NodeId × Ask). answers x.0 ≡ true) (sym now) heeds) ∙ e))
        | inr before ↦ k.heard s before heeds
      ];
    }

-- ---- the nodes that are asked are there

range_below : (n i : ℕ) (p : ℕ → Bool) → Contains (left n p) i → i < n
range_below n i p k = All-contains (λ j. j < n) (range_with_len 0 n) i (below_all n) (filter_within (λ j. not (p j)) (range_with_len 0 n) i k)

mapped_there : (c : Config) (h : List Turn) (f : ℕ → NodeId × Ask) (xs : List ℕ) → ((i : ℕ) → Contains xs i → is_there c h (f i).0 ≡ true) → (s : NodeId × Ask) → Contains (map f xs) s → is_there c h s.0 ≡ true
mapped_there c h f xs each s k = (let m = map_from f xs s k in subst (λ (x : NodeId × Ask). is_there c h x.0 ≡ true) m.2 (each m.0 m.1))

-- the logs of its generation are there, once its copy is complete
own_logs : Laws → (c : Config) (h : List Turn) → IsRun c h → (b : ℕ) (r : RecState) (q : Plan) → rec_at c h b ≡ Some r → r.plan ≡ Some q → is_complete q.tail ≡ true → (i : ℕ) → i < q.generation.m → is_there c h (node.Log r.ballot i) ≡ true
own_logs laws c h run b r q at plan whole i below =
    ap (λ x. nat_lt i (logs_at c h x)) (rec_is laws c h run b r at).ballot
    ∙ ap (nat_lt i) (ap (λ x. cond x c.m (logs_in (plan_at c h b))) (other_epoch laws c h run b r at) ∙ ap (λ o. logs_in (plan_in o)) at ∙ ap logs_in plan ∙ ap (λ x. cond x q.generation.m 0) whole)
    ∙ lt-ltb i q.generation.m below

-- what holds of the nodes
pub record ComeRules : Type 0 where
  pub laws : Laws
  pub sent : PendingIsSent
  pub chosen : ChosenIsSeeded
  pub writing : WritingIsSeeded

locks_there : ComeRules → (c : Config) (h : List Turn) → IsConfig c → IsRun c h → (b : ℕ) (r : RecState) → rec_at c h b ≡ Some r → (o : Option Parent) → r.parent ≡ o → (q : Option EndState) → (s : NodeId × Ask) → Contains (locks_of o q) s → is_there c h s.0 ≡ true
locks_there rules c h config run b r at None parent q s k = absurd (Contains-none k)
locks_there rules c h config run b r at (Some p) parent None s k = absurd (Contains-none k)
locks_there rules c h config run b r at (Some p) parent (Some end) s k =
    mapped_there c h _ _ (λ i m. lt-ltb i (logs_at c h p.last.epoch) (parent_logs rules.laws rules.chosen rules.writing c h config run b r p at parent i (range_below p.last.m i (has_replied end) m)).0) s k

peeks_there : ComeRules → (c : Config) (h : List Turn) → IsConfig c → IsRun c h → (b : ℕ) (r : RecState) → rec_at c h b ≡ Some r → (o : Option Parent) → r.parent ≡ o → (q : Option Plan) → r.plan ≡ q → (tags : List ℕ) (s : NodeId × Ask) → Contains (peeks_of r o q tags) s → is_there c h s.0 ≡ true
peeks_there rules c h config run b r at None parent q plan tags s k = absurd (Contains-none k)
peeks_there rules c h config run b r at (Some p) parent None plan tags s k = absurd (Contains-none k)
peeks_there rules c h config run b r at (Some p) parent (Some q) plan tags s k =
    let own = flat_from (peeks_of_tag r p q) tags s k in
    go own.0 (nat_lt (part_at q.tail own.0).reached q.tail.rv) own.2
  where
    go : (tag : ℕ) (x : Bool) → Contains (cond x (map (λ i. (node.Log p.last.epoch i, ask.Log (lask.Peek p.last.epoch tag (part_at q.tail tag).reached 100))) (filter (λ i. is_held tag q.tail.m q.tail.k i) q.tail.responders)) []) s → is_there c h s.0 ≡ true
    go tag true m =
        mapped_there c h _ _ (λ i among. lt-ltb i (logs_at c h p.last.epoch) (is_source rules.laws c h config run b r p q at parent plan i (filter_within (λ j. is_held tag q.tail.m q.tail.k j) q.tail.responders i among)).there) s m
    go tag false m = absurd (Contains-none m)

seeds_there : Laws → (c : Config) (h : List Turn) → IsRun c h → (b : ℕ) (r : RecState) → rec_at c h b ≡ Some r → (o : Option Plan) → r.plan ≡ o → is_copied_in o ≡ true → (s : NodeId × Ask) → Contains (seeds_of r o) s → is_there c h s.0 ≡ true
seeds_there laws c h run b r at None plan whole s k = absurd (Contains-none k)
seeds_there laws c h run b r at (Some q) plan whole s k = mapped_there c h _ _ (λ i m. own_logs laws c h run b r q at plan whole i (range_below q.generation.m i (is_in r.seeded) m)) s k

marks_there : Laws → (c : Config) (h : List Turn) → IsRun c h → (b : ℕ) (r : RecState) → rec_at c h b ≡ Some r → (o : Option Plan) → r.plan ≡ o → is_written_in o r.seeded ≡ true → (s : NodeId × Ask) → Contains (marks_of r o) s → is_there c h s.0 ≡ true
marks_there laws c h run b r at None plan written s k = absurd (Contains-none k)
marks_there laws c h run b r at (Some q) plan written s k =
    mapped_there c h _ _ (λ i m. own_logs laws c h run b r q at plan (and_parts (is_complete q.tail) (nat_le q.generation.m (length r.seeded)) written).0 i (range_below q.generation.m i (is_in r.marked) m)) s k

writes_there : (c : Config) (h : List Turn) (r : RecState) (o : Option Plan) → r.writes.poll.cells ≡ c.cells → (s : NodeId × Ask) → Contains (writes_of r o) s → is_there c h s.0 ≡ true
writes_there c h r None cells s k = absurd (Contains-none k)
writes_there c h r (Some q) cells s k = mapped_there c h _ _ (λ i m. lt-ltb i c.cells (let below = range_below r.writes.poll.cells i (is_heard r.writes.poll) m in omega (arith, below, cells))) s k

pending_there : ComeRules → (c : Config) (h : List Turn) → IsConfig c → IsRun c h → (b : ℕ) (r : RecState) → rec_at c h b ≡ Some r → (ph : Phase) → r.phase ≡ ph → (s : NodeId × Ask) → Contains (pending_in ph r) s → is_there c h s.0 ≡ true
pending_there rules c h config run b r at Reading phase s k =
    mapped_there c h _ _ (λ i m. lt-ltb i c.cells (let below = range_below r.reads.poll.cells i (is_heard r.reads.poll) m in let cells = (reading_waits rules.laws c h run b r at phase).1 in omega (arith, below, cells))) s k
pending_there rules c h config run b r at Locking phase s k = locks_there rules c h config run b r at r.parent refl r.end s k
pending_there rules c h config run b r at Copying phase s k = go (is_copied r) refl k
  where
    go : (x : Bool) → is_copied r ≡ x → Contains (cond x (seeds_of r r.plan) (peeks_of r r.parent r.plan (range_with_len 0 (length r.begins)))) s → is_there c h s.0 ≡ true
    go true e m = seeds_there rules.laws c h run b r at r.plan refl e s m
    go false e m = peeks_there rules c h config run b r at r.parent refl r.plan refl (range_with_len 0 (length r.begins)) s m
pending_there rules c h config run b r at Writing phase s k = writes_there c h r r.plan (writing_waits rules.laws c h run b r at phase).1 s k
pending_there rules c h config run b r at Chosen phase s k = marks_there rules.laws c h run b r at r.plan refl ((rec_is rules.laws c h run b r at).kept.come_by.chosen phase) s k
pending_there rules c h config run b r at (Lost w) phase s k = absurd (Contains-none k)

-- ---- rounds

-- a recoverer that is there
begun : (o : Option RecState) → is_some o ≡ true → (r : RecState) × (o ≡ Some r)
begun None e = absurd (cc)
begun (Some r) e = (r, refl)

pub rounds_can_come : ComeRules → RoundsCanCome
rounds_can_come rules c h config run b answers up nodes zero = record { later = h; goes_on = stands c b h run; rounds = []; is = refl; many = refl; are = tt; none = All-nil (AsksNoGreater b) }
rounds_can_come rules c h config run b answers up nodes (suc number) = one (rounds_can_come rules c h config run b answers up nodes number)
  where
    one : HasRounds c answers b h number → HasRounds c answers b h (suc number)
    one k = record {
      later = all.turns ++ k.later;
      goes_on = goes_further c b h k.later (all.turns ++ k.later) k.goes_on on;
      rounds = all.turns ∷ k.rounds;
      is = append_assoc all.turns (turns_of k.rounds) h ∙ ap (λ l. all.turns ++ l) k.is;
      many = ap suc k.many;
      are = (subst (λ l. IsRound c answers b l all.turns) (sym k.is) round, k.are);
      none = All-append (AsksNoGreater b) all.turns (turns_of k.rounds) all.none k.none;
    }
      where
        up_now : IsUp c k.later (node.Recoverer b)
        up_now = rec_still_up rules.laws c b h k.later k.goes_on b up

        r : (r : RecState) × (rec_at c k.later b ≡ Some r)
        r = begun (rec_at c k.later b) up_now.there

        own : r.0.ballot ≡ b
        own = (rec_is rules.laws c k.later k.goes_on.is_run b r.0 r.1).ballot

        all : Comes c answers b k.later (pending r.0)
        all = comes rules.laws c answers b k.later k.goes_on.is_run r.0 r.1 up_now (pending r.0) (λ s there heeds. record {
          sent = rules.sent c k.later k.goes_on.is_run b r.0 r.1 s.0 s.1 there;
          up = record { there = pending_there rules c k.later config k.goes_on.is_run b r.0 r.1 r.0.phase refl s there; up = still_up c b h k.later k.goes_on s.0 (nodes s.0 heeds) };
          may = askable r.0 b own s.0 s.1 (All-contains (λ x. AccountsFor r.0 x.0 x.1) (pending r.0) s (rules.laws.rec_pending r.0 (rec_is rules.laws c k.later k.goes_on.is_run b r.0 r.1).kept.come_by) there) (behind_in r.0.phase r.0 s there);
        })

        on : GoesOn c b k.later (all.turns ++ k.later)
        on = record { more = all.turns; is = refl; is_run = all.is_run; own = all.own; low = λ i low. low_all c all.turns k.later b all.none i low }

        same : (s : RecState) → rec_at c k.later b ≡ Some s → pending s ≡ pending r.0
        same s here = (let two : Some s ≡ Some r.0 = sym here ∙ r.1 in let one : s ≡ r.0 = cc in ap pending one)

        round : IsRound c answers b k.later all.turns
        round s here to a there heeds = all.heard (to, a) (subst (λ xs. Contains xs (to, a)) (same s here) there) heeds
