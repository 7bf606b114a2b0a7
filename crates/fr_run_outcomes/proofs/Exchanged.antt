-- Each ask that is pending can be answered and heard, if recoverer and node are up.
use Rattle.std.proofs.Common.{◌≡◌, ℕ, Bool, true, false, cond, nat_lt, map, filter, List, [], ◌∷◌, length, Option, None, Some, inl, inr, refl, ap, subst, arith}
use Rattle.std.specs.Prelude.{is_some}
use Rattle.std.specs.List.{Contains, range_with_len}
use Rattle.std.specs.Option.{option_map}
use Rattle.std.proofs.lemmas.Bool.{eq-eqb, ltb-true}
use Rattle.std.proofs.lemmas.List.Elements.{All-contains}
use Rattle.fr_base.specs.declared.place.NodeId.{NodeId}
use Rattle.fr_base.specs.declared.place.NodeId.TheVariants as node
use Rattle.fr_register.specs.Cell as cell
use Rattle.fr_log.specs.Step as log
use Rattle.fr_log.specs.declared.ask.LogAsk.TheVariants as lask
use Rattle.fr_ask.specs.declared.ask.Ask.{Ask}
use Rattle.fr_ask.specs.declared.ask.Ask.TheVariants as ask
use Rattle.fr_ask.specs.declared.tell.Tell.{Tell}
use Rattle.fr_ask.specs.declared.tell.Tell.TheVariants as tell
use Rattle.fr_epoch.specs.Recoverer.{RecState, Phase, Parent, Plan, Reading, Locking, Copying, Writing, Chosen, Lost, is_copied}
use Rattle.fr_tags.specs.Placement.{is_held}
use Rattle.fr_tail.specs.Tail.{TagPart, part_at}
use Rattle.fr_epoch.specs.EndTally.{EndState}
use Rattle.fr_epoch.specs.Asks.{peeks_of_tag, peeks_of, locks_of, seeds_of, writes_of, marks_of, pending_in, pending}
use Rattle.fr_epoch.specs.Hear.{after_hear}
use Rattle.fr_epoch.specs.Law.{AccountsFor}
use Rattle.fr_run.specs.Config.{Config}
use Rattle.fr_run.specs.Turn.{Turn, CellTurn, LogTurn, Gone, Sent, Told}
use Rattle.fr_run.specs.Nodes.{cell_at, rec_at, log_at}
use Rattle.fr_run.specs.Run.{IsUp, IsRun, WantsSome}
use Rattle.fr_run.specs.Laws.{Laws}
use Rattle.fr_run.proofs.Cells.{Contains-none, Contains-cases}
use Rattle.fr_run.proofs.Growth.{rec_is}
use Rattle.fr_run_outcomes.specs.Pending.{PendingIsSent, IsAnswerOf, IsExchanged, PendingMayBeHeard}
use Rattle.fr_run_outcomes.proofs.Lists.{map_from, flat_from}

-- ---- what is pending wants an answer

-- an ask to a log wants some records, if it wants any
abbrev Wants : Ask → Type 0
Wants (ask.Cell a) = (a ≡ a)
Wants (ask.Log a) = WantsSome a
Wants (ask.Seq a) = (a ≡ a)

mapped : (f : ℕ → NodeId × Ask) (xs : List ℕ) → ((i : ℕ) → Wants (f i).1) → (s : NodeId × Ask) → Contains (map f xs) s → Wants s.1
mapped f xs each s k = let r = map_from f xs s k in subst (λ (x : NodeId × Ask). Wants x.1) r.2 (each r.0)

lock_wants : (o : Option Parent) (q : Option EndState) (s : NodeId × Ask) → Contains (locks_of o q) s → Wants s.1
lock_wants None q s k = absurd (Contains-none k)
lock_wants (Some p) None s k = absurd (Contains-none k)
lock_wants (Some p) (Some end) s k = mapped _ _ (λ i. tt) s k

peek_wants : (r : RecState) (o : Option Parent) (q : Option Plan) (tags : List ℕ) (s : NodeId × Ask) → Contains (peeks_of r o q tags) s → Wants s.1
peek_wants r None q tags s k = absurd (Contains-none k)
peek_wants r (Some parent) None tags s k = absurd (Contains-none k)
peek_wants r (Some parent) (Some p) tags s k =
    let own = flat_from (peeks_of_tag r parent p) tags s k in
    go own.0 (nat_lt (part own.0).reached p.tail.rv) own.2
  where
    part : ℕ → TagPart
    part tag = part_at p.tail tag

    go : (tag : ℕ) (b : Bool) → Contains (cond b (map (λ i. (node.Log parent.last.epoch i, ask.Log (lask.Peek parent.last.epoch tag (part_at p.tail tag).reached 100))) (filter (λ i. is_held tag p.tail.m p.tail.k i) p.tail.responders)) []) s → Wants s.1
    go tag true m = mapped _ _ (λ i. omega arith) s m
    go tag false m = absurd (Contains-none m)

seed_wants : (r : RecState) (q : Option Plan) (s : NodeId × Ask) → Contains (seeds_of r q) s → Wants s.1
seed_wants r None s k = absurd (Contains-none k)
seed_wants r (Some p) s k = mapped _ _ (λ i. tt) s k

write_wants : (r : RecState) (q : Option Plan) (s : NodeId × Ask) → Contains (writes_of r q) s → Wants s.1
write_wants r None s k = absurd (Contains-none k)
write_wants r (Some p) s k = mapped _ _ (λ i. refl) s k

mark_wants : (r : RecState) (q : Option Plan) (s : NodeId × Ask) → Contains (marks_of r q) s → Wants s.1
mark_wants r None s k = absurd (Contains-none k)
mark_wants r (Some p) s k = mapped _ _ (λ i. tt) s k

wants_in : (ph : Phase) (r : RecState) (s : NodeId × Ask) → Contains (pending_in ph r) s → Wants s.1
wants_in Reading r s k = mapped _ _ (λ i. refl) s k
wants_in Locking r s k = lock_wants r.parent r.end s k
wants_in Copying r s k = go (is_copied r) k
  where
    go : (b : Bool) → Contains (cond b (seeds_of r r.plan) (peeks_of r r.parent r.plan (range_with_len 0 (length r.begins)))) s → Wants s.1
    go true m = seed_wants r r.plan s m
    go false m = peek_wants r r.parent r.plan (range_with_len 0 (length r.begins)) s m
wants_in Writing r s k = write_wants r r.plan s k
wants_in Chosen r s k = mark_wants r r.plan s k
wants_in (Lost w) r s k = absurd (Contains-none k)

-- ---- two turns

-- a turn that is no loss of a node
up_later : (c : Config) (h : List Turn) (b : ℕ) (r : RecState) (t : Turn) → rec_at c (t ∷ h) b ≡ Some r → ((who : NodeId) → t ≡ Gone who → ⊥) → IsUp c h (node.Recoverer b) → IsUp c (t ∷ h) (node.Recoverer b)
up_later c h b r t at never up = record {
  there = ap is_some at;
  up = λ k. elim (Contains-cases t h (Gone (node.Recoverer b)) k) [ inl now ↦ never (node.Recoverer b) now | inr before ↦ up.up before ];
}

hears : (c : Config) (h : List Turn) (b : ℕ) (r : RecState) (to : NodeId) (a : Ask) (t : Turn) (u : Tell) → IsAnswerOf c h b to a t u → IsRun c (t ∷ h) → rec_at c (t ∷ h) b ≡ Some r → IsUp c (t ∷ h) (node.Recoverer b) → Told (t ∷ h) to (node.Recoverer b) u → IsExchanged c h b r to a
hears c h b r to a t u answers run at up told = record {
  asked = t;
  tell = u;
  answers = answers;
  is_run = ((record { actor = up; told = told }, (r, at, refl)), run);
  after = rw (eq-eqb b b refl) (ap (λ o. option_map (λ s. after_hear s to u) o) at);
}

exchanged : (c : Config) (h : List Turn) → IsRun c h → (b : ℕ) (r : RecState) → rec_at c h b ≡ Some r → IsUp c h (node.Recoverer b) → (to : NodeId) (a : Ask) → AccountsFor r to a → Wants a → Sent h (node.Recoverer b) to a → IsUp c h to → IsExchanged c h b r to a
exchanged c h run b r at up (node.Cell i) (ask.Cell a) k wants sent there =
    let t = CellTurn (node.Recoverer b) i a (cell.answer_of (cell_at c h i) a) in
    hears c h b r (node.Cell i) (ask.Cell a) t (tell.Cell (cell.answer_of (cell_at c h i) a)) (refl, refl) ((ltb-true i c.cells there.there, sent, refl), run) at (up_later c h b r t at (λ who e. absurd (cc)) up) (inl (refl, refl, refl))
exchanged c h run b r at up (node.Cell i) (ask.Log a) k wants sent there = absurd k
exchanged c h run b r at up (node.Cell i) (ask.Seq a) k wants sent there = absurd k
exchanged c h run b r at up (node.Log e i) (ask.Cell a) k wants sent there = absurd k
exchanged c h run b r at up (node.Log e i) (ask.Log a) k wants sent there =
    let t = LogTurn (node.Recoverer b) e i a (log.answer_of (log_at c h e i) a) in
    hears c h b r (node.Log e i) (ask.Log a) t (tell.Log (log.answer_of (log_at c h e i) a)) (refl, refl) ((there, inl sent, refl, wants), run) at (up_later c h b r t at (λ who e. absurd (cc)) up) (inl (refl, refl, refl))
exchanged c h run b r at up (node.Log e i) (ask.Seq a) k wants sent there = absurd k
exchanged c h run b r at up (node.Sequencer e) a k wants sent there = absurd k
exchanged c h run b r at up (node.Proxy e p) a k wants sent there = absurd k
exchanged c h run b r at up (node.Recoverer x) a k wants sent there = absurd k
exchanged c h run b r at up (node.Storage t) a k wants sent there = absurd k

pub pending_may_be_heard : Laws → PendingIsSent → PendingMayBeHeard
pending_may_be_heard laws sent c h run b r at up to a there node_up =
    let accounted : AccountsFor r to a = All-contains (λ s. AccountsFor r s.0 s.1) (pending r) (to, a) (laws.rec_pending r (rec_is laws c h run b r at).kept.come_by) there in
    exchanged c h run b r at up to a accounted (wants_in r.phase r (to, a) there) (sent c h run b r at to a there) node_up
