-- What a recoverer copies from: the logs that replied, by the shape of the parent's last generation, through what each of them holds.
use Rattle.std.proofs.Common.{◌≡◌, ℕ, ◌+◌, ◌<◌, ◌≤◌, true, min, map, fold, List, [], ◌∷◌, ◌++◌, Option, None, Some, inl, inr, refl, sym, ◌∙◌, ap, subst, arith}
use Rattle.std.specs.Prelude.{IfSome, is_some}
use Rattle.std.specs.List.{Contains}
use Rattle.std.proofs.lemmas.List.Elements.{All-contains}
use Rattle.fr_state.specs.Generations.{LogGeneration, Follows, AreOrdered, last_of}
use Rattle.fr_log.specs.Seed.{SeedContent}
use Rattle.fr_log.specs.LogState.{first_of, durable_of}
use Rattle.fr_tail.specs.Tail.{after_hear as after_peeked}
use Rattle.fr_epoch.specs.declared.reply.Reply.{Reply}
use Rattle.fr_epoch.specs.EndTally.{responders, least_durable}
use Rattle.fr_epoch.specs.Recoverer.{RecState, Parent, Plan, Locking}
use Rattle.fr_epoch.specs.Words.{Word, word_of}
use Rattle.fr_epoch.specs.Hear.{plan_of, after_hear}
use Rattle.fr_epoch.specs.Change.{Change, Stands, LosesReads, Reads, Finds, Locks, LosesLocks, Plans, Copies, Seeds, SeedsAll, Writes, LosesWrites, Chooses, Marks, replied}
use Rattle.fr_epoch.specs.Law.{IsRecoverer}
use Rattle.fr_run.specs.Config.{Config}
use Rattle.fr_run.specs.Turn.{Turn}
use Rattle.fr_run.specs.Nodes.{rec_at, logs_at, log_at}
use Rattle.fr_run.specs.Run.{IsRun}
use Rattle.fr_run.specs.States.{line_of}
use Rattle.fr_run.specs.StateLaws.{IsConfig}
use Rattle.fr_run.specs.Laws.{Laws}
use Rattle.fr_run.proofs.ByTurn.{rec_by_turn}
use Rattle.fr_run.proofs.Cells.{Contains-here, Contains-later, Contains-none, Contains-cases}
use Rattle.fr_run.proofs.Chosen.{generation_planned}
use Rattle.fr_run.proofs.Growth.{rec_is}
use Rattle.fr_run.proofs.Lines.{parent_is, line_of_plan, lines_within}
use Rattle.fr_run.proofs.Parents.{plan_is}
use Rattle.fr_run_headline.specs.Bounds.{IsSeedAt}
use Rattle.fr_run_headline.specs.LogLaws.{tally, StandsAt}
use Rattle.fr_run_headline.proofs.Ends.{end_is_of_replies}
use Rattle.fr_run_headline.proofs.Known.{logs_know}
use Rattle.fr_run_headline.proofs.Locks.{replies_stand_still}
use Rattle.fr_run_outcomes.proofs.Asked.{peek_takes}

-- ---- the logs that are read

-- a copy reads the logs that replied, by the shape of the generation that the plan's one follows
pub record IsOfReplies (r : RecState) (p : Parent) (q : Plan) : Type 0 where
  pub responders_are : q.tail.responders ≡ responders (tally r)
  pub m : q.tail.m ≡ p.last.m
  pub k : q.tail.k ≡ p.last.k

record CopiesReplies (c : Config) (r : RecState) : Type 0 where
  begins : r.begins ≡ c.begins
  copy : (p : Parent) (q : Plan) → r.parent ≡ Some p → r.plan ≡ Some q → IsOfReplies r p q

-- no plan before the replies cover
unplanned : (r : RecState) → IsRecoverer r → r.phase ≡ Locking → (q : Plan) → r.plan ≡ Some q → ⊥
unplanned r come_by phase q e = let d : None ≡ Some q = sym (come_by.locking phase) ∙ e in absurd (cc)

change : (c : Config) (r : RecState) (w : Word) → IsRecoverer r → CopiesReplies c r → (n : RecState) → Change r w n → CopiesReplies c n
change c r w come_by k n Stands = k
change c r w come_by k n (LosesReads i t why is) = record { begins = k.begins; copy = λ p q e f. (let m = k.copy p q e f in record { responders_are = m.responders_are; m = m.m; k = m.k }) }
change c r w come_by k n (Reads i t is) = record { begins = k.begins; copy = λ p q e f. (let m = k.copy p q e f in record { responders_are = m.responders_are; m = m.m; k = m.k }) }
change c r w come_by k n (Finds i t s g heard is) = record { begins = k.begins; copy = λ p q e f. absurd (let d : None ≡ Some q = sym (come_by.parentless (come_by.reading heard.phase)) ∙ f in absurd (cc)) }
change c r w come_by k n (Locks p end i durable known popped is) = record { begins = k.begins; copy = λ x q e f. absurd (unplanned r come_by is.phase q f) }
change c r w come_by k n (LosesLocks p end i durable known popped why is) = record { begins = k.begins; copy = λ x q e f. absurd (unplanned r come_by is.phase q f) }
change c r w come_by k n (Plans p end i durable known popped s heard is) = record {
  begins = k.begins;
  copy = λ x q e f. (
      let two : Some p ≡ Some x = sym heard.parent ∙ e in
      let d : p ≡ x = cc in
      let mine : plan_of r p (replied end i durable known) s ≡ q = cc in
      subst (λ (y : Plan). IsOfReplies n x y) mine (record { responders_are = refl; m = ap (λ (y : Parent). y.last.m) d; k = ap (λ (y : Parent). y.last.k) d }));
}
change c r w come_by k n (Copies parent p i peeked is) = record {
  begins = k.begins;
  copy = λ x q e f. (
      let m : Plan = record { state = p.state; generation = p.generation; tail = after_peeked p.tail i peeked.tag peeked } in
      let two : Some m ≡ Some q = f in
      let mine : m ≡ q = cc in
      let before = k.copy x p e is.plan in
      let same = peek_takes p.tail i peeked.tag peeked in
      subst (λ (y : Plan). IsOfReplies n x y) mine (record { responders_are = same.responders ∙ before.responders_are; m = same.m ∙ before.m; k = same.k ∙ before.k }));
}
change c r w come_by k n (Seeds p i is l) = record { begins = k.begins; copy = λ x q e f. (let m = k.copy x q e f in record { responders_are = m.responders_are; m = m.m; k = m.k }) }
change c r w come_by k n (SeedsAll p i is l) = record { begins = k.begins; copy = λ x q e f. (let m = k.copy x q e f in record { responders_are = m.responders_are; m = m.m; k = m.k }) }
change c r w come_by k n (Writes i t is) = record { begins = k.begins; copy = λ x q e f. (let m = k.copy x q e f in record { responders_are = m.responders_are; m = m.m; k = m.k }) }
change c r w come_by k n (LosesWrites i t why is) = record { begins = k.begins; copy = λ x q e f. (let m = k.copy x q e f in record { responders_are = m.responders_are; m = m.m; k = m.k }) }
change c r w come_by k n (Chooses i t is m) = record { begins = k.begins; copy = λ x q e f. (let m = k.copy x q e f in record { responders_are = m.responders_are; m = m.m; k = m.k }) }
change c r w come_by k n (Marks p i is) = record { begins = k.begins; copy = λ x q e f. (let m = k.copy x q e f in record { responders_are = m.responders_are; m = m.m; k = m.k }) }

have_copies : Laws → (c : Config) (h : List Turn) → IsRun c h → (b : ℕ) → IfSome (rec_at c h b) (CopiesReplies c)
have_copies laws c [] run b = tt
have_copies laws c (t ∷ h) run b =
    rec_by_turn c h t run.0 b (λ o. IfSome o (CopiesReplies c)) (have_copies laws c h run.1 b) (λ shape none may is. record { begins = refl; copy = λ p q e f. absurd (cc) })
    (λ r from u at told. change c r (word_of from u) (rec_is laws c h run.1 b r at).kept.come_by (subst (λ o. IfSome o (CopiesReplies c)) at (have_copies laws c h run.1 b)) (after_hear r from u) (laws.rec_change r from u))

has_copies : Laws → (c : Config) (h : List Turn) → IsRun c h → (b : ℕ) (r : RecState) → rec_at c h b ≡ Some r → CopiesReplies c r
has_copies laws c h run b r at = subst (λ o. IfSome o (CopiesReplies c)) at (have_copies laws c h run b)

pub begins_same : Laws → (c : Config) (h : List Turn) → IsRun c h → (b : ℕ) (r : RecState) → rec_at c h b ≡ Some r → r.begins ≡ c.begins
begins_same laws c h run b r at = (has_copies laws c h run b r at).begins

pub of_replies : Laws → (c : Config) (h : List Turn) → IsRun c h → (b : ℕ) (r : RecState) (p : Parent) (q : Plan) → rec_at c h b ≡ Some r → r.parent ≡ Some p → r.plan ≡ Some q → IsOfReplies r p q
of_replies laws c h run b r p q at parent plan = (has_copies laws c h run b r at).copy p q parent plan

-- ---- what they hold

pub made_from : {X : Type 0} (f : X → ℕ) (xs : List X) (i : ℕ) → Contains (map f xs) i → (x : X) × Contains xs x × (f x ≡ i)
made_from f [] i k = absurd (Contains-none k)
made_from f (y ∷ xs) i k = elim (Contains-cases (f y) (map f xs) i k) [
  | inl same ↦ (y, Contains-here y xs, same)
  | inr later ↦ (let r = made_from f xs i later in (r.0, Contains-later y xs r.0 r.1, r.2))
]

least_start : (v : ℕ) (rs : List Reply) → fold (λ w (q : Reply). min w q.durable) v rs ≤ v
least_start v [] = omega arith
least_start v (r ∷ rs) = let k = least_start (min v r.durable) rs in omega (arith, k)

least_has : (v : ℕ) (rs : List Reply) (x : Reply) → Contains rs x → fold (λ w (q : Reply). min w q.durable) v rs ≤ x.durable
least_has v [] x k = absurd (Contains-none k)
least_has v (r ∷ rs) x k = elim (Contains-cases r rs x k) [
  | inl same ↦ (let low = least_start (min v r.durable) rs in let at = ap (λ (y : Reply). y.durable) same in omega (arith, low, at))
  | inr later ↦ least_has (min v r.durable) rs x later
]

pub least_of : (rs : List Reply) (x : Reply) → Contains rs x → least_durable rs ≤ x.durable
least_of [] x k = absurd (Contains-none k)
least_of (r ∷ rs) x k = elim (Contains-cases r rs x k) [
  | inl same ↦ (let low = least_start r.durable rs in let at = ap (λ (y : Reply). y.durable) same in omega (arith, low, at))
  | inr later ↦ least_has r.durable rs x later
]

-- the last of some generations is followed by one that stands behind them
last_follows : (gens : List LogGeneration) (last next : LogGeneration) → AreOrdered (gens ++ next ∷ []) → last_of gens ≡ Some last → Follows last next
last_follows [] last next order e = absurd (cc)
last_follows (g ∷ []) last next order e = let same : g ≡ last = cc in subst (λ x. Follows x next) same order.0
last_follows (g ∷ h ∷ gens) last next order e = last_follows (h ∷ gens) last next order.1 e

-- a log that a recoverer copies from
pub record IsSource (c : Config) (h : List Turn) (r : RecState) (p : Parent) (q : Plan) (i : ℕ) : Type 0 where
  pub reply : Reply
  pub among : Contains (tally r).replies reply
  pub own : reply.log ≡ i
  pub there : i < logs_at c h p.last.epoch
  pub seeded : is_some (log_at c h p.last.epoch i).seed ≡ true
  pub starts : first_of (log_at c h p.last.epoch i).seed ≤ q.tail.pev + 1
  pub holds : q.tail.rv ≤ durable_of (log_at c h p.last.epoch i)

source_starts : Laws → (c : Config) (h : List Turn) → IsConfig c → IsRun c h → (b : ℕ) (r : RecState) (p : Parent) (q : Plan) → rec_at c h b ≡ Some r → r.parent ≡ Some p → r.plan ≡ Some q → p.last.first ≤ q.tail.pev + 1
source_starts laws c h config run b r p q at parent plan =
    let line = lines_within laws c h config run b q.generation (generation_planned laws c h run b r at q plan) in
    let order : AreOrdered (line_of c h p.last.epoch ++ q.generation ∷ []) = subst AreOrdered (line_of_plan laws c h config run b r p q at parent plan) line.1 in
    let after = last_follows (line_of c h p.last.epoch) p.last q.generation order (parent_is laws c h config run b r p at parent).last in
    let low = after.first in
    let first = (plan_is laws c h run b r at q plan).first in
    omega (arith, low, first)

pub is_source : Laws → (c : Config) (h : List Turn) → IsConfig c → IsRun c h → (b : ℕ) (r : RecState) (p : Parent) (q : Plan) → rec_at c h b ≡ Some r → r.parent ≡ Some p → r.plan ≡ Some q → (i : ℕ) → Contains q.tail.responders i → IsSource c h r p q i
is_source laws c h config run b r p q at parent plan i has = record {
  reply = from.0;
  among = from.1;
  own = from.2;
  there = subst (λ j. j < logs_at c h p.last.epoch) from.2 stand.there;
  seeded = seeded;
  starts = starts (log_at c h p.last.epoch i).seed refl seeded;
  holds = (
      let least = least_of (tally r).replies from.0 from.1 in
      let end = (end_is_of_replies laws c h run b r q at plan).seeded_to in
      let own = (plan_is laws c h run b r at q plan).seeded_to in
      let is : durable_of (log_at c h p.last.epoch i) ≡ from.0.durable = subst (λ j. durable_of (log_at c h p.last.epoch j) ≡ from.0.durable) from.2 stand.durable_is in
      omega (arith, least, end, own, is));
}
  where
    from : (x : Reply) × Contains (tally r).replies x × (x.log ≡ i)
    from = made_from (λ (x : Reply). x.log) (tally r).replies i (subst (λ xs. Contains xs i) (of_replies laws c h run b r p q at parent plan).responders_are has)

    stand : StandsAt c h p.last.epoch from.0.log from.0.durable from.0.known
    stand = All-contains (λ (x : Reply). StandsAt c h p.last.epoch x.log x.durable x.known) (tally r).replies from.0 (replies_stand_still laws c h run b r p at parent) from.1

    seeded : is_some (log_at c h p.last.epoch i).seed ≡ true
    seeded = subst (λ j. is_some (log_at c h p.last.epoch j).seed ≡ true) from.2 stand.seeded

    starts : (o : Option SeedContent) → (log_at c h p.last.epoch i).seed ≡ o → is_some o ≡ true → first_of (log_at c h p.last.epoch i).seed ≤ q.tail.pev + 1
    starts None e some = absurd (cc)
    starts (Some s) e some =
        let k : IsSeedAt c h p.last.epoch s = subst (λ o. IfSome o (IsSeedAt c h p.last.epoch)) e (logs_know laws c h run p.last.epoch i (subst (λ j. j < logs_at c h p.last.epoch) from.2 stand.there)).seed in
        let two : Some k.generation ≡ Some p.last = sym k.of ∙ (parent_is laws c h config run b r p at parent).generation in
        let same : k.generation ≡ p.last = cc in
        let first = ap first_of e in
        let is = k.first in
        let mine = ap (λ (g : LogGeneration). g.first) same in
        let low = source_starts laws c h config run b r p q at parent plan in
        omega (arith, first, is, mine, low)
