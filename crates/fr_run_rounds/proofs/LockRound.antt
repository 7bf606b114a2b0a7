-- Locking takes one round.
use Rattle.std.proofs.Common.{◌≡◌, ℕ, ◌<◌, Bool, true, false, nat_lt, ◌||◌, List, ◌++◌, Some, inl, inr, ◌⊎◌, refl, sym, ◌∙◌, ap, subst, arith}
use Rattle.std.specs.Prelude.{is_some}
use Rattle.std.specs.List.{Contains}
use Rattle.std.proofs.lemmas.Bool.{ltb-true, ltb-false, true≢false}
use Rattle.fr_base.specs.declared.place.NodeId.TheVariants as node
use Rattle.fr_tags.specs.Placement.{is_among, log_count}
use Rattle.fr_log.specs.LogState.{durable_of, known_of}
use Rattle.fr_log.specs.declared.ask.LogAsk.TheVariants.{Lock}
use Rattle.fr_log.specs.declared.ask.LogTell.TheVariants.{Locked}
use Rattle.fr_log.specs.declared.popped.PoppedTag.{PoppedTag}
use Rattle.fr_ask.specs.declared.ask.Ask.TheVariants as ask
use Rattle.fr_ask.specs.declared.tell.Tell.{Tell}
use Rattle.fr_ask.specs.declared.tell.Tell.TheVariants as tell
use Rattle.fr_epoch.specs.EndTally.{EndState, has_replied, with_reply, is_covered}
use Rattle.fr_epoch.specs.Recoverer.{RecState, Parent, Locking}
use Rattle.fr_epoch.specs.Words.{Word, word_of}
use Rattle.fr_epoch.specs.Hear.{with_lock, ended, after_hear}
use Rattle.fr_epoch.specs.Asks.{left, locks_of, pending, pending_in, phase_number}
use Rattle.fr_epoch.specs.Change.{Change, Stands, LosesReads, Reads, Finds, Locks, LosesLocks, Plans, Copies, Seeds, SeedsAll, Writes, LosesWrites, Chooses, Marks, IsReplied}
use Rattle.fr_run.specs.Config.{Config}
use Rattle.fr_run.specs.Turn.{Turn}
use Rattle.fr_run.specs.Nodes.{rec_at, logs_at, log_at}
use Rattle.fr_run.specs.Run.{IsRun}
use Rattle.fr_run.specs.Laws.{Laws}
use Rattle.fr_run.proofs.Growth.{IsRecOf, rec_is}
use Rattle.fr_run_headline.specs.LogLaws.{tally_in, tally}
use Rattle.fr_run_headline.specs.SeededLaws.{ChosenIsSeeded, WritingIsSeeded}
use Rattle.fr_run_headline.proofs.Named.{log_named}
use Rattle.fr_run_outcomes.proofs.Lists.{left_has, map_has}
use Rattle.fr_run_outcomes.proofs.Asked.{replied_more}
use Rattle.fr_run_outcomes.proofs.Counts.{count_by-range, count_short, among-from_Contains}
use Rattle.fr_run_outcomes.proofs.LockAnswers.{ended_so, locks, lock_heard, reply_counts, or_true}
use Rattle.fr_run_outcomes.proofs.Locking.{parent_seeded, all_cover}
use Rattle.fr_run_outcomes.proofs.Waiting.{locking_waits}
use Rattle.fr_run_rounds.specs.Rounds.{WasAnswered}
use Rattle.fr_run_rounds.specs.Ending.{silent_logs, LockingIsOneRound}
use Rattle.fr_run_rounds.proofs.Along.{HoldsOf, holds_at, Keeps, along, both_keep, through, run_back, IsFrom, from_change, from_keeps, phase_locking}
use Rattle.fr_run_rounds.proofs.Behind.{parent_keeps, IsBehindLog, sent_behind}
use Rattle.fr_run_rounds.proofs.Found.{locking_parent, LogAnswer, log_answer}

-- ---- a log that replied

-- a log replied, or all is locked
record ReplyDone (i : ℕ) (r : RecState) : Type 0 where
  low : IsFrom 1 r
  done : (has_replied (tally r) i ≡ true) ⊎ IsFrom 2 r

tally_more : (j : ℕ) (r : RecState) (w : Word) (p : Parent) (end : EndState) (i d f : ℕ) (ps : List PoppedTag) → IsReplied r w p end i d f ps → has_replied (tally r) j ≡ true → has_replied (with_reply end (record { log = i; durable = d; known = f })) j ≡ true
tally_more j r w p end i d f ps heard e = replied_more end (record { log = i; durable = d; known = f }) j (sym (ap (λ o. has_replied (tally_in o) j) heard.tally) ∙ e)

replies_kept : (j : ℕ) (r : RecState) (w : Word) (n : RecState) → Change r w n → IsFrom 1 r → has_replied (tally r) j ≡ true → has_replied (tally n) j ≡ true
replies_kept j r w n Stands low e = e
replies_kept j r w n (LosesReads i t y heard) low e = e
replies_kept j r w n (Reads i t heard) low e = e
replies_kept j r w n (Finds i t s g heard found) low e = absurd (let zero : phase_number r.phase ≡ 0 = ap phase_number heard.phase in omega (arith, low, zero))
replies_kept j r w n (Locks p end i d f ps heard) low e = tally_more j r w p end i d f ps heard e
replies_kept j r w n (LosesLocks p end i d f ps y heard) low e = tally_more j r w p end i d f ps heard e
replies_kept j r w n (Plans p end i d f ps s heard fixed) low e = tally_more j r w p end i d f ps heard e
replies_kept j r w n (Copies parent p i peeked given) low e = e
replies_kept j r w n (Seeds p i new not_yet) low e = e
replies_kept j r w n (SeedsAll p i new all) low e = e
replies_kept j r w n (Writes i t heard) low e = e
replies_kept j r w n (LosesWrites i t y heard) low e = e
replies_kept j r w n (Chooses i t heard m) low e = e
replies_kept j r w n (Marks p i new) low e = e

done_keeps : Laws → (c : Config) (b j : ℕ) → Keeps c b (ReplyDone j)
done_keeps laws c b j h run r from u at told k = go k.done
  where
    n : RecState
    n = after_hear r from u

    go : (has_replied (tally r) j ≡ true) ⊎ IsFrom 2 r → ReplyDone j (after_hear r from u)
    go (inl e) = record { low = from_change 1 r (word_of from u) (after_hear r from u) (laws.rec_change r from u) k.low; done = inl (replies_kept j r (word_of from u) (after_hear r from u) (laws.rec_change r from u) k.low e) }
    go (inr up) = record { low = from_change 1 r (word_of from u) (after_hear r from u) (laws.rec_change r from u) k.low; done = inr (from_change 2 r (word_of from u) (after_hear r from u) (laws.rec_change r from u) up) }

from_two : (j : ℕ) (r : RecState) → IsFrom 2 r → ReplyDone j r
from_two j r up = record { low = omega (arith, up); done = inr up }

ended_from : (j : ℕ) (r : RecState) (p : Parent) (end : EndState) → ReplyDone j (ended r p end)
ended_from j r p end = from_two j (ended r p end) (elim (ended_so r p end).so [
  | inl planned ↦ (let two : phase_number (ended r p end).phase ≡ 2 = ap phase_number planned.0 in omega (arith, two))
  | inr lost ↦ (let five : phase_number (ended r p end).phase ≡ 5 = ap phase_number lost.is in omega (arith, five))
])

-- a reply of a log is heard
hears : (r : RecState) (p : Parent) (end : EndState) (i d f : ℕ) (ps : List PoppedTag) → r.phase ≡ Locking → r.parent ≡ Some p → r.end ≡ Some end → i < end.m → ReplyDone i (after_hear r (node.Log p.last.epoch i) (tell.Log (Locked d f ps)))
hears r p end i d f ps phase parent tallied below = go (is_covered (with_reply end (record { log = i; durable = d; known = f }))) refl
  where
    counted : (x : Bool) → has_replied end i ≡ x → has_replied (with_reply end (record { log = i; durable = d; known = f })) i ≡ true
    counted true e = replied_more end (record { log = i; durable = d; known = f }) i e
    counted false e = reply_counts end (record { log = i; durable = d; known = f }) below e

    go : (x : Bool) → is_covered (with_reply end (record { log = i; durable = d; known = f })) ≡ x → ReplyDone i (after_hear r (node.Log p.last.epoch i) (tell.Log (Locked d f ps)))
    go true e = subst (ReplyDone i) (sym (lock_heard r p end i d f ps phase parent tallied true e)) (ended_from i (with_lock r end i d f ps) p (with_reply end (record { log = i; durable = d; known = f })))
    go false e = subst (ReplyDone i) (sym (lock_heard r p end i d f ps phase parent tallied false e)) (record {
      low = (let one : phase_number r.phase ≡ 1 = ap phase_number phase in omega (arith, one));
      done = inl (counted (has_replied end i) refl);
    })

-- ---- the round

lock_asked : (r : RecState) (p : Parent) (end : EndState) (i : ℕ) → r.phase ≡ Locking → r.parent ≡ Some p → r.end ≡ Some end → i < p.last.m → has_replied end i ≡ false → Contains (pending r) (node.Log p.last.epoch i, ask.Log (Lock p.last.epoch))
lock_asked r p end i phase parent tallied below fresh =
    subst (λ xs. Contains xs (node.Log p.last.epoch i, ask.Log (Lock p.last.epoch))) (sym (ap (λ ph. pending_in ph r) phase ∙ ap (λ o. locks_of o r.end) parent ∙ ap (λ o. locks_of (Some p) o) tallied))
    (map_has (λ j. (node.Log p.last.epoch j, ask.Log (Lock p.last.epoch))) (left p.last.m (has_replied end)) i (left_has p.last.m (has_replied end) i below fresh))

pub record LockRules : Type 0 where
  pub laws : Laws
  pub chosen : ChosenIsSeeded
  pub writing : WritingIsSeeded

pub locking_is_one_round : LockRules → LockingIsOneRound
locking_is_one_round rules c h turns config run b answers round r n at phase there few still = finish
  where
    laws : Laws
    laws = rules.laws

    run_start : IsRun c h
    run_start = run_back c turns h run

    p : (p : Parent) × (r.parent ≡ Some p)
    p = locking_parent rules.laws c h run_start b r at phase

    parent_at : (l : List Turn) (m : RecState) → HoldsOf (rec_at c l b) (λ x. x.parent ≡ Some p.0) → rec_at c l b ≡ Some m → m.parent ≡ Some p.0
    parent_at l m k here = holds_at (rec_at c l b) (λ x. x.parent ≡ Some p.0) k m here

    parent_last : n.parent ≡ Some p.0
    parent_last = parent_at (turns ++ h) n (along c b (λ x. x.parent ≡ Some p.0) (parent_keeps rules.laws c b p.0) turns h run r at p.1) there

    tallied : (l : List Turn) → IsRun c l → (m : RecState) → rec_at c l b ≡ Some m → m.parent ≡ Some p.0 → (e : EndState) × (m.end ≡ Some e) × (e.m ≡ p.0.last.m) × (e.k ≡ p.0.last.k)
    tallied l run_l m here parent = (rec_is rules.laws c l run_l b m here).kept.come_by.tallied p.0 parent

    ended_now : (i : ℕ) → ReplyDone i n → has_replied (tally n) i ≡ true
    ended_now i k = elim k.done [ inl e ↦ e | inr up ↦ absurd (let one : phase_number n.phase ≡ 1 = ap phase_number still in omega (arith, up, one)) ]

    -- a log that answers tells that it is locked
    told : (mid : List Turn) → IsRun c mid → (i : ℕ) (u : Tell) → WasAnswered c mid b (node.Log p.0.last.epoch i) (ask.Log (Lock p.0.last.epoch)) u → (d : ℕ) × (f : ℕ) × (ps : List PoppedTag) × (u ≡ tell.Log (Locked d f ps))
    told mid run_mid i u answered = (
      durable_of (log_at c answer.past p.0.last.epoch i),
      known_of (log_at c answer.past p.0.last.epoch i),
      (log_at c answer.past p.0.last.epoch i).popped,
      answer.is ∙ ap tell.Log (locks (log_at c answer.past p.0.last.epoch i) p.0.last.epoch (log_named rules.laws c answer.past answer.run p.0.last.epoch i inside).epoch seeded),
    )
      where
        answer : LogAnswer c mid b p.0.last.epoch i (Lock p.0.last.epoch) u
        answer = log_answer c mid run_mid b p.0.last.epoch i (Lock p.0.last.epoch) u answered

        behind : HoldsOf (rec_at c answer.past b) (λ x. IsBehindLog x p.0.last.epoch i (Lock p.0.last.epoch))
        behind = sent_behind rules.laws c answer.past answer.run b p.0.last.epoch i (Lock p.0.last.epoch) answer.sent

        inside : i < logs_at c answer.past p.0.last.epoch
        inside = ltb-true i (logs_at c answer.past p.0.last.epoch) answer.up.there

        seeded : is_some (log_at c answer.past p.0.last.epoch i).seed ≡ true
        seeded = seeded_there (behind.holds.2)
          where
            seeded_there : behind.holds.0.last.epoch ≡ p.0.last.epoch → is_some (log_at c answer.past p.0.last.epoch i).seed ≡ true
            seeded_there same =
                (subst (λ e. (j : ℕ) → j < logs_at c answer.past e → is_some (log_at c answer.past e j).seed ≡ true) same
                (parent_seeded rules.laws rules.chosen rules.writing c answer.past config answer.run b behind.recoverer behind.holds.0 behind.is behind.holds.1).seeded) i inside

    brings : (i : ℕ) → i < p.0.last.m → (mid : List Turn) (m : RecState) (u : Tell) → IsRun c mid → rec_at c mid b ≡ Some m → IsFrom 1 m → m.parent ≡ Some p.0 → WasAnswered c mid b (node.Log p.0.last.epoch i) (ask.Log (Lock p.0.last.epoch)) u
        → ReplyDone i (after_hear m (node.Log p.0.last.epoch i) u)
    brings i below mid m u run_mid here low parent answered = go (nat_lt (phase_number m.phase) 2) refl
      where
        go : (x : Bool) → nat_lt (phase_number m.phase) 2 ≡ x → ReplyDone i (after_hear m (node.Log p.0.last.epoch i) u)
        go true e =
            let k = told mid run_mid i u answered in
            let t = tallied mid run_mid m here parent in
            let many = t.2 in
            subst (λ x. ReplyDone i (after_hear m (node.Log p.0.last.epoch i) x)) (sym k.3)
            (hears m p.0 t.0 i k.0 k.1 k.2 (phase_locking m.phase low (ltb-true (phase_number m.phase) 2 e)) parent t.1 (omega (arith, below, many)))
        go false e = from_two i (after_hear m (node.Log p.0.last.epoch i) u) (from_change 2 m (word_of (node.Log p.0.last.epoch i) u) (after_hear m (node.Log p.0.last.epoch i) u) (laws.rec_change m (node.Log p.0.last.epoch i) u) (ltb-false (phase_number m.phase) 2 e))

    each : (i : ℕ) → i < p.0.last.m → answers (node.Log p.0.last.epoch i) ≡ true → has_replied (tally n) i ≡ true
    each i below heeds = ended_now i (go (has_replied t.0 i) refl)
      where
        t : (e : EndState) × (r.end ≡ Some e) × (e.m ≡ p.0.last.m) × (e.k ≡ p.0.last.k)
        t = tallied h run_start r at p.1

        start : IsFrom 1 r
        start = (let one : phase_number r.phase ≡ 1 = ap phase_number phase in omega (arith, one))

        go : (x : Bool) → has_replied t.0 i ≡ x → ReplyDone i n
        go true e = holds_at (rec_at c (turns ++ h) b) (ReplyDone i) (along c b (ReplyDone i) (done_keeps rules.laws c b i) turns h run r at (record { low = start; done = inl (ap (λ o. has_replied (tally_in o) i) t.1 ∙ e) })) n there
        go false e =
            holds_at (rec_at c (turns ++ h) b) (ReplyDone i)
            (through c b h turns (node.Log p.0.last.epoch i) (ask.Log (Lock p.0.last.epoch)) run
            (round r at (node.Log p.0.last.epoch i) (ask.Log (Lock p.0.last.epoch)) (lock_asked r p.0 t.0 i phase p.1 t.1 below e) heeds) r at
            (λ x. IsFrom 1 x × (x.parent ≡ Some p.0)) (ReplyDone i) (both_keep c b (IsFrom 1) (λ x. x.parent ≡ Some p.0) (from_keeps rules.laws c b 1) (parent_keeps rules.laws c b p.0)) (done_keeps rules.laws c b i) (start, p.1)
            (λ mid m u run_mid here said answered k. brings i below mid m u run_mid here k.0 k.1 answered))
            n there

    finish : ⊥
    finish = true≢false (sym covered ∙ locking_waits c (turns ++ h) run b n there still)
      where
        t : (e : EndState) × (n.end ≡ Some e) × (e.m ≡ p.0.last.m) × (e.k ≡ p.0.last.k)
        t = tallied (turns ++ h) run n there parent_last

        own : IsRecOf b n
        own = rec_is rules.laws c (turns ++ h) run b n there

        by_log : (i : ℕ) → i < p.0.last.m → (x : Bool) → answers (node.Log p.0.last.epoch i) ≡ x → (has_replied t.0 i || is_among (silent_logs answers p.0.last) i) ≡ true
        by_log i below true e = ap (λ y. y || is_among (silent_logs answers p.0.last) i) (sym (ap (λ o. has_replied (tally_in o) i) t.1) ∙ each i below e)
        by_log i below false e =
            ap (λ y. has_replied t.0 i || y) (among-from_Contains (silent_logs answers p.0.last) i (left_has p.0.last.m (λ j. answers (node.Log p.0.last.epoch j)) i below e)) ∙ or_true (has_replied t.0 i)

        few_among : (end : EndState) → end.k ≡ p.0.last.k → log_count end.m (silent_logs answers p.0.last) < end.k
        few_among end k =
            let less = few p.0 parent_last in
            let told = count_by-range (is_among (silent_logs answers p.0.last)) end.m in
            let short = count_short (silent_logs answers p.0.last) end.m in
            omega (arith, less, k, told, short)

        covered : is_covered (tally n) ≡ true
        covered =
            ap (λ o. is_covered (tally_in o)) t.1
            ∙ all_cover t.0 (silent_logs answers p.0.last)
            (let limits = own.kept.parent p.0 parent_last in let high = limits.k_high in let m = t.2 in let k = t.3 in omega (arith, high, m, k))
            (few_among t.0 t.3)
            (λ i below. by_log i (let m = t.2 in omega (arith, below, m)) (answers (node.Log p.0.last.epoch i)) refl)
