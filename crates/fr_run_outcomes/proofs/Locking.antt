-- A recoverer that locks the logs of a generation of which fewer than k are lost comes to know its end, if the others are asked.
use Rattle.std.proofs.Common.{◌≡◌, ℕ, ◌+◌, ◌-◌, ◌<◌, ◌≤◌, ◌^◌, Bool, true, false, cond, nat_lt, nat_le, ◌||◌, List, [], ◌∷◌, length, Some, inl, inr, ◌⊎◌, refl, sym, ◌∙◌, ap, subst, arith}
use Rattle.std.specs.Prelude.{is_some}
use Rattle.std.specs.List.{Contains, All, range_with_len}
use Rattle.std.proofs.lemmas.Bool.{lt-ltb, true≢false}
use Rattle.std.proofs.lemmas.List.Elements.{All-nil, All-cons, All-tail, All-head, All-weaker, All-contains}
use Rattle.fr_base.specs.declared.place.NodeId.TheVariants as node
use Rattle.fr_tags.specs.Placement.{is_among, log_count}
use Rattle.fr_state.specs.Generations.{LogGeneration}
use Rattle.fr_log.specs.LogState.{durable_of, known_of}
use Rattle.fr_log.specs.Step.{answer_of}
use Rattle.fr_log.specs.declared.ask.LogAsk.TheVariants.{Lock}
use Rattle.fr_log.specs.declared.ask.LogTell.TheVariants.{Locked}
use Rattle.fr_log.specs.declared.popped.PoppedTag.{PoppedTag}
use Rattle.fr_ask.specs.declared.ask.Ask.TheVariants as ask
use Rattle.fr_ask.specs.declared.tell.Tell.TheVariants as tell
use Rattle.fr_epoch.specs.declared.reply.Reply.{Reply}
use Rattle.fr_epoch.specs.EndTally.{EndState, has_replied, with_reply, is_covered, responders, rv_of}
use Rattle.fr_epoch.specs.Recoverer.{RecState, Parent, Locking}
use Rattle.fr_epoch.specs.Hear.{with_lock, ended, left_of, after_hear}
use Rattle.fr_epoch.specs.Asks.{left, locks_of, pending_in}
use Rattle.fr_run.specs.Config.{Config, first_epoch}
use Rattle.fr_run.specs.Turn.{Turn, LogTurn, Gone, Sent}
use Rattle.fr_run.specs.Nodes.{rec_at, logs_at, log_at}
use Rattle.fr_run.specs.Run.{IsUp, IsRun}
use Rattle.fr_run.specs.StateLaws.{IsConfig}
use Rattle.fr_run.specs.Laws.{Laws}
use Rattle.fr_run.proofs.Growth.{IsRecOf, rec_is}
use Rattle.fr_run.proofs.Chosen.{first_is_chosen}
use Rattle.fr_run.proofs.Parents.{parent_from, parent_is_planned}
use Rattle.fr_run.proofs.States.{recoverers_have_states}
use Rattle.fr_run_headline.specs.LogLaws.{tally_in}
use Rattle.fr_run_headline.specs.SeededLaws.{IsSeededEpoch, ChosenIsSeeded, WritingIsSeeded}
use Rattle.fr_run_headline.proofs.Named.{log_named}
use Rattle.fr_run_headline.specs.Retrievable.{lost_logs}
use Rattle.fr_run_outcomes.specs.Pending.{PendingIsSent}
use Rattle.fr_run_outcomes.specs.Going.{GoesOn}
use Rattle.fr_run_outcomes.specs.Locking.{HasRoomIn, RepliedAreUp, HasPlan, LocksOn, LockingEnds}
use Rattle.fr_run_outcomes.proofs.Lists.{in_range, map_has, left_has}
use Rattle.fr_run_outcomes.proofs.Asked.{replied_more}
use Rattle.fr_run_outcomes.proofs.Counts.{below_all, log_count_either, among_map}
use Rattle.fr_run_outcomes.proofs.Going.{IsHeard, stands, goes_further, still_up, rec_still_up, log_heard}
use Rattle.fr_run_outcomes.proofs.LockAnswers.{HasEnded, IsLostSo, ended_so, has_ended, left_fits, low_enough, not_spent, other_last, locks, lock_heard, reply_cases, or_true, reply_low, reply_counts, reply_shape, LockRules}
use Rattle.fr_run_outcomes.proofs.Lose.{lost_is_among}
use Rattle.fr_run_outcomes.proofs.Rooms.{room_left}
use Rattle.fr_run_outcomes.proofs.Waiting.{locking_waits}

-- ---- the way

-- a moment at which a recoverer locks, has these replies, and each log that is not among some is up
record IsLocking (c : Config) (b : ℕ) (p : Parent) (gone : List ℕ) (h : List Turn) (r : RecState) (end : EndState) : Type 0 where
  run : IsRun c h
  at : rec_at c h b ≡ Some r
  up : IsUp c h (node.Recoverer b)
  phase : r.phase ≡ Locking
  parent : r.parent ≡ Some p
  tallied : r.end ≡ Some end
  m : end.m ≡ p.last.m
  k : end.k ≡ p.last.k
  alive : (i : ℕ) → is_among gone i ≡ false → Contains h (Gone (node.Log p.last.epoch i)) → ⊥

-- what stays the same but for more replies
record HasMore (c : Config) (b : ℕ) (p : Parent) (gone : List ℕ) (h : List Turn) (r : RecState) (end : EndState) (later : List Turn) (n : RecState) (test : EndState → Type 0) : Type 0 where
  more : EndState
  locking : IsLocking c b p gone later n more
  passes : test more
  keeps : (j : ℕ) → has_replied end j ≡ true → has_replied more j ≡ true

record Locks (c : Config) (b : ℕ) (p : Parent) (gone : List ℕ) (h : List Turn) (r : RecState) (end : EndState) (test : EndState → Type 0) : Type 0 where
  later : List Turn
  goes_on : GoesOn c b h later
  recoverer : RecState
  at : rec_at c later b ≡ Some recoverer
  parent : recoverer.parent ≡ Some p
  replied : RepliedAreUp h p r → RepliedAreUp later p recoverer
  next : HasEnded c h p recoverer ⊎ HasMore c b p gone h r end later recoverer test

-- the lock of a log that did not reply was sent
lock_sent : PendingIsSent → (c : Config) (b : ℕ) (p : Parent) (gone : List ℕ) (h : List Turn) (r : RecState) (end : EndState) → IsLocking c b p gone h r end → (i : ℕ) → i < p.last.m → has_replied end i ≡ false
    → Sent h (node.Recoverer b) (node.Log p.last.epoch i) (ask.Log (Lock p.last.epoch))
lock_sent sent c b p gone h r end k i below fresh =
    sent c h k.run b r k.at (node.Log p.last.epoch i) (ask.Log (Lock p.last.epoch))
    (subst (λ xs. Contains xs (node.Log p.last.epoch i, ask.Log (Lock p.last.epoch))) (sym (ap (λ ph. pending_in ph r) k.phase ∙ ap (λ o. locks_of o r.end) k.parent ∙ ap (λ o. locks_of (Some p) o) k.tallied))
    (map_has (λ j. (node.Log p.last.epoch j, ask.Log (Lock p.last.epoch))) (left p.last.m (has_replied end)) i (left_has p.last.m (has_replied end) i below fresh)))

-- the logs of the epoch that it ends are there, and seeded
pub parent_seeded : Laws → ChosenIsSeeded → WritingIsSeeded → (c : Config) (h : List Turn) → IsConfig c → IsRun c h → (b : ℕ) (r : RecState) (p : Parent) → rec_at c h b ≡ Some r → r.parent ≡ Some p → IsSeededEpoch c h p.last.epoch
parent_seeded laws chosen writing c h config run b r p at parent = elim (parent_is_planned laws c h config run b r p at parent) [
  | inl first ↦ subst (IsSeededEpoch c h) (sym first) (chosen c h config run first_epoch (first_is_chosen c h))
  | inr k ↦ writing c h config run p.last.epoch k.recoverer k.at k.written
]

pub parent_logs : Laws → ChosenIsSeeded → WritingIsSeeded → (c : Config) (h : List Turn) → IsConfig c → IsRun c h → (b : ℕ) (r : RecState) (p : Parent) → rec_at c h b ≡ Some r → r.parent ≡ Some p → (i : ℕ) → i < p.last.m
    → (i < logs_at c h p.last.epoch) × (is_some (log_at c h p.last.epoch i).seed ≡ true)
parent_logs laws chosen writing c h config run b r p at parent i below =
    let epoch = parent_seeded laws chosen writing c h config run b r p at parent in
    let two : Some epoch.generation ≡ Some p.last = sym epoch.of ∙ (parent_from laws c h config run b r p at parent).generation in
    let same : epoch.generation ≡ p.last = cc in
    let many = epoch.logs ∙ ap (λ (g : LogGeneration). g.m) same in
    let there : i < logs_at c h p.last.epoch = omega (arith, many, below) in
    (there, epoch.seeded i there)

locked : LockRules → (c : Config) → IsConfig c → (b : ℕ) (p : Parent) (gone : List ℕ) (h : List Turn) (r : RecState) (end : EndState) → IsLocking c b p gone h r end
    → (i : ℕ) → i < p.last.m → is_among gone i ≡ false → has_replied end i ≡ false → (d known : ℕ) (ps : List PoppedTag) → d ≡ durable_of (log_at c h p.last.epoch i) → (t : Turn) → IsHeard c h b t (after_hear r (node.Log p.last.epoch i) (tell.Log (Locked d known ps)))
    → (x : Bool) → is_covered (with_reply end (record { log = i; durable = d; known = known })) ≡ x → Locks c b p gone h r end (λ more. has_replied more i ≡ true)
locked rules c config b p gone h r end k i below here fresh d known ps told t v x e = record {
  later = v.later;
  goes_on = v.goes_on;
  recoverer = after_hear r (node.Log p.last.epoch i) (tell.Log (Locked d known ps));
  at = v.at;
  parent = parent_is x e;
  replied = λ all y has lost. elim (reply_cases end one y (subst (λ (s : EndState). Contains s.replies y) (ap tally_in (tally_is x e)) has)) [
    | inl before ↦ still_up c b h v.later v.goes_on (node.Log p.last.epoch y.log) (all y (subst (λ (s : EndState). Contains s.replies y) (sym (ap tally_in k.tallied)) before)) lost
    | inr now ↦ still_up c b h v.later v.goes_on (node.Log p.last.epoch i) (k.alive i here) (subst (λ j. Contains v.later (Gone (node.Log p.last.epoch j))) (sym (ap (λ (z : Reply). z.log) now)) lost)
  ];
  next = next x e;
}
  where
    one : Reply
    one = record { log = i; durable = d; known = known }

    is : (x : Bool) → is_covered (with_reply end (record { log = i; durable = d; known = known })) ≡ x
        → after_hear r (node.Log p.last.epoch i) (tell.Log (Locked d known ps)) ≡ cond x (ended (with_lock r end i d known ps) p (with_reply end (record { log = i; durable = d; known = known }))) (with_lock r end i d known ps)
    is x e = lock_heard r p end i d known ps k.phase k.parent k.tallied x e

    tally_is : (x : Bool) → is_covered (with_reply end (record { log = i; durable = d; known = known })) ≡ x
        → (after_hear r (node.Log p.last.epoch i) (tell.Log (Locked d known ps))).end ≡ Some (with_reply end (record { log = i; durable = d; known = known }))
    tally_is true e = ap (λ (y : RecState). y.end) (is true e) ∙ (ended_so (with_lock r end i d known ps) p (with_reply end (record { log = i; durable = d; known = known }))).tally_is
    tally_is false e = ap (λ (y : RecState). y.end) (is false e)

    parent_is : (x : Bool) → is_covered (with_reply end (record { log = i; durable = d; known = known })) ≡ x → (after_hear r (node.Log p.last.epoch i) (tell.Log (Locked d known ps))).parent ≡ Some p
    parent_is true e = ap (λ (y : RecState). y.parent) (is true e) ∙ (ended_so (with_lock r end i d known ps) p (with_reply end (record { log = i; durable = d; known = known }))).parent_is ∙ k.parent
    parent_is false e = ap (λ (y : RecState). y.parent) (is false e) ∙ k.parent

    shape : ((with_reply end (record { log = i; durable = d; known = known })).m ≡ end.m) × ((with_reply end (record { log = i; durable = d; known = known })).k ≡ end.k)
    shape = reply_shape end (record { log = i; durable = d; known = known })

    -- if there is room now, there is room then
    fits : HasRoomIn c h p.state p.last → nat_lt (length (left_of (with_lock r end i d known ps) p).gens) 64 ≡ true
    fits room =
        left_fits rules.laws p.state (with_lock r end i d known ps).shown (range_with_len 0 (length (with_lock r end i d known ps).begins)) ((recoverers_have_states rules.laws c h config k.run b r k.at).parent p k.parent).0 room.gens

    unspent : HasRoomIn c h p.state p.last → nat_le (2 ^ 62) (rv_of (with_reply end (record { log = i; durable = d; known = known })) + 1) ≡ false
    unspent room =
        not_spent (2 ^ 62) (rv_of (with_reply end (record { log = i; durable = d; known = known })) + 1)
        (low_enough (2 ^ 62) (rv_of (with_reply end (record { log = i; durable = d; known = known }))) d (durable_of (log_at c h p.last.epoch i))
        (reply_low end (record { log = i; durable = d; known = known }) (let m = k.m in omega (arith, m, below)) fresh) told (room.versions i below))

    next : (x : Bool) → is_covered (with_reply end (record { log = i; durable = d; known = known })) ≡ x
        → HasEnded c h p (after_hear r (node.Log p.last.epoch i) (tell.Log (Locked d known ps))) ⊎ HasMore c b p gone h r end v.later (after_hear r (node.Log p.last.epoch i) (tell.Log (Locked d known ps))) (λ more. has_replied more i ≡ true)
    next true e =
        inl (has_ended rules.only c h v.later config v.goes_on.is_run b p (left_of (with_lock r end i d known ps) p) (with_reply end (record { log = i; durable = d; known = known })) (after_hear r (node.Log p.last.epoch i) (tell.Log (Locked d known ps))) v.at fits unspent
        (subst (λ (y : RecState). HasPlan y ⊎ IsLostSo (left_of (with_lock r end i d known ps) p) (with_reply end (record { log = i; durable = d; known = known })) y) (sym (is true e)) (ended_so (with_lock r end i d known ps) p (with_reply end (record { log = i; durable = d; known = known }))).so))
    next false e = inr (record {
      more = with_reply end (record { log = i; durable = d; known = known });
      locking = record {
        run = v.goes_on.is_run;
        at = v.at;
        up = rec_still_up rules.laws c b h v.later v.goes_on b k.up;
        phase = ap (λ (y : RecState). y.phase) (is false e) ∙ k.phase;
        parent = parent_is false e;
        tallied = tally_is false e;
        m = shape.0 ∙ k.m;
        k = shape.1 ∙ k.k;
        alive = λ j other. still_up c b h v.later v.goes_on (node.Log p.last.epoch j) (k.alive j other);
      };
      passes = reply_counts end (record { log = i; durable = d; known = known }) (let m = k.m in omega (arith, m, below)) fresh;
      keeps = replied_more end (record { log = i; durable = d; known = known });
    })

lock_one : LockRules → (c : Config) → IsConfig c → (b : ℕ) (p : Parent) (gone : List ℕ) (h : List Turn) (r : RecState) (end : EndState) → IsLocking c b p gone h r end
    → (i : ℕ) → i < p.last.m → is_among gone i ≡ false → has_replied end i ≡ false → Locks c b p gone h r end (λ more. has_replied more i ≡ true)
lock_one rules c config b p gone h r end k i below here fresh = come (is_covered (with_reply end (record { log = i; durable = durable_of (log_at c h p.last.epoch i); known = known_of (log_at c h p.last.epoch i) }))) refl
  where
    logs : (i < logs_at c h p.last.epoch) × (is_some (log_at c h p.last.epoch i).seed ≡ true)
    logs = parent_logs rules.laws rules.chosen rules.writing c h config k.run b r p k.at k.parent i below

    heard : IsHeard c h b (LogTurn (node.Recoverer b) p.last.epoch i (Lock p.last.epoch) (answer_of (log_at c h p.last.epoch i) (Lock p.last.epoch)))
        (after_hear r (node.Log p.last.epoch i) (tell.Log (Locked (durable_of (log_at c h p.last.epoch i)) (known_of (log_at c h p.last.epoch i)) (log_at c h p.last.epoch i).popped)))
    heard = subst (λ t. IsHeard c h b (LogTurn (node.Recoverer b) p.last.epoch i (Lock p.last.epoch) (answer_of (log_at c h p.last.epoch i) (Lock p.last.epoch))) (after_hear r (node.Log p.last.epoch i) (tell.Log t)))
        (locks (log_at c h p.last.epoch i) p.last.epoch (log_named rules.laws c h k.run p.last.epoch i logs.0).epoch logs.1)
        (log_heard c h k.run b r k.at k.up p.last.epoch i (Lock p.last.epoch) (record { there = lt-ltb i (logs_at c h p.last.epoch) logs.0; up = k.alive i here }) (lock_sent rules.sent c b p gone h r end k i below fresh) tt)

    come : (x : Bool) → is_covered (with_reply end (record { log = i; durable = durable_of (log_at c h p.last.epoch i); known = known_of (log_at c h p.last.epoch i) })) ≡ x → Locks c b p gone h r end (λ more. has_replied more i ≡ true)
    come x e = locked rules c config b p gone h r end k i below here fresh (durable_of (log_at c h p.last.epoch i)) (known_of (log_at c h p.last.epoch i)) (log_at c h p.last.epoch i).popped refl _ heard x e

-- a log replied, or is gone
abbrev pub IsDone : List ℕ → EndState → ℕ → Type 0
IsDone gone end i = (has_replied end i || is_among gone i) ≡ true

done_later : (gone : List ℕ) (end more : EndState) → ((j : ℕ) → has_replied end j ≡ true → has_replied more j ≡ true) → (i : ℕ) → IsDone gone end i → IsDone gone more i
done_later gone end more keeps i = go (has_replied end i) refl
  where
    go : (x : Bool) → has_replied end i ≡ x → (x || is_among gone i) ≡ true → (has_replied more i || is_among gone i) ≡ true
    go true e k = ap (λ y. y || is_among gone i) (keeps i e)
    go false e k = ap (λ y. has_replied more i || y) k ∙ or_true (has_replied more i)

-- one more log is asked, if it is not gone
lock_more : LockRules → (c : Config) → IsConfig c → (b : ℕ) (p : Parent) (gone : List ℕ) (h : List Turn) (r : RecState) (end : EndState) (i : ℕ) (logs : List ℕ) → i < p.last.m → Locks c b p gone h r end (λ more. All (IsDone gone more) logs)
    → Locks c b p gone h r end (λ more. All (IsDone gone more) (i ∷ logs))
lock_more rules c config b p gone h r end i logs below rest = go rest.next
  where
    done : (e : EndState) → IsDone gone e i → All (IsDone gone e) logs → All (IsDone gone e) (i ∷ logs)
    done e first others = All-cons (IsDone gone e) i logs first others

    same : (m : HasMore c b p gone h r end rest.later rest.recoverer (λ more. All (IsDone gone more) logs)) → IsDone gone m.more i → Locks c b p gone h r end (λ more. All (IsDone gone more) (i ∷ logs))
    same m first = record {
      later = rest.later;
      goes_on = rest.goes_on;
      recoverer = rest.recoverer;
      at = rest.at;
      parent = rest.parent;
      replied = rest.replied;
      next = inr (record { more = m.more; locking = m.locking; passes = done m.more first m.passes; keeps = m.keeps });
    }

    -- what lacks room after these turns lacked it before
    earlier : (n : RecState) → HasEnded c rest.later p n → HasEnded c h p n
    earlier n (inl plan) = inl plan
    earlier n (inr lacks) = inr (record {
      found = lacks.found;
      never = λ room. lacks.never (room_left rules.laws rules.changes rules.accounted c b h rest.later rest.goes_on p.state p.last (other_last rules.laws c rest.later config rest.goes_on.is_run b rest.recoverer p rest.at rest.parent) room);
    })

    further : (m : HasMore c b p gone h r end rest.later rest.recoverer (λ more. All (IsDone gone more) logs)) → (o : Locks c b p gone rest.later rest.recoverer m.more (λ more. has_replied more i ≡ true)) → Locks c b p gone h r end (λ more. All (IsDone gone more) (i ∷ logs))
    further m o = record {
      later = o.later;
      goes_on = goes_further c b h rest.later o.later rest.goes_on o.goes_on;
      recoverer = o.recoverer;
      at = o.at;
      parent = o.parent;
      replied = λ all. o.replied (rest.replied all);
      next = elim o.next [
        | inl ended ↦ inl (earlier o.recoverer ended)
        | inr n ↦ inr (record {
          more = n.more;
          locking = n.locking;
          passes = done n.more (ap (λ y. y || is_among gone i) n.passes) (All-weaker (IsDone gone m.more) (IsDone gone n.more) (done_later gone m.more n.more n.keeps) logs m.passes);
          keeps = λ j e. n.keeps j (m.keeps j e);
        })
      ];
    }

    ask : (m : HasMore c b p gone h r end rest.later rest.recoverer (λ more. All (IsDone gone more) logs)) → (x : Bool) → is_among gone i ≡ x → (y : Bool) → has_replied m.more i ≡ y → Locks c b p gone h r end (λ more. All (IsDone gone more) (i ∷ logs))
    ask m true e y f = same m (ap (λ z. has_replied m.more i || z) e ∙ or_true (has_replied m.more i))
    ask m false e true f = same m (ap (λ z. z || is_among gone i) f)
    ask m false e false f = further m (lock_one rules c config b p gone rest.later rest.recoverer m.more m.locking i below e f)

    go : HasEnded c h p rest.recoverer ⊎ HasMore c b p gone h r end rest.later rest.recoverer (λ more. All (IsDone gone more) logs) → Locks c b p gone h r end (λ more. All (IsDone gone more) (i ∷ logs))
    go (inl ended) = record { later = rest.later; goes_on = rest.goes_on; recoverer = rest.recoverer; at = rest.at; parent = rest.parent; replied = rest.replied; next = inl ended }
    go (inr m) = ask m (is_among gone i) refl (has_replied m.more i) refl

-- each of these logs is asked, but for those that are gone
lock_all : LockRules → (c : Config) → IsConfig c → (b : ℕ) (p : Parent) (gone : List ℕ) (h : List Turn) (r : RecState) (end : EndState) → IsLocking c b p gone h r end
    → (logs : List ℕ) → All (λ i. i < p.last.m) logs → Locks c b p gone h r end (λ more. All (IsDone gone more) logs)
lock_all rules c config b p gone h r end k [] below = record {
  later = h;
  goes_on = stands c b h k.run;
  recoverer = r;
  at = k.at;
  parent = k.parent;
  replied = λ all. all;
  next = inr (record { more = end; locking = k; passes = All-nil (IsDone gone end); keeps = λ j e. e });
}
lock_all rules c config b p gone h r end k (i ∷ logs) below =
    lock_more rules c config b p gone h r end i logs (All-head (λ i. i < p.last.m) i logs below)
    (lock_all rules c config b p gone h r end k logs (All-tail (λ i. i < p.last.m) i logs below))

-- ---- the end

-- where all replied but those that are gone, which are fewer than k, the replies cover
pub all_cover : (end : EndState) (gone : List ℕ) → end.k ≤ end.m → log_count end.m gone < end.k → ((i : ℕ) → i < end.m → IsDone gone end i) → is_covered end ≡ true
all_cover end gone fits few each =
    lt-ltb (end.m - end.k) (log_count end.m (responders end)) (
    let both = log_count_either end.m (responders end) gone (λ i l. ap (λ b. b || is_among gone i) (among_map (λ (r : Reply). r.log) end.replies i) ∙ each i l) in
    omega (arith, both, few, fits))

pub locking_ends : LockRules → LockingEnds
locking_ends rules c h config run b r p at phase parent up few = finish all.next
  where
    own : IsRecOf b r
    own = rec_is rules.laws c h run b r at

    start : IsLocking c b p (lost_logs h p.last.epoch) h r (own.kept.come_by.tallied p parent).0
    start = record {
      run = run;
      at = at;
      up = up;
      phase = phase;
      parent = parent;
      tallied = (own.kept.come_by.tallied p parent).1;
      m = (own.kept.come_by.tallied p parent).2;
      k = (own.kept.come_by.tallied p parent).3;
      alive = λ i other lost. true≢false (sym (lost_is_among h p.last.epoch i lost) ∙ other);
    }

    all : Locks c b p (lost_logs h p.last.epoch) h r (own.kept.come_by.tallied p parent).0 (λ more. All (IsDone (lost_logs h p.last.epoch) more) (range_with_len 0 p.last.m))
    all = lock_all rules c config b p (lost_logs h p.last.epoch) h r (own.kept.come_by.tallied p parent).0 start (range_with_len 0 p.last.m) (below_all p.last.m)

    covered : (m : HasMore c b p (lost_logs h p.last.epoch) h r (own.kept.come_by.tallied p parent).0 all.later all.recoverer (λ more. All (IsDone (lost_logs h p.last.epoch) more) (range_with_len 0 p.last.m))) → is_covered m.more ≡ true
    covered m =
        let limits = own.kept.parent p parent in
        let k = m.locking.k in
        let n = m.locking.m in
        all_cover m.more (lost_logs h p.last.epoch) (let high = limits.k_high in omega (arith, k, n, high))
        (subst (λ x. log_count x (lost_logs h p.last.epoch) < m.more.k) (sym n) (omega (arith, few, k)))
        (λ i l. All-contains (IsDone (lost_logs h p.last.epoch) m.more) (range_with_len 0 p.last.m) i m.passes (in_range p.last.m i (omega (arith, l, n))))

    finish : HasEnded c h p all.recoverer ⊎ HasMore c b p (lost_logs h p.last.epoch) h r (own.kept.come_by.tallied p parent).0 all.later all.recoverer (λ more. All (IsDone (lost_logs h p.last.epoch) more) (range_with_len 0 p.last.m)) → LocksOn c h b p r
    finish (inl ended) = record { later = all.later; goes_on = all.goes_on; recoverer = all.recoverer; at = all.at; parent = all.parent; ended = ended; replied = all.replied }
    finish (inr m) = absurd (true≢false (sym (covered m) ∙ sym (ap (λ o. is_covered (tally_in o)) m.locking.tallied) ∙ locking_waits c all.later m.locking.run b all.recoverer m.locking.at m.locking.phase))
