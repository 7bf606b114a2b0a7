-- Each log takes the push of a numbered batch, and the proxy hears it, until all hold it.
use Rattle.std.proofs.Common.{◌≡◌, ℕ, zero, suc, ◌+◌, ◌<◌, ◌≤◌, Bool, true, false, cond, not, nat_lt, ◌==◌, ◌&&◌, ◌||◌, List, [], ◌∷◌, ◌++◌, length, append_assoc, None, Some, inl, inr, refl, sym, ◌∙◌, ap, arith}
use Rattle.std.specs.List.{Contains}
use Rattle.std.proofs.lemmas.Bool.{and_from, eq-eqb, ne_eqb, lt-ltb}
use Rattle.std.proofs.lemmas.List.Elements.{All-nil, All-cons, All-append}
use Rattle.fr_base.specs.declared.place.NodeId.{NodeId}
use Rattle.fr_base.specs.declared.place.NodeId.TheVariants as node
use Rattle.fr_mutation.specs.declared.mutation.Mutation.{Mutation}
use Rattle.fr_log.specs.Refusal.{push_refusal}
use Rattle.fr_log.specs.Step.{answer_unless, next_of}
use Rattle.fr_log.specs.declared.ask.LogAsk.TheVariants.{Push}
use Rattle.fr_log.specs.declared.ask.LogTell.TheVariants.{Held}
use Rattle.fr_ask.specs.declared.ask.Ask.TheVariants as ask
use Rattle.fr_ask.specs.declared.tell.Tell.TheVariants as tell
use Rattle.fr_proxy.specs.declared.outcome.Outcome.{Outcome}
use Rattle.fr_proxy.specs.declared.outcome.Outcome.TheVariants.{Waiting, Committed}
use Rattle.fr_proxy.specs.declared.heeded.Heeded.TheVariants.{Ignored, HeldBy, HeldByAll}
use Rattle.fr_proxy.specs.declared.number.Place.{Place}
use Rattle.fr_proxy.specs.Proxy.{ProxyState, Open, push_of, is_in, heed_log, heed_held, heed_new, heeded, after_heeded, outcome_of_heeded, outcome_of, asks_of_heeded, new_asks}
use Rattle.fr_run.specs.Batches.{batch_at, IsAcknowledged}
use Rattle.fr_run.specs.Config.{Config}
use Rattle.fr_run.specs.Nodes.{log_at, proxy_at}
use Rattle.fr_run.specs.Run.{IsUp, IsTurn, IsRun}
use Rattle.fr_run.specs.Turn.{Turn, LogTurn, ProxyHeard, Gone, Sent}
use Rattle.fr_run.proofs.Cells.{Contains-here}
use Rattle.fr_run_outcomes.specs.Going.{LeavesChosen}
use Rattle.fr_run_outcomes.specs.Once.{IsAnswered}
use Rattle.fr_run_commits.specs.Going.{IsOwnOf, TurnsOf}
use Rattle.fr_run_commits.proofs.Asking.{not_gone}

-- ---- going on

pub turns_further : (c : Config) (e p : ℕ) (batch : List Mutation) (h mid later : List Turn) → TurnsOf c e p batch h mid → TurnsOf c e p batch mid later → TurnsOf c e p batch h later
turns_further c e p batch h mid later first second = record {
  more = second.more ++ first.more;
  is = append_assoc second.more first.more h ∙ (ap (λ x. second.more ++ x) first.is ∙ second.is);
  is_run = second.is_run;
  own = All-append (IsOwnOf e p batch) second.more first.more second.own first.own;
}

pub left_further : (c : Config) (h mid later : List Turn) → LeavesChosen c h mid → LeavesChosen c mid later → LeavesChosen c h later
left_further c h mid later first second = record { cells = second.cells ∙ first.cells; recoverers = λ b. second.recoverers b ∙ first.recoverers b; lost = λ e. second.lost e ∙ first.lost e }

-- ---- the way

-- what is the same all along: a proxy of an epoch with a batch at a place
pub record HasPlace (e p : ℕ) (batch : List Mutation) (s : ProxyState) (o : Open) (at : Place) : Type 0 where
  pub epoch : s.epoch ≡ e
  pub place : o.place ≡ Some at

-- the proxy with so many holders
abbrev pub with_holders : ProxyState → Open → List ℕ → ProxyState
with_holders s o held = record s { under_way = Some (record o { held = held }) }

-- a moment at which the first logs are known to hold the batch, and each other one takes its push
pub record IsPushing (c : Config) (e p : ℕ) (batch : List Mutation) (s : ProxyState) (o : Open) (at : Place) (h : List Turn) (held : List ℕ) : Type 0 where
  pub run : IsRun c h
  pub up : IsUp c h (node.Proxy e p)
  pub proxy : proxy_at c h e p ≡ with_holders s o held
  pub taken : batch_at h e p o.request ≡ Some batch
  pub sent : (i : ℕ) → i < s.m → Sent h (node.Proxy e p) (node.Log e i) (ask.Log (Push (push_of s o at i)))
  pub fresh : (i : ℕ) → length held ≤ i → is_in held i ≡ false
  pub logs : (i : ℕ) → length held ≤ i → i < s.m → IsUp c h (node.Log e i)
  pub ready : (i : ℕ) → length held ≤ i → i < s.m → push_refusal (log_at c h e i) (push_of s o at i) ≡ None

abbrev push_turn : ℕ → ℕ → ProxyState → Open → Place → ℕ → Turn
push_turn e p s o at j = LogTurn (node.Proxy e p) e j (Push (push_of s o at j)) (Held at.version)

abbrev hear_turn : ℕ → ℕ → Place → ℕ → Outcome → Turn
hear_turn e p at j outcome = ProxyHeard e p (node.Log e j) (tell.Log (Held at.version)) outcome []

-- what the proxy makes of it
heeds : (e p : ℕ) (batch : List Mutation) (s : ProxyState) (o : Open) (at : Place) → HasPlace e p batch s o at → (held : List ℕ) (j : ℕ) → j < s.m → is_in held j ≡ false → (x : Bool) → (length held + 1 == s.m) ≡ x
    → heeded (with_holders s o held) (node.Log e j) (tell.Log (Held at.version)) ≡ cond x (HeldByAll at.version) (HeldBy j)
heeds e p batch s o at k held j below fresh x last =
    ap (λ b. cond b (heed_log (with_holders s o held) (record o { held = held }) j (Held at.version)) Ignored) (and_from (e == s.epoch) (nat_lt j s.m) (eq-eqb e s.epoch (sym k.epoch)) (lt-ltb j s.m below))
    ∙ ap (λ q. heed_held (with_holders s o held) (record o { held = held }) q j at.version) k.place
    ∙ ap (λ b. cond b (heed_new (with_holders s o held) (record o { held = held }) j at.version) Ignored) (and_from (at.version == at.version) (not (is_in held j)) (eq-eqb at.version at.version refl) (ap not fresh))
    ∙ ap (λ b. cond b (HeldByAll at.version) (HeldBy j)) last

-- a log that was not asked now stays
other_log : (c : Config) (h : List Turn) (e p : ℕ) (s : ProxyState) (o : Open) (at : Place) (j i : ℕ) (outcome : Outcome) → (j ≡ i → ⊥) → log_at c (hear_turn e p at j outcome ∷ push_turn e p s o at j ∷ h) e i ≡ log_at c h e i
other_log c h e p s o at j i outcome other =
    ap (λ b. cond (b && (j == i)) (next_of (log_at c h e i) (Push (push_of s o at j))) (log_at c h e i)) (eq-eqb e e refl)
    ∙ ap (λ b. cond b (next_of (log_at c h e i) (Push (push_of s o at j))) (log_at c h e i)) (ne_eqb j i other)

-- two turns, in which a log is asked and the proxy hears it
record HasHeld (c : Config) (e p : ℕ) (batch : List Mutation) (s : ProxyState) (o : Open) (at : Place) (h : List Turn) (held : List ℕ) (outcome : Outcome) : Type 0 where
  run : IsRun c (hear_turn e p at (length held) outcome ∷ push_turn e p s o at (length held) ∷ h)
  taken : batch_at (hear_turn e p at (length held) outcome ∷ push_turn e p s o at (length held) ∷ h) e p o.request ≡ Some batch
  turns : TurnsOf c e p batch h (hear_turn e p at (length held) outcome ∷ push_turn e p s o at (length held) ∷ h)
  leaves : LeavesChosen c h (hear_turn e p at (length held) outcome ∷ push_turn e p s o at (length held) ∷ h)
  asking : proxy_at c (push_turn e p s o at (length held) ∷ h) e p ≡ with_holders s o held
  gone : (who : NodeId) → (Contains h (Gone who) → ⊥) → Contains (hear_turn e p at (length held) outcome ∷ push_turn e p s o at (length held) ∷ h) (Gone who) → ⊥

has_held : (c : Config) (e p : ℕ) (batch : List Mutation) (s : ProxyState) (o : Open) (at : Place) → HasPlace e p batch s o at → (h : List Turn) (held : List ℕ) → IsPushing c e p batch s o at h held → length held < s.m
    → (outcome : Outcome) → outcome ≡ outcome_of (with_holders s o held) (node.Log e (length held)) (tell.Log (Held at.version)) → [] ≡ new_asks (with_holders s o held) (node.Log e (length held)) (tell.Log (Held at.version))
    → HasHeld c e p batch s o at h held outcome
has_held c e p batch s o at place h held k below outcome says asks = record {
  run = whole;
  taken = k.taken;
  turns = record {
    more = hear_turn e p at (length held) outcome ∷ push_turn e p s o at (length held) ∷ [];
    is = refl;
    is_run = whole;
    own = All-cons (IsOwnOf e p batch) (hear_turn e p at (length held) outcome) (push_turn e p s o at (length held) ∷ []) (refl, refl) (All-cons (IsOwnOf e p batch) (push_turn e p s o at (length held)) [] (refl, refl) (All-nil (IsOwnOf e p batch)));
  };
  leaves = record { cells = refl; recoverers = λ b. refl; lost = λ b. refl };
  asking = k.proxy;
  gone = λ who up. not_gone (hear_turn e p at (length held) outcome) (push_turn e p s o at (length held) ∷ h) who (λ d. absurd (cc)) (not_gone (push_turn e p s o at (length held)) h who (λ d. absurd (cc)) up);
}
  where
    first : IsTurn c h (push_turn e p s o at (length held))
    first = (k.logs (length held) (omega arith) below, inl (k.sent (length held) below), sym (ap (λ q. answer_unless q (Held at.version)) (k.ready (length held) (omega arith) below)), tt)

    second : IsTurn c (push_turn e p s o at (length held) ∷ h) (hear_turn e p at (length held) outcome)
    second = (
      record {
        actor = record { there = k.up.there; up = not_gone (push_turn e p s o at (length held)) h (node.Proxy e p) (λ d. absurd (cc)) k.up.up };
        told = inl (refl, refl, refl);
      },
      says ∙ sym (ap (λ y. outcome_of y (node.Log e (length held)) (tell.Log (Held at.version))) k.proxy),
      asks ∙ sym (ap (λ y. new_asks y (node.Log e (length held)) (tell.Log (Held at.version))) k.proxy),
    )

    whole : IsRun c (hear_turn e p at (length held) outcome ∷ push_turn e p s o at (length held) ∷ h)
    whole = (second, (first, k.run))

-- ---- one more log

pub record OneMore (c : Config) (e p : ℕ) (batch : List Mutation) (s : ProxyState) (o : Open) (at : Place) (h : List Turn) (held : List ℕ) : Type 0 where
  pub later : List Turn
  pub goes_on : TurnsOf c e p batch h later
  pub leaves : LeavesChosen c h later
  pub pushing : IsPushing c e p batch s o at later (length held ∷ held)

is_in_more : (held : List ℕ) (j i : ℕ) → (j ≡ i → ⊥) → is_in held i ≡ false → is_in (j ∷ held) i ≡ false
is_in_more held j i other fresh = ap (λ b. b || is_in held i) (ne_eqb j i other) ∙ fresh

one_more : (c : Config) (e p : ℕ) (batch : List Mutation) (s : ProxyState) (o : Open) (at : Place) → HasPlace e p batch s o at → (h : List Turn) (held : List ℕ) → IsPushing c e p batch s o at h held → length held < s.m → (length held + 1 == s.m) ≡ false
    → OneMore c e p batch s o at h held
one_more c e p batch s o at place h held k below short = record {
  later = hear_turn e p at (length held) Waiting ∷ push_turn e p s o at (length held) ∷ h;
  goes_on = held_now.turns;
  leaves = held_now.leaves;
  pushing = record {
    run = held_now.run;
    up = record { there = k.up.there; up = held_now.gone (node.Proxy e p) k.up.up };
    proxy = rw (eq-eqb e e refl, eq-eqb p p refl) (ap (λ y. after_heeded y (heeded y (node.Log e (length held)) (tell.Log (Held at.version)))) held_now.asking ∙ ap (after_heeded (with_holders s o held)) heeds_it);
    taken = held_now.taken;
    sent = λ i low. inr (inr (k.sent i low));
    fresh = λ i high. is_in_more held (length held) i (λ same. omega (arith, high, same)) (k.fresh i (omega (arith, high)));
    logs = λ i high low. record { there = (k.logs i (omega (arith, high)) low).there; up = held_now.gone (node.Log e i) (k.logs i (omega (arith, high)) low).up };
    ready = λ i high low. ap (λ l. push_refusal l (push_of s o at i)) (other_log c h e p s o at (length held) i Waiting (λ same. omega (arith, high, same))) ∙ k.ready i (omega (arith, high)) low;
  };
}
  where
    heeds_it : heeded (with_holders s o held) (node.Log e (length held)) (tell.Log (Held at.version)) ≡ HeldBy (length held)
    heeds_it = heeds e p batch s o at place held (length held) below (k.fresh (length held) (omega arith)) false short

    held_now : HasHeld c e p batch s o at h held Waiting
    held_now = has_held c e p batch s o at place h held k below Waiting (sym (ap outcome_of_heeded heeds_it)) (sym (ap (asks_of_heeded (with_holders s o held)) heeds_it))

-- ---- the last log

pub record IsPushed (c : Config) (e p : ℕ) (batch : List Mutation) (o : Open) (at : Place) (h : List Turn) : Type 0 where
  pub later : List Turn
  pub goes_on : TurnsOf c e p batch h later
  pub leaves : LeavesChosen c h later
  pub taken : batch_at later e p o.request ≡ Some batch
  pub answered : IsAnswered c later e p o.request at.version
  pub acknowledged : IsAcknowledged later e at.version

last_one : (c : Config) (e p : ℕ) (batch : List Mutation) (s : ProxyState) (o : Open) (at : Place) → HasPlace e p batch s o at → (h : List Turn) (held : List ℕ) → IsPushing c e p batch s o at h held → length held < s.m → (length held + 1 == s.m) ≡ true
    → IsPushed c e p batch o at h
last_one c e p batch s o at place h held k below full = record {
  later = hear_turn e p at (length held) (Committed at.version) ∷ push_turn e p s o at (length held) ∷ h;
  goes_on = held_now.turns;
  leaves = held_now.leaves;
  taken = held_now.taken;
  answered = inl (record { from = node.Log e (length held); heard = tell.Log (Held at.version); asks = []; is = refl; open_batch = record o { held = held }; under_way = ap (λ (y : ProxyState). y.under_way) held_now.asking; request_is = refl });
  acknowledged = record {
    proxy = p;
    from = node.Log e (length held);
    tell = tell.Log (Held at.version);
    asks = [];
    turn = Contains-here (hear_turn e p at (length held) (Committed at.version)) (push_turn e p s o at (length held) ∷ h);
  };
}
  where
    heeds_it : heeded (with_holders s o held) (node.Log e (length held)) (tell.Log (Held at.version)) ≡ HeldByAll at.version
    heeds_it = heeds e p batch s o at place held (length held) below (k.fresh (length held) (omega arith)) true full

    held_now : HasHeld c e p batch s o at h held (Committed at.version)
    held_now = has_held c e p batch s o at place h held k below (Committed at.version) (sym (ap outcome_of_heeded heeds_it)) (sym (ap (asks_of_heeded (with_holders s o held)) heeds_it))

-- ---- all logs

pushed_on : (c : Config) (e p : ℕ) (batch : List Mutation) (s : ProxyState) (o : Open) (at : Place) (h : List Turn) (held : List ℕ) → (one : OneMore c e p batch s o at h held) → IsPushed c e p batch o at one.later → IsPushed c e p batch o at h
pushed_on c e p batch s o at h held one rest = record {
  later = rest.later;
  goes_on = turns_further c e p batch h one.later rest.later one.goes_on rest.goes_on;
  leaves = left_further c h one.later rest.later one.leaves rest.leaves;
  taken = rest.taken;
  answered = rest.answered;
  acknowledged = rest.acknowledged;
}

pub push_all : (n : ℕ) (c : Config) (e p : ℕ) (batch : List Mutation) (s : ProxyState) (o : Open) (at : Place) → HasPlace e p batch s o at → (h : List Turn) (held : List ℕ) → IsPushing c e p batch s o at h held → length held + suc n ≡ s.m
    → IsPushed c e p batch o at h
push_all zero c e p batch s o at place h held k many = last_one c e p batch s o at place h held k (omega (arith, many)) (eq-eqb (length held + 1) s.m (omega (arith, many)))
push_all (suc n) c e p batch s o at place h held k many =
    let one = one_more c e p batch s o at place h held k (omega (arith, many)) (ne_eqb (length held + 1) s.m (λ same. omega (arith, many, same))) in
    pushed_on c e p batch s o at h held one (push_all n c e p batch s o at place one.later (length held ∷ held) one.pushing (omega (arith, many)))
