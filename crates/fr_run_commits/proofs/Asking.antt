-- A proxy takes a batch, gets its number, and asks each log to hold it.
use Rattle.std.proofs.Common.{◌≡◌, ℕ, ◌+◌, ◌<◌, ◌≤◌, ◌^◌, true, false, cond, not, nat_lt, nat_le, ◌==◌, ◌&&◌, filter, List, [], ◌∷◌, Option, None, Some, inl, inr, refl, sym, ◌∙◌, ap, subst, arith}
use Rattle.std.specs.FinMap.{get}
use Rattle.std.specs.List.{Contains, range_with_len}
use Rattle.std.proofs.lemmas.Bool.{and_from, eq-eqb, ne_eqb, lt-ltb, le-leb, lt-leb}
use Rattle.std.proofs.lemmas.List.Elements.{All-nil, All-cons}
use Rattle.fr_base.specs.declared.place.NodeId.{NodeId}
use Rattle.fr_base.specs.declared.place.NodeId.TheVariants as node
use Rattle.fr_mutation.specs.declared.mutation.Mutation.{Mutation}
use Rattle.fr_log.specs.declared.ask.LogAsk.TheVariants.{Push}
use Rattle.fr_ask.specs.declared.ask.Ask.{Ask}
use Rattle.fr_ask.specs.declared.ask.Ask.TheVariants as ask
use Rattle.fr_ask.specs.declared.sequencer.SeqAsk.TheVariants.{Next}
use Rattle.fr_ask.specs.declared.sequencer.SeqRefusal.TheVariants.{Spent, OutOfTurn}
use Rattle.fr_ask.specs.declared.sequencer.SeqTell.TheVariants.{Numbered}
use Rattle.fr_ask.specs.declared.tell.Tell.{Tell}
use Rattle.fr_ask.specs.declared.tell.Tell.TheVariants as tell
use Rattle.fr_proxy.specs.declared.number.Number.{Number}
use Rattle.fr_proxy.specs.declared.outcome.Outcome.TheVariants.{Waiting}
use Rattle.fr_proxy.specs.declared.heeded.Heeded.TheVariants.{Placed, Ignored}
use Rattle.fr_proxy.specs.declared.number.Place.{Place}
use Rattle.fr_proxy.specs.Proxy.{ProxyState, Open, takes_batch, opened, submitted, number_ask, push_of, is_in, pending, may_place, heed_seq, heeded, placed, after_heeded, outcome_of_heeded, outcome_of, asks_of_heeded, new_asks}
use Rattle.fr_proxy.specs.Sequencer as seq
use Rattle.fr_proxy.specs.Sequencer.{SeqState, is_of, last_request, new_number, new_refusal, told, told_before, told_unless}
use Rattle.fr_run.specs.Config.{Config}
use Rattle.fr_run.specs.Nodes.{is_open, proxy_at, seq_at}
use Rattle.fr_run.specs.Run.{IsUp, IsTurn, IsRun}
use Rattle.fr_run.specs.Turn.{Turn, SeqTurn, Submitted, ProxyHeard, Gone, Sent}
use Rattle.fr_run.proofs.Cells.{Contains-here, Contains-cases}
use Rattle.fr_run_outcomes.proofs.Lists.{left_has, map_has}
use Rattle.fr_run_commits.specs.Going.{IsOwnOf, TurnsOf}

-- ---- turns

pub not_gone : (t : Turn) (h : List Turn) (who : NodeId) → (t ≡ Gone who → ⊥) → (Contains h (Gone who) → ⊥) → Contains (t ∷ h) (Gone who) → ⊥
not_gone t h who other up k = elim (Contains-cases t h (Gone who) k) [ inl now ↦ other now | inr before ↦ up before ]

-- ---- a new number

-- a request after the last one gets the next version that its step gives
numbers_next : (s : SeqState) (p request step : ℕ) → last_request (get s.given p) + 1 ≡ request → s.last + step < 2 ^ 62 → seq.answer_of s (Next p request step) ≡ Numbered request s.last (s.last + step)
numbers_next s p request step next room =
    ap (λ b. cond b (told_before (get s.given p)) (told_unless (new_refusal s (get s.given p) request step) (new_number s request step))) (other (get s.given p) next)
    ∙ ap (λ o. told_unless o (new_number s request step))
    (ap (λ b. cond b (cond (nat_le (2 ^ 62) (s.last + step)) (Some Spent) None) (Some OutOfTurn)) (eq-eqb request (last_request (get s.given p) + 1) (sym next))
    ∙ ap (λ b. cond b (Some Spent) None) (lt-leb (2 ^ 62) (s.last + step) room))
  where
    other : (o : Option Number) → last_request o + 1 ≡ request → is_of request o ≡ false
    other None e = refl
    other (Some n) e = ne_eqb n.request request (λ same. omega (arith, e, same))

-- ---- the turns in which a proxy takes a batch and hears its number

-- what the law speaks of: a proxy of an epoch that takes a batch under the request after its last one, which the
-- sequencer has not numbered, and a version for it
pub record CanTake (c : Config) (h : List Turn) (e p step : ℕ) : Type 0 where
  pub run : IsRun c h
  pub opened : is_open c h e ≡ true
  pub sequencer : Contains h (Gone (node.Sequencer e)) → ⊥
  pub up : IsUp c h (node.Proxy e p)
  pub takes : takes_batch (proxy_at c h e p) ≡ true
  pub epoch : (proxy_at c h e p).epoch ≡ e
  pub number : (proxy_at c h e p).number ≡ p
  pub next : last_request (get (seq_at c h e).given p) ≡ (proxy_at c h e p).requests
  pub known : (proxy_at c h e p).known ≤ (seq_at c h e).last
  pub low : 1 ≤ step
  pub high : step ≤ 1000000
  pub room : (seq_at c h e).last + step < 2 ^ 62

abbrev pub request_of : Config → List Turn → ℕ → ℕ → ℕ
request_of c h e p = (proxy_at c h e p).requests + 1

abbrev pub place_of : Config → List Turn → ℕ → ℕ → Place
place_of c h e step = record { prev = (seq_at c h e).last; version = (seq_at c h e).last + step }

-- the proxy once it took the batch, and once it has the number
abbrev pub taken_by : Config → List Turn → ℕ → ℕ → ℕ → List Mutation → ProxyState
taken_by c h e p step batch = submitted (proxy_at c h e p) step batch

abbrev pub open_of : Config → List Turn → ℕ → ℕ → ℕ → List Mutation → Open
open_of c h e p step batch = placed (place_of c h e step) (opened (proxy_at c h e p) step batch)

abbrev pub placed_by : Config → List Turn → ℕ → ℕ → ℕ → List Mutation → ProxyState
placed_by c h e p step batch = record (proxy_at c h e p) { requests = (proxy_at c h e p).requests + 1; under_way = Some (open_of c h e p step batch) }

abbrev pub takes_turn : Config → List Turn → ℕ → ℕ → ℕ → List Mutation → Turn
takes_turn c h e p step batch = Submitted e p step batch (number_ask (proxy_at c h e p) (opened (proxy_at c h e p) step batch) ∷ [])

abbrev pub numbered : Config → List Turn → ℕ → ℕ → ℕ → Tell
numbered c h e p step = tell.Seq (Numbered (request_of c h e p) (seq_at c h e).last ((seq_at c h e).last + step))

abbrev pub numbers_turn : Config → List Turn → ℕ → ℕ → ℕ → Turn
numbers_turn c h e p step = SeqTurn (node.Proxy e p) e (Next p (request_of c h e p) step) (Numbered (request_of c h e p) (seq_at c h e).last ((seq_at c h e).last + step))

abbrev pub hears_turn : Config → List Turn → ℕ → ℕ → ℕ → List Mutation → Turn
hears_turn c h e p step batch = ProxyHeard e p (node.Sequencer e) (numbered c h e p step) Waiting (pending (placed_by c h e p step batch))

abbrev pub asking : Config → List Turn → ℕ → ℕ → ℕ → List Mutation → List Turn
asking c h e p step batch = hears_turn c h e p step batch ∷ numbers_turn c h e p step ∷ takes_turn c h e p step batch ∷ h

less_more : (a b n : ℕ) → a ≤ n → b + a ≤ b + n
less_more a b n le = omega (arith, le)

-- the proxy gives the batch its place
places : (c : Config) (h : List Turn) (e p step : ℕ) (batch : List Mutation) → CanTake c h e p step → heeded (taken_by c h e p step batch) (node.Sequencer e) (numbered c h e p step) ≡ Placed (place_of c h e step)
places c h e p step batch k =
    ap (λ b. cond b (heed_seq (taken_by c h e p step batch) (opened (proxy_at c h e p) step batch) (Numbered (request_of c h e p) (seq_at c h e).last ((seq_at c h e).last + step))) Ignored) (eq-eqb e (proxy_at c h e p).epoch (sym k.epoch))
    ∙ ap (λ b. cond b (Placed (place_of c h e step)) Ignored) may
  where
    last : ℕ
    last = (seq_at c h e).last

    within : (nat_lt (seq_at c h e).last ((seq_at c h e).last + step) && nat_le ((seq_at c h e).last + step) ((seq_at c h e).last + 1000000)) ≡ true
    within = and_from (nat_lt (seq_at c h e).last ((seq_at c h e).last + step)) (nat_le ((seq_at c h e).last + step) ((seq_at c h e).last + 1000000))
        (lt-ltb (seq_at c h e).last ((seq_at c h e).last + step) (let low = k.low in omega (arith, low)))
        (le-leb ((seq_at c h e).last + step) ((seq_at c h e).last + 1000000) (less_more step (seq_at c h e).last 1000000 k.high))

    may : may_place (taken_by c h e p step batch) (opened (proxy_at c h e p) step batch) (request_of c h e p) (seq_at c h e).last ((seq_at c h e).last + step) ≡ true
    may = and_from ((request_of c h e p == request_of c h e p) && true) (nat_le (proxy_at c h e p).known (seq_at c h e).last && (nat_lt (seq_at c h e).last ((seq_at c h e).last + step) && nat_le ((seq_at c h e).last + step) ((seq_at c h e).last + 1000000)))
        (and_from (request_of c h e p == request_of c h e p) true (eq-eqb (request_of c h e p) (request_of c h e p) refl) refl)
        (and_from (nat_le (proxy_at c h e p).known (seq_at c h e).last) (nat_lt (seq_at c h e).last ((seq_at c h e).last + step) && nat_le ((seq_at c h e).last + step) ((seq_at c h e).last + 1000000)) (le-leb (proxy_at c h e p).known (seq_at c h e).last k.known) within)

-- what comes of the three turns
pub record HasAsked (c : Config) (h : List Turn) (e p step : ℕ) (batch : List Mutation) : Type 0 where
  pub run : IsRun c (asking c h e p step batch)
  pub proxy : proxy_at c (asking c h e p step batch) e p ≡ placed_by c h e p step batch
  pub sent : (i : ℕ) → i < (proxy_at c h e p).m → Sent (asking c h e p step batch) (node.Proxy e p) (node.Log e i) (ask.Log (Push (push_of (placed_by c h e p step batch) (open_of c h e p step batch) (place_of c h e step) i)))

pub has_asked : (c : Config) (h : List Turn) (e p step : ℕ) (batch : List Mutation) → CanTake c h e p step → HasAsked c h e p step batch
has_asked c h e p step batch k = record { run = (third, (second, (first, k.run))); proxy = now; sent = sent }
  where
    first : IsTurn c h (takes_turn c h e p step batch)
    first = (k.up, (k.takes, k.low), refl)

    own : number_ask (proxy_at c h e p) (opened (proxy_at c h e p) step batch) ≡ (node.Sequencer e, ask.Seq (Next p (request_of c h e p) step))
    own = ap (λ x. (node.Sequencer x, ask.Seq (Next (proxy_at c h e p).number (request_of c h e p) step))) k.epoch ∙ ap (λ y. (node.Sequencer e, ask.Seq (Next y (request_of c h e p) step))) k.number

    asks : Sent (takes_turn c h e p step batch ∷ h) (node.Proxy e p) (node.Sequencer e) (ask.Seq (Next p (request_of c h e p) step))
    asks = inl (refl, subst (λ (x : NodeId × Ask). Contains (number_ask (proxy_at c h e p) (opened (proxy_at c h e p) step batch) ∷ []) x) own (Contains-here (number_ask (proxy_at c h e p) (opened (proxy_at c h e p) step batch)) []))

    second : IsTurn c (takes_turn c h e p step batch ∷ h) (numbers_turn c h e p step)
    second = (
      record { there = k.opened; up = not_gone (takes_turn c h e p step batch) h (node.Sequencer e) (λ d. absurd (cc)) k.sequencer },
      asks,
      sym (numbers_next (seq_at c h e) p (request_of c h e p) step (ap (λ x. x + 1) k.next) k.room),
    )

    before : proxy_at c (numbers_turn c h e p step ∷ takes_turn c h e p step batch ∷ h) e p ≡ taken_by c h e p step batch
    before = rw (eq-eqb e e refl, eq-eqb p p refl) refl

    third : IsTurn c (numbers_turn c h e p step ∷ takes_turn c h e p step batch ∷ h) (hears_turn c h e p step batch)
    third = (
      record {
        actor = record {
          there = k.up.there;
          up = not_gone (numbers_turn c h e p step) (takes_turn c h e p step batch ∷ h) (node.Proxy e p) (λ d. absurd (cc)) (not_gone (takes_turn c h e p step batch) h (node.Proxy e p) (λ d. absurd (cc)) k.up.up);
        };
        told = inl (refl, refl, refl);
      },
      sym (ap (λ s. outcome_of s (node.Sequencer e) (numbered c h e p step)) before ∙ ap outcome_of_heeded (places c h e p step batch k)),
      sym (ap (λ s. new_asks s (node.Sequencer e) (numbered c h e p step)) before ∙ ap (asks_of_heeded (taken_by c h e p step batch)) (places c h e p step batch k)),
    )

    now : proxy_at c (asking c h e p step batch) e p ≡ placed_by c h e p step batch
    now = rw (eq-eqb e e refl, eq-eqb p p refl) (ap (after_heeded (taken_by c h e p step batch)) (places c h e p step batch k))

    sent : (i : ℕ) → i < (proxy_at c h e p).m → Sent (asking c h e p step batch) (node.Proxy e p) (node.Log e i) (ask.Log (Push (push_of (placed_by c h e p step batch) (open_of c h e p step batch) (place_of c h e step) i)))
    sent i below = inl (
      refl,
      subst (λ x. Contains (pending (placed_by c h e p step batch)) (node.Log x i, ask.Log (Push (push_of (placed_by c h e p step batch) (open_of c h e p step batch) (place_of c h e step) i)))) k.epoch
          (map_has (λ log. (node.Log (proxy_at c h e p).epoch log, ask.Log (Push (push_of (placed_by c h e p step batch) (open_of c h e p step batch) (place_of c h e step) log)))) (filter (λ log. not (is_in [] log)) (range_with_len 0 (proxy_at c h e p).m)) i
          (left_has (proxy_at c h e p).m (is_in []) i below refl)),
    )

pub asking_turns : (c : Config) (h : List Turn) (e p step : ℕ) (batch : List Mutation) → IsRun c (asking c h e p step batch) → TurnsOf c e p batch h (asking c h e p step batch)
asking_turns c h e p step batch run = record {
  more = hears_turn c h e p step batch ∷ numbers_turn c h e p step ∷ takes_turn c h e p step batch ∷ [];
  is = refl;
  is_run = run;
  own = All-cons (IsOwnOf e p batch) (hears_turn c h e p step batch) (numbers_turn c h e p step ∷ takes_turn c h e p step batch ∷ []) (refl, refl)
      (All-cons (IsOwnOf e p batch) (numbers_turn c h e p step) (takes_turn c h e p step batch ∷ []) (refl, refl)
      (All-cons (IsOwnOf e p batch) (takes_turn c h e p step batch) [] (refl, refl, refl) (All-nil (IsOwnOf e p batch))));
}
