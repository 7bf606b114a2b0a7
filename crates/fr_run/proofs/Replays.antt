-- Lists of events that are not refused are runs, and each run is such a list.
use Rattle.std.proofs.Common.{◌≡◌, ℕ, ◌+◌, List, [], ◌∷◌, refl, ◌∙◌, ap, subst}
use Rattle.std.specs.Prelude.{Result, Ok, Err, length, ◌++◌}
use native.Mathlib.Omega.{arith}
use Rattle.fr_run.specs.Config.{Config}
use Rattle.fr_run.specs.Turn.{Turn}
use Rattle.fr_run.specs.Run.{IsTurn, IsRun}
use Rattle.fr_run.specs.declared.event.Event.{Event}
use Rattle.fr_run.specs.declared.not_enabled.NotEnabled.{NotEnabled}
use Rattle.fr_run.specs.Step.{turn_of, next_result, replay_from, replay}
use Rattle.fr_run.specs.Law.{HaveLimits, ReplayIsRun, RunIsReplay, RefusedIsFirst, FirstIsRefused}
use Rattle.fr_run.proofs.Turns.{event_is_turn}
use Rattle.fr_run.proofs.Events.{turn_is_event}

abbrev Replayed : Type 0
Replayed = Result (List Turn) (ℕ × NotEnabled)

abbrev done : List Turn → Replayed
done h = Ok h

abbrev refused : ℕ → NotEnabled → Replayed
refused n why = Err (n, why)

-- ---- a list of events that is not refused is a run

is_run : (c : Config) (g : List Turn) (n : ℕ) (events : List Event) (h : List Turn) → IsRun c g → HaveLimits events → replay_from c g n events ≡ Ok h → IsRun c h
is_run c g n [] h run l e = (let d : g ≡ h = cc in subst (IsRun c) d run)
is_run c g n (event ∷ events) h run l e = go (λ t turn k. is_run c (t ∷ g) (n + 1) events h (turn, run) l.1 k) (turn_of c g event) refl e
  where
    go : ((t : Turn) → IsTurn c g t → replay_from c (t ∷ g) (n + 1) events ≡ Ok h → IsRun c h) → (o : Result Turn NotEnabled) → turn_of c g event ≡ o → next_result (λ later. replay_from c later (n + 1) events) g n o ≡ done h → IsRun c h
    go rest (Ok t) k e = rest t (event_is_turn c g event t l.0 k) e
    go rest (Err why) k e = absurd (cc)

pub replay_is_run : ReplayIsRun
replay_is_run c events h l e = is_run c [] 0 events h tt l e

-- ---- events after others

then_events : (c : Config) (g : List Turn) (n : ℕ) (front events : List Event) (h : List Turn) → replay_from c g n front ≡ Ok h → replay_from c g n (front ++ events) ≡ replay_from c h (n + length front) events
then_events c g n [] events h e =
    let d : g ≡ h = cc in
    let k : n ≡ n + 0 = omega arith in
    ap (λ x. replay_from c x n events) d ∙ ap (λ x. replay_from c h x events) k
then_events c g n (event ∷ front) events h e = go (λ t k. then_events c (t ∷ g) (n + 1) front events h k) (turn_of c g event) refl e
  where
    go : ((t : Turn) → replay_from c (t ∷ g) (n + 1) front ≡ Ok h → replay_from c (t ∷ g) (n + 1) (front ++ events) ≡ replay_from c h (n + 1 + length front) events) → (o : Result Turn NotEnabled) → turn_of c g event ≡ o → next_result (λ later. replay_from c later (n + 1) front) g n o ≡ done h
        → next_result (λ later. replay_from c later (n + 1) (front ++ events)) g n (turn_of c g event) ≡ replay_from c h (n + length (event ∷ front)) events
    go rest (Ok t) k e =
        let sum : n + 1 + length front ≡ n + length (event ∷ front) = omega arith in
        ap (next_result (λ later. replay_from c later (n + 1) (front ++ events)) g n) k ∙ (rest t e ∙ ap (λ x. replay_from c h x events) sum)
    go rest (Err why) k e = absurd (cc)

and_limits : (front events : List Event) → HaveLimits front → HaveLimits events → HaveLimits (front ++ events)
and_limits [] events k l = l
and_limits (event ∷ front) events k l = (k.0, and_limits front events k.1 l)

one_more : (c : Config) (h : List Turn) (n : ℕ) (event : Event) (t : Turn) → turn_of c h event ≡ Ok t → replay_from c h n (event ∷ []) ≡ Ok (t ∷ h)
one_more c h n event t e = ap (next_result (λ later. replay_from c later (n + 1) []) h n) e

-- ---- each run is a list of events

pub run_is_replay : RunIsReplay
run_is_replay c [] run = record { events = []; limits = tt; turns = refl }
run_is_replay c (t ∷ h) run =
    let before = run_is_replay c h run.1 in
    let last = turn_is_event c h t run.1 run.0 in
    record {
      events = before.events ++ (last.event ∷ []);
      limits = and_limits before.events (last.event ∷ []) before.limits (last.limits, tt);
      turns = then_events c [] 0 before.events (last.event ∷ []) h before.turns ∙ one_more c h (0 + length before.events) last.event t last.turn;
    }

-- ---- the first that is refused

record IsRefusedFrom (c : Config) (g : List Turn) (n : ℕ) (events : List Event) (number : ℕ) (why : NotEnabled) : Type 0 where
  before : List Event
  event : Event
  after : List Event
  events_are : events ≡ before ++ (event ∷ after)
  number_is : number ≡ n + length before
  turns : List Turn
  replayed : replay_from c g n before ≡ Ok turns
  refused_is : turn_of c turns event ≡ Err why

at_first : (n number : ℕ) → n ≡ number → number ≡ n + 0
at_first n number e = omega (arith, e)

refused_from : (c : Config) (g : List Turn) (n : ℕ) (events : List Event) (number : ℕ) (why : NotEnabled) → replay_from c g n events ≡ Err (number, why) → IsRefusedFrom c g n events number why
refused_from c g n [] number why e = absurd (cc)
refused_from c g n (event ∷ events) number why e = go (λ t k. refused_from c (t ∷ g) (n + 1) events number why k) (turn_of c g event) refl e
  where
    go : ((t : Turn) → replay_from c (t ∷ g) (n + 1) events ≡ Err (number, why) → IsRefusedFrom c (t ∷ g) (n + 1) events number why) → (o : Result Turn NotEnabled) → turn_of c g event ≡ o → next_result (λ later. replay_from c later (n + 1) events) g n o ≡ refused number why → IsRefusedFrom c g n (event ∷ events) number why
    go rest (Ok t) k e =
        let r = rest t e in
        record {
          before = event ∷ r.before;
          event = r.event;
          after = r.after;
          events_are = ap (λ xs. event ∷ xs) r.events_are;
          number_is = omega (arith, r.number_is);
          turns = r.turns;
          replayed = ap (next_result (λ later. replay_from c later (n + 1) r.before) g n) k ∙ r.replayed;
          refused_is = r.refused_is;
        }
    go rest (Err other) k e =
        let p : ◌≡◌ {A = ℕ × NotEnabled} (n, other) (number, why) = cc in
        record {
          before = [];
          event = event;
          after = events;
          events_are = refl;
          number_is = at_first n number (ap (λ (x : ℕ × NotEnabled). x.0) p);
          turns = g;
          replayed = refl;
          refused_is = (let q : other ≡ why = ap (λ (x : ℕ × NotEnabled). x.1) p in k ∙ ap (λ x. let y : Result Turn NotEnabled = Err x in y) q);
        }

pub refused_is_first : RefusedIsFirst
refused_is_first c events number why e =
    let r = refused_from c [] 0 events number why e in
    record {
      before = r.before;
      event = r.event;
      after = r.after;
      events_are = r.events_are;
      number_is = omega (arith, r.number_is);
      turns = r.turns;
      replayed = r.replayed;
      refused = r.refused_is;
    }

pub first_is_refused : FirstIsRefused
first_is_refused c events number why k =
    ap (λ xs. replay c xs) k.events_are
    ∙ (then_events c [] 0 k.before (k.event ∷ k.after) k.turns k.replayed
    ∙ (ap (next_result (λ later. replay_from c later (0 + length k.before + 1) k.after) k.turns (0 + length k.before)) k.refused
    ∙ numbered (0 + length k.before) (let q : 0 + length k.before ≡ number = omega (arith, k.number_is) in q)))
  where
    numbered : (n : ℕ) → n ≡ number → refused n why ≡ refused number why
    numbered n e = ap (λ x. refused x why) e
