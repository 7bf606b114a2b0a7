-- Of a list of events, one more happens.
use Rattle.std.proofs.Common.{◌≡◌, ℕ, zero, suc, ◌+◌, List, [], ◌∷◌, ◌++◌, take, drop, slice_get, Some, sym, ◌∙◌, ap, subst, arith}
use Rattle.std.specs.Prelude.{Result, Ok, Err, IsOk}
use Rattle.fr_run.specs.Config.{Config}
use Rattle.fr_run.specs.Turn.{Turn}
use Rattle.fr_run.specs.declared.answer.Answer.{Answer}
use Rattle.fr_run.specs.declared.event.Event.{Event}
use Rattle.fr_run.specs.declared.not_enabled.NotEnabled.{NotEnabled}
use Rattle.fr_run.specs.Step.{turn_of, answer_of, next_result, replay_from, replay}
use Rattle.fr_world.specs.Replaying.{CanHappenAt}
use Rattle.fr_world.specs.World.{next_turn, stepped_by}
use Rattle.fr_world_nodes.specs.Kept.{WorldState, with_turn}

abbrev done : List Turn → Result (List Turn) (ℕ × NotEnabled)
done h = Ok h

-- behind events that happened
then_one : (c : Config) (g h : List Turn) (n : ℕ) (front : List Event) (event : Event) (t : Turn) → replay_from c g n front ≡ Ok h → turn_of c h event ≡ Ok t → replay_from c g n (front ++ (event ∷ [])) ≡ Ok (t ∷ h)
then_one c g h n [] event t e is =
    let same : g ≡ h = cc in
    ap (next_result (λ later. replay_from c later (n + 1) []) g n) (ap (λ w. turn_of c w event) same ∙ is) ∙ ap (λ w. done (t ∷ w)) same
then_one c g h n (x ∷ front) event t e is = go (λ u l. then_one c (u ∷ g) h (n + 1) front event t l is) (turn_of c g x) e
  where
    go : ((u : Turn) → replay_from c (u ∷ g) (n + 1) front ≡ Ok h → replay_from c (u ∷ g) (n + 1) (front ++ (event ∷ [])) ≡ Ok (t ∷ h)) → (o : Result Turn NotEnabled)
        → next_result (λ later. replay_from c later (n + 1) front) g n o ≡ done h → next_result (λ later. replay_from c later (n + 1) (front ++ (event ∷ []))) g n o ≡ done (t ∷ h)
    go rest (Ok u) l = rest u l
    go rest (Err why) l = absurd (cc)

-- what is left at an event begins with it: those before it, with it, are taken then
cut : (n : ℕ) (events rest : List Event) (event : Event) → drop n events ≡ event ∷ rest → (take (suc n) events ≡ take n events ++ (event ∷ [])) × (drop (suc n) events ≡ rest)
cut zero [] rest event k = absurd (cc)
cut zero (x ∷ xs) rest event k = (cc, cc)
cut (suc n) [] rest event k = absurd (cc)
cut (suc n) (x ∷ xs) rest event k = let c = cut n xs rest event k in (ap (λ ys. x ∷ ys) c.0, c.1)

-- and it is the one of that number
there : (n : ℕ) (events rest : List Event) (event : Event) → drop n events ≡ event ∷ rest → slice_get events n ≡ Some event
there zero [] rest event k = absurd (cc)
there zero (x ∷ xs) rest event k = cc
there (suc n) [] rest event k = absurd (cc)
there (suc n) (x ∷ xs) rest event k = there n xs rest event k

-- what is known of a world while a list is replayed
pub record IsReplayed (config : Config) (events : List Event) (w : WorldState) (n : ℕ) (rest : List Event) : Type 0 where
  pub config_is : w.config ≡ config
  pub so_far : replay config events ≡ replay_from config w.turns n rest
  pub before : replay config (take n events) ≡ Ok w.turns
  pub left : drop n events ≡ rest

-- it is known after the next event, where that happens
pub goes_on : (config : Config) (events rest : List Event) (n : ℕ) (event : Event) (old new : WorldState) (answer : Answer) (o : Result Turn NotEnabled) → next_turn old event ≡ o → stepped_by old o ≡ Ok (new, answer) → IsReplayed config events old n (event ∷ rest)
    → (k : ℕ) → k ≡ n + 1 → IsReplayed config events new k rest
goes_on config events rest n event old new answer (Err why) e made r k next = absurd (cc)
goes_on config events rest n event old new answer (Ok t) e made r k next =
    let p : ◌≡◌ {A = WorldState × Answer} (with_turn old t, answer_of t) (new, answer) = cc in
    let w : with_turn old t ≡ new = ap (λ x. x.0) p in
    let turns : t ∷ old.turns ≡ new.turns = ap (λ (x : WorldState). x.turns) w in
    let turn : turn_of config old.turns event ≡ Ok t = ap (λ x. turn_of x old.turns event) (sym r.config_is) ∙ e in
    let c = cut n events rest event r.left in
    let one : n + 1 ≡ suc n = omega arith in
    record {
      config_is = sym (ap (λ (x : WorldState). x.config) w) ∙ r.config_is;
      so_far = r.so_far
          ∙ (ap (next_result (λ later. replay_from config later (n + 1) rest) old.turns n) turn
          ∙ (ap (λ h. replay_from config h (n + 1) rest) turns ∙ ap (λ i. replay_from config new.turns i rest) (sym next)));
      before = ap (λ i. replay config (take i events)) (next ∙ one) ∙ (ap (replay config) c.0 ∙ (then_one config [] old.turns 0 (take n events) event t r.before turn ∙ ap done turns));
      left = ap (λ i. drop i events) (next ∙ one) ∙ c.1;
    }

-- of an event that can happen it is known that it can
pub can_happen : (config : Config) (events rest : List Event) (n : ℕ) (event : Event) (w : WorldState) → IsReplayed config events w n (event ∷ rest) → IsOk (next_turn w event) → (k : ℕ) → k ≡ n → CanHappenAt config events k
can_happen config events rest n event w r ok k is = record {
  turns = w.turns;
  before = ap (λ i. replay config (take i events)) is ∙ r.before;
  event = event;
  there = ap (slice_get events) is ∙ there n events rest event r.left;
  turn = subst (λ x. IsOk (turn_of x w.turns event)) r.config_is ok;
}
