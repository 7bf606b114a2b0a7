-- The generations of an epoch's state: each is its own epoch's, the front through it is that epoch's state, and its logs are seeded.
use Rattle.std.proofs.Common.{◌≡◌, ℕ, zero, suc, ◌<◌, true, List, [], ◌∷◌, ◌++◌, append_assoc, Some, inl, inr, refl, sym, ◌∙◌, ap, subst, arith}
use Rattle.std.specs.List.{All}
use Rattle.std.proofs.lemmas.List.Elements.{All-nil, All-push, All-head, All-tail}
use Rattle.fr_state.specs.Generations.{LogGeneration, last_of}
use Rattle.fr_epoch.specs.Recoverer.{RecState, Parent, Plan, is_written}
use Rattle.fr_run.specs.Config.{Config, first_epoch, first_generation}
use Rattle.fr_run.specs.Turn.{Turn}
use Rattle.fr_run.specs.Nodes.{rec_at, generation_at}
use Rattle.fr_run.specs.Run.{IsRun}
use Rattle.fr_run.specs.Laws.{Laws}
use Rattle.fr_run.specs.States.{line_of}
use Rattle.fr_run.specs.StateLaws.{IsConfig}
use Rattle.fr_run.proofs.Growth.{rec_is}
use Rattle.fr_run.proofs.States.{last_more}
use Rattle.fr_run.proofs.Chosen.{generation_planned}
use Rattle.fr_run.proofs.Parents.{plan_is, parent_is_planned, planned_by}
use Rattle.fr_run.proofs.Lines.{plan_line, lines_within}
use Rattle.fr_run_headline.specs.SeededLaws.{IsSeededEpoch}
use Rattle.fr_run_headline.specs.BehindLaws.{HasGenerations, GenerationsAreOwn, FrontIsState, BehindIsSeeded}
use Rattle.fr_run_headline.proofs.Transport.{plans_are_lines, first_line}
use Rattle.fr_run_headline.proofs.Seeds.{writing_is_seeded, first_is_seeded}

-- ---- fronts

-- behind some generations, each further one's epoch has those through it as its line
abbrev pub AreFronts : Config → List Turn → List LogGeneration → List LogGeneration → Type 0
AreFronts c h before [] = Unit {0}
AreFronts c h before (g ∷ gens) = (line_of c h g.epoch ≡ before ++ g ∷ []) × AreFronts c h (before ++ g ∷ []) gens

front_more : (c : Config) (h : List Turn) (before gens : List LogGeneration) (n : LogGeneration) → line_of c h n.epoch ≡ before ++ (gens ++ n ∷ []) → AreFronts c h before gens → AreFronts c h before (gens ++ n ∷ [])
front_more c h before [] n is k = (is, tt)
front_more c h before (g ∷ gens) n is k = (k.0, front_more c h (before ++ g ∷ []) gens n (is ∙ sym (append_assoc before (g ∷ []) (gens ++ n ∷ []))) k.1)

front_at : (c : Config) (h : List Turn) (before front : List LogGeneration) (g : LogGeneration) (rest : List LogGeneration) → AreFronts c h before (front ++ g ∷ rest) → line_of c h g.epoch ≡ before ++ (front ++ g ∷ [])
front_at c h before [] g rest k = k.0
front_at c h before (x ∷ front) g rest k = front_at c h (before ++ x ∷ []) front g rest k.1 ∙ append_assoc before (x ∷ []) (front ++ g ∷ [])

-- ---- plans

-- what is true of the line of a plan: the fronts are lines, and those before the last are of seeded epochs
record IsPlanned (c : Config) (h : List Turn) (b : ℕ) (p : Parent) (q : Plan) : Type 0 where
  is : line_of c h b ≡ line_of c h p.last.epoch ++ q.generation ∷ []
  fronts : AreFronts c h [] (line_of c h b)
  behind : All (λ g. IsSeededEpoch c h g.epoch) (line_of c h p.last.epoch)

-- what a recoverer goes on from
record IsTaken (c : Config) (h : List Turn) (gens : List LogGeneration) : Type 0 where
  fronts : AreFronts c h [] gens
  seeded : All (λ g. IsSeededEpoch c h g.epoch) gens

first_taken : Laws → (c : Config) (h : List Turn) → IsConfig c → IsRun c h → IsTaken c h (line_of c h first_epoch)
first_taken laws c h config run = record {
  fronts = (refl, tt);
  seeded = All-push (λ g. IsSeededEpoch c h g.epoch) [] (first_generation c) (All-nil (λ g. IsSeededEpoch c h g.epoch)) (first_is_seeded laws c h config run);
}

-- the epoch of a plan's generation is its ballot
plan_own : Laws → (c : Config) (h : List Turn) → IsRun c h → (b : ℕ) (r : RecState) (q : Plan) → rec_at c h b ≡ Some r → r.plan ≡ Some q → q.generation.epoch ≡ b
plan_own laws c h run b r q at planned = (plan_is laws c h run b r at q planned).epoch ∙ (rec_is laws c h run b r at).ballot

-- a ballot's plan over what was taken over
plan_more : Laws → (c : Config) (h : List Turn) → IsRun c h → (b : ℕ) (r : RecState) (q : Plan) → rec_at c h b ≡ Some r → r.plan ≡ Some q → (p : Parent) → line_of c h b ≡ line_of c h p.last.epoch ++ q.generation ∷ [] → IsTaken c h (line_of c h p.last.epoch)
    → IsPlanned c h b p q
plan_more laws c h run b r q at planned p gens taken =
    let here : line_of c h q.generation.epoch ≡ line_of c h p.last.epoch ++ q.generation ∷ [] = ap (line_of c h) (plan_own laws c h run b r q at planned) ∙ gens in
    record { is = gens; fronts = subst (AreFronts c h []) (sym gens) (front_more c h [] (line_of c h p.last.epoch) q.generation here taken.fronts); behind = taken.seeded }

-- what was written may be taken over
planned_taken : Laws → (c : Config) (h : List Turn) → IsConfig c → IsRun c h → (b : ℕ) (r : RecState) (q : Plan) → rec_at c h b ≡ Some r → r.plan ≡ Some q → is_written r ≡ true → (p : Parent) → IsPlanned c h b p q → IsTaken c h (line_of c h b)
planned_taken laws c h config run b r q at planned written p k =
    let last : IsSeededEpoch c h q.generation.epoch = subst (IsSeededEpoch c h) (sym (plan_own laws c h run b r q at planned)) (writing_is_seeded laws c h config run b r at written) in
    record { fronts = k.fronts; seeded = subst (All (λ g. IsSeededEpoch c h g.epoch)) (sym k.is) (All-push (λ g. IsSeededEpoch c h g.epoch) (line_of c h p.last.epoch) q.generation k.behind last) }

plans : Laws → (c : Config) (h : List Turn) → IsConfig c → IsRun c h → (n b : ℕ) → b < n → (r : RecState) (q : Plan) → rec_at c h b ≡ Some r → r.plan ≡ Some q → (p : Parent) × IsPlanned c h b p q
plans laws c h config run zero b l r q at planned = absurd (omega (arith, l))
plans laws c h config run (suc n) b l r q at planned =
    let k = plan_line laws c h config run b r q at planned in
    let p : Parent = k.parent in
    let taken : IsTaken c h (line_of c h p.last.epoch) = elim (parent_is_planned laws c h config run b r p at k.is) [
      | inl first ↦ subst (λ e. IsTaken c h (line_of c h e)) (sym first) (first_taken laws c h config run)
      | inr j ↦ (
          let before = plans laws c h config run n p.last.epoch (let low = j.below in omega (arith, l, low)) j.recoverer j.plan j.at j.planned in
          planned_taken laws c h config run p.last.epoch j.recoverer j.plan j.at j.planned j.written before.0 before.1)
    ] in
    (p, plan_more laws c h run b r q at planned p k.line taken)

-- ---- epochs

-- the state of an epoch that has a generation: its generations, and those behind the last one
pub record IsState (c : Config) (h : List Turn) (e : ℕ) (g : LogGeneration) : Type 0 where
  pub has : HasGenerations c h e g
  pub behind : List LogGeneration
  pub is : line_of c h e ≡ behind ++ g ∷ []
  pub fronts : AreFronts c h [] (line_of c h e)
  pub seeded : All (λ x. IsSeededEpoch c h x.epoch) behind

first_is : Laws → (c : Config) (h : List Turn) → IsConfig c → IsRun c h → IsState c h first_epoch (first_generation c)
first_is laws c h config run = record {
  has = record { own = refl; last = refl; ordered = tt; each = (first_line c h).each };
  behind = [];
  is = refl;
  fronts = (refl, tt);
  seeded = All-nil (λ x. IsSeededEpoch c h x.epoch);
}

plan_state : Laws → (c : Config) (h : List Turn) → IsConfig c → IsRun c h → (b : ℕ) (r : RecState) (q : Plan) → rec_at c h b ≡ Some r → r.plan ≡ Some q → IsState c h b q.generation
plan_state laws c h config run b r q at planned =
    let k = plans laws c h config run (suc b) b (omega arith) r q at planned in
    record {
      has = record {
        own = plan_own laws c h run b r q at planned;
        last = ap last_of k.1.is ∙ last_more (line_of c h k.0.last.epoch) q.generation;
        ordered = (lines_within laws c h config run b q.generation (generation_planned laws c h run b r at q planned)).1;
        each = (plans_are_lines laws c h config run b r q at planned).each;
      };
      behind = line_of c h k.0.last.epoch;
      is = k.1.is;
      fronts = k.1.fronts;
      seeded = k.1.behind;
    }

pub state_is : Laws → (c : Config) (h : List Turn) → IsConfig c → IsRun c h → (e : ℕ) (g : LogGeneration) → generation_at c h e ≡ Some g → IsState c h e g
state_is laws c h config run e g at = elim (planned_by c h e g at) [
  | inl first ↦ subst (IsState c h e) first.1 (subst (λ x. IsState c h x (first_generation c)) (sym first.0) (first_is laws c h config run))
  | inr k ↦ subst (IsState c h e) k.is (plan_state laws c h config run e k.recoverer k.plan k.at k.planned)
]

pub generations_are_own : Laws → GenerationsAreOwn
generations_are_own laws c h config run e g at = (state_is laws c h config run e g at).has

pub front_is_state : Laws → FrontIsState
front_is_state laws c h config run e own at front g rest is =
    front_at c h [] front g rest (subst (AreFronts c h []) is (state_is laws c h config run e own at).fronts)

-- one that another stands behind is not the last
not_last : (P : LogGeneration → Type 0) (behind : List LogGeneration) (own : LogGeneration) → All P behind → (front : List LogGeneration) (g next : LogGeneration) (rest : List LogGeneration) → behind ++ own ∷ [] ≡ front ++ g ∷ next ∷ rest → P g
not_last P [] own all [] g next rest e = absurd (cc)
not_last P [] own all (x ∷ []) g next rest e = absurd (cc)
not_last P [] own all (x ∷ y ∷ front) g next rest e = absurd (cc)
not_last P (x ∷ behind) own all [] g next rest e = let same : x ≡ g = cc in subst P same (All-head P x behind all)
not_last P (x ∷ behind) own all (y ∷ front) g next rest e = let rests : behind ++ own ∷ [] ≡ front ++ g ∷ next ∷ rest = cc in not_last P behind own (All-tail P x behind all) front g next rest rests

pub behind_is_seeded : Laws → BehindIsSeeded
behind_is_seeded laws c h config run e own at front g next rest is =
    let k = state_is laws c h config run e own at in
    not_last (λ x. IsSeededEpoch c h x.epoch) k.behind own k.seeded front g next rest (sym k.is ∙ is)
