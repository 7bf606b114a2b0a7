-- The lines of epochs: each is that of the epoch that its recoverer ended, with one generation more.
use Rattle.std.proofs.Common.{◌≡◌, ℕ, zero, suc, ◌+◌, ◌<◌, ◌≤◌, Bool, true, false, cond, nat_lt, ◌==◌, ◌||◌, List, [], ◌∷◌, ◌++◌, length, drop, append_assoc, length-append, Option, None, Some, inl, inr, refl, sym, ◌∙◌, ap, subst, arith}
use Rattle.std.specs.List.{All, list_any}
use Rattle.std.proofs.lemmas.Bool.{ltb-true, ltb-false, eqb-true}
use Rattle.std.proofs.lemmas.List.Elements.{All-push}
use Rattle.std.proofs.lemmas.List.Folds.{list_any-append}
use Rattle.fr_register.specs.Poll.{Stamped}
use Rattle.fr_register.specs.Chosen.{Descends, itself, by_parent}
use Rattle.fr_state.specs.Generations.{LogGeneration, CoordinatedState, IsGeneration, IsCoordinatedState, Follows, AreOrdered, last_of}
use Rattle.fr_epoch.specs.Recoverer.{RecState, Parent, Plan}
use Rattle.fr_run.specs.Config.{Config, first_epoch, first_generation}
use Rattle.fr_run.specs.Turn.{Turn, cell_turns}
use Rattle.fr_run.specs.Nodes.{rec_at, generation_at}
use Rattle.fr_run.specs.Run.{IsRun}
use Rattle.fr_run.specs.Laws.{Laws}
use Rattle.fr_run.specs.States.{state_of, line_with, line_in, line_from, line_of, pair_of, IsInLine, IsChosenEpoch}
use Rattle.fr_run.specs.StateLaws.{IsConfig, IsFrontOf, IsLeftAndMore, ChosenIsFront}
use Rattle.fr_run.specs.LineLaws.{ParentIsOfEpoch, LineOfPlan, LineOfFirst, LineLasts, IsView, StateIsView, LinesAreWithin, DropsRise}
use Rattle.fr_run.specs.ParentLaws.{parent_at}
use Rattle.fr_run.specs.ChosenLaws.{ChosenIsBefore, ChosenAreChain}
use Rattle.fr_run.proofs.Growth.{rec_is, rec_grows}
use Rattle.fr_run.proofs.Cells.{written_is_state}
use Rattle.fr_run.proofs.Register.{parents_descend}
use Rattle.fr_run.proofs.States.{first_is, last_more, recoverers_have_states, front_itself, front_more}
use Rattle.fr_run.proofs.Chosen.{other_epoch, state_planned, generation_planned, first_is_least, chosen_is_written}
use Rattle.fr_run.proofs.Parents.{IsFromEpoch, parent_from, planned_by}

-- ---- lists

drop_twice : {X : Type 0} (d n : ℕ) (xs : List X) → drop n (drop d xs) ≡ drop (d + n) xs
drop_twice zero n xs = let e : n ≡ 0 + n = omega arith in ap (λ k. drop k xs) e
drop_twice (suc d) n [] = nothing n (suc d + n)
  where
    nothing : {X : Type 0} (n k : ℕ) → drop {A = X} n [] ≡ drop k []
    nothing zero zero = refl
    nothing zero (suc k) = refl
    nothing (suc n) zero = refl
    nothing (suc n) (suc k) = refl
drop_twice (suc d) n (x ∷ xs) = drop_twice d n xs ∙ sym (ap (λ k. drop k (x ∷ xs)) up)
  where
    up : suc d + n ≡ suc (d + n)
    up = omega arith

drop_front : {X : Type 0} (n : ℕ) (xs ys : List X) → n ≤ length xs → drop n xs ++ ys ≡ drop n (xs ++ ys)
drop_front zero xs ys le = refl
drop_front (suc n) [] ys le = absurd (omega (arith, le))
drop_front (suc n) (x ∷ xs) ys le = drop_front n xs ys (omega (arith, le))

drop_length : {X : Type 0} (n : ℕ) (xs : List X) → n ≤ length xs → n + length (drop n xs) ≡ length xs
drop_length zero xs le = omega arith
drop_length (suc n) [] le = absurd (omega (arith, le))
drop_length (suc n) (x ∷ xs) le = let k = drop_length n xs (omega (arith, le)) in omega (arith, k)

-- one more behind an ordered list follows its last
last_follows : (gens : List LogGeneration) (last g : LogGeneration) → AreOrdered (gens ++ g ∷ []) → last_of gens ≡ Some last → Follows last g
last_follows [] last g ordered is = absurd (cc)
last_follows (x ∷ []) last g ordered is = let same : x ≡ last = cc in subst (λ y. Follows y g) same ordered.0
last_follows (x ∷ y ∷ gens) last g ordered is = last_follows (y ∷ gens) last g ordered.1 is

ordered_more : (gens : List LogGeneration) (last g : LogGeneration) → AreOrdered gens → last_of gens ≡ Some last → Follows last g → AreOrdered (gens ++ g ∷ [])
ordered_more [] last g ordered is follows = tt
ordered_more (x ∷ []) last g ordered is follows = let same : last ≡ x = cc in (subst (λ y. Follows y g) same follows, tt)
ordered_more (x ∷ y ∷ gens) last g ordered is follows = (ordered.0, ordered_more (y ∷ gens) last g ordered.1 is follows)

-- ---- as far as it is looked back

-- a line rests on the line of the recoverer's parent alone
line_same : (c : Config) (f g : ℕ → List LogGeneration) (o : Option RecState) → ((r : RecState) (p : Parent) → o ≡ Some r → r.parent ≡ Some p → f p.last.epoch ≡ g p.last.epoch) → line_in c f o ≡ line_in c g o
line_same c f g None same = refl
line_same c f g (Some r) same = go r.parent refl r.plan
  where
    go : (o : Option Parent) → r.parent ≡ o → (q : Option Plan) → line_with c f o q ≡ line_with c g o q
    go None e q = refl
    go (Some p) e None = refl
    go (Some p) e (Some q) = ap (λ gens. gens ++ q.generation ∷ []) (same r p refl e)

line_alone : (c : Config) (f : ℕ → List LogGeneration) (o : Option RecState) → ((r : RecState) (p : Parent) → o ≡ Some r → r.parent ≡ Some p → ⊥) → line_in c f o ≡ first_generation c ∷ []
line_alone c f None none = refl
line_alone c f (Some r) none = go r.parent refl r.plan
  where
    go : (o : Option Parent) → r.parent ≡ o → (q : Option Plan) → line_with c f o q ≡ first_generation c ∷ []
    go None e q = refl
    go (Some p) e q = absurd (none r p refl e)

-- a ballot that has a plan has a parent, with whose line its own begins
pub record HasLine (c : Config) (h : List Turn) (b : ℕ) (r : RecState) (q : Plan) : Type 0 where
  pub parent : Parent
  pub is : r.parent ≡ Some parent
  pub from : IsFromEpoch c h b parent
  pub more : IsLeftAndMore parent q
  pub within : IsCoordinatedState q.state
  pub line : line_of c h b ≡ line_of c h parent.last.epoch ++ q.generation ∷ []

module _ (laws : Laws) (c : Config) (h : List Turn) (config : IsConfig c) (run : IsRun c h) where
  from_epoch : (b : ℕ) (r : RecState) (p : Parent) → rec_at c h b ≡ Some r → r.parent ≡ Some p → IsFromEpoch c h b p
  from_epoch b r p at parent = parent_from laws c h config run b r p at parent

  -- it is looked back far enough where it is looked back the number of the epoch
  enough : (n m e : ℕ) → e ≤ n → e ≤ m → line_from c h n e ≡ line_from c h m e
  enough zero zero e low high = refl
  enough zero (suc m) e low high = go (e == first_epoch)
    where
      go : (s : Bool) → first_generation c ∷ [] ≡ cond s (first_generation c ∷ []) (line_in c (line_from c h m) (rec_at c h e))
      go true = refl
      go false = sym (line_alone c (line_from c h m) (rec_at c h e) (λ r p at parent. let k = (from_epoch e r p at parent).below in absurd (omega (arith, k, low))))
  enough (suc n) zero e low high = go (e == first_epoch)
    where
      go : (s : Bool) → cond s (first_generation c ∷ []) (line_in c (line_from c h n) (rec_at c h e)) ≡ first_generation c ∷ []
      go true = refl
      go false = line_alone c (line_from c h n) (rec_at c h e) (λ r p at parent. let k = (from_epoch e r p at parent).below in absurd (omega (arith, k, high)))
  enough (suc n) (suc m) e low high =
      ap (λ gens. cond (e == first_epoch) (first_generation c ∷ []) gens)
      (line_same c (line_from c h n) (line_from c h m) (rec_at c h e) (λ r p at parent. let k = (from_epoch e r p at parent).below in enough n m p.last.epoch (omega (arith, k, low)) (omega (arith, k, high))))

  -- ---- a plan's line

  line_planned : (b : ℕ) (r : RecState) (p : Parent) (q : Plan) → rec_at c h b ≡ Some r → r.parent ≡ Some p → r.plan ≡ Some q → line_of c h b ≡ line_of c h p.last.epoch ++ q.generation ∷ []
  line_planned b r p q at parent planned = go b refl
    where
      below : p.last.epoch < b
      below = (from_epoch b r p at parent).below

      go : (n : ℕ) → b ≡ n → line_from c h n b ≡ line_of c h p.last.epoch ++ q.generation ∷ []
      go zero e = absurd (omega (arith, e, below))
      go (suc n) e =
          ap (λ s. cond s (first_generation c ∷ []) (line_in c (line_from c h n) (rec_at c h b))) (other_epoch laws c h run b r at)
          ∙ ap (line_in c (line_from c h n)) at
          ∙ ap (λ o. line_with c (line_from c h n) o r.plan) parent
          ∙ ap (line_with c (line_from c h n) (Some p)) planned
          ∙ ap (λ gens. gens ++ q.generation ∷ []) (enough n p.last.epoch p.last.epoch (omega (arith, e, below)) (omega arith))

  pub plan_line : (b : ℕ) (r : RecState) (q : Plan) → rec_at c h b ≡ Some r → r.plan ≡ Some q → HasLine c h b r q
  plan_line b r q at planned =
      let states = (recoverers_have_states laws c h config run b r at).plan q planned in
      record {
        parent = states.1.0;
        is = states.1.1;
        from = from_epoch b r states.1.0 at states.1.1;
        more = states.1.2;
        within = states.0;
        line = line_planned b r states.1.0 q at states.1.1 planned;
      }

  -- what is true of the first epoch, and of each that is planned where it is of the one before, is true of all
  module _ (P : ℕ → Type 0) (first : P first_epoch) (later : (b : ℕ) (r : RecState) (q : Plan) → rec_at c h b ≡ Some r → r.plan ≡ Some q → (k : HasLine c h b r q) → P k.parent.last.epoch → P b) where
    along_to : (n e : ℕ) (g : LogGeneration) → e ≤ n → generation_at c h e ≡ Some g → P e
    along_to zero e g le at = elim (planned_by c h e g at) [
      | inl is ↦ subst P (sym is.0) first
      | inr k ↦ (let line = plan_line e k.recoverer k.plan k.at k.planned in let low = line.from.below in absurd (omega (arith, le, low)))
    ]
    along_to (suc n) e g le at = elim (planned_by c h e g at) [
      | inl is ↦ subst P (sym is.0) first
      | inr k ↦ (
          let line = plan_line e k.recoverer k.plan k.at k.planned in
          let low = line.from.below in
          later e k.recoverer k.plan k.at k.planned line (along_to n line.parent.last.epoch line.parent.last (omega (arith, le, low)) line.from.generation))
    ]

    pub along : (e : ℕ) (g : LogGeneration) → generation_at c h e ≡ Some g → P e
    along e g at = along_to e e g (omega arith) at

  -- ---- what is true of lines

  -- the last generation of a line is the epoch's
  line_last : (e : ℕ) (g : LogGeneration) → generation_at c h e ≡ Some g → last_of (line_of c h e) ≡ Some g
  line_last e g at = elim (planned_by c h e g at) [
    | inl is ↦ ap (λ x. last_of (line_of c h x)) is.0 ∙ ap Some is.1
    | inr k ↦ (
        let line = plan_line e k.recoverer k.plan k.at k.planned in
        ap last_of line.line ∙ last_more (line_of c h line.parent.last.epoch) k.plan.generation ∙ ap Some k.is)
  ]

  view_more : (b : ℕ) (r : RecState) (q : Plan) → rec_at c h b ≡ Some r → r.plan ≡ Some q → (k : HasLine c h b r q) → IsView (line_of c h k.parent.last.epoch) (state_of c h k.parent.last.epoch)
      → IsView (line_of c h b) (state_of c h b)
  view_more b r q at planned k was = record {
    short = (let a = ap length k.line in let d = length-append line own in let e = ap (λ (s : CoordinatedState). s.dropped) here in omega (arith, a, d, e, sum));
    is = ap (λ (s : CoordinatedState). s.gens) here
        ∙ ap (λ gens. gens ++ own) (ap (drop number) gens_are ∙ drop_twice k.parent.state.dropped number line)
        ∙ drop_front (k.parent.state.dropped + number) line own (omega (arith, sum))
        ∙ sym (ap (λ n. drop n (line ++ own)) (ap (λ (s : CoordinatedState). s.dropped) here))
        ∙ ap (drop (state_of c h b).dropped) (sym k.line);
  }
    where
      line : List LogGeneration
      line = line_of c h k.parent.last.epoch

      own : List LogGeneration
      own = q.generation ∷ []

      number : ℕ
      number = k.more.number

      -- the parent's state as a view
      gens_are : k.parent.state.gens ≡ drop k.parent.state.dropped line
      gens_are = ap (λ (s : CoordinatedState). s.gens) (sym k.from.state) ∙ was.is ∙ ap (λ (s : CoordinatedState). drop s.dropped line) k.from.state

      here : state_of c h b ≡ record { dropped = k.parent.state.dropped + number; gens = drop number k.parent.state.gens ++ own }
      here = state_planned laws c h run b r at q planned ∙ k.more.is

      sum : k.parent.state.dropped + number < length line
      sum =
          let short = was.short in
          let d = ap (λ (s : CoordinatedState). s.dropped) k.from.state in
          let left = drop_length k.parent.state.dropped line (omega (arith, short, d)) in
          let few = k.more.fewer in
          let a = ap length gens_are in
          omega (arith, left, few, a)

  state_is_view : (e : ℕ) (g : LogGeneration) → generation_at c h e ≡ Some g → IsView (line_of c h e) (state_of c h e)
  state_is_view = along (λ e. IsView (line_of c h e) (state_of c h e)) (record { short = omega arith; is = refl }) view_more

  within_more : (b : ℕ) (r : RecState) (q : Plan) → rec_at c h b ≡ Some r → r.plan ≡ Some q → (k : HasLine c h b r q) → All IsGeneration (line_of c h k.parent.last.epoch) × AreOrdered (line_of c h k.parent.last.epoch)
      → All IsGeneration (line_of c h b) × AreOrdered (line_of c h b)
  within_more b r q at planned k was =
      let line : List LogGeneration = line_of c h k.parent.last.epoch in
      let last = line_last k.parent.last.epoch k.parent.last k.from.generation in
      let view = state_is_view k.parent.last.epoch k.parent.last k.from.generation in
      let kept : last_of (drop k.more.number k.parent.state.gens) ≡ Some k.parent.last =
      laws.drop_keeps_last k.parent.state.gens k.more.number k.more.fewer
      ∙ ap (λ (s : CoordinatedState). last_of s.gens) (sym k.from.state) ∙ ap last_of view.is ∙ laws.drop_keeps_last line (state_of c h k.parent.last.epoch).dropped view.short ∙ last in
      let gens : q.state.gens ≡ drop k.more.number k.parent.state.gens ++ q.generation ∷ [] = ap (λ (s : CoordinatedState). s.gens) k.more.is in
      let follows = last_follows (drop k.more.number k.parent.state.gens) k.parent.last q.generation (subst AreOrdered gens k.within.ordered) kept in
      let own : IsGeneration q.generation = own_within (drop k.more.number k.parent.state.gens) q.generation (subst (All IsGeneration) gens k.within.limits) in
      (subst (All IsGeneration) (sym k.line) (All-push IsGeneration line q.generation was.0 own), subst AreOrdered (sym k.line) (ordered_more line k.parent.last q.generation was.1 last follows))
    where
      own_within : (gens : List LogGeneration) (g : LogGeneration) → All IsGeneration (gens ++ g ∷ []) → IsGeneration g
      own_within gens g all = Rattle.fr_run.proofs.States.last_is IsGeneration (gens ++ g ∷ []) g (last_more gens g) all

  lines_are_within : (e : ℕ) (g : LogGeneration) → generation_at c h e ≡ Some g → All IsGeneration (line_of c h e) × AreOrdered (line_of c h e)
  lines_are_within = along (λ e. All IsGeneration (line_of c h e) × AreOrdered (line_of c h e)) ((first_is c config).limits, (first_is c config).ordered) within_more

  rises_more : (b : ℕ) (r : RecState) (q : Plan) → rec_at c h b ≡ Some r → r.plan ≡ Some q → (k : HasLine c h b r q)
      → ((d : ℕ) → IsInLine c h k.parent.last.epoch d → (state_of c h d).dropped ≤ (state_of c h k.parent.last.epoch).dropped) → (d : ℕ) → IsInLine c h b d → (state_of c h d).dropped ≤ (state_of c h b).dropped
  rises_more b r q at planned k was d there = go (list_any is_it line) refl
    where
      is_it : LogGeneration → Bool
      is_it g = g.epoch == d

      line : List LogGeneration
      line = line_of c h k.parent.last.epoch

      split : (list_any is_it line || (is_it q.generation || false)) ≡ true
      split = sym (list_any-append is_it line (q.generation ∷ [])) ∙ ap (list_any is_it) (sym k.line) ∙ there

      here : (state_of c h b).dropped ≡ k.parent.state.dropped + k.more.number
      here = ap (λ (s : CoordinatedState). s.dropped) (state_planned laws c h run b r at q planned ∙ k.more.is)

      own : (s : Bool) → is_it q.generation ≡ s → (false || (s || false)) ≡ true → b ≡ d
      own true e z = sym ((rec_is laws c h run b r at).ballot) ∙ sym ((rec_is laws c h run b r at).kept.plan q planned).epoch ∙ eqb-true q.generation.epoch d e
      own false e z = absurd (cc)

      go : (s : Bool) → list_any is_it line ≡ s → (state_of c h d).dropped ≤ (state_of c h b).dropped
      go true e =
          let low = was d e in
          let same = ap (λ (s : CoordinatedState). s.dropped) k.from.state in
          omega (arith, low, same, here)
      go false e =
          let z = ap (λ s. s || (is_it q.generation || false)) (sym e) ∙ split in
          let same : b ≡ d = own (is_it q.generation) refl z in
          subst (λ x. (state_of c h x).dropped ≤ (state_of c h b).dropped) same (omega arith)

  drops_rise : (e : ℕ) (g : LogGeneration) → generation_at c h e ≡ Some g → (d : ℕ) → IsInLine c h e d → (state_of c h d).dropped ≤ (state_of c h e).dropped
  drops_rise = along (λ e. (d : ℕ) → IsInLine c h e d → (state_of c h d).dropped ≤ (state_of c h e).dropped) first rises_more
    where
      only : (d : ℕ) (s : Bool) → (first_epoch == d) ≡ s → (s || false) ≡ true → first_epoch ≡ d
      only d true e z = eqb-true first_epoch d e
      only d false e z = absurd (cc)

      first : (d : ℕ) → IsInLine c h first_epoch d → (state_of c h d).dropped ≤ (state_of c h first_epoch).dropped
      first d there = let same : first_epoch ≡ d = only d (first_epoch == d) refl there in subst (λ x. (state_of c h x).dropped ≤ (state_of c h first_epoch).dropped) same (omega arith)

  -- ---- the chosen ones

  -- what descends from a pair has the line of that pair's ballot in front
  descends_front : (p q : Stamped) → Descends (cell_turns h) (parent_at c h) p q → IsFrontOf (line_of c h q.ballot) (line_of c h p.ballot)
  descends_front p q itself = front_itself (line_of c h q.ballot)
  descends_front p q (by_parent came d) =
      let k = written_is_state laws c h run p came in
      let line = plan_line p.ballot k.recoverer k.plan k.at k.planned in
      let below = descends_front (parent_at c h p.ballot) q d in
      subst (IsFrontOf (line_of c h q.ballot)) (sym line.line)
      (front_more (line_of c h q.ballot) (line_of c h line.parent.last.epoch) k.plan.generation (subst (λ e. IsFrontOf (line_of c h q.ballot) (line_of c h e)) line.from.ballot below))

  -- the line of each chosen epoch of a lower ballot is in front of the line from which a recoverer goes on
  chosen_in_parent : (a b : ℕ) (r : RecState) (p : Parent) → IsChosenEpoch c h a → rec_at c h b ≡ Some r → r.parent ≡ Some p → a < b → IsFrontOf (line_of c h a) (line_of c h p.last.epoch)
  chosen_in_parent a b r p chosen at parent less =
      subst (λ e. IsFrontOf (line_of c h a) (line_of c h e)) (from_epoch b r p at parent).ballot
      (descends_front (parent_at c h b) (pair_of c h a) (parents_descend laws c h run (pair_of c h a) b r p chosen at parent less))

-- ---- in public

pub parent_is : Laws → ParentIsOfEpoch
parent_is laws c h config run b r p at parent =
    let k = from_epoch laws c h config run b r p at parent in
    record { state = k.state; generation = k.generation; last = line_last laws c h config run p.last.epoch p.last k.generation }

pub line_of_plan : Laws → LineOfPlan
line_of_plan laws c h config run b r p q at parent planned = line_planned laws c h config run b r p q at parent planned

pub line_of_first : LineOfFirst
line_of_first c h = refl

pub states_are_views : Laws → StateIsView
states_are_views laws c h config run e g at = state_is_view laws c h config run e g at

pub lines_within : Laws → LinesAreWithin
lines_within laws c h config run e g at = lines_are_within laws c h config run e g at

pub dropped_rises : Laws → DropsRise
dropped_rises laws c h config run e d g at there = drops_rise laws c h config run e g at d there

-- a line stays
pub line_lasts : Laws → LineLasts
line_lasts laws c t h config run e g at =
    along laws c h config run.1 (λ e. line_of c (t ∷ h) e ≡ line_of c h e) refl (λ b r q at planned k was.
    let later = rec_grows laws c h t run.1 run.0 b r at in
    let plan = later.grows.plan q planned in
    let parent : later.later.parent ≡ Some k.parent = later.grows.parent (subst (λ o. Rattle.std.specs.Prelude.IsSome o) (sym k.is) refl) ∙ k.is in
    line_planned laws c (t ∷ h) config run b later.later k.parent plan.0 later.is parent plan.1
    ∙ Rattle.fr_log.specs.Fields.two (λ (gens : List LogGeneration) (g : LogGeneration). gens ++ g ∷ []) was plan.2.generation
    ∙ sym k.line) e g at

pub chosen_is_front : Laws → ChosenIsFront
chosen_is_front laws c h config run a b r p chosen at parent less = chosen_in_parent laws c h config run a b r p chosen at parent less

pub chosen_is_before : Laws → ChosenIsBefore
chosen_is_before laws c h config run a b low high less = elim (chosen_is_written laws c h run b high) [
  | inl first ↦ (let k = first_is_least laws c h run a low in absurd (omega (arith, k, first, less)))
  | inr k ↦ (
      let line = plan_line laws c h config run b k.recoverer k.plan k.at k.planned in
      let own : List LogGeneration = k.plan.generation ∷ [] in
      let front = chosen_in_parent laws c h config run a b k.recoverer line.parent low k.at line.is less in
      record {
        between = front.0;
        own = k.plan.generation;
        of = generation_planned laws c h run b k.recoverer k.at k.plan k.planned;
        is = sym (append_assoc (line_of c h a) front.0 own) ∙ ap (λ xs. xs ++ own) front.1 ∙ sym line.line;
      })
]

pub chosen_are_chain : Laws → ChosenAreChain
chosen_are_chain laws c h config run a b low high le = go (nat_lt a b) refl
  where
    go : (s : Bool) → nat_lt a b ≡ s → IsFrontOf (line_of c h a) (line_of c h b)
    go true k = let j = chosen_is_before laws c h config run a b low high (ltb-true a b k) in (j.between ++ j.own ∷ [], j.is)
    go false k =
        let up = ltb-false a b k in
        let same : a ≡ b = omega (arith, up, le) in
        subst (λ x. IsFrontOf (line_of c h a) (line_of c h x)) same (front_itself (line_of c h a))
