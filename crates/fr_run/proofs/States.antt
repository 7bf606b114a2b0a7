-- The states that recoverers take over and plan.
use Rattle.std.proofs.Common.{◌≡◌, ℕ, Bool, true, false, cond, ◌==◌, List, [], ◌∷◌, ◌++◌, length, append-nil, append_assoc, Option, None, Some, inl, inr, refl, sym, ◌∙◌, ap, subst, arith}
use Rattle.std.specs.List.{All, Contains, range_with_len}
use Rattle.std.specs.Prelude.{IfSome, Ok}
use Rattle.std.proofs.lemmas.List.Elements.{All-nil, All-push, All-head, All-tail}
use Rattle.fr_base.specs.Shape.{ShapeContent}
use Rattle.fr_base.specs.declared.place.NodeId.{NodeId}
use Rattle.fr_base.specs.declared.place.NodeId.TheVariants as node
use Rattle.fr_register.specs.declared.poll.Progress.TheVariants.{Majority}
use Rattle.fr_register.specs.Poll.{Stamped, ReadState}
use Rattle.fr_register.specs.Tally.{hear_read, progress_of}
use Rattle.fr_register.specs.Heard.{read_tally}
use Rattle.fr_register.specs.History as register
use Rattle.fr_register.specs.Chosen.{IsKept, IsHeldBy, IsReadByMajority}
use Rattle.fr_state.specs.Generations.{LogGeneration, CoordinatedState, IsGeneration, IsCoordinatedState, last_of}
use Rattle.fr_state.specs.Reading.{reading}
use Rattle.fr_state.specs.Spelling.{spelling}
use Rattle.fr_ask.specs.declared.tell.Tell.{Tell}
use Rattle.fr_tail.specs.Tail.{after_hear as after_peeked}
use Rattle.fr_epoch.specs.Recoverer.{RecState, Parent, Plan, Reading, new_recoverer}
use Rattle.fr_epoch.specs.Hear as rec
use Rattle.fr_epoch.specs.Hear.{with_lock, left_of, next_generation, plan_of}
use Rattle.fr_epoch.specs.Words.{word_of}
use Rattle.fr_epoch.specs.Change.{replied, Change, Stands, LosesReads, Reads, Finds, Locks, LosesLocks, Plans, Copies, Seeds, SeedsAll, Writes, LosesWrites, Chooses, Marks}
use Rattle.fr_epoch.specs.Kept as rec_kept
use Rattle.fr_epoch.specs.Law.{IsRecoverer}
use Rattle.fr_run.specs.Config.{Config, first_epoch, first_generation, first_state, first_cell}
use Rattle.fr_run.specs.Turn.{Turn, Told, cell_turns}
use Rattle.fr_run.specs.Nodes.{rec_at, plan_in, plan_at}
use Rattle.fr_run.specs.States.{state_in, state_of}
use Rattle.fr_run.specs.Run.{IsRun}
use Rattle.fr_run.specs.Laws.{Laws}
use Rattle.fr_run.specs.StateLaws.{IsConfig, IsFrontOf, IsLeftAndMore, HasStates, RecoverersHaveStates}
use Rattle.fr_run.proofs.ByTurn.{rec_by_turn}
use Rattle.fr_run.proofs.Growth.{rec_is}
use Rattle.fr_run.proofs.Cells.{cells_have_history, first_within, written_is_state}
use Rattle.fr_run.proofs.Register.{HasRead, has_found, reads_more, cell_told, no_parent}

-- ---- states within their limits

pub first_is : (c : Config) → IsConfig c → IsCoordinatedState (first_state c)
first_is c k = record {
  limits = All-push IsGeneration [] (first_generation c) (All-nil IsGeneration) (record {
    epoch_low = omega arith;
    epoch_high = omega arith;
    k_low = k.k_low;
    k_high = k.k_high;
    m_high = k.m_high;
    first_low = omega arith;
    first_high = omega arith;
    seeded_to_low = omega arith;
    seeded_to_high = omega arith;
  });
  ordered = tt;
  some = omega arith;
  few = omega arith;
  below = omega arith;
}

-- the last of some generations is one of them
pub last_is : (P : LogGeneration → Type 0) (gens : List LogGeneration) (g : LogGeneration) → last_of gens ≡ Some g → All P gens → P g
last_is P [] g e all = absurd (cc)
last_is P (x ∷ []) g e all = let d : x ≡ g = cc in subst P d (All-head P x [] all)
last_is P (x ∷ y ∷ gens) g e all = last_is P (y ∷ gens) g e (All-tail P x (y ∷ gens) all)

-- the last of a list with one more is that one
pub last_more : (gens : List LogGeneration) (n : LogGeneration) → last_of (gens ++ n ∷ []) ≡ Some n
last_more [] n = refl
last_more (x ∷ []) n = refl
last_more (x ∷ y ∷ gens) n = last_more (y ∷ gens) n

-- two states with one spelling are one
pub one_spelling : Laws → (x y : CoordinatedState) → IsCoordinatedState x → IsCoordinatedState y → spelling x ≡ spelling y → x ≡ y
one_spelling laws x y i j e =
    let k : Ok x ≡ reading (spelling y) = sym (laws.spelled_is_read x i) ∙ ap reading e in
    let m : Ok x ≡ Ok y = k ∙ laws.spelled_is_read y j in
    cc

-- ---- what a recoverer finds

-- a pair spells a state
pub record Spells (v : List ℕ) : Type 0 where
  pub state : CoordinatedState
  pub within : IsCoordinatedState state
  pub is : v ≡ spelling state

-- a pair that a cell held at some moment spells a state
held_spells : Laws → (c : Config) (h : List Turn) → IsConfig c → IsRun c h → ((b : ℕ) → IfSome (rec_at c h b) HasStates) → (i : ℕ) (p : Stamped) → IsHeldBy (first_cell c) (cell_turns h) i p → Spells p.value
held_spells laws c h config run all i p (inl start) = record { state = first_state c; within = first_is c config; is = ap (λ (s : Stamped). s.value) start }
held_spells laws c h config run all i p (inr w) =
    let k = written_is_state laws c h run p (record { cell = i; tell = _; comes = w }) in
    let s : HasStates k.recoverer = subst (λ o. IfSome o HasStates) k.at (all p.ballot) in
    record { state = k.plan.state; within = (s.plan k.plan k.planned).0; is = k.value }

-- the greatest pair of a read majority spells a state
read_spells : Laws → (c : Config) (h : List Turn) → IsConfig c → IsRun c h → ((b : ℕ) → IfSome (rec_at c h b) HasStates) → (b : ℕ) (reads : ReadState) → HasRead c h b reads → progress_of reads.poll ≡ Majority → Spells reads.greatest.value
read_spells laws c h config run all b reads k majority = held_spells laws c h config run all own.found.0 reads.greatest kept.holds
  where
    own : IsReadByMajority c.cells (cell_turns h) b (read_tally c.cells b k.heard).greatest
    own = laws.read_majority c.cells b (cell_turns h) k.heard k.told (subst (λ (s : ReadState). progress_of s.poll ≡ Majority) k.is majority)

    kept : IsKept (first_cell c) (cell_turns h) own.found.0 b reads.greatest
    kept = laws.promises_kept (first_cell c) (cell_turns h) own.found.0 b reads.greatest (first_within c) (cells_have_history c h run) (subst (λ (s : ReadState). Contains (cell_turns h) (register.promise_turn own.found.0 b s.greatest)) (sym k.is) own.found.1)

-- ---- one more tell

new_has_states : (c : Config) (b : ℕ) (shape : Option ShapeContent) → HasStates (new_recoverer b c.cells c.begins shape)
new_has_states c b shape = record { parent = λ p e. absurd (cc); plan = λ q e. absurd (cc) }

pub no_plan : (r : RecState) → IsRecoverer r → r.phase ≡ Reading → (q : Plan) → r.plan ≡ Some q → ⊥
no_plan r come_by ph q e = let k : None ≡ Some q = sym (come_by.parentless (come_by.reading ph)) ∙ e in absurd (cc)

change : Laws → (c : Config) (h : List Turn) → IsConfig c → IsRun c h → ((b : ℕ) → IfSome (rec_at c h b) HasStates) → (b : ℕ) (from : NodeId) (t : Tell) → Told h from (node.Recoverer b) t → (r : RecState) → rec_at c h b ≡ Some r → HasStates r
    → (n : RecState) → Change r (word_of from t) n → rec_kept.IsKept n → HasStates n
change laws c h config run all b from t told r at k n Stands kept = k
change laws c h config run all b from t told r at k n (LosesReads i u why is) kept = record {
  parent = λ p e. absurd (no_parent r (rec_is laws c h run b r at).kept.come_by is.phase p e);
  plan = k.plan;
}
change laws c h config run all b from t told r at k n (Reads i u is) kept = record {
  parent = λ p e. absurd (no_parent r (rec_is laws c h run b r at).kept.come_by is.phase p e);
  plan = k.plan;
}
change laws c h config run all b from t told r at k n (Finds i u s g heard is) kept =
    let reads = reads_more laws c h run b i u r.reads (cell_told h b from t i u told heard.word) (has_found laws c h run b r at).reads in
    let z = read_spells laws c h config run all b (hear_read r.reads i u) reads is.majority in
    let same : Ok z.state ≡ Ok s = sym (laws.spelled_is_read z.state z.within) ∙ (ap reading (sym z.is) ∙ is.value) in
    let d : z.state ≡ s = cc in
    record {
      parent = λ p e. (
          let m : record { state = s; last = g } ≡ p = cc in
          subst (λ (x : Parent). IsCoordinatedState x.state × ((hear_read r.reads i u).greatest.value ≡ spelling x.state)) m (subst (λ x. IsCoordinatedState x × ((hear_read r.reads i u).greatest.value ≡ spelling x)) d (z.within, z.is)));
      plan = λ q e. absurd (no_plan r (rec_is laws c h run b r at).kept.come_by heard.phase q e);
    }
change laws c h config run all b from t told r at k n (Locks p end i durable known popped is) kept = record { parent = k.parent; plan = k.plan }
change laws c h config run all b from t told r at k n (LosesLocks p end i durable known popped why is) kept = record { parent = k.parent; plan = k.plan }
change laws c h config run all b from t told r at k n (Plans p end i durable known popped s heard is) kept =
    let e = heard.parent in
    let par = k.parent p e in
    let m = replied end i durable known in
    let locked = with_lock r end i durable known popped in
    let left = laws.left p.state locked.shown (range_with_len 0 (length r.begins)) par.0 in
    let rest : IsCoordinatedState (left_of locked p) = subst IsCoordinatedState (sym left.is) (laws.drop_is_state p.state left.number par.0 left.fewer) in
    let x = laws.extension (left_of locked p) s (next_generation r p m) rest (kept.generation (plan_of r p m s) refl) is.state in
    record {
      parent = k.parent;
      plan = λ q d. (
          let f : plan_of r p m s ≡ q = cc in
          subst (λ (y : Plan). IsCoordinatedState y.state × ((o : Parent) × (r.parent ≡ Some o) × IsLeftAndMore o y)) f
          (x.0, (p, e, record { number = left.number; fewer = left.fewer; is = x.1 ∙ ap (λ (y : CoordinatedState). record y { gens = y.gens ++ next_generation r p m ∷ [] }) left.is })));
    }
change laws c h config run all b from t told r at k n (Copies parent p i peeked is) kept = record {
  parent = k.parent;
  plan = λ q d. (
      let m : Plan = record { state = p.state; generation = p.generation; tail = after_peeked p.tail i peeked.tag peeked } in
      let f : m ≡ q = cc in
      let was = k.plan p is.plan in
      subst (λ (y : Plan). IsCoordinatedState y.state × ((o : Parent) × (r.parent ≡ Some o) × IsLeftAndMore o y)) f
      (was.0, (was.1.0, was.1.1, record { number = was.1.2.number; fewer = was.1.2.fewer; is = was.1.2.is })));
}
change laws c h config run all b from t told r at k n (Seeds p i is w) kept = record { parent = k.parent; plan = k.plan }
change laws c h config run all b from t told r at k n (SeedsAll p i is w) kept = record { parent = k.parent; plan = k.plan }
change laws c h config run all b from t told r at k n (Writes i u is) kept = record { parent = k.parent; plan = k.plan }
change laws c h config run all b from t told r at k n (LosesWrites i u why is) kept = record { parent = k.parent; plan = k.plan }
change laws c h config run all b from t told r at k n (Chooses i u is m) kept = record { parent = k.parent; plan = k.plan }
change laws c h config run all b from t told r at k n (Marks p i is) kept = record { parent = k.parent; plan = k.plan }

have_states : Laws → (c : Config) (h : List Turn) → IsConfig c → IsRun c h → (b : ℕ) → IfSome (rec_at c h b) HasStates
have_states laws c [] config run b = tt
have_states laws c (t ∷ h) config run b =
    rec_by_turn c h t run.0 b (λ o. IfSome o HasStates) (have_states laws c h config run.1 b) (λ shape none may is. new_has_states c b shape) (λ r from u at told.
    change laws c h config run.1 (have_states laws c h config run.1) b from u told r at (subst (λ o. IfSome o HasStates) at (have_states laws c h config run.1 b)) (rec.after_hear r from u) (laws.rec_change r from u)
    (laws.rec_kept r from u (rec_is laws c h run.1 b r at).kept))

pub recoverers_have_states : Laws → RecoverersHaveStates
recoverers_have_states laws c h config run b r at = subst (λ o. IfSome o HasStates) at (have_states laws c h config run b)

-- ---- chains

pub front_itself : (gens : List LogGeneration) → IsFrontOf gens gens
front_itself gens = ([], append-nil gens)

pub front_more : (front gens : List LogGeneration) (g : LogGeneration) → IsFrontOf front gens → IsFrontOf front (gens ++ g ∷ [])
front_more front gens g (rest, e) = (rest ++ g ∷ [], sym (append_assoc front rest (g ∷ [])) ∙ ap (λ xs. xs ++ g ∷ []) e)

-- the state of each epoch is within its limits
pub state_is : Laws → (c : Config) (h : List Turn) → IsConfig c → IsRun c h → (e : ℕ) → IsCoordinatedState (state_of c h e)
state_is laws c h config run e = go (e == first_epoch)
  where
    planned : (o : Option RecState) → rec_at c h e ≡ o → (q : Option Plan) → plan_in o ≡ q → IsCoordinatedState (state_in c q)
    planned o at None k = first_is c config
    planned None at (Some q) k = absurd (cc)
    planned (Some r) at (Some q) k = ((recoverers_have_states laws c h config run e r at).plan q k).0

    go : (s : Bool) → IsCoordinatedState (cond s (first_state c) (state_in c (plan_at c h e)))
    go true = first_is c config
    go false = planned (rec_at c h e) refl (plan_at c h e) refl
