-- Laws of states, of batches and of undoing them.
use Rattle.std.specs.Prelude.{◌≡◌, ◌<◌, ◌≤◌, ℕ, false, Option, List, [], ◌∷◌, ◌++◌, min, max}
use Rattle.fr_mutation.specs.declared.mutation.Mutation.{Mutation}
use Rattle.fr_mutation.specs.Mutation.{touched, value_after_all}
use Rattle.fr_undo.specs.State.{StoreState, IsStoreState}
use Rattle.fr_undo.specs.Undo.{extended, undone, advanced, forgotten, with_bytes}
use Rattle.fr_undo.specs.Chain.{Step, AreTaken, after_steps, steps_through, forgotten_through}
use Rattle.fr_undo.specs.Canonical.{Commit, Rises, canonical, commits_through}

-- a batch applied and then undone leaves the state as it was
abbrev pub InverseLaw : Type 0
InverseLaw = (s : StoreState) (v : ℕ) (batch : List Mutation) → IsStoreState s → s.applied < v → undone (extended s v batch) s.applied ≡ s

-- after steps none of which is refused, undoing to t, which is not below what is forgotten, gives the state after the steps through t,
-- advanced to t, without what is forgotten
abbrev pub ChainLaw : Type 0
ChainLaw = (s : StoreState) (steps : List Step) (t : ℕ) → IsStoreState s → AreTaken s.applied steps → s.applied ≤ t → t ≤ (after_steps s steps).applied → forgotten_through steps ≤ t
    → undone (after_steps s steps) t ≡ forgotten (advanced (after_steps s (steps_through t steps)) t) (forgotten_through steps)

-- what each call of a store makes of the state that commits determine: it is sound, and leads to one like it
pub record LeadsOn (commits : List Commit) (v f : ℕ) (bytes : List ℕ) : Type 0 where
  pub sound : IsStoreState (canonical commits v f bytes)
  pub applying : (w : ℕ) (batch : List Mutation) → v < w → extended (canonical commits v f bytes) w batch ≡ canonical (commits ++ (w, batch) ∷ []) w f bytes
  pub applying_rises : (w : ℕ) (batch : List Mutation) → v < w → Rises 0 (commits ++ (w, batch) ∷ []) w
  pub advancing : (w : ℕ) → v < w → advanced (canonical commits v f bytes) w ≡ canonical commits w f bytes
  pub advancing_rises : (w : ℕ) → v < w → Rises 0 commits w
  pub forgetting : (g : ℕ) → g ≤ v → forgotten (canonical commits v f bytes) g ≡ canonical commits v (max f g) bytes
  pub undoing : (c : ℕ) → f ≤ c → undone (canonical commits v f bytes) c ≡ canonical (commits_through c commits) (min v c) f bytes
  pub undoing_rises : (c : ℕ) → Rises 0 (commits_through c commits) (min v c)
  pub setting : (new : List ℕ) → with_bytes (canonical commits v f bytes) new ≡ canonical commits v f new

-- so it is at every list of commits whose versions rise, at most to v, and every floor that is not above v
abbrev pub CanonicalLaw : Type 0
CanonicalLaw = (commits : List Commit) (v f : ℕ) (bytes : List ℕ) → Rises 0 commits v → f ≤ v → LeadsOn commits v f bytes

-- on a key that no mutation of a batch touches it does nothing, so a plan needs no more of the contents than the keys that it touches
abbrev pub UntouchedLaw : Type 0
UntouchedLaw = (batch : List Mutation) (q : List ℕ) (old : Option (List ℕ)) → touched batch q ≡ false → value_after_all batch q old ≡ old
