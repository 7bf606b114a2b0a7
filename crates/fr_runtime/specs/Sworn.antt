-- What threads promise of their jobs, and what was done of jobs.
use Rattle.std.specs.Prelude.{◌≡◌, true, false, List, [], ◌∷◌, Option}
use Rattle.core.specs.declared.thread.PromisedHandle.{PromisedHandle}
use Rattle.fr_runtime.specs.declared.spawn.Sworn.{Sworn}

-- the promise of each thread is of this worker, and of the job at its place
abbrev pub AreSwornTo : {W J D : Type 0} → W → List J → List (PromisedHandle (Option D) (Sworn W J)) → Type 0
AreSwornTo worker [] [] = Unit {0}
AreSwornTo worker (j ∷ js) (h ∷ hs) = ((h.promise.job.value ≡ j) × (h.promise.worker.value ≡ worker)) × AreSwornTo worker js hs
AreSwornTo worker js hs = false ≡ true

-- what each thread hands back is what is done of the job of its promise
abbrev pub DidEach : {W J D : Type 0} → (W → J → D → Type 0) → List (PromisedHandle (Option D) (Sworn W J)) → List D → Type 0
DidEach Did [] [] = Unit {0}
DidEach Did (h ∷ hs) (d ∷ ds) = Did h.promise.worker.value h.promise.job.value d × DidEach Did hs ds
DidEach Did hs ds = false ≡ true

-- there is as much done as there are jobs, each of the job at its place
abbrev pub AllDone : {J D : Type 0} → (J → D → Type 0) → List J → List D → Type 0
AllDone Did [] [] = Unit {0}
AllDone Did (j ∷ js) (d ∷ ds) = Did j d × AllDone Did js ds
AllDone Did js ds = false ≡ true

-- each job may be done
abbrev pub AllTaken : {J : Type 0} → (J → Type 0) → List J → Type 0
AllTaken Takes [] = Unit {0}
AllTaken Takes (j ∷ js) = Takes j × AllTaken Takes js
