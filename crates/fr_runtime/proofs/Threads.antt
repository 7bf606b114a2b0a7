-- Threads that are started and joined one after the other.
use Rattle.std.proofs.Common.{◌≡◌, ◌<◌, ℕ, suc, List, [], ◌∷◌, ◌++◌, Option, length, arith, refl, sym, subst}
use Rattle.std.specs.Prelude.{IfOk, Result, Ok, Err, slice_index_or}
use Rattle.std.specs.Global.{Vec}
use Rattle.std.proofs.lemmas.List.{append-nil, append_assoc}
use Rattle.core.specs.declared.thread.PromisedHandle.{PromisedHandle}
use Rattle.fr_runtime.specs.declared.spawn.Sworn.{Sworn}
use Rattle.fr_runtime.specs.Sworn.{AllDone, AllTaken, AreSwornTo, DidEach}

abbrev pub Handle : Type 0 → Type 0 → Type 0 → Type 0
Handle W J D = PromisedHandle (Option D) (Sworn W J)

-- with threads for the jobs that are left, there is one for each
abbrev pub Starts : {W J D : Type 0} → W → List J → List (Handle W J D) → List J → Type 0
Starts {W} {J} {D} worker all hs rest = (later : List (Handle W J D)) → AreSwornTo worker rest later → AreSwornTo worker all (hs ++ later)

pub starts-first : {W J D : Type 0} (worker : W) (all rest : List J) (hs : List (Handle W J D)) → rest ≡ all → hs ≡ [] → Starts worker all hs rest
starts-first {W} {J} {D} worker all rest hs same none later are =
    subst (λ (l : List (Handle W J D)). AreSwornTo worker all (l ++ later)) (sym none) (subst (λ (l : List J). AreSwornTo worker l later) same are)

pub starts-more : {W J D : Type 0} (worker : W) (all rest more : List J) (hs hs' : List (Handle W J D)) (j : J) (h : Handle W J D) → rest ≡ j ∷ more → hs' ≡ hs ++ h ∷ []
    → h.promise.job.value ≡ j → h.promise.worker.value ≡ worker → Starts worker all hs rest → Starts worker all hs' more
starts-more {W} {J} {D} worker all rest more hs hs' j h step put job who was later are =
    subst (λ (l : List (Handle W J D)). AreSwornTo worker all (l ++ later)) (sym put)
    (subst (AreSwornTo worker all) (sym (append_assoc hs (h ∷ []) later))
    (was (h ∷ later) (subst (λ (l : List J). AreSwornTo worker l (h ∷ later)) (sym step) ((job, who), are))))

pub starts-all : {W J D : Type 0} (worker : W) (all rest : List J) (hs : List (Handle W J D)) → rest ≡ [] → Starts worker all hs rest → AreSwornTo worker all hs
starts-all {W} {J} {D} worker all rest hs none was =
    subst (AreSwornTo worker all) (append-nil hs) (was [] (subst (λ (l : List J). AreSwornTo {D = D} worker l []) (sym none) tt))

-- with what the threads that are left hand back, there is something of each
abbrev pub Joins : {W J D : Type 0} → (W → J → D → Type 0) → List (Handle W J D) → List D → List (Handle W J D) → Type 0
Joins {W} {J} {D} Did all ds rest = (later : List D) → DidEach Did rest later → DidEach Did all (ds ++ later)

pub joins-first : {W J D : Type 0} (Did : W → J → D → Type 0) (all rest : List (Handle W J D)) (ds : List D) → rest ≡ all → ds ≡ [] → Joins Did all ds rest
joins-first {W} {J} {D} Did all rest ds same none later did =
    subst (λ (l : List D). DidEach Did all (l ++ later)) (sym none) (subst (λ (l : List (Handle W J D)). DidEach Did l later) same did)

pub joins-more : {W J D : Type 0} (Did : W → J → D → Type 0) (all rest more : List (Handle W J D)) (ds ds' : List D) (h : Handle W J D) (d : D) → rest ≡ h ∷ more → ds' ≡ ds ++ d ∷ []
    → Did h.promise.worker.value h.promise.job.value d → Joins Did all ds rest → Joins Did all ds' more
joins-more {W} {J} {D} Did all rest more ds ds' h d step put is was later did =
    subst (λ (l : List D). DidEach Did all (l ++ later)) (sym put)
    (subst (DidEach Did all) (sym (append_assoc ds (d ∷ []) later))
    (was (d ∷ later) (subst (λ (l : List (Handle W J D)). DidEach Did l (d ∷ later)) (sym step) (is, did))))

pub joins-all : {W J D : Type 0} (Did : W → J → D → Type 0) (all rest : List (Handle W J D)) (ds : List D) → rest ≡ [] → Joins Did all ds rest → DidEach Did all ds
joins-all {W} {J} {D} Did all rest ds none was =
    subst (DidEach Did all) (append-nil ds) (was [] (subst (λ (l : List (Handle W J D)). DidEach Did l []) (sym none) tt))

-- what is done of the jobs of promises is done of the jobs
pub all-done : {W J D : Type 0} (Did : W → J → D → Type 0) (worker : W) (js : List J) (hs : List (Handle W J D)) (ds : List D) → AreSwornTo worker js hs → DidEach Did hs ds → AllDone (Did worker) js ds
all-done Did worker [] [] [] sworn did = tt
all-done Did worker [] [] (d ∷ ds) sworn did = absurd cc
all-done Did worker [] (h ∷ hs) ds sworn did = absurd cc
all-done Did worker (j ∷ js) [] ds sworn did = absurd cc
all-done Did worker (j ∷ js) (h ∷ hs) [] sworn did = absurd cc
all-done {W} {J} {D} Did worker (j ∷ js) (h ∷ hs) (d ∷ ds) sworn did =
    (subst (λ (x : J). Did worker x d) sworn.0.0 (subst (λ (w : W). Did w h.promise.job.value d) sworn.0.1 did.0), all-done Did worker js hs ds sworn.1 did.1)

pub done-of : {W J D E : Type 0} (Did : W → J → D → Type 0) (worker : W) (js : List J) (hs : List (Handle W J D)) (result : Result (Vec D) E) → AreSwornTo worker js hs
    → IfOk result (λ all. DidEach Did hs all.items) → IfOk result (λ all. AllDone (Did worker) js all.items)
done-of Did worker js hs (Ok all) sworn did = all-done Did worker js hs all.items sworn did
done-of Did worker js hs (Err fault) sworn did = tt

-- jobs that are taken at each place are all taken
pub all-taken : {J : Type 0} (Takes : J → Type 0) (js : List J) → ((i : ℕ) (x : J) → i < length js → x ≡ slice_index_or js i x → Takes x) → AllTaken Takes js
all-taken Takes [] at = tt
all-taken Takes (j ∷ js) at = (at 0 j (omega arith) refl, all-taken Takes js (λ i x low is. at (suc i) x (omega (arith, low)) is))

pub taken-first : {J : Type 0} (Takes : J → Type 0) (all rest : List J) → rest ≡ all → AllTaken Takes all → AllTaken Takes rest
taken-first Takes all rest same taken = subst (AllTaken Takes) (sym same) taken

pub taken-next : {J : Type 0} (Takes : J → Type 0) (rest more : List J) (j : J) → rest ≡ j ∷ more → AllTaken Takes rest → Takes j × AllTaken Takes more
taken-next Takes rest more j step taken = subst (AllTaken Takes) step taken
