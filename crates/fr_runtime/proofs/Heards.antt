-- What threads handed back, as workloads and ballots see it.
use Rattle.std.proofs.Common.{arith, refl, sym, ap, subst, inl, inr, ◌⊎◌, ◌∙◌}
use Rattle.std.proofs.lemmas.Bool.Decides.{nat_tests}
use Rattle.std.proofs.lemmas.List.{append-nil, append_assoc}
use Rattle.std.specs.Prelude.{◌≡◌, ◌≤◌, ◌<◌, ◌+◌, ◌==◌, ◌&&◌, ◌++◌, ◌∷◌, ℕ, suc, Bool, true, false, List, [], Option, Result, Ok, IfOk, if◌then◌else◌}
use Rattle.std.specs.Global.{Vec}
use Rattle.fr_base.specs.Shape.{ShapeContent}
use Rattle.fr_base.specs.declared.place.NodeId.{NodeId}
use Rattle.fr_base.specs.declared.place.NodeId.TheVariants.{Cell, Log, Sequencer, Proxy, Recoverer, Storage}
use Rattle.fr_proxy.specs.declared.outcome.Outcome.{Outcome}
use Rattle.fr_audit_journal.specs.Journal.{JournalState}
use Rattle.fr_runtime.specs.Sworn.{AllDone}
use Rattle.fr_runtime_station.specs.Answering.{all_answer, answers}
use Rattle.fr_runtime_threads.specs.declared.order.Order.{Order}
use Rattle.fr_runtime_threads.specs.Account.{all_given, all_outcomes, are_proxies, is_proxy, left_over, waiting_for}
use Rattle.fr_runtime.specs.declared.job.Done.{Done}
use Rattle.fr_runtime.specs.declared.job.Done.TheVariants.{Served, Kept, Nothing}
use Rattle.fr_runtime.specs.declared.job.Job.{Job}
use Rattle.fr_runtime.specs.declared.job.Job.TheVariants.{Crash}
use Rattle.fr_runtime.specs.Heard.{AllBegin, AreHeard, HasBegun, of_number}
use Rattle.fr_runtime.specs.Job.{AllDid, Did, IsOther, all_journals, all_told, all_works, journals_of, no_proxies, oks, pull_jobs, recover_jobs, serve_jobs, told_of, works_of}

and-left : (a b : Bool) → (a && b) ≡ true → a ≡ true
and-left true b both = refl
and-left false b both = both

and-right : (a b : Bool) → (a && b) ≡ true → b ≡ true
and-right true b both = both
and-right false true both = refl
and-right false false both = both

-- the journals of a number

pick : (s : Bool) (j : JournalState) (xs ys : List JournalState) → (if s then j ∷ (xs ++ ys) else (xs ++ ys)) ≡ (if s then j ∷ xs else xs) ++ ys
pick true j xs ys = refl
pick false j xs ys = refl

of-append : (n : ℕ) (xs ys : List JournalState) → of_number n (xs ++ ys) ≡ of_number n xs ++ of_number n ys
of-append n [] ys = refl
of-append n (j ∷ xs) ys =
    ap (λ (l : List JournalState). if is_proxy n j.node then j ∷ l else l) (of-append n xs ys) ∙ pick (is_proxy n j.node) j (of_number n xs) (of_number n ys)

of-own : (n : ℕ) (js : List JournalState) → are_proxies n js ≡ true → of_number n js ≡ js
of-own n [] own = refl
of-own n (j ∷ js) own =
    ap (λ (s : Bool). if s then j ∷ of_number n js else of_number n js) (and-left (is_proxy n j.node) (are_proxies n js) own)
    ∙ ap (λ (l : List JournalState). j ∷ l) (of-own n js (and-right (is_proxy n j.node) (are_proxies n js) own))

apart : (m n : ℕ) (node : NodeId) → (m == n) ≡ false → is_proxy m node ≡ true → is_proxy n node ≡ false
apart m n (Proxy epoch k) differ own = grind (arith, nat_tests)
apart m n (Cell index) differ own = refl
apart m n (Log epoch index) differ own = refl
apart m n (Sequencer epoch) differ own = refl
apart m n (Recoverer ballot) differ own = refl
apart m n (Storage tag) differ own = refl

none-apart : (m n : ℕ) (js : List JournalState) → (m == n) ≡ false → are_proxies m js ≡ true → of_number n js ≡ []
none-apart m n [] differ own = refl
none-apart m n (j ∷ js) differ own =
    ap (λ (s : Bool). if s then j ∷ of_number n js else of_number n js) (apart m n j.node differ (and-left (is_proxy m j.node) (are_proxies m js) own))
    ∙ none-apart m n js differ (and-right (is_proxy m j.node) (are_proxies m js) own)

none-other : (n : ℕ) (js : List JournalState) → no_proxies js → of_number n js ≡ []
none-other n [] free = refl
none-other n (j ∷ js) free = ap (λ (s : Bool). if s then j ∷ of_number n js else of_number n js) (free.0 n) ∙ none-other n js free.1

no-answering : (n : ℕ) (node : NodeId) → answers node ≡ true → is_proxy n node ≡ false
no-answering n (Proxy epoch k) here = absurd (cc)
no-answering n (Cell index) here = refl
no-answering n (Log epoch index) here = refl
no-answering n (Sequencer epoch) here = refl
no-answering n (Recoverer ballot) here = refl
no-answering n (Storage tag) here = refl

-- nodes that answer asks are no proxies
none-answering : (js : List JournalState) → all_answer js ≡ true → no_proxies js
none-answering [] all = tt
none-answering (j ∷ js) all = ((λ n. no-answering n j.node (and-left (answers j.node) (all_answer js) all)), none-answering js (and-right (answers j.node) (all_answer js) all))

-- a recoverer that has begun by one of two lists has by both

begun-left : (b : ℕ) (shape : Option ShapeContent) (xs ys : List JournalState) → HasBegun b shape xs → HasBegun b shape (xs ++ ys)
begun-left b shape [] ys has = absurd has
begun-left b shape (j ∷ xs) ys (inl here) = inl here
begun-left b shape (j ∷ xs) ys (inr rest) = inr (begun-left b shape xs ys rest)

begun-right : (b : ℕ) (shape : Option ShapeContent) (xs ys : List JournalState) → HasBegun b shape ys → HasBegun b shape (xs ++ ys)
begun-right b shape [] ys has = has
begun-right b shape (j ∷ xs) ys has = inr (begun-right b shape xs ys has)

below : (m n : ℕ) → m < n → (n == m) ≡ false
below m n low = grind (arith, nat_tests)

above : (m n : ℕ) → n + 1 ≤ m → (n == m) ≡ false
above m n low = grind (arith, nat_tests)

-- a ballot and the shape that its recoverer is given
abbrev Given : Type 0
Given = ℕ × Option ShapeContent

-- threads that serve no workload

abbrev AllOther : {W : Type 0} → List (Done W) → Type 0
AllOther [] = Unit {0}
AllOther (d ∷ ds) = IsOther d × AllOther ds

journals-other : {W : Type 0} (n : ℕ) (d : Done W) → IsOther d → of_number n (journals_of d) ≡ []
journals-other n (Served work journals kept told) other = absurd (cc)
journals-other n (Kept journal) other = none-other n (journal ∷ []) other
journals-other n Nothing other = refl

works-other : {W : Type 0} (d : Done W) → IsOther d → works_of d ≡ []
works-other (Served work journals kept told) other = absurd (cc)
works-other (Kept journal) other = refl
works-other Nothing other = refl

told-other : {W : Type 0} (d : Done W) → IsOther d → told_of d ≡ []
told-other (Served work journals kept told) other = absurd (cc)
told-other (Kept journal) other = refl
told-other Nothing other = refl

all-journals-other : {W : Type 0} (n : ℕ) (ds : List (Done W)) → AllOther ds → of_number n (all_journals ds) ≡ []
all-journals-other n [] others = refl
all-journals-other n (d ∷ ds) others =
    of-append n (journals_of d) (all_journals ds)
    ∙ (ap (λ (l : List JournalState). l ++ of_number n (all_journals ds)) (journals-other n d others.0) ∙ all-journals-other n ds others.1)

all-works-other : {W : Type 0} (ds : List (Done W)) → AllOther ds → all_works ds ≡ []
all-works-other [] others = refl
all-works-other (d ∷ ds) others = ap (λ (l : List _). l ++ all_works ds) (works-other d others.0) ∙ all-works-other ds others.1

all-told-other : {W : Type 0} (ds : List (Done W)) → AllOther ds → all_told ds ≡ []
all-told-other [] others = refl
all-told-other (d ∷ ds) others = ap (λ (l : List (Vec Outcome)). l ++ all_told ds) (told-other d others.0) ∙ all-told-other ds others.1

-- threads that did their jobs

module _ {W T : Type 0} (given : W → List Order) (heard : W → List Outcome) (begun : ℕ → ℕ → Bool) (turns : ℕ) where
  pulled : (ts : List T) (ds : List (Done W)) → AllDid given heard begun turns (pull_jobs ts ++ Crash ∷ []) ds → AllOther ds
  pulled [] [] did = absurd (cc)
  pulled [] (d ∷ []) did = (did.0, tt)
  pulled [] (d ∷ (e ∷ es)) did = let wrong : false ≡ true = did.1 in absurd (cc)
  pulled (t ∷ ts) [] did = absurd (cc)
  pulled (t ∷ ts) (d ∷ ds) did = (did.0, pulled ts ds did.1)

  recovered : (bs : List Given) (ts : List T) (ds : List (Done W)) → AllDid given heard begun turns (recover_jobs bs ++ (pull_jobs ts ++ Crash ∷ [])) ds → AllOther ds
  recovered [] ts ds did = pulled ts ds did
  recovered (b ∷ bs) ts [] did = absurd (cc)
  recovered (b ∷ bs) ts (d ∷ ds) did = (did.0.0, recovered bs ts ds did.1)

  -- each ballot that is to begin has begun
  all-begun : (bs : List Given) (ts : List T) (ds : List (Done W)) (pre : List JournalState)
      → AllDid given heard begun turns (recover_jobs bs ++ (pull_jobs ts ++ Crash ∷ [])) ds
      → AllBegin begun turns (pre ++ all_journals ds) bs
  all-begun [] ts ds pre did = tt
  all-begun (b ∷ bs) ts [] pre did = absurd (cc)
  all-begun (b ∷ bs) ts (d ∷ ds) pre did = (
    (λ used turn low high is. begun-right b.0 b.1 pre (journals_of d ++ all_journals ds) (begun-left b.0 b.1 (journals_of d) (all_journals ds) (did.0.1 used turn low high is))),
    subst (λ (l : List JournalState). AllBegin begun turns l bs) (append_assoc pre (journals_of d) (all_journals ds)) (all-begun bs ts ds (pre ++ journals_of d) did.1),
  )

  run-begun : (ws : List W) (n : ℕ) (bs : List Given) (ts : List T) (ds : List (Done W)) (pre : List JournalState)
      → AllDid given heard begun turns (serve_jobs n ws ++ (recover_jobs bs ++ (pull_jobs ts ++ Crash ∷ []))) ds
      → AllBegin begun turns (pre ++ all_journals ds) bs
  run-begun [] n bs ts ds pre did = all-begun bs ts ds pre did
  run-begun (w ∷ ws) n bs ts [] pre did = absurd (cc)
  run-begun (w ∷ ws) n bs ts (d ∷ ds) pre did =
      subst (λ (l : List JournalState). AllBegin begun turns l bs) (append_assoc pre (journals_of d) (all_journals ds)) (run-begun ws (n + 1) bs ts ds (pre ++ journals_of d) did.1)

  -- the proxies of lesser numbers are not those of these workloads
  served-none : (ws : List W) (n : ℕ) (bs : List Given) (ts : List T) (ds : List (Done W)) (m : ℕ) → m < n
      → AllDid given heard begun turns (serve_jobs n ws ++ (recover_jobs bs ++ (pull_jobs ts ++ Crash ∷ []))) ds
      → of_number m (all_journals ds) ≡ []
  served-none [] n bs ts ds m low did = all-journals-other m ds (recovered bs ts ds did)
  served-none (w ∷ ws) n bs ts [] m low did = absurd (cc)
  served-none (w ∷ ws) n bs ts (Served v js kept told ∷ ds) m low did =
      of-append m js.items (all_journals ds)
      ∙ (ap (λ (l : List JournalState). l ++ of_number m (all_journals ds)) (none-apart n m js.items (below m n low) did.0.3)
      ∙ served-none ws (n + 1) bs ts ds m (omega (arith, low)) did.1)
  served-none (w ∷ ws) n bs ts (Kept journal ∷ ds) m low did = let wrong : false ≡ true = did.0 in absurd (cc)
  served-none (w ∷ ws) n bs ts (Nothing ∷ ds) m low did = let wrong : false ≡ true = did.0 in absurd (cc)

  -- each workload is heard by the proxies of its number, where those before are of other nodes and of lesser numbers
  run-heard : (ws : List W) (n : ℕ) (bs : List Given) (ts : List T) (ds : List (Done W)) (pre : List JournalState)
      → ((m : ℕ) → n ≤ m → of_number m pre ≡ [])
      → AllDid given heard begun turns (serve_jobs n ws ++ (recover_jobs bs ++ (pull_jobs ts ++ Crash ∷ []))) ds
      → AreHeard given heard (pre ++ all_journals ds) n ws (all_works ds) (all_told ds)
  run-heard [] n bs ts ds pre none did =
      let o = recovered bs ts ds did in
      let js = pre ++ all_journals ds in
      subst (λ (vs : List W). AreHeard given heard js n [] vs (all_told ds)) (sym (all-works-other ds o))
      (subst (λ (us : List (Vec Outcome)). AreHeard given heard js n [] [] us) (sym (all-told-other ds o)) tt)
  run-heard (w ∷ ws) n bs ts [] pre none did = absurd (cc)
  run-heard (w ∷ ws) n bs ts (Kept journal ∷ ds) pre none did = let wrong : false ≡ true = did.0 in absurd (cc)
  run-heard (w ∷ ws) n bs ts (Nothing ∷ ds) pre none did = let wrong : false ≡ true = did.0 in absurd (cc)
  run-heard (w ∷ ws) n bs ts (Served v js kept told ∷ ds) pre none did =
      let rest = all_journals ds in
      let later : of_number n rest ≡ [] = served-none ws (n + 1) bs ts ds n (omega arith) did.1 in
      let own : of_number n (pre ++ (js.items ++ rest)) ≡ js.items =
      of-append n pre (js.items ++ rest)
      ∙ (ap (λ (l : List JournalState). l ++ of_number n (js.items ++ rest)) (none n (omega arith))
      ∙ (of-append n js.items rest
      ∙ (ap (λ (l : List JournalState). of_number n js.items ++ l) later
      ∙ (append-nil (of_number n js.items) ∙ of-own n js.items did.0.3)))) in
      let past : (m : ℕ) → n + 1 ≤ m → of_number m (pre ++ js.items) ≡ [] =
      λ m low. of-append m pre js.items
      ∙ (ap (λ (l : List JournalState). l ++ of_number m js.items) (none m (omega (arith, low))) ∙ none-apart n m js.items (above m n low) did.0.3) in (
        (
          kept,
          did.0.0 ∙ ap (λ (l : List JournalState). given w ++ (all_given l ++ left_over kept)) (sym own),
          did.0.1 ∙ ap (λ (l : List JournalState). all_outcomes l ++ waiting_for kept) (sym own),
          did.0.2,
        ),
        subst (λ (l : List JournalState). AreHeard given heard l (n + 1) ws (all_works ds) (all_told ds)) (append_assoc pre js.items rest)
            (run-heard ws (n + 1) bs ts ds (pre ++ js.items) past did.1),
      )

  -- what a run hands back, where its other journals are of nodes that answer asks

  pub heard-run : (ws : List W) (bs : List Given) (ts : List T) (ds : List (Done W)) (shared js : List JournalState) (vs : List W) (us : List (Vec Outcome))
      → all_answer shared ≡ true → js ≡ shared ++ all_journals ds → vs ≡ all_works ds → us ≡ all_told ds
      → AllDid given heard begun turns (serve_jobs 0 ws ++ (recover_jobs bs ++ (pull_jobs ts ++ Crash ∷ []))) ds
      → AreHeard given heard js 0 ws vs us
  heard-run ws bs ts ds shared js vs us all j v u did =
      subst (λ (l : List JournalState). AreHeard given heard l 0 ws vs us) (sym j)
      (subst (λ (l : List W). AreHeard given heard (shared ++ all_journals ds) 0 ws l us) (sym v)
      (subst (λ (l : List (Vec Outcome)). AreHeard given heard (shared ++ all_journals ds) 0 ws (all_works ds) l) (sym u)
      (run-heard ws 0 bs ts ds shared (λ m low. none-other m shared (none-answering shared all)) did)))

  pub begun-run : (ws : List W) (bs : List Given) (ts : List T) (ds : List (Done W)) (shared js : List JournalState)
      → js ≡ shared ++ all_journals ds
      → AllDid given heard begun turns (serve_jobs 0 ws ++ (recover_jobs bs ++ (pull_jobs ts ++ Crash ∷ []))) ds
      → AllBegin begun turns js bs
  begun-run ws bs ts ds shared js j did = subst (λ (l : List JournalState). AllBegin begun turns l bs) (sym j) (run-begun ws 0 bs ts ds shared did)

  -- each did its job, where the results of all threads say so and none is a fault
  pub all-did : (F : Type 0) (js : List (Job W T)) (ds : List (Done W)) → AllDone (λ (j : Job W T) (r : Result (Done W) F). IfOk r (Did given heard begun turns j)) js (oks ds) → AllDid given heard begun turns js ds
  all-did F [] [] all = tt
  all-did F [] (d ∷ ds) all = absurd cc
  all-did F (j ∷ js) [] all = absurd cc
  all-did F (j ∷ js) (d ∷ ds) all = (all.0, all-did F js ds all.1)

pub oks-append : {X F : Type 0} (xs : List X) (x : X) → oks {X = X} {F = F} (xs ++ x ∷ []) ≡ oks xs ++ Ok x ∷ []
oks-append [] x = refl
oks-append {F = F} (y ∷ ys) x = ap (λ (l : List (Result _ F)). Ok y ∷ l) (oks-append ys x)
