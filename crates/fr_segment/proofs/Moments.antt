-- How a run of device calls goes on.
use Rattle.std.proofs.Common.{refl, sym, subst, List, [], ◌∷◌, ℕ}
use Rattle.fr_record.specs.Disk.{Disk}
use Rattle.fr_record.specs.Moments.{LeavesOnly, Run, Throughout}

module _ {D : Type 0} (Led : D → D → Type 0) (disk : D → Disk) (P : List ℕ → Type 0) where
  -- before the first call
  pub started : (device : D) → LeavesOnly Led disk P device → Throughout Led disk P device device
  started device here = ([], (refl, here))

  -- one call more
  pub goes_on : (first before last : D) → Throughout Led disk P first before → Led before last → LeavesOnly Led disk P last → Throughout Led disk P first last
  goes_on first before last so_far led here = (before ∷ so_far.0, (so_far.1, led, here))

-- what holds at each moment holds at the last
pub at_last : {D : Type 0} (Led : D → D → Type 0) (disk : D → Disk) (P : List ℕ → Type 0) (first last : D) → Throughout Led disk P first last → LeavesOnly Led disk P last
at_last Led disk P first last ([], run) = subst (λ d. LeavesOnly Led disk P d) (sym run.0) run.1
at_last Led disk P first last (before ∷ earlier, run) = run.2

-- a weaker fact holds at each moment too
weaker_run : {D : Type 0} (Led : D → D → Type 0) (disk : D → Disk) (P Q : List ℕ → Type 0) → ((left : List ℕ) → P left → Q left) → (first : D) (moments : List D) (last : D) → Run Led disk P first moments last
    → Run Led disk Q first moments last
weaker_run Led disk P Q weaker first [] last run = (run.0, λ left may. weaker left (run.1 left may))
weaker_run Led disk P Q weaker first (before ∷ earlier) last run = (weaker_run Led disk P Q weaker first earlier before run.0, run.1, λ left may. weaker left (run.2 left may))

pub weaker : {D : Type 0} (Led : D → D → Type 0) (disk : D → Disk) (P Q : List ℕ → Type 0) → ((left : List ℕ) → P left → Q left) → (first last : D) → Throughout Led disk P first last → Throughout Led disk Q first last
weaker Led disk P Q weakens first last all = (all.0, weaker_run Led disk P Q weakens first all.0 last all.1)

-- one run after another
pub joined : {D : Type 0} (Led : D → D → Type 0) (disk : D → Disk) (P : List ℕ → Type 0) (first middle last : D) → Throughout Led disk P first middle → Throughout Led disk P middle last → Throughout Led disk P first last
joined Led disk P first middle last start ([], run) = subst (λ d. Throughout Led disk P first d) (sym run.0) start
joined Led disk P first middle last start (before ∷ earlier, run) = goes_on Led disk P first before last (joined Led disk P first middle before start (earlier, run.0)) run.1 run.2
