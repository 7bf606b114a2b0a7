-- What each hear of a recoverer keeps is kept along the turns of a run; and no recoverer goes back to an earlier phase.
use Rattle.std.proofs.Common.{◌≡◌, ℕ, ◌<◌, ◌≤◌, cond, List, [], ◌∷◌, ◌++◌, append_assoc, Option, None, Some, refl, sym, ◌∙◌, ap, subst, arith}
use Rattle.std.specs.Option.{option_map}
use Rattle.std.proofs.lemmas.Bool.{eq-eqb}
use Rattle.fr_base.specs.declared.place.NodeId.{NodeId}
use Rattle.fr_base.specs.declared.place.NodeId.TheVariants as node
use Rattle.fr_ask.specs.declared.ask.Ask.{Ask}
use Rattle.fr_ask.specs.declared.tell.Tell.{Tell}
use Rattle.fr_epoch.specs.Recoverer.{RecState, Phase, Reading, Locking, Copying, Writing, Chosen, Lost}
use Rattle.fr_epoch.specs.Words.{Word, word_of}
use Rattle.fr_epoch.specs.Hear.{after_hear}
use Rattle.fr_epoch.specs.Asks.{phase_number}
use Rattle.fr_epoch.specs.Change.{Change, Stands, LosesReads, Reads, Finds, Locks, LosesLocks, Plans, Copies, Seeds, SeedsAll, Writes, LosesWrites, Chooses, Marks}
use Rattle.fr_epoch.specs.Law.{IsRecoverer}
use Rattle.fr_run.specs.Config.{Config}
use Rattle.fr_run.specs.Turn.{Turn, Sending, RecHeard, Told}
use Rattle.fr_run.specs.Nodes.{rec_at}
use Rattle.fr_run.specs.Run.{IsRun}
use Rattle.fr_run.specs.Laws.{Laws}
use Rattle.fr_run.proofs.ByTurn.{rec_by_turn}
use Rattle.fr_run.proofs.Growth.{rec_is}
use Rattle.fr_run_rounds.specs.Rounds.{WasAnswered, HearsAnswer}

-- ---- along turns

-- there is a recoverer, and this holds of it
pub record HoldsOf (o : Option RecState) (P : RecState → Type 0) : Type 0 where
  pub recoverer : RecState
  pub is : o ≡ Some recoverer
  pub holds : P recoverer

pub holds_at : (o : Option RecState) (P : RecState → Type 0) → HoldsOf o P → (n : RecState) → o ≡ Some n → P n
holds_at o P k n at =
    let two : Some k.recoverer ≡ Some n = sym k.is ∙ at in
    let same : k.recoverer ≡ n = cc in
    subst P same k.holds

-- each hear of a ballot's recoverer keeps this
abbrev pub Keeps : Config → ℕ → (RecState → Type 0) → Type 0
Keeps c b P =
    (h : List Turn) → IsRun c h → (r : RecState) (from : NodeId) (u : Tell) → rec_at c h b ≡ Some r → Told h from (node.Recoverer b) u → P r → P (after_hear r from u)

pub along : (c : Config) (b : ℕ) (P : RecState → Type 0) → Keeps c b P → (more h : List Turn) → IsRun c (more ++ h) → (r : RecState) → rec_at c h b ≡ Some r → P r → HoldsOf (rec_at c (more ++ h) b) P
along c b P keeps [] h run r at p = record { recoverer = r; is = at; holds = p }
along c b P keeps (t ∷ more) h run r at p = go (along c b P keeps more h run.1 r at p)
  where
    go : HoldsOf (rec_at c (more ++ h) b) P → HoldsOf (rec_at c (t ∷ more ++ h) b) P
    go before =
        rec_by_turn c (more ++ h) t run.0 b (λ o. HoldsOf o P) before
        (λ shape none may is. (let d : None ≡ Some before.recoverer = sym none ∙ before.is in absurd (cc)))
        (λ s from u here told. record { recoverer = after_hear s from u; is = refl; holds = keeps (more ++ h) run.1 s from u here told (holds_at (rec_at c (more ++ h) b) P before s here) })

-- what each change keeps
pub keeps_by : Laws → (c : Config) (b : ℕ) (P : RecState → Type 0) → ((r : RecState) (w : Word) (n : RecState) → IsRecoverer r → Change r w n → P r → P n) → Keeps c b P
keeps_by laws c b P step h run r from u at told p = step r (word_of from u) (after_hear r from u) (rec_is laws c h run b r at).kept.come_by (laws.rec_change r from u) p

pub both_keep : (c : Config) (b : ℕ) (P Q : RecState → Type 0) → Keeps c b P → Keeps c b Q → Keeps c b (λ r. P r × Q r)
both_keep c b P Q k l h run r from u at told (p, q) = (k h run r from u at told p, l h run r from u at told q)

-- ---- through an answer

pub run_back : (c : Config) (more h : List Turn) → IsRun c (more ++ h) → IsRun c h
run_back c [] h run = run
run_back c (t ∷ more) h run = run_back c more h run.1

pub hear_is : (c : Config) (b : ℕ) (h : List Turn) (m : RecState) (to : NodeId) (u : Tell) (asks : List Sending) → rec_at c h b ≡ Some m → rec_at c (RecHeard b to u asks ∷ h) b ≡ Some (after_hear m to u)
hear_is c b h m to u asks at =
    ap (λ x. cond x (option_map (λ s. after_hear s to u) (rec_at c h b)) (rec_at c h b)) (eq-eqb b b refl)
    ∙ ap (λ o. option_map (λ s. after_hear s to u) o) at

-- what is kept up to an answer makes what the answer brings, which is kept to the end
pub through : (c : Config) (b : ℕ) (h turns : List Turn) (to : NodeId) (a : Ask) → IsRun c (turns ++ h) → HearsAnswer c h turns b to a → (r : RecState) → rec_at c h b ≡ Some r
    → (R P : RecState → Type 0) → Keeps c b R → Keeps c b P → R r
    → ((mid : List Turn) (m : RecState) (u : Tell) → IsRun c mid → rec_at c mid b ≡ Some m → Told mid to (node.Recoverer b) u → WasAnswered c mid b to a u → R m → P (after_hear m to u))
    → HoldsOf (rec_at c (turns ++ h) b) P
through c b h turns to a run k r at R P keeps_R keeps_P start brings = subst (λ l. HoldsOf (rec_at c l b) P) (sym whole) last
  where
    whole : turns ++ h ≡ k.after ++ (RecHeard b to k.tell k.asks ∷ (k.before ++ h))
    whole = ap (λ x. x ++ h) (sym k.is) ∙ append_assoc k.after (RecHeard b to k.tell k.asks ∷ k.before) h

    run_whole : IsRun c (k.after ++ (RecHeard b to k.tell k.asks ∷ (k.before ++ h)))
    run_whole = subst (IsRun c) whole run

    heard : IsRun c (RecHeard b to k.tell k.asks ∷ (k.before ++ h))
    heard = run_back c k.after (RecHeard b to k.tell k.asks ∷ (k.before ++ h)) run_whole

    mid : HoldsOf (rec_at c (k.before ++ h) b) R
    mid = along c b R keeps_R k.before h heard.1 r at start

    last : HoldsOf (rec_at c (k.after ++ (RecHeard b to k.tell k.asks ∷ (k.before ++ h))) b) P
    last = along c b P keeps_P k.after (RecHeard b to k.tell k.asks ∷ (k.before ++ h)) run_whole (after_hear mid.recoverer to k.tell)
        (hear_is c b (k.before ++ h) mid.recoverer to k.tell k.asks mid.is)
        (brings (k.before ++ h) mid.recoverer k.tell heard.1 mid.is heard.0.0.told k.answered mid.holds)

-- ---- phases

phase_high : (ph : Phase) → phase_number ph ≤ 5
phase_high Reading = omega arith
phase_high Locking = omega arith
phase_high Copying = omega arith
phase_high Writing = omega arith
phase_high Chosen = omega arith
phase_high (Lost why) = omega arith

same_le : (x : ℕ) → x ≤ x
same_le x = omega arith

goes_up : (r : RecState) (ph : Phase) (x y : ℕ) → r.phase ≡ ph → phase_number ph ≡ x → x ≤ y → phase_number r.phase ≤ y
goes_up r ph x y e is le = (let same = ap phase_number e ∙ is in omega (arith, same, le))

-- no change goes back
change_rises : (r : RecState) (w : Word) (n : RecState) → Change r w n → phase_number r.phase ≤ phase_number n.phase
change_rises r w n Stands = same_le (phase_number r.phase)
change_rises r w n (LosesReads i t why is) = phase_high r.phase
change_rises r w n (Reads i t is) = same_le (phase_number r.phase)
change_rises r w n (Finds i t s g is found) = goes_up r Reading 0 1 is.phase refl (omega arith)
change_rises r w n (Locks p end i d k ps is) = same_le (phase_number r.phase)
change_rises r w n (LosesLocks p end i d k ps why is) = phase_high r.phase
change_rises r w n (Plans p end i d k ps s is fixed) = goes_up r Locking 1 2 is.phase refl (omega arith)
change_rises r w n (Copies parent p i peeked given) = same_le (phase_number r.phase)
change_rises r w n (Seeds p i is not_yet) = same_le (phase_number r.phase)
change_rises r w n (SeedsAll p i is all) = goes_up r Copying 2 3 is.phase refl (omega arith)
change_rises r w n (Writes i t is) = same_le (phase_number r.phase)
change_rises r w n (LosesWrites i t why is) = phase_high r.phase
change_rises r w n (Chooses i t is m) = goes_up r Writing 3 4 is.phase refl (omega arith)
change_rises r w n (Marks p i is) = same_le (phase_number r.phase)

-- a recoverer is in a phase of this number or a later one
abbrev pub IsFrom : ℕ → RecState → Type 0
IsFrom k r = k ≤ phase_number r.phase

pub from_change : (k : ℕ) (r : RecState) (w : Word) (n : RecState) → Change r w n → IsFrom k r → IsFrom k n
from_change k r w n change low = (let up = change_rises r w n change in omega (arith, up, low))

pub from_keeps : Laws → (c : Config) (b k : ℕ) → Keeps c b (IsFrom k)
from_keeps laws c b k = keeps_by laws c b (IsFrom k) (λ r w n come_by change low. from_change k r w n change low)

-- a phase by its number
pub phase_reading : (ph : Phase) → phase_number ph < 1 → ph ≡ Reading
phase_reading Reading l = refl
phase_reading Locking l = absurd (omega (arith, l))
phase_reading Copying l = absurd (omega (arith, l))
phase_reading Writing l = absurd (omega (arith, l))
phase_reading Chosen l = absurd (omega (arith, l))
phase_reading (Lost why) l = absurd (omega (arith, l))

pub phase_locking : (ph : Phase) → 1 ≤ phase_number ph → phase_number ph < 2 → ph ≡ Locking
phase_locking Reading low l = absurd (omega (arith, low))
phase_locking Locking low l = refl
phase_locking Copying low l = absurd (omega (arith, l))
phase_locking Writing low l = absurd (omega (arith, l))
phase_locking Chosen low l = absurd (omega (arith, l))
phase_locking (Lost why) low l = absurd (omega (arith, l))

pub phase_copying : (ph : Phase) → 2 ≤ phase_number ph → phase_number ph < 3 → ph ≡ Copying
phase_copying Reading low l = absurd (omega (arith, low))
phase_copying Locking low l = absurd (omega (arith, low))
phase_copying Copying low l = refl
phase_copying Writing low l = absurd (omega (arith, l))
phase_copying Chosen low l = absurd (omega (arith, l))
phase_copying (Lost why) low l = absurd (omega (arith, l))

pub phase_writing : (ph : Phase) → 3 ≤ phase_number ph → phase_number ph < 4 → ph ≡ Writing
phase_writing Reading low l = absurd (omega (arith, low))
phase_writing Locking low l = absurd (omega (arith, low))
phase_writing Copying low l = absurd (omega (arith, low))
phase_writing Writing low l = refl
phase_writing Chosen low l = absurd (omega (arith, l))
phase_writing (Lost why) low l = absurd (omega (arith, l))
