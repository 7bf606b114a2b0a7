-- What is so at a moment of a run, and at every later one.
use Rattle.std.proofs.Common.{◌≡◌, ℕ, ◌≤◌, List, [], ◌∷◌, ◌++◌, Some, inr, refl, ◌∙◌, arith}
use Rattle.std.specs.List.{Contains}
use Rattle.fr_mutation.specs.declared.mutation.Mutation.{Mutation}
use Rattle.fr_state.specs.Generations.{LogGeneration}
use Rattle.fr_run.specs.Config.{Config}
use Rattle.fr_run.specs.Turn.{Turn}
use Rattle.fr_run.specs.Nodes.{generation_at}
use Rattle.fr_run.specs.Run.{IsRun}
use Rattle.fr_run.specs.Batches.{batch_at}
use Rattle.fr_run.specs.States.{IsChosenEpoch}
use Rattle.fr_run.specs.StateLaws.{IsConfig}
use Rattle.fr_run.proofs.Growth.{generation_stays}
use Rattle.fr_run_headline.specs.Numbers.{Numbering, numbers, top_at}
use Rattle.fr_run_headline.specs.Bounds.{IsBelow}
use Rattle.fr_run_headline.proofs.Acks.{below_later}
use Rattle.fr_run_headline.proofs.Numbers.{numbers_stay}
use Rattle.fr_run_headline.proofs.Proxies.{batch_stays}
use Rattle.fr_run_headline.specs.Issued.{issued}
use Rattle.fr_run_headline.proofs.VersionLists.{through}
use Rattle.fr_run_headline.proofs.IssuedLists.{version_of}
use Rattle.fr_run_headline.proofs.Parts.{issued_lasts}
use Rattle.fr_run_headline.proofs.Stays.{top_rises}
use Rattle.fr_run_headline.specs.Committed.{IsAcknowledgedBatch}
use Rattle.fr_run_headline.specs.Laws.{Laws}
use Rattle.fr_run.proofs.Chosen.{chosen_lasts}

pub run_before : (c : Config) (more h : List Turn) → IsRun c (more ++ h) → IsRun c h
run_before c [] h run = run
run_before c (t ∷ more) h run = run_before c more h run.1

pub still_chosen : Laws → (c : Config) (more h : List Turn) → IsConfig c → IsRun c (more ++ h) → (e : ℕ) → IsChosenEpoch c h e → IsChosenEpoch c (more ++ h) e
still_chosen laws c [] h config run e k = k
still_chosen laws c (t ∷ more) h config run e k = (chosen_lasts laws.contents.nodes c (more ++ h) t run.1 run.0 e (still_chosen laws c more h config run.1 e k)).0

pub still_planned : Laws → (c : Config) (more h : List Turn) → IsRun c (more ++ h) → (e : ℕ) (g : LogGeneration) → generation_at c h e ≡ Some g → generation_at c (more ++ h) e ≡ Some g
still_planned laws c [] h run e g at = at
still_planned laws c (t ∷ more) h run e g at = generation_stays laws.contents.nodes c (more ++ h) t run.1 run.0 e g (still_planned laws c more h run.1 e g at)

pub still_below : Laws → (c : Config) (more h : List Turn) → IsRun c (more ++ h) → (e v : ℕ) → IsBelow c h e v → IsBelow c (more ++ h) e v
still_below laws c [] h run e v k = k
still_below laws c (t ∷ more) h run e v k = below_later laws.contents.nodes c (more ++ h) t run.1 run.0 e v (still_below laws c more h run.1 e v k)

pub top_still : Laws → (c : Config) (more h : List Turn) → IsRun c (more ++ h) → (e : ℕ) (g : LogGeneration) → generation_at c h e ≡ Some g → top_at c h e ≤ top_at c (more ++ h) e
top_still laws c [] h run e g at = omega arith
top_still laws c (t ∷ more) h run e g at =
    let low = top_still laws c more h run.1 e g at in
    let high = top_rises laws.contents.nodes c (more ++ h) t run.1 run.0 e g (still_planned laws c more h run.1 e g at) in
    omega (arith, low, high)

pub issued_still : Laws → (c : Config) (more h : List Turn) → IsConfig c → IsRun c (more ++ h) → (e : ℕ) (g : LogGeneration) → generation_at c h e ≡ Some g → (upto : ℕ) → upto ≤ top_at c h e
    → through version_of upto (issued c (more ++ h) e) ≡ through version_of upto (issued c h e)
issued_still laws c [] h config run e g at upto le = refl
issued_still laws c (t ∷ more) h config run e g at upto le =
    let top = top_still laws c more h run.1 e g at in
    issued_lasts laws.contents.nodes c (more ++ h) t config run.1 run.0 e g (still_planned laws c more h run.1 e g at) upto (omega (arith, le, top))
    ∙ issued_still laws c more h config run.1 e g at upto le

pub still_numbered : (more h : List Turn) (e : ℕ) (n : Numbering) → Contains (numbers h e) n → Contains (numbers (more ++ h) e) n
still_numbered [] h e n k = k
still_numbered (t ∷ more) h e n k = numbers_stay t e (numbers (more ++ h) e) n (still_numbered more h e n k)

pub still_taken : (more h : List Turn) (e p r : ℕ) (batch : List Mutation) → batch_at h e p r ≡ Some batch → batch_at (more ++ h) e p r ≡ Some batch
still_taken [] h e p r batch k = k
still_taken (t ∷ more) h e p r batch k = batch_stays t (more ++ h) e p r batch (still_taken more h e p r batch k)

pub still_acknowledged : (c : Config) (more h : List Turn) (e v : ℕ) (batch : List Mutation) → IsAcknowledgedBatch c h e v batch → IsAcknowledgedBatch c (more ++ h) e v batch
still_acknowledged c [] h e v batch k = k
still_acknowledged c (t ∷ more) h e v batch k = inr (still_acknowledged c more h e v batch k)
