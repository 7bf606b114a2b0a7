-- The four ways in which a command that prints the lines of a script ends.
use Rattle.std.proofs.Common.{◌≡◌, ◌⊎◌, inl, inr, ℕ, List, Option, Some, None, Result, Ok, Err, refl}
use Rattle.std.specs.Prelude.{IsErr, IfErr}
use Rattle.std.specs.Io.KnownBytes.{Appends}
use Rattle.fr_cli_json.specs.declared.fault.CliFault.{CliFault}
use Rattle.fr_cli_json.specs.declared.fault.CliFault.TheVariants.{BadScript, Memory, Input, Output}
use Rattle.fr_cli_json.specs.Text.{HasRead, GainsFront}
use Rattle.fr_cli_json.specs.Command.{Prints}
use Rattle.fr_cli_json.proofs.TextLemmas.{gains_all}

neither : (r : Result ℕ CliFault) (a b : CliFault) → (r ≡ Err a → ⊥) → (r ≡ Err b → ⊥) → (r ≡ Err a) ⊎ (r ≡ Err b) → ⊥
neither r a b no_a no_b (inl e) = no_a e
neither r a b no_a no_b (inr e) = no_b e

-- where no script is known to be wanting, and the output is not at fault
silent : {S W : Type 0} (means : List ℕ → Option S) (lines_of : S → List ℕ) (left left_now : Option (List ℕ)) (contents : W → Option (List ℕ)) (w : W) (fault : CliFault)
    → (fault ≡ BadScript → HasRead means left left_now None) → (fault ≡ Output → ⊥) → Prints means lines_of left left_now contents w w (Err fault)
silent means lines_of left left_now contents w fault bad sound = record { status = tt; all = tt; front = inl refl; bad = λ e. bad cc; unwritten = λ e. refl; output = λ e. absurd (sound cc) }

-- nothing was read, and nothing written
pub unread : {S W : Type 0} (means : List ℕ → Option S) (lines_of : S → List ℕ) (left left_now : Option (List ℕ)) (contents : W → Option (List ℕ)) (w : W) (r : Result ℕ CliFault)
    → IsErr r → IfErr r (λ e. (e ≡ Input) ⊎ (e ≡ Memory)) → Prints means lines_of left left_now contents w w r
unread means lines_of left left_now contents w (Ok n) failed h = absurd cc
unread means lines_of left left_now contents w (Err Input) failed h = silent means lines_of left left_now contents w Input (λ e. absurd cc) (λ e. absurd cc)
unread means lines_of left left_now contents w (Err Memory) failed h = silent means lines_of left left_now contents w Memory (λ e. absurd cc) (λ e. absurd cc)
unread means lines_of left left_now contents w (Err BadScript) failed (inl e) = absurd cc
unread means lines_of left left_now contents w (Err BadScript) failed (inr e) = absurd cc
unread means lines_of left left_now contents w (Err Output) failed (inl e) = absurd cc
unread means lines_of left left_now contents w (Err Output) failed (inr e) = absurd cc

-- the input is no script, or there is no memory to tell
pub misread : {S W : Type 0} (means : List ℕ → Option S) (lines_of : S → List ℕ) (left left_now : Option (List ℕ)) (contents : W → Option (List ℕ)) (w : W) (r : Result ℕ CliFault)
    → IsErr r → IfErr r (λ e. (e ≡ BadScript) ⊎ (e ≡ Memory)) → (r ≡ Err BadScript → HasRead means left left_now None) → Prints means lines_of left left_now contents w w r
misread means lines_of left left_now contents w (Ok n) failed h bad = absurd cc
misread means lines_of left left_now contents w (Err BadScript) failed h bad = silent means lines_of left left_now contents w BadScript (λ e. bad refl) (λ e. absurd cc)
misread means lines_of left left_now contents w (Err Memory) failed h bad = silent means lines_of left left_now contents w Memory (λ e. absurd cc) (λ e. absurd cc)
misread means lines_of left left_now contents w (Err Input) failed (inl e) bad = absurd cc
misread means lines_of left left_now contents w (Err Input) failed (inr e) bad = absurd cc
misread means lines_of left left_now contents w (Err Output) failed (inl e) bad = absurd cc
misread means lines_of left left_now contents w (Err Output) failed (inr e) bad = absurd cc

module _ {S W : Type 0} (means : List ℕ → Option S) (lines_of : S → List ℕ) (left left_now : Option (List ℕ)) (contents : W → Option (List ℕ)) (old new : W) where
  after_front : (fault : CliFault) → (fault ≡ BadScript → ⊥) → (fault ≡ Input → ⊥) → (script : S) × HasRead means left left_now (Some script) × GainsFront (contents old) (contents new) (lines_of script)
      → Prints means lines_of left left_now contents old new (Err fault)
  after_front fault read unread front = record {
    status = tt;
    all = tt;
    front = inr front;
    bad = λ e. absurd (read cc);
    unwritten = λ e. absurd (neither (Err fault) BadScript Input (λ d. read cc) (λ d. unread cc) e);
    output = λ e. (front.0, front.1);
  }

  -- the writer failed, or there was no memory, after a front of the lines
  pub cut_off : (r : Result ℕ CliFault) → IsErr r → IfErr r (λ e. (e ≡ Output) ⊎ (e ≡ Memory)) → (script : S) × HasRead means left left_now (Some script) × GainsFront (contents old) (contents new) (lines_of script)
      → Prints means lines_of left left_now contents old new r
  cut_off (Ok n) failed h front = absurd cc
  cut_off (Err Output) failed h front = after_front Output (λ e. absurd cc) (λ e. absurd cc) front
  cut_off (Err Memory) failed h front = after_front Memory (λ e. absurd cc) (λ e. absurd cc) front
  cut_off (Err BadScript) failed (inl e) front = absurd cc
  cut_off (Err BadScript) failed (inr e) front = absurd cc
  cut_off (Err Input) failed (inl e) front = absurd cc
  cut_off (Err Input) failed (inr e) front = absurd cc

  -- all lines are written
  pub printed : (script : S) × HasRead means left left_now (Some script) × Appends (contents old) (contents new) (lines_of script) → Prints means lines_of left left_now contents old new (Ok 0)
  printed all = record {
    status = refl;
    all = all;
    front = inr (all.0, all.1, gains_all (contents old) (contents new) (lines_of all.0) all.2);
    bad = λ e. absurd cc;
    unwritten = λ e. absurd (neither (Ok 0) BadScript Input (λ d. absurd cc) (λ d. absurd cc) e);
    output = λ e. absurd cc;
  }
