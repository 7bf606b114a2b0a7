-- What a command answers that reads a script and prints the lines of it.
use Rattle.std.specs.Prelude.{◌≡◌, ◌⊎◌, ℕ, List, Option, Some, None, Result, Err, IfOk, OnOk}
use Rattle.std.specs.Io.KnownBytes.{Appends}
use Rattle.fr_cli_json.specs.declared.fault.CliFault.{CliFault}
use Rattle.fr_cli_json.specs.declared.fault.CliFault.TheVariants.{BadScript, Input, Output}
use Rattle.fr_cli_json.specs.Text.{HasRead, GainsFront}

-- the command called a reader, which had the bytes `left` and now has `left_now`, and a writer, which was `old` and is `new`; `means` says
-- which script an input is, `lines_of` which lines it has, `contents` what a writer holds
pub record Prints {S W : Type 0} (means : List ℕ → Option S) (lines_of : S → List ℕ) (left left_now : Option (List ℕ)) (contents : W → Option (List ℕ)) (old new : W) (result : Result ℕ CliFault) : Type 0 where
  -- the status is 0, and the writer has gained the lines of the script that was read
  pub status : IfOk result (λ status. status ≡ 0)
  pub all : OnOk result ((script : S) × HasRead means left left_now (Some script) × Appends (contents old) (contents new) (lines_of script))
  -- whatever is answered, the writer has gained nothing, or a front of those lines
  pub front : (new ≡ old) ⊎ ((script : S) × HasRead means left left_now (Some script) × GainsFront (contents old) (contents new) (lines_of script))
  -- what was read is no script, and nothing was written
  pub bad : result ≡ Err BadScript → HasRead means left left_now None
  pub unwritten : (result ≡ Err BadScript) ⊎ (result ≡ Err Input) → new ≡ old
  -- the output is at fault only if the input was a script
  pub output : result ≡ Err Output → (script : S) × HasRead means left left_now (Some script)
