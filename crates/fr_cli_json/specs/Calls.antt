-- How a command called its reader and its writer.
use Rattle.std.specs.Prelude.{◌≡◌, ◌<◌, ◌≤◌, ◌⊎◌, ℕ, Result, Err, OnOk}
use Rattle.fr_cli_json.specs.declared.fault.CliFault.{CliFault}
use Rattle.fr_cli_json.specs.declared.fault.CliFault.TheVariants.{Memory, Input, Output}

-- how often the reader was called, and how many calls of the reader and of the writer failed
pub record Counts : Type 0 where
  pub reads : ℕ
  pub failed_reads : ℕ
  pub failed_writes : ℕ

abbrev pub no_calls : Counts
no_calls = record { reads = 0; failed_reads = 0; failed_writes = 0 }

-- the output is at fault, and a call of the writer failed
pub record IsOutputFault (calls : Counts) (fault : CliFault) : Type 0 where
  pub is : fault ≡ Output
  pub failed : 0 < calls.failed_writes

-- that, or there is no memory
abbrev pub IsWriteFault : Counts → CliFault → Type 0
IsWriteFault calls fault = IsOutputFault calls fault ⊎ (fault ≡ Memory)

-- no call failed
pub record HasNotFailed (calls : Counts) : Type 0 where
  pub reads : calls.failed_reads ≡ 0
  pub writes : calls.failed_writes ≡ 0

-- a call of the reader failed, or 2^30 of them did not come to the end of the input
abbrev pub HasNoInput : Counts → Type 0
HasNoInput calls = (0 < calls.failed_reads) ⊎ (1073741824 ≤ calls.reads)

-- `Input` and `Output` are answered only if a call failed, and what is Ok only if none did
pub record HasCause {A : Type 0} (calls : Counts) (result : Result A CliFault) : Type 0 where
  pub input : result ≡ Err Input → HasNoInput calls
  pub output : result ≡ Err Output → 0 < calls.failed_writes
  pub done : OnOk result (HasNotFailed calls)
