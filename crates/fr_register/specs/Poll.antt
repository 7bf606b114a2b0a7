-- What a tally keeps of the tells that it heard.
use Rattle.std.specs.Prelude.{ℕ, Option, List}
use Rattle.fr_register.specs.declared.poll.Refusal.{Refusal}

-- a value under the ballot that wrote it
pub record Stamped : Type 0 where
  pub ballot : ℕ
  pub value : List ℕ

-- a poll of the cells below a number: those that gave the answer it waits for, and the refusal that ended it
pub record Poll : Type 0 where
  pub cells : ℕ
  pub heard : List ℕ
  pub refusal : Option Refusal

-- a read tally: its ballot, its poll, and the promised pair of the greatest ballot
pub record ReadState : Type 0 where
  pub ballot : ℕ
  pub poll : Poll
  pub greatest : Stamped

-- a write tally: its ballot and its poll
pub record WriteState : Type 0 where
  pub ballot : ℕ
  pub poll : Poll
