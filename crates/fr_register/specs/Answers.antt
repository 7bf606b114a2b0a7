-- What an answer of a cell says of the cell and of the ask, how a cell changes, and what grows.
use Rattle.std.specs.Prelude.{◌≡◌, ◌≢◌, ℕ, ◌<◌, ◌≤◌, List, ◌∷◌, ◌++◌}
use Rattle.fr_register.specs.CellState.{CellState}
use Rattle.fr_register.specs.Cell.{ballot_of, answer_of, IsWithinPromise}
use Rattle.fr_register.specs.History.{Turn, IsHistory, cell_at}
use Rattle.fr_register.specs.declared.ask.CellAsk.{CellAsk}
use Rattle.fr_register.specs.declared.ask.CellAsk.TheVariants.{Read, Write}
use Rattle.fr_register.specs.declared.ask.CellTell.{CellTell}
use Rattle.fr_register.specs.declared.ask.CellTell.TheVariants.{Promise, Written, Refused, TwoValues}

-- the ways in which a cell answers an ask, each with its reply and the next state
pub data Change (c : CellState) : CellAsk → CellTell → CellState → Type 0 where
  Promises : (b : ℕ) → c.promised ≤ b → Change c (Read b) (Promise c.written c.value) (record { promised = b; written = c.written; value = c.value })
  Takes : (b : ℕ) (x : List ℕ) → c.promised ≤ b → (c.written ≡ b → c.value ≡ x) → Change c (Write b x) (Written b) (record { promised = b; written = b; value = x })
  Refuses : (a : CellAsk) → ballot_of a < c.promised → Change c a (Refused c.promised) c
  Differs : (b : ℕ) (x : List ℕ) → c.promised ≤ b → c.written ≡ b → c.value ≢ x → Change c (Write b x) TwoValues c

-- a promise answers a read of a ballot that is not below the promised one, with the pair that the cell holds
pub record IsPromised (c : CellState) (a : CellAsk) (w : ℕ) (v : List ℕ) : Type 0 where
  pub ballot : ℕ
  pub ask : a ≡ Read ballot
  pub free : c.promised ≤ ballot
  pub written : w ≡ c.written
  pub value : v ≡ c.value

-- a Written answers a write of its ballot, which is not below the promised one; the cell had no other value under it
pub record IsTaken (c : CellState) (a : CellAsk) (b : ℕ) : Type 0 where
  pub value : List ℕ
  pub ask : a ≡ Write b value
  pub free : c.promised ≤ b
  pub one_value : c.written ≡ b → c.value ≡ value

-- a refusal names the promised ballot, which is above that of the ask
pub record IsRefused (c : CellState) (a : CellAsk) (promised : ℕ) : Type 0 where
  pub names : promised ≡ c.promised
  pub above : ballot_of a < promised

-- a TwoValues answers a write under the ballot that the cell wrote last, of another value
pub record IsSecond (c : CellState) (a : CellAsk) : Type 0 where
  pub value : List ℕ
  pub ask : a ≡ Write c.written value
  pub other : c.value ≢ value

-- what grows: neither ballot falls, and while a cell has written under one ballot it has one value
pub record Grows (c n : CellState) : Type 0 where
  pub promised : c.promised ≤ n.promised
  pub written : c.written ≤ n.written
  pub value : c.written ≡ n.written → c.value ≡ n.value

-- a turn with what stood before it: its cell told what it tells in the state of then
pub record IsAnswered (first : CellState) (turns : List Turn) (t : Turn) : Type 0 where
  pub later : List Turn
  pub before : List Turn
  pub split : turns ≡ later ++ t ∷ before
  pub history : IsHistory first before
  pub within : IsWithinPromise (cell_at first before t.cell)
  pub tell : t.tell ≡ answer_of (cell_at first before t.cell) t.ask
