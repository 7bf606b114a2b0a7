-- What the tokens of a text begin with, if it does not matter which value it is.
use Rattle.std.specs.Prelude.{ℕ, List}
use Rattle.json.specs.Token.{Token}
use Rattle.serde_json.specs.Data.{Data}
use Rattle.fr_cli_json.specs.Tokens.{BeginsWith}

-- the tokens begin with some value, nested no deeper than the number, and the rest follows
abbrev pub HasValue : ℕ → List Token → List Token → Type 0
HasValue depth tokens rest = (d : Data) × BeginsWith depth tokens d rest
