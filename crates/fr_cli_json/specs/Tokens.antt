-- What the tokens of a text begin with.
use Rattle.std.specs.Prelude.{◌≡◌, ℕ, List, Option, Some, option_and_then}
use Rattle.json.specs.Token.{Token}
use Rattle.json.specs.Json as json
use Rattle.serde_json.specs.Data.{Data, Items, Members}
use Rattle.serde_json.specs.Read.{of_json, of_items, of_members}
use Rattle.fr_cli_json.specs.Json.{only}

-- the tokens begin with this value, nested no deeper than the number, and the rest follows
abbrev pub BeginsWith : ℕ → List Token → Data → List Token → Type 0
BeginsWith depth tokens d rest = (j : json.Json) × (json.value depth tokens ≡ Some (j, rest)) × (of_json j ≡ Some d)

-- the same of the items of an array, and of the members of an object, which go in among those found before
abbrev pub BeginsWithItems : ℕ → ℕ → List Token → Items → List Token → Type 0
BeginsWithItems depth n tokens ds rest = (js : json.Items) × (json.items (json.value depth) n tokens ≡ Some (js, rest)) × (of_items js ≡ Some ds)

abbrev pub BeginsWithMembers : ℕ → ℕ → List Token → Members → Members → List Token → Type 0
BeginsWithMembers depth n tokens found all rest = (ms : json.Members) × (json.members (json.value depth) n tokens ≡ Some (ms, rest)) × (of_members ms found ≡ Some all)

-- the tokens begin with a value that f reads as a
abbrev pub Gives : {A : Type 0} → (Data → Option A) → ℕ → List Token → A → List Token → Type 0
Gives f depth tokens a rest = (d : Data) × BeginsWith depth tokens d rest × (f d ≡ Some a)

-- the tokens begin with an object of exactly two members, the first of which f reads as a, the second g as b
abbrev pub GivesTwo : {A B : Type 0} → (Data → Option A) → (Data → Option B) → List ℕ → List ℕ → ℕ → List Token → A → B → List Token → Type 0
GivesTwo f g first second depth tokens a b rest =
    (d : Data) × BeginsWith depth tokens d rest × (option_and_then f (only 2 first d) ≡ Some a) × (option_and_then g (only 2 second d) ≡ Some b)
