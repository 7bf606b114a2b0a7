-- When two asks and two tells of cells are the same.
use Rattle.std.specs.Prelude.{◌≡◌, ℕ, Bool, true, false, ◌==◌, ◌&&◌, refl}
use Rattle.std.proofs.Common.{ap}
use Rattle.std.proofs.lemmas.Bool.{and_parts, eqb-true, eq-eqb}
use Rattle.fr_base.specs.Bytes.{bytes_eq}
use Rattle.fr_base.specs.Same.{IsSameness, bytes_eq-IsSameness}
use Rattle.fr_log.specs.Fields.{two}
use Rattle.fr_register.specs.declared.ask.CellAsk.{CellAsk}
use Rattle.fr_register.specs.declared.ask.CellAsk.TheVariants.{Read, Write}
use Rattle.fr_register.specs.declared.ask.CellTell.{CellTell}
use Rattle.fr_register.specs.declared.ask.CellTell.TheVariants.{Promise, Written, Refused, TwoValues}

-- whether two asks of cells are of one kind, of one ballot and, if they write, of one value
abbrev pub is_same_cell_ask : CellAsk → CellAsk → Bool
is_same_cell_ask (Read b) (Read c) = b == c
is_same_cell_ask (Write b x) (Write c y) = (b == c) && bytes_eq x y
is_same_cell_ask a b = false

-- whether two tells of cells are of one kind and tell the same
abbrev pub is_same_cell_tell : CellTell → CellTell → Bool
is_same_cell_tell (Promise w v) (Promise x y) = (w == x) && bytes_eq v y
is_same_cell_tell (Written b) (Written c) = b == c
is_same_cell_tell (Refused b) (Refused c) = b == c
is_same_cell_tell TwoValues TwoValues = true
is_same_cell_tell t u = false

number : (n : ℕ) → (n == n) ≡ true
number n = eq-eqb n n refl

pub is_same_cell_ask-IsSameness : IsSameness is_same_cell_ask
is_same_cell_ask-IsSameness = record { itself = itself; same = same }
  where
    itself : (a : CellAsk) → is_same_cell_ask a a ≡ true
    itself (Read b) = number b
    itself (Write b x) = rw (number b) (bytes_eq-IsSameness.itself x)

    same : (a b : CellAsk) → is_same_cell_ask a b ≡ true → a ≡ b
    same (Read b) (Read c) e = ap Read (eqb-true b c e)
    same (Write b x) (Write c y) e = let k = and_parts (b == c) (bytes_eq x y) e in two (λ u v. Write u v) (eqb-true b c k.0) (bytes_eq-IsSameness.same x y k.1)
    same a b e = absurd (cc)

pub is_same_cell_tell-IsSameness : IsSameness is_same_cell_tell
is_same_cell_tell-IsSameness = record { itself = itself; same = same }
  where
    itself : (t : CellTell) → is_same_cell_tell t t ≡ true
    itself (Promise w v) = rw (number w) (bytes_eq-IsSameness.itself v)
    itself (Written b) = number b
    itself (Refused b) = number b
    itself TwoValues = refl

    same : (t u : CellTell) → is_same_cell_tell t u ≡ true → t ≡ u
    same (Promise w v) (Promise x y) e = let k = and_parts (w == x) (bytes_eq v y) e in two (λ s t. Promise s t) (eqb-true w x k.0) (bytes_eq-IsSameness.same v y k.1)
    same (Written b) (Written c) e = ap Written (eqb-true b c e)
    same (Refused b) (Refused c) e = ap Refused (eqb-true b c e)
    same TwoValues TwoValues e = refl
    same t u e = absurd (cc)
