-- When two asks, and two tells, of a cell are the same.
use Rattle.std.specs.Prelude.{◌≡◌, ℕ, Bool, true, false, ◌==◌, ◌&&◌, List, refl}
use Rattle.std.proofs.Common.{ap, ◌∙◌}
use Rattle.std.proofs.lemmas.Bool.{and_parts, eqb-true, eq-eqb}
use Rattle.fr_base.specs.Bytes.{bytes_eq}
use Rattle.fr_base.specs.Same.{IsSameness, bytes_eq-IsSameness}
use Rattle.fr_register.specs.declared.ask.CellAsk.{CellAsk}
use Rattle.fr_register.specs.declared.ask.CellAsk.TheVariants.{Read, Write}
use Rattle.fr_register.specs.declared.ask.CellTell.{CellTell}
use Rattle.fr_register.specs.declared.ask.CellTell.TheVariants.{Promise, Written, Refused, TwoValues}

-- whether two asks are of one kind and have the same ballot and value
abbrev pub is_same_cell_ask : CellAsk → CellAsk → Bool
is_same_cell_ask (Read b) (Read c) = b == c
is_same_cell_ask (Write b x) (Write c y) = (b == c) && bytes_eq x y
is_same_cell_ask a b = false

-- whether two tells are of one kind and have the same ballot and value
abbrev pub is_same_cell_tell : CellTell → CellTell → Bool
is_same_cell_tell (Promise w v) (Promise x y) = (w == x) && bytes_eq v y
is_same_cell_tell (Written b) (Written c) = b == c
is_same_cell_tell (Refused b) (Refused c) = b == c
is_same_cell_tell TwoValues TwoValues = true
is_same_cell_tell a b = false

number_itself : (b : ℕ) → (b == b) ≡ true
number_itself b = eq-eqb b b refl

pair_itself : (b : ℕ) (x : List ℕ) → ((b == b) && bytes_eq x x) ≡ true
pair_itself b x = rw (number_itself b) (bytes_eq-IsSameness.itself x)

pair_same : {K : Type 0} (make : ℕ → List ℕ → K) (b c : ℕ) (x y : List ℕ) → ((b == c) && bytes_eq x y) ≡ true → make b x ≡ make c y
pair_same make b c x y e =
    let p = and_parts (b == c) (bytes_eq x y) e in
    ap (λ n. make n x) (eqb-true b c p.0) ∙ ap (λ v. make c v) (bytes_eq-IsSameness.same x y p.1)

pub is_same_cell_ask-IsSameness : IsSameness is_same_cell_ask
is_same_cell_ask-IsSameness = record { itself = itself; same = same }
  where
    itself : (a : CellAsk) → is_same_cell_ask a a ≡ true
    itself (Read b) = number_itself b
    itself (Write b x) = pair_itself b x

    same : (a b : CellAsk) → is_same_cell_ask a b ≡ true → a ≡ b
    same (Read b) (Read c) e = ap (λ n. Read n) (eqb-true b c e)
    same (Write b x) (Write c y) e = pair_same (λ n v. Write n v) b c x y e
    same a b e = absurd (cc)

pub is_same_cell_tell-IsSameness : IsSameness is_same_cell_tell
is_same_cell_tell-IsSameness = record { itself = itself; same = same }
  where
    itself : (t : CellTell) → is_same_cell_tell t t ≡ true
    itself (Promise w v) = pair_itself w v
    itself (Written b) = number_itself b
    itself (Refused b) = number_itself b
    itself TwoValues = refl

    same : (s t : CellTell) → is_same_cell_tell s t ≡ true → s ≡ t
    same (Promise w v) (Promise x y) e = pair_same (λ n u. Promise n u) w x v y e
    same (Written b) (Written c) e = ap (λ n. Written n) (eqb-true b c e)
    same (Refused b) (Refused c) e = ap (λ n. Refused n) (eqb-true b c e)
    same TwoValues TwoValues e = refl
    same s t e = absurd (cc)
