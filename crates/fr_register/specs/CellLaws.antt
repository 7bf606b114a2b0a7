-- The laws of a cell as a machine.
use Rattle.std.specs.Prelude.{◌≡◌, ℕ, Bool, true, false, nat_lt, ◌==◌, ◌&&◌, not, List, [], ◌∷◌, refl}
use Rattle.fr_base.specs.Bytes.{bytes_eq}
use Rattle.std.proofs.Common.{arith}
use Rattle.std.proofs.lemmas.Bool.{ltb-false, le-ltb, eq-eqb}
use Rattle.std.proofs.lemmas.Slice.Eq.{bytes_eq-Decides}
use Rattle.fr_base.specs.HighWater.{NoneFell}
use Rattle.fr_register.specs.CellState.{CellState}
use Rattle.fr_register.specs.Cell.{answer_of, next_of, is_second, IsWithinPromise}
use Rattle.fr_register.specs.declared.ask.CellAsk.{CellAsk}
use Rattle.fr_register.specs.declared.ask.CellAsk.TheVariants.{Read, Write}

-- what never goes back
abbrev pub cell_high_water : CellState → List ℕ
cell_high_water c = c.promised ∷ c.written ∷ []

-- the state after an ask: the cell itself, or one that promised the ask's ballot
pub record IsRepeatable (c : CellState) (a : CellAsk) : Type 0 where
  pub within : IsWithinPromise (next_of c a)
  pub told : answer_of (next_of c a) a ≡ answer_of c a
  pub after : next_of (next_of c a) a ≡ next_of c a
  pub high : NoneFell (cell_high_water c) (cell_high_water (next_of c a))

lt_itself : (b : ℕ) → nat_lt b b ≡ false
lt_itself b = le-ltb b b (omega arith)

not_second : (b : ℕ) (x : List ℕ) → ((b == b) && not (bytes_eq x x)) ≡ false
not_second b x = rw (eq-eqb b b refl, (bytes_eq-Decides x x).1 refl) refl

read_repeats : (c : CellState) (b : ℕ) → IsWithinPromise c → IsRepeatable c (Read b)
read_repeats c b h = go (nat_lt b c.promised) refl
  where
    go : (s : Bool) → nat_lt b c.promised ≡ s → IsRepeatable c (Read b)
    go true e = record {
      within = rw e h;
      told = rw (e, e) refl;
      after = rw (e, e) refl;
      high = rw e (omega arith, (omega arith, tt));
    }
    go false e = record {
      within = rw e (omega (arith, h, ltb-false b c.promised e));
      told = rw e (rw (lt_itself b) refl);
      after = rw e (rw (lt_itself b) refl);
      high = rw e (ltb-false b c.promised e, (omega arith, tt));
    }

write_repeats : (c : CellState) (b : ℕ) (x : List ℕ) → IsWithinPromise c → IsRepeatable c (Write b x)
write_repeats c b x h = go (nat_lt b c.promised) refl
  where
    freely : (s : Bool) → nat_lt b c.promised ≡ false → is_second c b x ≡ s → IsRepeatable c (Write b x)
    freely true e k = record {
      within = rw (e, k) h;
      told = rw (e, k) (rw (e, k) refl);
      after = rw (e, k) (rw (e, k) refl);
      high = rw (e, k) (omega arith, (omega arith, tt));
    }
    freely false e k = record {
      within = rw (e, k) (omega arith);
      told = rw (e, k) (rw (lt_itself b, not_second b x) refl);
      after = rw (e, k) (rw (lt_itself b, not_second b x) refl);
      high = rw (e, k) (ltb-false b c.promised e, (omega (arith, h, ltb-false b c.promised e), tt));
    }

    go : (s : Bool) → nat_lt b c.promised ≡ s → IsRepeatable c (Write b x)
    go true e = record {
      within = rw e h;
      told = rw (e, e) refl;
      after = rw (e, e) refl;
      high = rw e (omega arith, (omega arith, tt));
    }
    go false e = freely (is_second c b x) e refl

pub repeats : (c : CellState) (a : CellAsk) → IsWithinPromise c → IsRepeatable c a
repeats c (Read b) h = read_repeats c b h
repeats c (Write b x) h = write_repeats c b x h
