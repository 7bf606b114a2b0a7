-- Each write among the deliveries is made rightly, and a majority holds the second ballot's pair.
use Rattle.std.proofs.Common.{ℕ, List, [], ◌∷◌, refl, subst, arith}
use Rattle.std.specs.List.{All, Contains}
use Rattle.std.proofs.lemmas.List.Elements.{All-nil, All-cons}
use Rattle.fr_register.specs.Heard.{Heard}
use Rattle.fr_register.specs.History.{Turn, turns_of, IsWritten}
use Rattle.fr_register.specs.Made.{IsToldToRead, IsToldToWrite, IsMade, AllMade}
use Rattle.fr_register.specs.declared.ask.CellAsk.TheVariants.{Read}
use Rattle.fr_register.specs.declared.ask.CellTell.{CellTell}
use Rattle.fr_register.specs.declared.ask.CellTell.TheVariants.{Promise, Written}
use Rattle.example_ballots.specs.Contended.{begun, read_at, both_read, first_wrote, first_lost, second_wrote, third_read, contended, promise_of, readings, won, later}

told : (turns : List Turn) (b i w : ℕ) (v : List ℕ) → Contains turns (record { cell = i; ask = Read b; tell = Promise w v }) → IsToldToRead turns b (promise_of i w v)
told turns b i w v h p e = subst (λ (t : CellTell). Contains turns (record { cell = i; ask = Read b; tell = t })) e h

both : (turns : List Turn) (b : ℕ) (g h : Heard) → IsToldToRead turns b g → IsToldToRead turns b h → All (IsToldToRead turns b) (g ∷ h ∷ [])
both turns b g h p q = All-cons (IsToldToRead turns b) g (h ∷ []) p (All-cons (IsToldToRead turns b) h [] q (All-nil (IsToldToRead turns b)))

-- the five writes, each from what stands before it
first_to_left : IsMade 3 begun readings (turns_of begun both_read) 513 (1 ∷ [])
first_to_left = record {
  one_value = refl;
  unused = λ e. absurd (omega (arith, e));
  majority = refl;
  told = both (turns_of begun both_read) 513 (promise_of 1 257 (7 ∷ [])) (promise_of 0 257 (7 ∷ [])) (told (turns_of begun both_read) 513 1 257 (7 ∷ []) (2, omega arith, refl)) (told (turns_of begun both_read) 513 0 257 (7 ∷ []) (3, omega arith, refl));
}

first_to_middle : IsMade 3 begun readings (turns_of begun (read_at 1 513 ∷ first_wrote)) 513 (1 ∷ [])
first_to_middle = record {
  one_value = refl;
  unused = λ e. absurd (omega (arith, e));
  majority = refl;
  told = both (turns_of begun (read_at 1 513 ∷ first_wrote)) 513 (promise_of 1 257 (7 ∷ [])) (promise_of 0 257 (7 ∷ [])) (told (turns_of begun (read_at 1 513 ∷ first_wrote)) 513 1 257 (7 ∷ []) (4, omega arith, refl)) (told (turns_of begun (read_at 1 513 ∷ first_wrote)) 513 0 257 (7 ∷ []) (5, omega arith, refl));
}

second_to_middle : IsMade 3 begun readings (turns_of begun first_lost) 514 (2 ∷ [])
second_to_middle = record {
  one_value = refl;
  unused = λ e. absurd (omega (arith, e));
  majority = refl;
  told = both (turns_of begun first_lost) 514 (promise_of 2 257 (7 ∷ [])) (promise_of 1 257 (7 ∷ [])) (told (turns_of begun first_lost) 514 2 257 (7 ∷ []) (3, omega arith, refl)) (told (turns_of begun first_lost) 514 1 257 (7 ∷ []) (4, omega arith, refl));
}

second_to_right : IsMade 3 begun readings (turns_of begun second_wrote) 514 (2 ∷ [])
second_to_right = record {
  one_value = refl;
  unused = λ e. absurd (omega (arith, e));
  majority = refl;
  told = both (turns_of begun second_wrote) 514 (promise_of 2 257 (7 ∷ [])) (promise_of 1 257 (7 ∷ [])) (told (turns_of begun second_wrote) 514 2 257 (7 ∷ []) (4, omega arith, refl)) (told (turns_of begun second_wrote) 514 1 257 (7 ∷ []) (5, omega arith, refl));
}

third_to_left : IsMade 3 begun readings (turns_of begun third_read) 769 (3 ∷ [])
third_to_left = record {
  one_value = refl;
  unused = λ e. absurd (omega (arith, e));
  majority = refl;
  told = both (turns_of begun third_read) 769 (promise_of 1 514 (2 ∷ [])) (promise_of 0 513 (1 ∷ [])) (told (turns_of begun third_read) 769 1 514 (2 ∷ []) (0, omega arith, refl)) (told (turns_of begun third_read) 769 0 513 (1 ∷ []) (1, omega arith, refl));
}

pub all_made : AllMade 3 begun readings contended
all_made = (third_to_left, (tt, (tt, (second_to_right, (second_to_middle, (first_to_middle, (tt, (first_to_left, (tt, (tt, (tt, (tt, tt))))))))))))

abbrev pub taken : ℕ → Heard
taken i = record { cell = i; tell = Written 514 }

-- cells 1 and 2 told the write of the second ballot's pair that they hold it
pub both_took : All (IsToldToWrite contended won) (taken 2 ∷ taken 1 ∷ [])
both_took =
    All-cons (IsToldToWrite contended won) (taken 2) (taken 1 ∷ []) (λ e. (3, omega arith, refl))
    (All-cons (IsToldToWrite contended won) (taken 1) [] (λ e. (4, omega arith, refl)) (All-nil (IsToldToWrite contended won)))

pub later_is_written : IsWritten contended later
later_is_written = record { cell = 0; tell = Written 769; comes = (0, omega arith, refl) }
