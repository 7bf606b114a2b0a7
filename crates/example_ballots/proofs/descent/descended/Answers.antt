-- By the law of the register, whose premises all hold here.
use Rattle.std.proofs.Common.{[], ◌∷◌, refl, inr, arith}
use Rattle.fr_register.specs.Made.{IsLawful}
use Rattle.fr_register.specs.Chosen.{IsChosen}
use Rattle.example_ballots.specs.Contended.{begun, deliveries, readings, contended, won, later}
use Rattle.example_ballots.proofs.Contended.{all_made, taken, both_took, later_is_written}
use Rattle.example_ballots.proofs.descent.descended.Goals as goal

pub returns : goal.returns
returns c =
    let law = c.register_law.ensures in
    let lawful : IsLawful 3 begun readings contended = record { within = omega arith; history = law.any_list begun deliveries; made = all_made } in
    let chosen : IsChosen 3 begun contended won = inr (law.write_tally 3 contended won (taken 2 ∷ taken 1 ∷ []) both_took refl) in
    record {
      lawful = lawful;
      chosen = chosen;
      written = later_is_written;
      descends = law.descends 3 begun readings contended won later lawful chosen later_is_written (omega arith);
    }
