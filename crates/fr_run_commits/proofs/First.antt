-- Where nothing happened yet the first epoch serves.
use Rattle.std.proofs.Common.{◌≡◌, ℕ, ◌≤◌, List, [], ◌∷◌, inl, inr, refl, ap, arith}
use Rattle.std.specs.List.{Contains, All}
use Rattle.std.proofs.lemmas.Bool.{lt-ltb}
use Rattle.std.proofs.lemmas.List.Elements.{All-head}
use Rattle.fr_register.specs.Chosen.{IsMajority}
use Rattle.fr_register.specs.History as register
use Rattle.fr_register.specs.History.{written_turn}
use Rattle.fr_register.specs.Poll.{Stamped}
use Rattle.fr_run.specs.Config.{Config, first_epoch}
use Rattle.fr_run.specs.Nodes.{logs_at}
use Rattle.fr_run.specs.States.{IsChosenEpoch, IsLatest}
use Rattle.fr_run.proofs.Cells.{Contains-none}
use Rattle.fr_run.proofs.Chosen.{first_is_chosen}
use Rattle.fr_run_commits.specs.Example.{FirstServes}

-- no cell wrote anything
none_wrote : (n : ℕ) (p : Stamped) (who : List ℕ) → IsMajority n who → All (λ i. Contains {X = register.Turn} [] (written_turn i p)) who → ⊥
none_wrote n p [] majority all = (let more = majority.more in omega (arith, more))
none_wrote n p (i ∷ who) majority all = Contains-none (All-head (λ j. Contains {X = register.Turn} [] (written_turn j p)) i who all)

first_is_latest : (c : Config) → IsLatest c [] first_epoch
first_is_latest c = record { chosen = first_is_chosen c []; greatest = λ d k. go d k }
  where
    go : (d : ℕ) → IsChosenEpoch c [] d → d ≤ first_epoch
    go d (inl start) = (let is : d ≡ first_epoch = ap (λ (p : Stamped). p.ballot) start in omega (arith, is))
    go d (inr w) = absurd (none_wrote c.cells _ w.who w.majority w.each)

pub first_serves : FirstServes
first_serves c config = record {
  latest = first_is_latest c;
  opened = refl;
  sequencer = record { there = refl; up = λ k. Contains-none k };
  logs = λ i below. record { there = lt-ltb i (logs_at c [] first_epoch) below; up = λ k. Contains-none k };
  running = λ i below. refl;
  whole = λ i below. omega arith;
}
