use Rattle.fr_run.specs.Config.{Config}
use Rattle.fr_run.specs.StateLaws.{IsConfig}
use Rattle.fr_run_rounds.specs.Ending.{EndsInRounds, UncontestedIsChosen}
use Rattle.fr_run_rounds.proofs.Bound.{RoundRules, ends_in_rounds}
use Rattle.fr_run_rounds.proofs.PeekSteps.{PeekRules}
use Rattle.fr_run_rounds.proofs.RoomLeft.{uncontested_is_chosen, room_is_chosen}
use Rattle.fr_run_rounds.proofs.laws.bound_law.Goals as goal

pub returns : goal.returns
returns c = record { ended = ended; chosen = chosen; room = room_is_chosen c.node_laws.ensures c.cover_law.ensures.covering chosen }
  where
    peeks : (x : Config) → IsConfig x → PeekRules x
    peeks x config = record {
      laws = c.node_laws.ensures;
      config = config;
      truths = c.contents_law.ensures.peeks;
      copies = c.contents_law.ensures.copies;
      never = c.let_go_law.ensures.copies;
      meets = c.cover_law.ensures.covering;
    }

    rules : RoundRules
    rules = record {
      laws = c.node_laws.ensures;
      peeks = peeks;
      reading = c.cells_law.ensures.reading;
      locking = c.locks_law.ensures;
      copying = c.copies_law.ensures.records;
      seeding = c.copies_law.ensures.seeding;
      writing = c.cells_law.ensures.writing;
    }

    ended : EndsInRounds
    ended = ends_in_rounds rules

    chosen : UncontestedIsChosen
    chosen = uncontested_is_chosen c.uncontested_law.ensures ended
