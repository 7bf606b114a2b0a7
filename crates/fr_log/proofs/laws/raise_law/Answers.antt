use Rattle.fr_log.proofs.Lawful.{first_seed_sets, push_adds, new_push_raises, nothing_else_raises}
use Rattle.fr_log.proofs.laws.raise_law.Goals as goal

pub returns : goal.returns
returns c = record {
  seed = first_seed_sets;
  more = push_adds;
  push = new_push_raises;
  nothing_else = nothing_else_raises;
}
