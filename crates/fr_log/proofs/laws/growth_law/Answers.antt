use Rattle.fr_log.proofs.Lawful.{ask_grows, asks_grow}
use Rattle.fr_log.proofs.laws.growth_law.Goals as goal

pub returns : goal.returns
returns c = record { ask = ask_grows; asks = asks_grow }
