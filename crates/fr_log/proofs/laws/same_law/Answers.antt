use Rattle.fr_log.specs.Same.{is_same_log_ask-IsSameness, is_same_log_tell-IsSameness}
use Rattle.fr_log.proofs.laws.same_law.Goals as goal

pub returns : goal.returns
returns c = record { asks = is_same_log_ask-IsSameness; tells = is_same_log_tell-IsSameness }
