use Rattle.fr_proxy.proofs.Sound.{new_is_proxy, submit_keeps, hear_keeps, known_rises}
use Rattle.fr_proxy.proofs.laws.kept_law.Goals as goal

pub returns : goal.returns
returns c = record { new = new_is_proxy; submit = submit_keeps; hear = hear_keeps; known = known_rises }
