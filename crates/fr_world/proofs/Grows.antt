-- From event to event the committed list only grows.
use Rattle.std.proofs.Common.{◌≡◌, Result, Ok, Err, sym, ap, subst}
use Rattle.std.specs.Prelude.{OnErr}
use Rattle.fr_run.specs.Config.{Config}
use Rattle.fr_run.specs.Turn.{Turn}
use Rattle.fr_run.specs.Run.{IsRun}
use Rattle.fr_run.specs.StateLaws.{IsConfig}
use Rattle.fr_run.specs.declared.answer.Answer.{Answer}
use Rattle.fr_run.specs.declared.event.Event.{Event}
use Rattle.fr_run.specs.declared.not_enabled.NotEnabled.{NotEnabled}
use Rattle.fr_run.specs.Step.{answer_of}
use Rattle.fr_run_headline.specs.Safety.{IsGrownFrom, EachTurnGrows, StandingGrows}
use Rattle.fr_run.specs.ConfigLimits.{IsWithin}
use Rattle.fr_world.specs.Stepping.{Steps}
use Rattle.fr_world.specs.World.{next_turn, stepped_by}
use Rattle.fr_world_nodes.specs.Kept.{WorldState, with_turn}

-- the limits of a config are those of the first generation
pub is_config : {c : Config} → IsWithin c → IsConfig c
is_config k = record { k_low = k.k_low; k_high = k.k_high; m_high = k.m_high }

-- after one turn more
turn_more : EachTurnGrows → (old new : WorldState) (t : Turn) → with_turn old t ≡ new → IsConfig new.config → IsRun new.config new.turns → IsGrownFrom new.config old.turns new.turns
turn_more turns old new t e = subst (λ w. IsConfig w.config → IsRun w.config w.turns → IsGrownFrom w.config old.turns w.turns) e (λ is run. turns old.config old.turns t is run)

event_more : EachTurnGrows → (old new : WorldState) (answer : Answer) (t : Result Turn NotEnabled) → stepped_by old t ≡ Ok (new, answer) → IsConfig new.config → IsRun new.config new.turns → IsGrownFrom new.config old.turns new.turns
event_more turns old new answer (Ok t) e = let p : ◌≡◌ {A = WorldState × Answer} (with_turn old t, answer_of t) (new, answer) = cc in turn_more turns old new t (ap (λ x. x.0) p)
event_more turns old new answer (Err why) e = absurd (cc)

pub grown : EachTurnGrows → StandingGrows → (old new : WorldState) (event : Event) (result : Result Answer NotEnabled) → Steps old new event result → OnErr result (new ≡ old) → IsConfig new.config → IsRun new.config new.turns → IsGrownFrom new.config old.turns new.turns
grown turns stands old new event (Ok answer) steps err = event_more turns old new answer (next_turn old event) steps
grown turns stands old new event (Err why) steps err = subst (λ w. IsConfig w.config → IsRun w.config w.turns → IsGrownFrom w.config old.turns w.turns) (sym err) (λ is run. stands old.config old.turns is run)
