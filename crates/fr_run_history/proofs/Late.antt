-- A proxy of the first epoch takes a batch after the second epoch acknowledged one.
use Rattle.std.proofs.Common.{◌≡◌, cond, List, [], ◌∷◌, length, Option, None, Some, inl, refl, arith}
use Rattle.std.proofs.lemmas.Bool.{ltb-true}
use Rattle.std.specs.FinMap.{get, get-empty}
use Rattle.std.specs.Ordering.{nat_cmp}
use Rattle.fr_base.specs.declared.place.NodeId.TheVariants as node
use Rattle.fr_state.specs.Spelling.{row}
use Rattle.fr_state.specs.Reading.{generation_at, is_within}
use Rattle.fr_log.specs.declared.ask.LogTell.TheVariants.{Held}
use Rattle.fr_ask.specs.declared.ask.Ask.TheVariants as ask
use Rattle.fr_ask.specs.declared.tell.Tell.TheVariants as tell
use Rattle.fr_ask.specs.declared.sequencer.SeqAsk.TheVariants.{Next}
use Rattle.fr_ask.specs.declared.sequencer.SeqTell.TheVariants.{Numbered}
use Rattle.fr_proxy.specs.Sequencer.{SeqState, new_sequencer, is_of, told_before, told_unless, new_refusal, new_number}
use Rattle.fr_proxy.specs.declared.number.Number.{Number}
use Rattle.fr_run.specs.Turn.{Turn, SeqTurn, Submitted, asks_of}
use Rattle.fr_run.specs.Run.{IsTurn}
use Rattle.fr_run.specs.Batches.{batches}
use Rattle.fr_run_headline.specs.Numbers.{numbers}
use Rattle.fr_run_headline.proofs.Example.{none_gone, at}
use Rattle.fr_run_outcomes.proofs.Widening.{c, two, h27, is_run27}
use Rattle.fr_run_history.specs.Example.{LateIsNumberedLow}

-- the first number of the first epoch's sequencer
abbrev fresh : SeqState
fresh = new_sequencer 257 1

numbered : (o : Option Number) → o ≡ None → Numbered 1 1 2 ≡ cond (is_of 1 o) (told_before o) (told_unless (new_refusal fresh o 1 1) (new_number fresh 1 1))
numbered None e = refl
numbered (Some n) e = absurd (cc)

abbrev t28 : Turn
t28 = Submitted 257 0 1 two ((node.Sequencer 257, ask.Seq (Next 0 1 1)) ∷ [])

abbrev h28 : List Turn
h28 = t28 ∷ h27

turn28 : IsTurn c h27 t28
unfolding row generation_at is_within
turn28 = (record { there = refl; up = λ k. none_gone h27 (node.Proxy 257 0) refl k }, (refl, omega arith), refl)

abbrev t29 : Turn
t29 = SeqTurn (node.Proxy 257 0) 257 (Next 0 1 1) (Numbered 1 1 2)

turn29 : IsTurn c h28 t29
unfolding row generation_at is_within
turn29 = (record { there = refl; up = λ k. none_gone h28 (node.Sequencer 257) refl k }, (inl (refl, at (asks_of t28) _ 0 refl refl)), numbered (get fresh.given 0) (get-empty nat_cmp 0))

pub late_is_numbered_low : LateIsNumberedLow
unfolding row generation_at is_within
late_is_numbered_low = record {
  config = c;
  early = h27;
  more = t29 ∷ t28 ∷ [];
  is_config = record { k_low = omega arith; k_high = omega arith; m_high = omega arith };
  is_run = (turn29, (turn28, is_run27));
  acknowledged = record { proxy = 0; from = node.Log 513 1; tell = tell.Log (Held 3); asks = []; turn = at h27 _ 5 refl refl };
  to_come = ltb-true (length (batches h27 257 0)) 1 refl;
  number = record { proxy = 0; request = 1; prev = 1; version = 2 };
  of = record { given = at (numbers (t29 ∷ t28 ∷ h27) 257) _ 0 refl refl; by = refl; asked = refl };
  low = refl;
}
