-- Tests over turns from the oldest to the newest answer as those over a history.
use Rattle.std.proofs.Common.{◌≡◌, suc, ◌+◌, Bool, true, false, ◌||◌, List, [], ◌∷◌, ◌++◌, length, refl, ◌∙◌, arith}
use Rattle.std.specs.Prelude.{fold}
use Rattle.std.specs.List.{list_any}
use Rattle.fr_run.specs.Turn as history
use Rattle.fr_world_turns.specs.declared.turn.Turn.{Turn}
use Rattle.fr_world_turns.specs.Turns.{turn_of, history_of}

-- a test of some turn of a history, from turns on
any_on : (p : history.Turn → Bool) (turns : List Turn) (h : List history.Turn) → list_any p (fold (λ h t. turn_of t ∷ h) h turns) ≡ (list_any (λ t. p (turn_of t)) turns || list_any p h)
any_on p [] h = refl
any_on p (t ∷ turns) h = any_on p turns (turn_of t ∷ h) ∙ swap (p (turn_of t)) (list_any (λ t. p (turn_of t)) turns) (list_any p h)
  where
    swap : (a b c : Bool) → (b || (a || c)) ≡ ((a || b) || c)
    swap true true c = refl
    swap true false c = refl
    swap false true c = refl
    swap false false c = refl

or_false : (b : Bool) → (b || false) ≡ b
or_false true = refl
or_false false = refl

pub any_turn : (p : history.Turn → Bool) (turns : List Turn) → list_any p (history_of turns) ≡ list_any (λ t. p (turn_of t)) turns
any_turn p turns = any_on p turns [] ∙ or_false (list_any (λ t. p (turn_of t)) turns)

on_push : (h : List history.Turn) (turns : List Turn) (t : Turn) → fold (λ h t. turn_of t ∷ h) h (turns ++ (t ∷ [])) ≡ turn_of t ∷ fold (λ h t. turn_of t ∷ h) h turns
on_push h [] t = refl
on_push h (x ∷ turns) t = on_push (turn_of x ∷ h) turns t

-- a history with one turn more
pub history_push : (turns : List Turn) (t : Turn) → history_of (turns ++ (t ∷ [])) ≡ turn_of t ∷ history_of turns
history_push turns t = on_push [] turns t

length_on : (h : List history.Turn) (turns : List Turn) → length (fold (λ h t. turn_of t ∷ h) h turns) ≡ length turns + length h
length_on h [] = omega arith
length_on h (t ∷ turns) = length_on (turn_of t ∷ h) turns ∙ (let e : length turns + suc (length h) ≡ suc (length turns) + length h = omega arith in e)

-- a history has as many turns
pub length_history : (turns : List Turn) → length (history_of turns) ≡ length turns
length_history turns = length_on [] turns ∙ (let e : length turns + 0 ≡ length turns = omega arith in e)
