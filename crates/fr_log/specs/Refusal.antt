-- Which asks a log refuses, and why. Each list of tests is in the order in which they are made.
use Rattle.std.specs.Prelude.{ℕ, List, ◌-◌, Bool, false, ◌==◌, ◌&&◌, ◌||◌, not, nat_lt, is_some, is_none, Option, None, Some, if◌then◌else◌}
use Rattle.std.specs.List.{list_all}
use Rattle.fr_log.specs.declared.ask.LogAsk.{LogAsk}
use Rattle.fr_log.specs.declared.ask.LogAsk.TheVariants.{Seed, Push, Lock, Peek, MarkAsked, Pop}
use Rattle.fr_log.specs.declared.ask.LogRefusal.{LogRefusal}
use Rattle.fr_log.specs.declared.ask.LogRefusal.TheVariants.{WrongEpoch, Unseeded, Stopped, Stale, Gap, NotMine, TooEarly, SeedDiffers, NoMark, Removed}
use Rattle.fr_log.specs.Seed.{SeedContent, is_same_seed}
use Rattle.fr_log.specs.Push.{PushContent}
use Rattle.fr_log.specs.declared.popped.PoppedTag.{PoppedTag}
use Rattle.fr_log.specs.Left.{popped_at, left_seed}
use Rattle.fr_log.specs.LogState.{LogState, first_of, seeded_to_of, durable_of, holds, is_push_held, mark_among}

-- whether a log has a seed, and another one than this, whatever the two have of what is popped
abbrev pub has_other_seed : List PoppedTag → Option SeedContent → SeedContent → Bool
has_other_seed ps None s = false
has_other_seed ps (Some held) s = not (is_same_seed (left_seed ps held) (left_seed ps s))

abbrev pub seed_refusal : LogState → SeedContent → Option LogRefusal
seed_refusal l s =
    if not (s.epoch == l.epoch) then Some WrongEpoch
    else if not (list_all (λ r. holds l r.tag) s.records) then Some NotMine
    else if has_other_seed l.popped l.seed s then Some SeedDiffers
    else None

-- why a push that is not held is not taken
abbrev pub new_push_refusal : LogState → PushContent → Option LogRefusal
new_push_refusal l p =
    if l.stopped then Some Stopped
    else if nat_lt p.prev (durable_of l) || (is_some p.mark && not (p.prev == seeded_to_of l.seed)) then Some Stale
    else if nat_lt (durable_of l) p.prev then Some (Gap (durable_of l))
    else if not (list_all (λ b. holds l b.tag) p.bodies) then Some NotMine
    else if is_none p.mark && (durable_of l == seeded_to_of l.seed) then Some NoMark
    else None

abbrev pub push_refusal : LogState → PushContent → Option LogRefusal
push_refusal l p =
    if not (p.epoch == l.epoch) then Some WrongEpoch
    else if is_none l.seed then Some Unseeded
    else if is_push_held l p then None
    else new_push_refusal l p

abbrev pub lock_refusal : LogState → ℕ → Option LogRefusal
lock_refusal l epoch = if not (epoch == l.epoch) then Some WrongEpoch else if is_none l.seed then Some Unseeded else None

abbrev pub peek_refusal : LogState → ℕ → ℕ → ℕ → Option LogRefusal
peek_refusal l epoch tag after =
    if not (epoch == l.epoch) then Some WrongEpoch
    else if is_none l.seed then Some Unseeded
    else if not (holds l tag) then Some NotMine
    else if nat_lt after (first_of l.seed - 1) then Some (TooEarly (first_of l.seed))
    else if nat_lt after (popped_at l.popped tag) then Some (Removed (popped_at l.popped tag))
    else None

abbrev pub mark_refusal : LogState → ℕ → Option LogRefusal
mark_refusal l epoch =
    if not (epoch == l.epoch) then Some WrongEpoch
    else if is_none l.seed then Some Unseeded
    else if is_none (mark_among l.pushes) then Some NoMark
    else None

abbrev pub pop_refusal : LogState → ℕ → ℕ → Option LogRefusal
pop_refusal l epoch tag =
    if not (epoch == l.epoch) then Some WrongEpoch
    else if is_none l.seed then Some Unseeded
    else if not (holds l tag) then Some NotMine
    else None

-- why an ask is refused, if it is
abbrev pub refusal_of : LogState → LogAsk → Option LogRefusal
refusal_of l (Seed s) = seed_refusal l s
refusal_of l (Push p) = push_refusal l p
refusal_of l (Lock epoch) = lock_refusal l epoch
refusal_of l (Peek epoch tag after most) = peek_refusal l epoch tag after
refusal_of l (MarkAsked epoch) = mark_refusal l epoch
refusal_of l (Pop epoch tag through) = pop_refusal l epoch tag
