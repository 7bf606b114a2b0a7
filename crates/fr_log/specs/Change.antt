-- The ways in which a log changes.
use Rattle.std.specs.Prelude.{◌≡◌, ℕ, true, false, [], ◌∷◌, ◌++◌, None, Some, IsTrue, IsSome}
use Rattle.std.specs.List.{list_all}
use Rattle.fr_log.specs.declared.ask.LogAsk.{LogAsk}
use Rattle.fr_log.specs.declared.ask.LogAsk.TheVariants.{Seed, Push, Lock, Pop}
use Rattle.fr_log.specs.Seed.{SeedContent}
use Rattle.fr_log.specs.Push.{PushContent}
use Rattle.fr_log.specs.LogState.{LogState, holds, durable_of, seeded_to_of, is_push_held}
use Rattle.fr_log.specs.Refusal.{seed_refusal, push_refusal, pop_refusal}
use Rattle.fr_log.specs.Step.{popped_to, is_popped_to, with_popped}

-- the log with a seed
abbrev pub with_seed : LogState → SeedContent → LogState
with_seed l s = record l { seed = Some s }

-- the log that holds one push more
abbrev pub with_push : LogState → PushContent → LogState
with_push l p = record l { pushes = l.pushes ++ p ∷ [] }

-- the log that takes no further push
abbrev pub with_stop : LogState → LogState
with_stop l = record l { stopped = true }

-- what is true of a log's first seed
pub record IsFirst (l : LogState) (s : SeedContent) : Type 0 where
  pub granted : seed_refusal l s ≡ None
  pub unseeded : l.seed ≡ None
  pub epoch : s.epoch ≡ l.epoch
  pub tags : IsTrue (list_all (λ r. holds l r.tag) s.records)

-- what is true of a push that is newly held: it follows the greatest version held; the first one is a mark, and no other is
pub record IsNext (l : LogState) (p : PushContent) : Type 0 where
  pub granted : push_refusal l p ≡ None
  pub epoch : p.epoch ≡ l.epoch
  pub seeded : IsSome l.seed
  pub unheld : is_push_held l p ≡ false
  pub running : l.stopped ≡ false
  pub follows : p.prev ≡ durable_of l
  pub tags : IsTrue (list_all (λ b. holds l b.tag) p.bodies)
  pub first_mark : durable_of l ≡ seeded_to_of l.seed → IsSome p.mark
  pub later_mark : IsSome p.mark → p.prev ≡ seeded_to_of l.seed

-- what is true of a Pop that comes further: the log holds the tag
pub record IsFurther (l : LogState) (tag through : ℕ) : Type 0 where
  pub granted : pop_refusal l l.epoch tag ≡ None
  pub seeded : IsSome l.seed
  pub held : IsTrue (holds l tag)
  pub further : is_popped_to l tag (popped_to l tag through) ≡ false

-- what an ask makes of a log
pub data LogChange (l : LogState) (a : LogAsk) : LogState → Type 0 where
  -- it stands as it was
  Stands : LogChange l a l
  -- it takes its first seed
  Seeds : (s : SeedContent) → a ≡ Seed s → IsFirst l s → LogChange l a (with_seed l s)
  -- it holds one push more
  Holds : (p : PushContent) → a ≡ Push p → IsNext l p → LogChange l a (with_push l p)
  -- it is stopped
  Stops : a ≡ Lock l.epoch → IsSome l.seed → LogChange l a (with_stop l)
  -- a tag is popped further
  Pops : (tag through : ℕ) → a ≡ Pop l.epoch tag through → IsFurther l tag through → LogChange l a (with_popped l tag (popped_to l tag through))
