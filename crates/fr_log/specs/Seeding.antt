-- Asks that change a log, and a seed that grows by one record while a log is read back.
use Rattle.std.specs.Prelude.{ℕ, nat_lt, nat_le, is_some, Bool, true, false, ◌&&◌, not, List, [], ◌∷◌, ◌++◌, Option, None, Some, is_none, if◌then◌else◌}
use Rattle.fr_log.specs.declared.ask.LogAsk.{LogAsk}
use Rattle.fr_log.specs.declared.ask.LogAsk.TheVariants.{Seed, Push, Lock}
use Rattle.fr_log.specs.declared.records.SeedRecord.{SeedRecord}
use Rattle.fr_log.specs.Seed.{SeedContent, is_within, is_rising_from}
use Rattle.fr_log.specs.Push.{PushContent}
use Rattle.fr_log.specs.LogState.{LogState, known_of, holds, is_push_held}
use Rattle.fr_log.specs.declared.popped.PoppedTag.{PoppedTag}
use Rattle.fr_log.specs.Refusal.{seed_refusal, push_refusal, lock_refusal}
use Rattle.fr_log.specs.Left.{popped_of}
use Rattle.fr_log.specs.Step.{lets_go}

-- whether an ask changes a log: a first seed, a push that is not held yet, a first lock and a Pop that comes further
-- do, if they are not refused
abbrev pub changes : LogState → LogAsk → Bool
changes l (Seed s) = is_none (seed_refusal l s) && is_none l.seed
changes l (Push p) = is_none (push_refusal l p) && not (is_push_held l p)
changes l (Lock epoch) = is_none (lock_refusal l epoch) && not l.stopped
changes l a = lets_go l a

-- the seed with one record more
abbrev pub with_record : SeedContent → SeedRecord → SeedContent
with_record s r = record s { records = s.records ++ r ∷ [] }

-- whether a seed is one with this record behind its others
abbrev pub takes_record : SeedContent → SeedRecord → Bool
takes_record s r = is_within s.first s.seeded_to r && is_rising_from 0 0 (with_record s r).records

abbrev pub may_take : Option SeedContent → SeedRecord → Bool
may_take None r = false
may_take (Some s) r = takes_record s r

abbrev pub is_empty : List PushContent → Bool
is_empty [] = true
is_empty (p ∷ ps) = false

abbrev pub is_unpopped : List PoppedTag → Bool
is_unpopped [] = true
is_unpopped (p ∷ ps) = false

-- whether a log takes one record more into its seed: one of its tags, before the first push, before it is locked or popped
abbrev pub takes_seeded : LogState → SeedRecord → Bool
takes_seeded l r = not l.stopped && (is_unpopped l.popped && (is_empty l.pushes && (holds l r.tag && may_take l.seed r)))

abbrev pub more_seeded : Option SeedContent → SeedRecord → Option SeedContent
more_seeded None r = None
more_seeded (Some s) r = Some (with_record s r)

-- the log with one record more in its seed
abbrev pub with_seeded : LogState → SeedRecord → LogState
with_seeded l r = record l { seed = more_seeded l.seed r }

-- the log after one record more is brought: it takes it, or stands
abbrev pub next_seeded : LogState → SeedRecord → LogState
next_seeded l r = if takes_seeded l r then with_seeded l r else l

-- whether a version is further than a tag is popped
abbrev pub is_further : Option ℕ → ℕ → Bool
is_further None version = true
is_further (Some popped) version = nat_lt popped version

-- whether a Pop may have brought a tag to this version: the log is seeded and holds the tag, and the version is known to be committed and
-- further than the tag was popped
abbrev pub may_pop : LogState → ℕ → ℕ → Bool
may_pop l tag version = is_some l.seed && (holds l tag && (nat_le version (known_of l) && is_further (popped_of l.popped tag) version))
