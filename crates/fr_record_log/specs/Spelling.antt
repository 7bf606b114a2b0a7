-- The bytes of the records of a log. The first byte of a record says what it is; numbers stand with their most significant byte first.
use Rattle.std.specs.Prelude.{ℕ, List, [], ◌∷◌, ◌++◌, length, map, Option, None, Some, if◌then◌else◌}
use Rattle.std.specs.List.{flat_map}
use Rattle.std.specs.Int.{w32, w64, to_be_bytes}
use Rattle.fr_mutation.specs.CodecSpelling.{spelled}
use Rattle.fr_tags.specs.declared.body.Body.{Body}
use Rattle.fr_state.specs.Generations.{CoordinatedState}
use Rattle.fr_state.specs.Spelling.{spelling}
use Rattle.fr_log.specs.declared.records.SeedRecord.{SeedRecord}
use Rattle.fr_log.specs.declared.ask.LogAsk.{LogAsk}
use Rattle.fr_log.specs.declared.ask.LogAsk.TheVariants.{Seed, Push, Lock, Pop}
use Rattle.fr_log.specs.Seed.{SeedContent}
use Rattle.fr_log.specs.Push.{PushContent}
use Rattle.fr_log.specs.LogState.{LogState}
use Rattle.fr_log.specs.Step.{popped_to}
use Rattle.fr_log.specs.Seeding.{changes}

-- 01, a seed but for its records: its epoch (8), the log's number (1), m (1), k (1), first (8), seeded_to (8)
unfoldable pub spelled_head : LogState → SeedContent → List ℕ
spelled_head l s = 1 ∷ (to_be_bytes w64 s.epoch ++ (l.index ∷ l.m ∷ l.k ∷ (to_be_bytes w64 s.first ++ to_be_bytes w64 s.seeded_to)))

-- 02, a record of a seed: its version (8), its tag (1), its batch
unfoldable pub spelled_seeded : SeedRecord → List ℕ
spelled_seeded r = 2 ∷ (to_be_bytes w64 r.version ++ (r.tag ∷ spelled r.batch))

-- 06, a tag that is popped: its number (1), the version through which it is (8)
unfoldable pub spelled_popped : ℕ → ℕ → List ℕ
spelled_popped tag version = 6 ∷ tag ∷ to_be_bytes w64 version

-- a body: its tag (1), how many bytes its batch has (4), and these
unfoldable pub spelled_body : Body → List ℕ
spelled_body b = b.tag ∷ (to_be_bytes w32 (length (spelled b.batch)) ++ spelled b.batch)

-- the numbers of a push: prev (8), version (8), known (8)
unfoldable pub spelled_numbers : PushContent → List ℕ
spelled_numbers p = to_be_bytes w64 p.prev ++ (to_be_bytes w64 p.version ++ to_be_bytes w64 p.known)

-- the bodies of a push: how many there are (1), and one after the other
unfoldable pub spelled_bodies : List Body → List ℕ
spelled_bodies bodies = length bodies ∷ flat_map spelled_body bodies

-- 03, a push and its bodies; or 04, a mark and its state
abbrev pub spelled_as : Option CoordinatedState → PushContent → List ℕ
spelled_as None p = 3 ∷ (spelled_numbers p ++ spelled_bodies p.bodies)
spelled_as (Some state) p = 4 ∷ (spelled_numbers p ++ spelling state)

abbrev pub spelled_push : PushContent → List ℕ
spelled_push p = spelled_as p.mark p

-- the records of an ask that changes a log. Of a first seed there is one, and one for each of its records; of a push
-- one; of a lock 05. Of a pop there is one, with the version through which its tag is then popped
abbrev pub spelled_ask : LogState → LogAsk → List (List ℕ)
spelled_ask l (Seed s) = spelled_head l s ∷ map spelled_seeded s.records
spelled_ask l (Push p) = spelled_push p ∷ []
spelled_ask l (Lock epoch) = (5 ∷ []) ∷ []
spelled_ask l (Pop epoch tag through) = spelled_popped tag (popped_to l tag through) ∷ []
spelled_ask l a = []

-- the records of an ask: none if it changes nothing
abbrev pub written_log : LogState → LogAsk → List (List ℕ)
written_log l a = if changes l a then spelled_ask l a else []
