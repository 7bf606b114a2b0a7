-- The records of a log's whole state.
use Rattle.std.specs.Prelude.{◌≡◌, ℕ, zero, suc, Bool, true, false, List, [], ◌∷◌, ◌++◌, map, Option, None, Some}
use Rattle.fr_mutation.specs.declared.mutation.Mutation.{Mutation}
use Rattle.fr_tags.specs.declared.body.Body.{Body}
use Rattle.fr_log.specs.Seed.{SeedContent}
use Rattle.fr_log.specs.Push.{PushContent}
use Rattle.fr_log.specs.Pushes.{batch_at, pushed_batches}
use Rattle.fr_log.specs.declared.popped.PoppedTag.{PoppedTag}
use Rattle.fr_log.specs.LogState.{LogState}
use Rattle.fr_record_node.specs.Replay.{replayed}
use Rattle.fr_record_log.specs.Spelling.{spelled_head, spelled_seeded, spelled_push, spelled_popped}
use Rattle.fr_record_log.specs.LogFile.{fresh_of, replay_log, IsSettledLog}

-- the body of a tag with a batch, if there is one
abbrev pub body_of : ℕ → Option (List Mutation) → List Body
body_of tag None = []
body_of tag (Some batch) = record { tag = tag; batch = batch } ∷ []

-- the bodies of a version of the tags below this one, as they stand in the pushes of a log
unfoldable pub tagged : ℕ → ℕ → List PushContent → List Body
tagged zero version ps = []
tagged (suc n) version ps = tagged n version ps ++ body_of n (batch_at version (pushed_batches n ps))

-- the record of a tag that is popped through a version
abbrev pub spelled_tag : PoppedTag → List ℕ
spelled_tag p = spelled_popped p.tag p.version

-- the record of a lock, if the log was locked
abbrev pub spelled_stop : Bool → List (List ℕ)
spelled_stop false = []
spelled_stop true = (5 ∷ []) ∷ []

-- what stands behind the seed: the mark and the other pushes in order, each with the bodies that are left, then how far
-- each tag is popped, and the lock last
abbrev pub spelled_behind : LogState → List (List ℕ)
spelled_behind l = map spelled_push l.pushes ++ (map spelled_tag l.popped ++ spelled_stop l.stopped)

-- a log without a seed was never asked anything that changed it
abbrev pub spelled_from : Option SeedContent → LogState → List (List ℕ)
spelled_from None l = []
spelled_from (Some s) l = spelled_head l s ∷ (map spelled_seeded s.records ++ spelled_behind l)

-- the records of a log's whole state: those of its seed, with the records that are left of it, and of what stands
-- behind the seed
abbrev pub spelled_log : LogState → List (List ℕ)
spelled_log l = spelled_from l.seed l

-- they lead a log that was never asked to exactly this one
abbrev pub SpelledLogIsRead : Type 0
SpelledLogIsRead = (l : LogState) → IsSettledLog l → replayed replay_log (Some (fresh_of l)) (spelled_log l) ≡ Some l
