-- Asks of a log, and logs, whose numbers are within their limits.
use Rattle.std.specs.Prelude.{◌≡◌, ◌<◌, ◌≤◌, ◌^◌, None, IfSome, All, length}
use Rattle.fr_mutation.specs.Limits.{batch_fault}
use Rattle.fr_tags.specs.declared.body.Body.{Body}
use Rattle.fr_state.specs.Generations.{IsCoordinatedState}
use Rattle.fr_log.specs.declared.records.SeedRecord.{SeedRecord}
use Rattle.fr_log.specs.declared.ask.LogAsk.{LogAsk}
use Rattle.fr_log.specs.declared.ask.LogAsk.TheVariants.{Seed, Push, Pop}
use Rattle.fr_log.specs.Seed.{SeedContent, IsSeed}
use Rattle.fr_log.specs.Push.{PushContent, IsPush}
use Rattle.fr_log.specs.LogState.{LogState}

pub record IsSoundRecord (r : SeedRecord) : Type 0 where
  pub version : r.version < 2 ^ 62
  pub tag : r.tag < 32
  pub batch : batch_fault r.batch ≡ None

pub record IsSoundBody (b : Body) : Type 0 where
  pub tag : b.tag < 32
  pub batch : batch_fault b.batch ≡ None

pub record IsSoundSeed (s : SeedContent) : Type 0 where
  pub epoch : s.epoch < 2 ^ 48
  pub first : s.first < 2 ^ 62
  pub seeded_to : s.seeded_to < 2 ^ 62
  pub seed : IsSeed s
  pub records : All IsSoundRecord s.records

pub record IsSoundPush (p : PushContent) : Type 0 where
  pub prev : p.prev < 2 ^ 62
  pub version : p.version < 2 ^ 62
  pub known : p.known < 2 ^ 62
  pub push : IsPush p
  pub bodies : All IsSoundBody p.bodies
  pub few : length p.bodies ≤ 32
  pub mark : IfSome p.mark IsCoordinatedState

abbrev pub IsSoundAsk : LogAsk → Type 0
IsSoundAsk (Seed s) = IsSoundSeed s
IsSoundAsk (Push p) = IsSoundPush p
IsSoundAsk (Pop epoch tag through) = (tag < 32) × (through < 2 ^ 62)
IsSoundAsk a = Unit {0}

-- what the type of a seed says of it beside IsSeed
pub record IsWithinSeed (s : SeedContent) : Type 0 where
  pub first : s.first < 2 ^ 62
  pub seeded_to : s.seeded_to < 2 ^ 62
  pub records : All IsSoundRecord s.records

-- what the type of a push says of it beside IsPush
pub record IsWithinPush (p : PushContent) : Type 0 where
  pub version : p.version < 2 ^ 62
  pub bodies : All IsSoundBody p.bodies
  pub mark : IfSome p.mark IsCoordinatedState

-- what the types of a log's parts say of them beside IsLog
pub record IsWithinLog (l : LogState) : Type 0 where
  pub seed : IfSome l.seed IsWithinSeed
  pub pushes : All IsWithinPush l.pushes
  pub tags : All (λ p. p.tag < 32) l.popped
