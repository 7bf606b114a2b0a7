-- What a tell says of the ask that it answers and of the log that gave it.
use Rattle.std.specs.Prelude.{◌≡◌, ℕ, ◌-◌, ◌≤◌, List, None, Some, IsTrue, IsSome}
use Rattle.fr_state.specs.Generations.{CoordinatedState}
use Rattle.fr_log.specs.declared.ask.LogAsk.{LogAsk}
use Rattle.fr_log.specs.declared.ask.LogAsk.TheVariants.{Seed, Push, Lock, Peek, MarkAsked, Pop}
use Rattle.fr_log.specs.declared.ask.LogTell.{LogTell}
use Rattle.fr_log.specs.declared.ask.LogTell.TheVariants.{Seeded, Held, Locked, Peeked, Marked, Popped, Refused}
use Rattle.fr_log.specs.Seed.{SeedContent}
use Rattle.fr_log.specs.Push.{PushContent}
use Rattle.fr_log.specs.Peeked.{PeekedContent}
use Rattle.fr_log.specs.LogState.{LogState, first_of, durable_of, known_of, holds, is_push_held, mark_among}
use Rattle.fr_log.specs.Refusal.{refusal_of}
use Rattle.fr_log.specs.declared.popped.PoppedTag.{PoppedTag}
use Rattle.fr_log.specs.Left.{popped_of, popped_at, left_seed}
use Rattle.std.specs.Option.{option_map}
use Rattle.fr_log.specs.Step.{next_of, peek_of, popped_to}

-- Seeded answers a seed, which the log then has, but for what is popped
pub record IsSeededAnswer (l : LogState) (a : LogAsk) : Type 0 where
  pub seed : SeedContent
  pub ask : a ≡ Seed seed
  pub granted : refusal_of l a ≡ None
  pub epoch : seed.epoch ≡ l.epoch
  pub after : option_map (left_seed (next_of l a).popped) (next_of l a).seed ≡ Some (left_seed (next_of l a).popped seed)

-- Held answers a push of that version, which the log then holds
pub record IsHeldAnswer (l : LogState) (a : LogAsk) (version : ℕ) : Type 0 where
  pub push : PushContent
  pub ask : a ≡ Push push
  pub granted : refusal_of l a ≡ None
  pub epoch : push.epoch ≡ l.epoch
  pub seeded : IsSome l.seed
  pub version_is : version ≡ push.version
  pub after : IsTrue (is_push_held (next_of l a) push)

-- Locked answers a lock, with how far the log has come and how far its tags are popped; it is then stopped
pub record IsLockedAnswer (l : LogState) (a : LogAsk) (durable known : ℕ) (popped : List PoppedTag) : Type 0 where
  pub ask : a ≡ Lock l.epoch
  pub granted : refusal_of l a ≡ None
  pub seeded : IsSome l.seed
  pub durable_is : durable ≡ durable_of l
  pub known_is : known ≡ known_of l
  pub popped_is : popped ≡ l.popped
  pub after : IsTrue (next_of l a).stopped

-- Peeked answers a peek of a tag that the log holds, above no version that its epoch does not have, and above what is popped
pub record IsPeekedAnswer (l : LogState) (a : LogAsk) (p : PeekedContent) : Type 0 where
  pub tag : ℕ
  pub after : ℕ
  pub most : ℕ
  pub ask : a ≡ Peek l.epoch tag after most
  pub granted : refusal_of l a ≡ None
  pub seeded : IsSome l.seed
  pub held : IsTrue (holds l tag)
  pub early : first_of l.seed - 1 ≤ after
  pub unpopped : popped_at l.popped tag ≤ after
  pub value : p ≡ peek_of l tag after most

-- Marked answers one who asks for the mark, with the state of the mark that the log holds
pub record IsMarkedAnswer (l : LogState) (a : LogAsk) (state : CoordinatedState) : Type 0 where
  pub ask : a ≡ MarkAsked l.epoch
  pub granted : refusal_of l a ≡ None
  pub seeded : IsSome l.seed
  pub mark : mark_among l.pushes ≡ Some state

-- Popped answers a Pop of a tag that the log holds, with the version through which the tag is then popped
pub record IsPoppedAnswer (l : LogState) (a : LogAsk) (version : ℕ) : Type 0 where
  pub tag : ℕ
  pub through : ℕ
  pub ask : a ≡ Pop l.epoch tag through
  pub granted : refusal_of l a ≡ None
  pub seeded : IsSome l.seed
  pub held : IsTrue (holds l tag)
  pub value : version ≡ popped_to l tag through
  pub after : popped_of (next_of l a).popped tag ≡ Some version

-- what a tell says
abbrev pub IsAnswer : LogState → LogAsk → LogTell → Type 0
IsAnswer l a Seeded = IsSeededAnswer l a
IsAnswer l a (Held version) = IsHeldAnswer l a version
IsAnswer l a (Locked durable known popped) = IsLockedAnswer l a durable known popped
IsAnswer l a (Peeked p) = IsPeekedAnswer l a p
IsAnswer l a (Marked state) = IsMarkedAnswer l a state
IsAnswer l a (Popped version) = IsPoppedAnswer l a version
IsAnswer l a (Refused why) = refusal_of l a ≡ Some why
