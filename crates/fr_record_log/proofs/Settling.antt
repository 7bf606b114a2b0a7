-- That an ask leaves a log within its limits, which keeps nothing of what it lets go.
use Rattle.std.proofs.Common.{◌≡◌, ℕ, ◌<◌, Bool, true, false, List, [], ◌∷◌, map, All, Option, Some, None, cond, refl, sym, ap, ◌∙◌, subst, arith}
use Rattle.std.specs.Prelude.{◌^◌, ◌==◌, not, nat_lt, IfSome}
use Rattle.std.proofs.lemmas.Bool.{and_parts}
use Rattle.std.specs.Option.{option_map}
use Rattle.std.proofs.lemmas.List.Elements.{All-nil, All-cons, All-head, All-tail, All-push, All-filter}
use Rattle.fr_log.specs.declared.records.SeedRecord.{SeedRecord}
use Rattle.fr_log.specs.declared.popped.PoppedTag.{PoppedTag}
use Rattle.fr_log.specs.declared.ask.LogAsk.{LogAsk}
use Rattle.fr_log.specs.declared.ask.LogAsk.TheVariants.{Seed, Push, Pop}
use Rattle.fr_log.specs.Seed.{SeedContent}
use Rattle.fr_log.specs.Push.{PushContent}
use Rattle.fr_log.specs.Left.{popped_at, raised, is_left, left_seed, left_push}
use Rattle.fr_log.specs.LogState.{LogState, fresh_log, swept, known_of}
use Rattle.fr_log.specs.Step.{next_of, after_ask, lets_go, popped_to, with_popped}
use Rattle.fr_log.specs.Seeding.{is_unpopped, takes_seeded, more_seeded, with_seeded}
use Rattle.fr_log.specs.SweptLaws.{known_same}
use Rattle.fr_log.specs.Change.{LogChange, Stands, Seeds, Holds, Stops, Pops}
use Rattle.fr_log.specs.Law.{IsLogAsk, AskLeavesLog, AskIsChange, FirstSeedSets, PushAdds, PoppedIsKnown, LetsGoIsSwept, SweptIsLog, SweptTwice, UnpoppedIsSwept}
use Rattle.fr_record_log.specs.Limits.{IsSoundRecord, IsSoundBody, IsSoundSeed, IsSoundPush, IsSoundAsk, IsWithinSeed, IsWithinPush, IsWithinLog}
use Rattle.fr_record_log.specs.LogFile.{IsSoundLog, IsSettledLog}
use Rattle.fr_record_log.specs.LogFileLaws.{picked, next_same}

-- the laws of logs that serve here
pub record LogLaws : Type 0 where
  pub leaves : AskLeavesLog
  pub change : AskIsChange
  pub seeded : FirstSeedSets
  pub more : PushAdds
  pub popped : PoppedIsKnown
  pub later : LetsGoIsSwept
  pub swept_log : SweptIsLog
  pub twice : SweptTwice

log_ask : (a : LogAsk) → IsSoundAsk a → IsLogAsk a
log_ask (Seed s) h = h.seed
log_ask (Push p) h = h.push
log_ask a h = tt

swept_epoch : (l : LogState) → l.epoch < 2 ^ 48 → (swept l).epoch < 2 ^ 48
unfolding swept
swept_epoch l low = low

swept_sound : LogLaws → (l : LogState) → IsSoundLog l → IsSoundLog (swept l)
swept_sound laws l h = record { epoch = swept_epoch l h.epoch; known = subst (λ v. v < 2 ^ 62) (sym (known_same l)) h.known; log = laws.swept_log l h.log }

-- ---- limits of the parts of a log

within_seed : (s : SeedContent) → IsSoundSeed s → IsWithinSeed s
within_seed s h = record { first = h.first; seeded_to = h.seeded_to; records = h.records }

within_push : (p : PushContent) → IsSoundPush p → IsWithinPush p
within_push p h = record { version = h.version; bodies = h.bodies; mark = h.mark }

-- what is left of a seed
seed_left : (ps : List PoppedTag) (o : Option SeedContent) → IfSome o IsWithinSeed → IfSome (option_map (left_seed ps) o) IsWithinSeed
seed_left ps None h = h
seed_left ps (Some s) h = record { first = h.first; seeded_to = h.seeded_to; records = All-filter (is_left ps) IsSoundRecord s.records h.records }

-- what is left of pushes
pushes_left : (ps : List PoppedTag) (xs : List PushContent) → All IsWithinPush xs → All IsWithinPush (map (left_push ps) xs)
pushes_left ps [] h = All-nil IsWithinPush
pushes_left ps (x ∷ xs) h =
    let here = All-head IsWithinPush x xs h in
    let left : IsWithinPush (left_push ps x) = record { version = here.version; bodies = All-filter (λ b. nat_lt (popped_at ps b.tag) x.version) IsSoundBody x.bodies here.bodies; mark = here.mark } in
    All-cons IsWithinPush (left_push ps x) (map (left_push ps) xs) left (pushes_left ps xs (All-tail IsWithinPush x xs h))

pub within_swept : (l : LogState) → IsWithinLog l → IsWithinLog (swept l)
unfolding swept
within_swept l h = record { seed = seed_left l.popped l.seed h.seed; pushes = pushes_left l.popped l.pushes h.pushes; tags = h.tags }

raised_low : (ps : List PoppedTag) (tag v : ℕ) → tag < 32 → All (λ (p : PoppedTag). p.tag < 32) ps → All (λ (p : PoppedTag). p.tag < 32) (raised ps tag v)
raised_low [] tag v low h = All-cons (λ (p : PoppedTag). p.tag < 32) (record { tag = tag; version = v }) [] low h
raised_low (p ∷ ps) tag v low h = go (nat_lt tag p.tag) (p.tag == tag) (raised_low ps tag v low rest)
  where
    rest : All (λ (q : PoppedTag). q.tag < 32) ps
    rest = All-tail (λ (q : PoppedTag). q.tag < 32) p ps h

    new : PoppedTag
    new = record { tag = tag; version = v }

    go : (a b : Bool) → All (λ (q : PoppedTag). q.tag < 32) (raised ps tag v) → All (λ (q : PoppedTag). q.tag < 32) (cond a (new ∷ p ∷ ps) (cond b (new ∷ ps) (p ∷ raised ps tag v)))
    go true b later = All-cons (λ (q : PoppedTag). q.tag < 32) new (p ∷ ps) low h
    go false true later = All-cons (λ (q : PoppedTag). q.tag < 32) new ps low rest
    go false false later = All-cons (λ (q : PoppedTag). q.tag < 32) p (raised ps tag v) (All-head (λ (q : PoppedTag). q.tag < 32) p ps h) later

pub within_popped : (l : LogState) (tag v : ℕ) → tag < 32 → IsWithinLog l → IsWithinLog (with_popped l tag v)
within_popped l tag v low h = record { seed = h.seed; pushes = h.pushes; tags = raised_low l.popped tag v low h.tags }

pub within_seeded : (l : LogState) (r : SeedRecord) → IsSoundRecord r → IsWithinLog l → IsWithinLog (with_seeded l r)
within_seeded l r sound h = record { seed = go l.seed h.seed; pushes = h.pushes; tags = h.tags }
  where
    go : (o : Option SeedContent) → IfSome o IsWithinSeed → IfSome (more_seeded o r) IsWithinSeed
    go None h = h
    go (Some s) h = record { first = h.first; seeded_to = h.seeded_to; records = All-push IsSoundRecord s.records r h.records sound }

within_next : (l : LogState) (a : LogAsk) (n : LogState) → IsSoundAsk a → LogChange l a n → IsWithinLog l → IsWithinLog n
within_next l a n sound Stands h = h
within_next l a n sound (Seeds s at first) h = record { seed = within_seed s (subst IsSoundAsk at sound); pushes = h.pushes; tags = h.tags }
within_next l a n sound (Holds p at next) h = record { seed = h.seed; pushes = All-push IsWithinPush l.pushes p h.pushes (within_push p (subst IsSoundAsk at sound)); tags = h.tags }
within_next l a n sound (Stops at some) h = record { seed = h.seed; pushes = h.pushes; tags = h.tags }
within_next l a n sound (Pops tag through at further) h =
    let low : IsSoundAsk (Pop l.epoch tag through) = subst IsSoundAsk at sound in
    within_popped l tag (popped_to l tag through) low.0 h

-- an ask leaves a log whose parts are within their limits
pub within_after : AskIsChange → (l : LogState) (a : LogAsk) → IsSoundAsk a → IsWithinLog l → IsWithinLog (after_ask l a)
within_after change l a sound h =
    let next = within_next l a (next_of l a) sound (change l a) h in
    picked_within (lets_go l a) (swept (next_of l a)) (next_of l a) (within_swept (next_of l a) next) next
  where
    picked_within : (b : Bool) (x y : LogState) → IsWithinLog x → IsWithinLog y → IsWithinLog (cond b x y)
    picked_within b x y p q = picked IsWithinLog b x y p q

module _ (laws : LogLaws) (l : LogState) (a : LogAsk) (within : IsSoundAsk a) where
  known_next : (n : LogState) → LogChange l a n → IsSoundLog l → known_of n < 2 ^ 62
  known_next n Stands h = h.known
  known_next n (Seeds s at first) h =
      let k = (laws.seeded l s (h.log.unseeded first.unseeded)).known in
      let low = (subst IsSoundAsk at within).first in
      omega (arith, k, low)
  known_next n (Holds p at next) h =
      let k = (laws.more l p).known in
      let low = (subst IsSoundAsk at within).known in
      let was = h.known in
      omega (arith, k, low, was)
  known_next n (Stops at some) h = h.known
  known_next n (Pops tag through at further) h = h.known

  next_sound : IsSoundLog l → IsSoundLog (next_of l a)
  next_sound h = record {
    epoch = subst (λ f. f.epoch < 2 ^ 48) (sym (next_same l a)) h.epoch;
    known = known_next (next_of l a) (laws.change l a) h;
    log = laws.leaves l a h.log (log_ask a within);
  }

  -- an ask leaves a log within its limits
  pub sound_after : IsSoundLog l → IsSoundLog (after_ask l a)
  sound_after h = picked IsSoundLog (lets_go l a) (swept (next_of l a)) (next_of l a) (swept_sound laws (next_of l a) (next_sound h)) (next_sound h)

  -- what it lets go may go later
  pub goes_later : IsSettledLog l → after_ask l a ≡ swept (next_of l a)
  goes_later h = laws.later l a h.sound.log (log_ask a within) h.settled

  -- and then nothing more goes
  pub settled_after : IsSettledLog l → IsSettledLog (after_ask l a)
  settled_after h = record {
    sound = sound_after h.sound;
    settled = ap swept (goes_later h) ∙ laws.twice (next_of l a) ∙ sym (goes_later h);
    within = within_after laws.change l a within h.within;
  }

-- ---- what the functions that read records need of the laws

-- what lets go all there is to let go is settled
pub settled_by : SweptTwice → (l n : LogState) → IsSoundLog n → IsWithinLog l → n ≡ swept l → IsSettledLog n
settled_by twice l n sound within at = record { sound = sound; settled = ap swept at ∙ twice l ∙ sym at; within = subst IsWithinLog (sym at) (within_swept l within) }

-- so is what an ask leaves
pub settled_asked : SweptTwice → LetsGoIsSwept → AskIsChange → (l : LogState) (a : LogAsk) (n : LogState) → IsSoundAsk a → IsSettledLog l → IsSoundLog n → n ≡ after_ask l a → IsSettledLog n
settled_asked twice later change l a n within settled sound at =
    let goes = at ∙ later l a settled.sound.log (log_ask a within) settled.settled in
    record { sound = sound; settled = ap swept goes ∙ twice (next_of l a) ∙ sym goes; within = subst IsWithinLog (sym at) (within_after change l a within settled.within) }

nothing_popped : (ps : List PoppedTag) → is_unpopped ps ≡ true → ps ≡ []
nothing_popped [] e = refl
nothing_popped (p ∷ ps) e = absurd (cc)

-- so is one that took a record more into its seed: nothing of it is popped
pub settled_seeded : UnpoppedIsSwept → (l : LogState) (r : SeedRecord) (n : LogState) → IsSoundRecord r → IsSettledLog l → IsSoundLog n → takes_seeded l r ≡ true → n ≡ with_seeded l r → IsSettledLog n
settled_seeded unpopped l r n within h sound takes at =
    let a = and_parts (not l.stopped) _ takes in
    let b = and_parts (is_unpopped l.popped) _ a.1 in
    let none : n.popped ≡ [] = ap (λ (x : LogState). x.popped) at ∙ nothing_popped l.popped b.0 in
    record { sound = sound; settled = unpopped n sound.log none; within = subst IsWithinLog (sym at) (within_seeded l r within h.within) }

-- and one that was never asked
pub settled_fresh : UnpoppedIsSwept → (epoch index m k : ℕ) (n : LogState) → IsSoundLog n → n ≡ fresh_log epoch index m k → IsSettledLog n
settled_fresh unpopped epoch index m k n sound at =
    let within : IsWithinLog (fresh_log epoch index m k) = record { seed = tt; pushes = All-nil IsWithinPush; tags = All-nil (λ (p : PoppedTag). p.tag < 32) } in
    record { sound = sound; settled = unpopped n sound.log (ap (λ (x : LogState). x.popped) at); within = subst IsWithinLog (sym at) within }
