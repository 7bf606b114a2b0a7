-- What an ask makes of a log.
use Rattle.std.proofs.Common.{◌≡◌, ℕ, ◌≤◌, Bool, true, false, cond, not, nat_lt, ◌==◌, ◌&&◌, ◌||◌, List, [], ◌∷◌, ◌++◌, Option, None, Some, refl, sym, ◌∙◌, arith}
use Rattle.std.specs.Prelude.{is_none, is_some}
use Rattle.std.proofs.lemmas.Bool.{ltb-false}
use Rattle.fr_log.specs.declared.ask.LogAsk.{LogAsk}
use Rattle.fr_log.specs.declared.ask.LogAsk.TheVariants.{Seed, Push, Lock, Pop}
use Rattle.fr_log.specs.declared.ask.LogRefusal.{LogRefusal}
use Rattle.fr_log.specs.declared.ask.LogRefusal.TheVariants.{WrongEpoch, Unseeded, Stopped, Stale, Gap}
use Rattle.fr_log.specs.Seed.{SeedContent}
use Rattle.fr_log.specs.Push.{PushContent}
use Rattle.fr_log.specs.LogState.{LogState, durable_of, seeded_to_of, is_push_held}
use Rattle.fr_log.specs.Refusal.{refusal_of, push_refusal, new_push_refusal, pop_refusal}
use Rattle.fr_log.specs.Step.{next_of, next_unless, popped_to, is_popped_to, with_popped}
use Rattle.fr_log.specs.declared.popped.PoppedTag.{PoppedTag}
use Rattle.fr_log.specs.Left.{popped_at, raised}

pub passed : (test : Bool) (why : LogRefusal) (later : Option LogRefusal) → cond test (Some why) later ≡ None → (test ≡ false) × (later ≡ None)
passed true why later e = absurd (cc)
passed false why later e = (refl, e)

-- a push that a log takes follows what it holds, and the log is seeded
pub record IsTaken (l : LogState) (p : PushContent) : Type 0 where
  pub seeded : is_none l.seed ≡ false
  pub follows : p.prev ≡ durable_of l

taken : (l : LogState) (p : PushContent) → is_push_held l p ≡ false → push_refusal l p ≡ None → IsTaken l p
taken l p other e =
    let a = passed (not (p.epoch == l.epoch)) WrongEpoch _ e in
    let b = passed (is_none l.seed) Unseeded _ a.1 in
    let n : new_push_refusal l p ≡ None = sym (rw other refl) ∙ b.1 in
    let s = passed l.stopped Stopped _ n in
    let t = passed (nat_lt p.prev (durable_of l) || (is_some p.mark && not (p.prev == seeded_to_of l.seed))) Stale _ s.1 in
    let g = passed (nat_lt (durable_of l) p.prev) (Gap (durable_of l)) _ t.1 in
    let low = ltb-false p.prev (durable_of l) (first (nat_lt p.prev (durable_of l)) _ t.0) in
    let high = ltb-false (durable_of l) p.prev g.0 in
    record { seeded = b.0; follows = omega (arith, low, high) }
  where
    first : (x y : Bool) → (x || y) ≡ false → x ≡ false
    first true y e = absurd (cc)
    first false y e = refl

-- a log stands, takes its seed, takes a push, is stopped, or a tag of it is popped further
pub log_change : (P : LogState → Type 0) (l : LogState) (a : LogAsk) → P l → ((s : SeedContent) → a ≡ Seed s → l.seed ≡ None → P (record l { seed = Some s }))
    → ((p : PushContent) → a ≡ Push p → IsTaken l p → P (record l { pushes = l.pushes ++ p ∷ [] })) → P (record l { stopped = true })
    → ((ps : List PoppedTag) → P (record l { popped = ps })) → P (next_of l a)
log_change P l (Seed s) same seeds pushes stops pops = go (refusal_of l (Seed s)) l.seed refl
  where
    go : (o : Option LogRefusal) (held : Option SeedContent) → l.seed ≡ held → P (next_unless o l (cond (is_some held) l (record l { seed = Some s })))
    go (Some why) held e = same
    go None (Some t) e = same
    go None None e = seeds s refl e
log_change P l (Push p) same seeds pushes stops pops = go (push_refusal l p) refl (is_push_held l p) refl
  where
    go : (o : Option LogRefusal) → push_refusal l p ≡ o → (held : Bool) → is_push_held l p ≡ held → P (next_unless o l (cond held l (record l { pushes = l.pushes ++ p ∷ [] })))
    go (Some why) e held k = same
    go None e true k = same
    go None e false k = pushes p refl (taken l p k e)
log_change P l (Lock epoch) same seeds pushes stops pops = go (refusal_of l (Lock epoch))
  where
    go : (o : Option LogRefusal) → P (next_unless o l (record l { stopped = true }))
    go (Some why) = same
    go None = stops
log_change P l (Pop epoch tag through) same seeds pushes stops pops = go (refusal_of l (Pop epoch tag through)) (is_popped_to l tag (popped_to l tag through))
  where
    go : (o : Option LogRefusal) (held : Bool) → P (next_unless o l (cond held l (with_popped l tag (popped_to l tag through))))
    go (Some why) held = same
    go None true = same
    go None false = pops (raised l.popped tag (popped_to l tag through))
log_change P l a same seeds pushes stops pops = go (refusal_of l a)
  where
    go : (o : Option LogRefusal) → P (next_unless o l l)
    go (Some why) = same
    go None = same

-- what is popped of a log stands but for a pop, which brings a tag no less far than it was
pub popped_change : (P : List PoppedTag → Type 0) (l : LogState) (a : LogAsk) → P l.popped
    → ((epoch tag through : ℕ) → a ≡ Pop epoch tag through → pop_refusal l epoch tag ≡ None → popped_at l.popped tag ≤ popped_to l tag through → P (raised l.popped tag (popped_to l tag through))) → P (next_of l a).popped
popped_change P l (Seed s) same pops = go (refusal_of l (Seed s)) (is_some l.seed)
  where
    go : (o : Option LogRefusal) (held : Bool) → P (next_unless o l (cond held l (record l { seed = Some s }))).popped
    go (Some why) held = same
    go None true = same
    go None false = same
popped_change P l (Push p) same pops = go (push_refusal l p) (is_push_held l p)
  where
    go : (o : Option LogRefusal) (held : Bool) → P (next_unless o l (cond held l (record l { pushes = l.pushes ++ p ∷ [] }))).popped
    go (Some why) held = same
    go None true = same
    go None false = same
popped_change P l (Lock epoch) same pops = go (refusal_of l (Lock epoch))
  where
    go : (o : Option LogRefusal) → P (next_unless o l (record l { stopped = true })).popped
    go (Some why) = same
    go None = same
popped_change P l (Pop epoch tag through) same pops = go (pop_refusal l epoch tag) refl (is_popped_to l tag (popped_to l tag through))
  where
    go : (o : Option LogRefusal) → pop_refusal l epoch tag ≡ o → (held : Bool) → P (next_unless o l (cond held l (with_popped l tag (popped_to l tag through)))).popped
    go (Some why) none held = same
    go None none true = same
    go None none false = pops epoch tag through refl none (omega arith)
popped_change P l a same pops = go (refusal_of l a)
  where
    go : (o : Option LogRefusal) → P (next_unless o l l).popped
    go (Some why) = same
    go None = same
