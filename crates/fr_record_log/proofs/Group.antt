-- The records of an ask lead a log where the ask does.
use Rattle.std.proofs.Common.{◌≡◌, ℕ, ◌+◌, ◌<◌, ◌≤◌, Bool, true, false, List, [], ◌∷◌, ◌++◌, map, All, Option, Some, None, refl, sym, ap, ◌∙◌, append_assoc, cond, arith, inl, inr}
use Rattle.std.specs.Prelude.{◌^◌, ◌==◌, ◌&&◌, ◌||◌, not, nat_lt, nat_le, is_none, is_some, unwrap_or}
use Rattle.std.specs.Option.{option_map_or}
use Rattle.std.specs.List.{list_all}
use Rattle.std.proofs.lemmas.Bool.{and_parts, not-true, cases_lt, eqb-true, eqb-false, eq-eqb, lt-ltb, le-leb}
use Rattle.std.proofs.lemmas.List.{append-nil}
use Rattle.std.proofs.lemmas.List.Sums.{fold-append}
use Rattle.std.proofs.lemmas.List.Elements.{All-head, All-tail}
use Rattle.fr_mutation.specs.Law.{SpellingIsRead}
use Rattle.fr_state.specs.Laws.{SpelledIsRead}
use Rattle.fr_log.specs.declared.records.SeedRecord.{SeedRecord}
use Rattle.fr_log.specs.declared.ask.LogAsk.{LogAsk}
use Rattle.fr_log.specs.declared.ask.LogAsk.TheVariants.{Seed, Push, Lock, Pop}
use Rattle.fr_log.specs.declared.ask.LogRefusal.{LogRefusal}
use Rattle.fr_log.specs.declared.ask.LogRefusal.TheVariants.{WrongEpoch, Unseeded, NotMine}
use Rattle.fr_log.specs.Seed.{SeedContent, is_within, is_rising_from}
use Rattle.fr_log.specs.Push.{PushContent}
use Rattle.fr_log.specs.LogState.{LogState, swept, known_of, holds, is_push_held}
use Rattle.fr_log.specs.Refusal.{refusal_of, seed_refusal, push_refusal, lock_refusal, pop_refusal}
use Rattle.fr_log.specs.Left.{popped_of, popped_at}
use Rattle.fr_log.specs.Step.{next_of, next_unless, granted_next, after_ask, popped_to, is_popped_to, with_popped}
use Rattle.fr_log.specs.Seeding.{changes, takes_seeded, is_further, may_pop}
use Rattle.fr_record_node.specs.Replay.{replayed, next_replayed}
use Rattle.fr_record_log.specs.Law.{written_all, AskIsFileAsk, RunIsRead}
use Rattle.fr_record_log.specs.declared.change.Change.TheVariants.{Asked}
use Rattle.fr_record_log.specs.Limits.{IsSoundRecord, IsSoundSeed, IsSoundPush, IsSoundAsk}
use Rattle.fr_record_log.specs.Spelling.{spelled_head, spelled_seeded, spelled_ask, written_log}
use Rattle.fr_record_log.specs.Reading.{◌>>=◌}
use Rattle.fr_record_log.specs.LogFile.{taken, replay_log, IsSoundLog, LeadsBack}
use Rattle.fr_record_log.proofs.Records.{without_records, push_is_read, record_is_read, head_is_read, lock_is_read, popped_is_read}
use Rattle.fr_record_log.proofs.Settling.{LogLaws, sound_after, goes_later, settled_after}

guard_none : (b : Bool) (why : LogRefusal) (o : Option LogRefusal) → cond b (Some why) o ≡ None → (b ≡ false) × (o ≡ None)
guard_none true why o e = absurd (cc e)
guard_none false why o e = (refl, e)

pub none_is : {A : Type 0} (o : Option A) → is_none o ≡ true → o ≡ None
none_is None e = refl
none_is (Some x) e = absurd (cc e)

open_is : (b : Bool) → not b ≡ false → b ≡ true
open_is true e = refl
open_is false e = absurd (cc e)

-- ---- what a granted ask says

module _ (l : LogState) where
  pub seed_granted : (s : SeedContent) → seed_refusal l s ≡ None → (s.epoch ≡ l.epoch) × (list_all (λ r. holds l r.tag) s.records ≡ true)
  seed_granted s e =
      let a = guard_none (not (s.epoch == l.epoch)) WrongEpoch _ e in
      let b = guard_none (not (list_all (λ r. holds l r.tag) s.records)) NotMine _ a.1 in
      (eqb-true _ _ (open_is _ a.0), open_is _ b.0)

  push_granted : (p : PushContent) → push_refusal l p ≡ None → p.epoch ≡ l.epoch
  push_granted p e = let a = guard_none (not (p.epoch == l.epoch)) WrongEpoch _ e in eqb-true _ _ (open_is _ a.0)

  lock_granted : (epoch : ℕ) → lock_refusal l epoch ≡ None → epoch ≡ l.epoch
  lock_granted epoch e = let a = guard_none (not (epoch == l.epoch)) WrongEpoch _ e in eqb-true _ _ (open_is _ a.0)

  -- a seed without records is granted by a log that has none, too
  head_granted : (s : SeedContent) → s.epoch ≡ l.epoch → l.seed ≡ None → seed_refusal l (without_records s) ≡ None
  head_granted s own none = rw (eq-eqb s.epoch l.epoch own, none) refl

-- ---- asks that change nothing

stands : (l : LogState) (a : LogAsk) → changes l a ≡ false → after_ask l a ≡ l
stands l (Seed s) e = go (seed_refusal l s) refl
  where
    kept : (o : Option SeedContent) → l.seed ≡ o → is_none o ≡ false → cond (is_some l.seed) l (record l { seed = Some s }) ≡ l
    kept None is shut = absurd (cc shut)
    kept (Some t) is shut = rw is refl

    go : (o : Option LogRefusal) → seed_refusal l s ≡ o → next_unless o l (granted_next l (Seed s)) ≡ l
    go None is = kept l.seed refl (sym (rw is refl) ∙ e)
    go (Some why) is = refl
stands l (Push p) e = go (push_refusal l p) refl
  where
    go : (o : Option LogRefusal) → push_refusal l p ≡ o → next_unless o l (granted_next l (Push p)) ≡ l
    go None is =
        let no : not (is_push_held l p) ≡ false = sym (rw is refl) ∙ e in
        rw (open_is (is_push_held l p) no) refl
    go (Some why) is = refl
stands l (Lock epoch) e = go (lock_refusal l epoch) refl
  where
    go : (o : Option LogRefusal) → lock_refusal l epoch ≡ o → next_unless o l (granted_next l (Lock epoch)) ≡ l
    go None is =
        let no : not l.stopped ≡ false = sym (rw is refl) ∙ e in
        ap (λ b. record l { stopped = b }) (sym (open_is l.stopped no))
    go (Some why) is = refl
stands l (Pop epoch tag through) e = ap (λ b. cond b (swept (next_of l a)) (next_of l a)) e ∙ go (pop_refusal l epoch tag) refl
  where
    a : LogAsk
    a = Pop epoch tag through

    v : ℕ
    v = popped_to l tag through

    go : (o : Option LogRefusal) → pop_refusal l epoch tag ≡ o → next_of l a ≡ l
    go None is =
        let no : not (is_popped_to l tag v) ≡ false = sym (ap (λ o. is_none o && not (is_popped_to l tag v)) is) ∙ e in
        ap (λ o. next_unless o l (granted_next l a)) is ∙ ap (λ b. cond b l (with_popped l tag v)) (open_is (is_popped_to l tag v) no)
    go (Some why) is = ap (λ o. next_unless o l (granted_next l a)) is
stands l a e = go (refusal_of l a)
  where
    go : (o : Option LogRefusal) → next_unless o l l ≡ l
    go None = refl
    go (Some why) = refl

-- ---- the records of a seed, one after the other

rising_front : (version tag : ℕ) (a b : List SeedRecord) → is_rising_from version tag (a ++ b) ≡ true → is_rising_from version tag a ≡ true
rising_front version tag [] b e = refl
rising_front version tag (r ∷ a) b e =
    let parts = and_parts (nat_lt version r.version || (version == r.version) && nat_le tag r.tag) (is_rising_from r.version (r.tag + 1) (a ++ b)) e in
    rw (parts.0, rising_front r.version (r.tag + 1) a b parts.1) refl

-- a log with the first of a seed's records
abbrev with_front : LogState → SeedContent → List SeedRecord → LogState
with_front l s front = record l { seed = Some (record s { records = front }) }

module _ (is_read : SpellingIsRead) (l : LogState) (s : SeedContent) (running : l.stopped ≡ false) (unpushed : l.pushes ≡ []) (unpopped : l.popped ≡ []) where
  one_record : (front : List SeedRecord) (r : SeedRecord) → holds l r.tag ≡ true → is_within s.first s.seeded_to r ≡ true → is_rising_from 0 0 (front ++ r ∷ []) ≡ true → IsSoundRecord r
      → replay_log (with_front l s front) (spelled_seeded r) ≡ Some (with_front l s (front ++ r ∷ []))
  one_record front r held within rising sound =
      let takes : takes_seeded (with_front l s front) r ≡ true = rw (running, unpopped, unpushed, held, within, rising) refl in
      rw (record_is_read is_read (with_front l s front) r sound, takes) refl

  records_lead : (front more : List SeedRecord) → list_all (λ r. holds l r.tag) more ≡ true → list_all (is_within s.first s.seeded_to) more ≡ true → is_rising_from 0 0 (front ++ more) ≡ true → All IsSoundRecord more
      → replayed replay_log (Some (with_front l s front)) (map spelled_seeded more) ≡ Some (with_front l s (front ++ more))
  records_lead front [] held within rising sound = ap (λ rs. Some (with_front l s rs)) (sym (append-nil front))
  records_lead front (r ∷ rs) held within rising sound =
      let h = and_parts (holds l r.tag) (list_all (λ x. holds l x.tag) rs) held in
      let w = and_parts (is_within s.first s.seeded_to r) (list_all (is_within s.first s.seeded_to) rs) within in
      let joined : (front ++ r ∷ []) ++ rs ≡ front ++ r ∷ rs = append_assoc front (r ∷ []) rs in
      let rises : is_rising_from 0 0 ((front ++ r ∷ []) ++ rs) ≡ true = ap (is_rising_from 0 0) joined ∙ rising in
      let here = one_record front r h.0 w.0 (rising_front 0 0 (front ++ r ∷ []) rs rises) (All-head IsSoundRecord r rs sound) in
      ap (λ o. replayed replay_log o (map spelled_seeded rs)) here ∙ records_lead (front ++ r ∷ []) rs h.1 w.1 rises (All-tail IsSoundRecord r rs sound) ∙ ap (λ x. Some (with_front l s x)) joined

-- ---- all asks

-- a pop that changes a log may be read
record IsPopped (l : LogState) (tag version : ℕ) : Type 0 where
  pub may : may_pop l tag version ≡ true
  pub low : version < 2 ^ 62

at_most : (p w : ℕ) → p ≤ w → (p ≡ w → ⊥) → p < w
at_most p w le apart = elim (cases_lt p w) [
  | inl less ↦ less
  | inr more ↦ absurd (apart (omega (arith, le, more)))
]

popped_low : LogLaws → (l : LogState) (tag : ℕ) → IsSoundLog l → (o : Option ℕ) → popped_of l.popped tag ≡ o → popped_at l.popped tag ≤ known_of l
popped_low laws l tag sound None e = let k : popped_at l.popped tag ≡ 0 = ap (λ o. unwrap_or o 0) e in omega (arith, k)
popped_low laws l tag sound (Some p) e =
    let k : popped_at l.popped tag ≡ p = ap (λ o. unwrap_or o 0) e in
    let le = (laws.popped l tag p sound.log e).0 in
    omega (arith, k, le)

comes_further : (l : LogState) (tag v : ℕ) → popped_at l.popped tag ≤ v → is_popped_to l tag v ≡ false → (o : Option ℕ) → popped_of l.popped tag ≡ o → is_further o v ≡ true
comes_further l tag v le apart None e = refl
comes_further l tag v le apart (Some p) e =
    let k : popped_at l.popped tag ≡ p = ap (λ o. unwrap_or o 0) e in
    let other : (p == v) ≡ false = sym (ap (λ o. option_map_or (λ w. w == v) o false) e) ∙ apart in
    lt-ltb p v (at_most p v (omega (arith, k, le)) (eqb-false p v other))

-- where it changes a log, the tag is popped, and what that covers is let go
pub popped_after : (l : LogState) (epoch tag through : ℕ) → changes l (Pop epoch tag through) ≡ true → after_ask l (Pop epoch tag through) ≡ swept (with_popped l tag (popped_to l tag through))
popped_after l epoch tag through new =
    let a : LogAsk = Pop epoch tag through in
    let v : ℕ = popped_to l tag through in
    let parts = and_parts (is_none (pop_refusal l epoch tag)) (not (is_popped_to l tag v)) new in
    ap (λ b. cond b (swept (next_of l a)) (next_of l a)) new
    ∙ ap swept (ap (λ o. next_unless o l (granted_next l a)) (none_is (pop_refusal l epoch tag) parts.0) ∙ ap (λ b. cond b l (with_popped l tag v)) (not-true (is_popped_to l tag v) parts.1))

pop_read : LogLaws → (l : LogState) (epoch tag through : ℕ) → IsSoundLog l → changes l (Pop epoch tag through) ≡ true → IsPopped l tag (popped_to l tag through)
pop_read laws l epoch tag through sound new =
    let v : ℕ = popped_to l tag through in
    let parts = and_parts (is_none (pop_refusal l epoch tag)) (not (is_popped_to l tag v)) new in
    let a = guard_none (not (epoch == l.epoch)) WrongEpoch _ (none_is (pop_refusal l epoch tag) parts.0) in
    let b = guard_none (is_none l.seed) Unseeded _ a.1 in
    let d = guard_none (not (holds l tag)) NotMine None b.1 in
    let low = popped_low laws l tag sound (popped_of l.popped tag) refl in
    let known : v ≤ known_of l = omega (arith, low) in
    let further = comes_further l tag v (omega arith) (not-true (is_popped_to l tag v) parts.1) (popped_of l.popped tag) refl in
    let bound = sound.known in
    record {
      may = rw (open_is (is_some l.seed) b.0, open_is (holds l tag) d.0, le-leb v (known_of l) known, further) refl;
      low = omega (arith, known, bound);
    }

module _ (laws : LogLaws) (is_read : SpellingIsRead) (state_is_read : SpelledIsRead) where
  seed_leads : (l : LogState) (s : SeedContent) → IsSoundLog l → IsSoundSeed s → changes l (Seed s) ≡ true → replayed replay_log (Some l) (spelled_ask l (Seed s)) ≡ Some (next_of l (Seed s))
  seed_leads l s sound within new =
      let parts = and_parts (is_none (seed_refusal l s)) (is_none l.seed) new in
      let granted = none_is (seed_refusal l s) parts.0 in
      let none = none_is l.seed parts.1 in
      let says = seed_granted l s granted in
      let head : replay_log l (spelled_head l s) ≡ Some (with_front l s []) = rw (head_is_read l s says.0 within, head_granted l s says.0 none, none) refl in
      let is = within.seed in
      let after : next_of l (Seed s) ≡ with_front l s s.records = rw (granted, none) refl in
      ap (λ o. replayed replay_log o (map spelled_seeded s.records)) head ∙ (records_lead is_read l s (sound.log.unlocked none) (sound.log.unseeded none) (sound.log.unpopped none) [] s.records says.1 is.within is.rising within.records ∙ ap (λ x. Some x) (sym after))

  push_leads : (l : LogState) (p : PushContent) → IsSoundPush p → changes l (Push p) ≡ true → replayed replay_log (Some l) (spelled_ask l (Push p)) ≡ Some (next_of l (Push p))
  push_leads l p within new =
      let parts = and_parts (is_none (push_refusal l p)) (not (is_push_held l p)) new in
      let own = push_granted l p (none_is (push_refusal l p) parts.0) in
      ap (λ o. o >>= taken l) (push_is_read is_read state_is_read l p own within) ∙ ap (λ b. cond b (Some (next_of l (Push p))) None) new

  lock_leads : (l : LogState) (epoch : ℕ) → changes l (Lock epoch) ≡ true → replayed replay_log (Some l) (spelled_ask l (Lock epoch)) ≡ Some (next_of l (Lock epoch))
  lock_leads l epoch new =
      let parts = and_parts (is_none (lock_refusal l epoch)) (not l.stopped) new in
      let own = lock_granted l epoch (none_is (lock_refusal l epoch) parts.0) in
      ap (λ o. o >>= taken l) (lock_is_read l ∙ ap (λ e. Some (Asked (Lock e))) (sym own)) ∙ ap (λ b. cond b (Some (next_of l (Lock epoch))) None) new

  pop_leads : (l : LogState) (epoch tag through : ℕ) → IsSoundLog l → tag < 32 → changes l (Pop epoch tag through) ≡ true
      → replayed replay_log (Some l) (spelled_ask l (Pop epoch tag through)) ≡ Some (after_ask l (Pop epoch tag through))
  pop_leads l epoch tag through sound mine new =
      let v : ℕ = popped_to l tag through in
      let is = pop_read laws l epoch tag through sound new in
      ap (λ o. o >>= taken l) (popped_is_read l tag v mine is.low) ∙ ap (λ b. cond b (Some (swept (with_popped l tag v))) None) is.may
      ∙ ap (λ x. Some x) (sym (popped_after l epoch tag through new))

  new_leads : (l : LogState) (a : LogAsk) → IsSoundLog l → IsSoundAsk a → changes l a ≡ true → replayed replay_log (Some l) (spelled_ask l a) ≡ Some (after_ask l a)
  new_leads l (Seed s) sound within new = seed_leads l s sound within new
  new_leads l (Push p) sound within new = push_leads l p within new
  new_leads l (Lock epoch) sound within new = lock_leads l epoch new
  new_leads l (Pop epoch tag through) sound within new = pop_leads l epoch tag through sound within.0 new
  new_leads l a sound within new = absurd (cc new)

  pub ask_leads : (a : LogAsk) → IsSoundAsk a → LeadsBack a
  ask_leads a within l sound = go (changes l a) refl
    where
      go : (b : Bool) → changes l a ≡ b → replayed replay_log (Some l) (cond b (spelled_ask l a) []) ≡ Some (after_ask l a)
      go true e = new_leads l a sound within e
      go false e = ap (λ x. Some x) (sym (stands l a e))

  pub is_file_ask : AskIsFileAsk
  is_file_ask a within = record {
    leads = ask_leads a within;
    sound = λ l h. sound_after laws l a within h;
    stays = λ l h. settled_after laws l a within h;
    later = λ l h. goes_later laws l a within h;
  }

-- one ask after another
pub run_is_read : AskIsFileAsk → RunIsRead
run_is_read is_ask l [] sound within = refl
run_is_read is_ask l (a ∷ asks) sound within =
    let is = is_ask a (All-head IsSoundAsk a asks within) in
    fold-append (next_replayed replay_log) (Some l) (written_log l a) (written_all (after_ask l a) asks)
    ∙ ap (λ o. replayed replay_log o (written_all (after_ask l a) asks)) (is.leads l sound)
    ∙ run_is_read is_ask (after_ask l a) asks (is.sound l sound) (All-tail IsSoundAsk a asks within)
